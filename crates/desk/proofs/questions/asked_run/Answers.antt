use Rattle.desk.proofs.questions.asked_run.Goals as goal

pub returns-in-Plain : goal.returns-in-Plain
returns-in-Plain g c = rw c.in-Plain.is c.asked_plain_run.ensures

pub returns-in-Length : goal.returns-in-Length
returns-in-Length g c = rw c.in-Length.is c.asked_length.ensures
