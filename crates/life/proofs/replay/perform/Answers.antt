-- A call is performed in the state that the plan is in. Assumes nothing.
use Rattle.life.proofs.replay.perform.Goals as goal

pub returns-in-Open : goal.returns-in-Open
returns-in-Open g c = rw c.in-Open.is c.on_open.ensures

pub returns-in-Closed : goal.returns-in-Closed
returns-in-Closed g c = rw c.in-Closed.is c.on_closed.ensures
