use Rattle.life.proofs.Lives.{life_law}
use Rattle.life.proofs.law.life_law.Goals as goal

pub returns : goal.returns
returns g c = life_law g.H.House.cables g.Y.Grade.Grade.over (λ _. g.Y.Yardstick.graded)
