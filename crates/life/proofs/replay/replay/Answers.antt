-- Turn by turn the calls with their answers are a life of the begun plan, and the law tells it. Assumes nothing.
use Rattle.std.proofs.Common.{◌≡◌, length, vec_items, ◌∙◌, arith}
use Rattle.plan.specs.declared.state.Plan.TheVariants as plan
use Rattle.life.specs.Lives.{Life}
use Rattle.life.specs.Scripts.{row}
use Rattle.life.proofs.Lives.{life_law}
use Rattle.life.proofs.Scripts.{come_more, come_all}
use Rattle.life.proofs.replay.replay.Goals as goal

pub loop-call-preserved : goal.loop-call-preserved
loop-call-preserved g c =
    let l = c.loop-call in
    come_more g.H.House.cables g.Y.Grade.Grade.over (λ _. g.Y.Yardstick.graded) (plan.Open c.begin.result) c.args.script.now l.call-index (vec_items l.answers) l.plan
    c.call-item.result c.in_ok-after.answer (vec_items c.push.new.self) c.in_ok-after.after
    c.loop-call-test.true c.call-item.is c.in_ok-after.ensures c.in_ok-push.ensures.items l.invariant

pub returns : goal.returns
returns g c =
    let cables = g.H.House.cables in let over = g.Y.Grade.Grade.over in
    let script = c.args.script.now in let l = c.loop-call in let p = c.begin.result in
    let life : Life cables over (λ _. g.Y.Yardstick.graded) (plan.Open p) (row script (vec_items l.answers))
    = come_all cables over (λ _. g.Y.Yardstick.graded) (plan.Open p) script l.call-index (vec_items l.answers) l.plan c.loop-call-test.false l.invariant in
    let ended : l.call-index ≡ length script = omega (arith, c.loop-call-test.false, l.auto.call-index-end) in
    record {
      all = l.invariant.count ∙ ended;
      told = life_law cables over (λ _. g.Y.Yardstick.graded) c.args.house p (row script (vec_items l.answers)) c.begin.ensures life;
      life = (p, (c.begin.ensures, life));
    }
