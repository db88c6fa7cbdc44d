use Rattle.forest.proofs.Crossings.{ends_low}
use Rattle.forest.proofs.crossing.found_at.Goals as goal

pub invariant_of-result : goal.invariant_of-result
invariant_of-result g c =
    let s = c.args.edges.now in
    record { devices = ends_low (g.E.Graded.cables s) c.args.place c.in_ok-a.a c.in_ok-a.b (g.E.Graded.lawful s) c.in_ok-a.ensures }
