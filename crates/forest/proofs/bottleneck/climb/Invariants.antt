use Rattle.forest.specs.Forests.{place_of}
use Rattle.cuts.specs.Members.{set_of}
use Rattle.forest.proofs.Climbs.{Climbed}
use Rattle.forest.proofs.bottleneck.climb.Given as goal

abbrev pub invariant-loop-place : goal.invariant-loop-place
invariant-loop-place g l = Climbed (g.E.Graded.cables l.edges) (place_of l.forest) (set_of l.devices) l.place-index l.labels
