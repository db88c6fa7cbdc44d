-- Words of the method, not of the subject: what a phase works on. Assumes nothing.
--   label_in p d    the label of the device d
--   links_in p      the links
--   count_in p      how many labels there are
use Rattle.std.specs.Prelude.{ℕ, List, length}
use Rattle.cuts.specs.Links.{label}
use Rattle.cuts.specs.declared.adjacency.link.Link.{Link}
use Rattle.cuts.specs.declared.adjacency.phase.Phase.{Phase}

abbrev pub label_in : Phase → ℕ → ℕ
label_in p d = label p.groups.now.labels d

abbrev pub links_in : Phase → List Link
links_in p = p.links.now.list.items

abbrev pub count_in : Phase → ℕ
count_in p = length p.groups.now.reps.items
