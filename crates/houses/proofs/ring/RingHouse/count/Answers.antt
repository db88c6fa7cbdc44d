use Rattle.std.proofs.Common.{sym, ◌∙◌}
use Rattle.std.proofs.lemmas.List.FromFn.{length-map-range_with_len}
use Rattle.houses.specs.Rings.{link}
use Rattle.houses.proofs.ring.RingHouse.count.Goals as goal

pub returns : goal.returns
returns c =
    let r = c.args.self.now in
    c.from.ensures ∙ sym (length-map-range_with_len (link r.first r.count r.run) 0 r.count)
