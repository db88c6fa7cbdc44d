use Rattle.std.proofs.Common.{cond, length, sym, ap, ◌∙◌}
use Rattle.plan.specs.Tables.{closed_cables}
use Rattle.plan.proofs.Checking.{listed_one, buffer_tested}
use Rattle.plan.proofs.Grouping.{above_none, group_told}
use Rattle.plan.proofs.plan.Closed.group.Goals as goal

pub returns-in_default : goal.returns-in_default
returns-in_default g c =
    let l = c.args.list.now in
    let ok = c.in_ok-devices.ensures in
    let x = listed_one l ok.0 in
    let w = c.write_bytes.ensures in
    let apart = c.in_default.ensures in
    record {
      answer = (
        buffer_tested l (length c.args.buffer.now) ok.0 ∙ sym c.in_ok-has_room.ensures,
        (
          (apart l x.0 ok.1 x.1).strength,
          λ d h. w.bytes d h ∙ ap (λ t. cond t 1 0) (c.none.ensures d),
        ),
      );
      buffer = (w.long, w.later);
    }

pub returns : goal.returns
returns g c =
    let l = c.args.list.now in
    let ok = c.in_ok-devices.ensures in
    let x = listed_one l ok.0 in
    let k = c.in-Some.strength in
    let strong = c.in-Some.ensures l x.0 ok.1 x.1 in
    let pos = above_none k strong.apart in
    let w = c.write_bytes-2.ensures in
    record {
      answer = (
        buffer_tested l (length c.args.buffer.now) ok.0 ∙ sym c.in_ok-has_room.ensures,
        group_told (closed_cables c.args.self.now) l c.args.buffer.now c.write_bytes-2.new.buffer k c.count_of.result c.group_of-group.result pos strong.strength
            (c.group_of-group.ensures l x.0 ok.1 x.1 pos strong.strength) w c.count_of.ensures,
      );
      buffer = (w.long, w.later);
    }
