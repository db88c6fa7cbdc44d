use Rattle.std.proofs.Common.{◌≡◌, length, ap, ◌∙◌, arith}
use Rattle.std.proofs.lemmas.Slice.{take-put_mid, drop-put_mid}
use Rattle.plan.proofs.buffer.write_first.Goals as goal

pub returns : goal.returns
returns c =
    let old = c.args.buffer.now in
    let bytes = c.copy_from_slice.new.self in
    let after = c.copy_from_slice.ensures.after in
    let long : length bytes ≡ 128 = ap length after ∙ c.told-bytes in
    record {
      first = take-put_mid 0 128 old bytes 128 (omega (arith, long)) (omega arith) ∙ after;
      later = drop-put_mid 0 128 old bytes 128 (omega arith) (omega arith) long;
    }
