use Rattle.std.proofs.Common.{◌≡◌, ◌≤◌, length, is_ok, Ok, Err, vec_items, sym, ap, ◌∙◌, subst, rules}
use Rattle.std.proofs.ResultArms.{chosen}
use Rattle.script.specs.Numerals.{number}
use Rattle.script.specs.Arguments.{same, read_at}
use Rattle.script.specs.Cursors.{texts}
use Rattle.script.proofs.Arguments.{stops_through}
use Rattle.script.proofs.Devices.{ReadTo, one_read, stop_read}
use Rattle.script.proofs.cursor.Cursor.devices.Goals as goal

pub loop-self-preserved : goal.loop-self-preserved
loop-self-preserved c =
    let ws = texts c.args.self.now in
    let at = c.loop-self.self.place in
    let line : texts c.loop-self.self ≡ ws = c.loop-self.invariant.1 in
    let within : at ≤ length (texts c.loop-self.self) = search rules in
    let read : read_at (number 255) ws at ≡ Ok c.in_ok-device.device = subst (λ l. read_at (number 255) l at ≡ Ok c.in_ok-device.device) line c.in_ok-device.ensures.0 in
    let pushed = chosen _ _ _ _ c.push.ensures.items (ap is_ok c.in_ok-push.was) in (
      subst (λ n. ReadTo ws c.args.self.now.place n (vec_items c.push.new.self)) (sym c.in_ok-device.ensures.2)
          (one_read ws c.args.self.now.place at _ c.loop-self.invariant.0 c.loop-self.self.counted (subst (λ l. at ≤ length l) line within) _ _ read pushed),
      c.in_ok-device.ensures.1 ∙ line,
    )

pub returns-in_err-device : goal.returns-in_err-device
returns-in_err-device c =
    let ws = texts c.args.self.now in
    let at = c.loop-self.self.place in
    let line : texts c.loop-self.self ≡ ws = c.loop-self.invariant.1 in
    let within : at ≤ length (texts c.loop-self.self) = search rules in (
      stops_through same vec_items _ _ _ _ c.from_residual.ensures.1
          (λ m e. stop_read ws c.args.self.now.place at _ c.loop-self.invariant.0 c.loop-self.self.counted (subst (λ l. at ≤ length l) line within) m (subst (λ l. read_at (number 255) l at ≡ Err m) line e))
          c.in_err-device.ensures.0,
      c.in_err-device.ensures.1 ∙ line,
      search rules,
    )
