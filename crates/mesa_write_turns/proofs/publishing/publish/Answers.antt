use Rattle.std.proofs.Common.{◌≡◌, length, false, ap, arith}
use Rattle.mesa_file_records.specs.mesa_history_spec.Rows.{no_rows}
use Rattle.mesa_engine.specs.Engine.{Standing}
use Rattle.mesa_write_turns.proofs.Keeping.{same_keep}
use Rattle.mesa_write_turns.proofs.Loads.{all_tell}
use Rattle.mesa_write_turns.proofs.publishing.publish.Goals as goal

pub ready-requires-clause-shaped : goal.ready-requires-clause-shaped
ready-requires-clause-shaped g c κs within = (c.engine.invariant.vault no_rows false (λ is. absurd cc)).shaped

pub ready-requires-clause-given : goal.ready-requires-clause-given
ready-requires-clause-given g c κs within = (c.engine.invariant.vault no_rows false (λ is. absurd cc)).filed.named_given

pub ready-requires-clause-room : goal.ready-requires-clause-room
ready-requires-clause-room g c κs within =
    let v = c.engine.invariant.vault no_rows false (λ is. absurd cc) in
    let most = v.counts.adopted in
    let room = c.requires.room in
    let same : length c.engine.inside.log.history.items ≡ length c.args.engine.now.shown.history = ap (λ (s : Standing). length s.shown.history) c.engine.view_is in
    let few = c.engine.invariant.few in
    omega (arith, most, room, same, few)

pub write-requires-clause-told : goal.write-requires-clause-told
write-requires-clause-told g c κs within w sound = all_tell g.M.Made.bytes (c.requires.told w sound) c.in-Ok.change.made.items

pub returns-in-Err-Refused-clause-keeps : goal.returns-in-Err-Refused-clause-keeps
returns-in-Err-Refused-clause-keeps g c = same_keep c.args.engine.now.told c.fail.new.self.told c.fail.ensures.told

pub returns-in-Err-Memory-clause-keeps : goal.returns-in-Err-Memory-clause-keeps
returns-in-Err-Memory-clause-keeps g c = same_keep c.args.engine.now.told c.fail-in-Err-Memory.new.self.told c.fail-in-Err-Memory.ensures.told
