use Rattle.std.proofs.Common.{◌*◌, length, arith, ap, sym}
use Rattle.std.proofs.lemmas.List.{drop_all}
use Rattle.mesa_core.specs.Passes.{turns_of}
use Rattle.mesa_core.proofs.Rooms.{turns_more}
use Rattle.mesa_core.proofs.room.turns_for.Goals as goal

pub loop-commands-preserved : goal.loop-commands-preserved
loop-commands-preserved c =
    let sessions = c.args.sessions.now in
    let i = c.loop-commands.commands-index in
    let one = c.commands-item.result in
    let more = turns_more sessions i one c.loop-commands-test.true in
    let here = ap (λ xs. 3 * length xs) (sym c.commands-item.is) in
    omega (arith, c.loop-commands.invariant, more, here, c.len.ensures)

pub returns : goal.returns
returns c =
    let none = ap turns_of (drop_all c.loop-commands.commands-index c.args.sessions.now c.loop-commands-test.false) in
    omega (arith, c.loop-commands.invariant, none)
