use Rattle.std.proofs.Common.{◌+◌, drop, arith}
use Rattle.mesa_delta.specs.mesa_columns.Lent.{lent}
use Rattle.mesa_scan.proofs.Handing.{from_place, past_end}
use Rattle.mesa_scan.proofs.cursor.Cursor.head.Goals as goal

pub returns-then-self-len-clause-some : goal.returns-then-self-len-clause-some
returns-then-self-len-clause-some c =
    let self = c.args.self.now in
    (drop (self.given + 1) self.block, from_place self.block self.given (lent c.row.result) c.row.ensures)

pub returns-else-self-len-clause-none : goal.returns-else-self-len-clause-none
returns-else-self-len-clause-none c =
    let self = c.args.self.now in
    past_end self.block self.given (omega (arith, c.len.ensures, c.if-self-len.false))
