use Rattle.std.proofs.Common.{◌∙◌, sym, ap, drop, arith}
use Rattle.mesa_scan.proofs.Handing.{one_behind, past_end}
use Rattle.mesa_scan.proofs.cursor.Cursor.step.Goals as goal

pub returns-then-self-len-clause-rows : goal.returns-then-self-len-clause-rows
returns-then-self-len-clause-rows c = one_behind c.args.self.now.block c.args.self.now.given

pub returns-else-self-len-clause-rows : goal.returns-else-self-len-clause-rows
returns-else-self-len-clause-rows c =
    let self = c.args.self.now in
    let none = past_end self.block self.given (omega (arith, c.len.ensures, c.if-self-len.false)) in
    none ∙ sym (ap (drop 1) none)
