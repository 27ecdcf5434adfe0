use Rattle.std.proofs.Common.{◌≡◌, rules, ap, sym, ◌∙◌, Some, None}
use Rattle.mesa_delta_format.specs.mesa_columns.Lent.{lent}
use Rattle.mesa_delta_format.specs.mesa_block.Fill.{Built}
use Rattle.mesa_delta.specs.Begun.{begun}
use Rattle.mesa_delta.proofs.Placing.{begun_first}
use Rattle.mesa_delta.proofs.blocks.BlockWriter.offer.Goals as goal

pub returns-then-is_none-clause-short : goal.returns-then-is_none-clause-short
returns-then-is_none-clause-short g c =
    let none : c.args.self.now.short ≡ None = search rules in
    ap Some c.short.ensures ∙ begun_first c.args.self.now.builder.rows (lent c.args.row) (sym c.requires.short ∙ none)
    ∙ sym (ap (λ (b : Built). begun b.rows) (rw c.if-fits.true at c.in_ok-fits.ensures.ok))
