use Rattle.std.proofs.Common.{◌∙◌, ap, sym}
use Rattle.std.specs.Prelude.{not}
use Rattle.mesa_catalog_table.proofs.Counts.{none_over}
use Rattle.mesa_catalog_table.proofs.counting.keeps_bound.Goals as goal

pub returns : goal.returns
returns c = ap not c.passes_bound.ensures ∙ sym (none_over c.args.totals.now c.args.more.now)
