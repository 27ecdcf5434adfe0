use Rattle.std.proofs.Common.{◌∙◌, sym, length}
use Rattle.std.specs.Prelude.{replicate}
use Rattle.mesa_store_spec.specs.mesa_columns.Columns.{Columns}
use Rattle.mesa_catalog_table.proofs.Counts.{counts_begun}
use Rattle.mesa_catalog_table.proofs.Tests.{if_ok}
use Rattle.mesa_catalog_table.proofs.counting.first_widths.Goals as goal

pub returns : goal.returns
returns c = if_ok c.repeated.result _ _ (λ widths is. is ∙ (λ i. replicate (c.epochs_of.ensures i) (c.width_now.ensures i)) ∙ sym (counts_begun (λ (s : Columns). length s.values) c.args.evolving.now c.requires)) c.repeated.ensures
