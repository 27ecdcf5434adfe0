use Rattle.std.proofs.Common.{◌∙◌, sym}
use Rattle.std.specs.Prelude.{replicate}
use Rattle.mesa_catalog_table.specs.mesa_columns.Columns.{Columns, aggs_of}
use Rattle.mesa_batch.specs.Totals.{sums_in}
use Rattle.mesa_catalog_table.proofs.Counts.{counts_begun}
use Rattle.mesa_catalog_table.proofs.Tests.{if_ok}
use Rattle.mesa_table_records.proofs.restored_columns.first_sums.Goals as goal

pub returns : goal.returns
returns c = if_ok c.repeated.result _ _ (λ sums is. is ∙ (λ i. replicate (c.epochs_of.ensures i) (c.sums_now.ensures i)) ∙ sym (counts_begun (λ (s : Columns). sums_in (aggs_of s)) c.args.evolving.now c.requires)) c.repeated.ensures
