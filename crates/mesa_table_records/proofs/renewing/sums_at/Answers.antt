use Rattle.std.proofs.Common.{◌∙◌, ap, sym}
use Rattle.std.proofs.lemmas.Option.{slice_get-get_or}
use Rattle.mesa_table_records.specs.Renewed.{is_sum_if_any}
use Rattle.mesa_table_records.proofs.renewing.sums_at.Goals as goal

pub returns : goal.returns
returns c = c.is_sum.ensures ∙ ap is_sum_if_any (sym (slice_get-get_or c.args.columns.now c.args.place c.index-columns-place.result c.requires))
