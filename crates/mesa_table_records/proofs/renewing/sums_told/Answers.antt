use Rattle.std.proofs.Common.{◌∙◌, ap}
use Rattle.std.specs.Prelude.{count_by}
use Rattle.mesa_catalog_table.specs.mesa_columns.declared.views.ViewError.TheVariants.{NoValue}
use Rattle.mesa_catalog_table.specs.mesa_columns.Columns.{Columns, value_names}
use Rattle.mesa_schema.specs.Changes.{columns_of}
use Rattle.mesa_schema.proofs.ChosenAgain.{choice_there}
use Rattle.mesa_catalog_table.specs.mesa_store_spec.Catalog.{recast_in}
use Rattle.mesa_table_records.specs.Renewed.{is_sum_named}
use Rattle.mesa_table_records.proofs.Renewed.{allowed_of, sums_chosen}
use Rattle.mesa_table_records.proofs.renewing.sums_told.Goals as goal

pub returns : goal.returns
returns c =
    let k = c.args.k.now in
    let s = columns_of c.args.evolving.now in
    let columns = c.values.ensures.same ∙ ap (λ (x : Columns). x.values) c.present.ensures.columns in
    c.sums_named.ensures ∙ (λ i. count_by (λ name. is_sum_named (columns i) name) (c.as_slice.ensures i))
    ∙ sums_chosen s.values k.values (choice_there (value_names s) NoValue k.values (allowed_of c.args.evolving.now (recast_in k) c.requires).rules.values)
