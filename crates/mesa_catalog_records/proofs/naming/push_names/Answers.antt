use Rattle.std.proofs.Common.{◌≡◌, ◌++◌, ◌∷◌, [], ◌∙◌, ap, subst, Some}
use Rattle.std.specs.Prelude.{slice_get}
use Rattle.mesa_schema.specs.Changes.{Lineage}
use Rattle.mesa_table_records.specs.mesa_catalog_table.Lookups.{view_names}
use Rattle.mesa_catalog_records.proofs.Names.{named_more}
use Rattle.mesa_catalog_records.proofs.naming.push_names.Goals as goal

pub loop-view-preserved : goal.loop-view-preserved
loop-view-preserved c =
    let view = c.loop-view.view in
    let name = c.view_name.result.now in
    let got = subst (λ (l : Lineage). slice_get (view_names l) view ≡ Some name) c.deref-in-loop-view.ensures c.view_name.ensures in
    named_more c.args.names.now.items c.loop-view.names.items _ (view_names c.args.table.now.evolving.value) c.args.table.now.name name view got c.loop-view.invariant
    (c.in_ok-push-2.ensures.items ∙ ap (λ n. c.loop-view.names.items ++ n ∷ []) c.in_ok-copy-2.ensures)
