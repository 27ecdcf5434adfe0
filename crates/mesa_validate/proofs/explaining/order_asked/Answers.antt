use Rattle.std.proofs.Common.{◌≡◌, ◌∙◌, [], Ok, ap, map, sym}
use Rattle.std.specs.Prelude.{slice_get}
use Rattle.std.proofs.lemmas.Option.{get_or_from_slice_get}
use Rattle.mesa_catalog.specs.mesa_columns.declared.views.View.{View}
use Rattle.mesa_schema.specs.Changes.{Lineage, columns_of}
use Rattle.mesa_filter.specs.Filter.{filter_of}
use Rattle.mesa_model.specs.Orders.{choice, order_asked, order_named, values_told}
use Rattle.mesa_model.specs.Warehouse.{Table}
use Rattle.mesa_catalog.specs.mesa_store_spec.Catalog.{meta_at}
use Rattle.mesa_validate.specs.Found.{columns_at, relation_with, without_rows}
use Rattle.mesa_validate.proofs.Explained.{name_told, view_told}
use Rattle.mesa_validate.proofs.explaining.order_asked.Goals as goal
use Rattle.mesa_validate.proofs.explaining.order_asked.Goals.{in-None+in_ok-view-in-None, in-None-view+in_ok-name-in-None-view, in-Some-view, in-Some-view-2+in_ok-name-in-Some-view-2}

pub returns-clause-order : goal.returns-clause-order
returns-clause-order c =
    let p = c.args.relation in
    let t : Table = without_rows (meta_at c.args.catalog.now.catalogue p.table) in
    let terms = c.in_ok-filter.filter.terms in
    let view : c.match-relation.view ≡ view_told t.lineage terms p.view =
    elim c.match-relation.branch [
      | in-Some-view w ↦ w.view-is ∙ ap (view_told t.lineage terms) (sym w.in-Some-view.is)
      | in-None+in_ok-view-in-None w ↦ w.view-is ∙ w.in_ok-view-in-None.ensures.choice ∙ ap (λ (l : Lineage). choice (columns_of l) l.views (values_told (columns_of l)) terms) (w.deref.ensures ∙ w.evolving.ensures) ∙ ap (view_told t.lineage terms) (sym w.in-None.is)
    ] in
    let name : c.match-view.name ≡ order_named t c.match-relation.view =
    elim c.match-view.branch [
      | in-Some-view-2+in_ok-name-in-Some-view-2 w ↦ w.name-is ∙ w.in_ok-name-in-Some-view-2.ensures ∙ sym (get_or_from_slice_get (map (λ (v : View). v.name) t.lineage.views) w.in-Some-view-2.view w.view_name.result.now [] (ap (λ (l : Lineage). slice_get (map (λ (v : View). v.name) l.views) w.in-Some-view-2.view) (sym (w.deref-in-Some-view-2.ensures ∙ w.evolving-in-Some-view-2.ensures)) ∙ w.view_name.ensures)) ∙ ap (order_named t) (sym w.in-Some-view-2.is)
      | in-None-view+in_ok-name-in-None-view w ↦ w.name-is ∙ w.in_ok-name-in-None-view.ensures ∙ w.name.ensures ∙ ap (order_named t) (sym w.in-None-view.is)
    ] in
    let read : filter_of (columns_at c.args.catalog.now.catalogue p) c.in-Some.text ≡ Ok terms = (λ i. filter_of (sym c.in_ok-schema.ensures i) (sym c.as_slice.ensures i)) ∙ c.in_ok-filter.ensures.terms in
    ap (order_asked (relation_with t p)) c.in-Some.is ∙ name_told t p c.in-Some.text terms c.match-view.name c.requires.view read (name ∙ ap (order_named t) view)
