use Rattle.std.proofs.Common.{◌≡◌, true, map, sym, ◌∙◌, ap, subst, Option}
use Rattle.std.specs.Prelude.{IfSome, IsTrue}
use Rattle.std.specs.List.{AllByRecursion}
use Rattle.mesa_model.specs.mesa_columns.declared.columns.KeyColumn.{KeyColumn}
use Rattle.mesa_model.specs.mesa_columns.declared.columns.ValueColumn.{ValueColumn}
use Rattle.mesa_model.specs.mesa_columns.declared.views.View.{View}
use Rattle.mesa_schema.specs.Changes.{columns_of}
use Rattle.mesa_model.specs.mesa_columns.Columns.{Columns, places_in}
use Rattle.mesa_schema.specs.Views.{view_columns, view_key_places, view_value_places}
use Rattle.mesa_filter.specs.declared.terms.Term.{Term}
use Rattle.mesa_filter.specs.Among.{Holds, query_among}
use Rattle.mesa_filter.specs.Filter.{are_within}
use Rattle.mesa_filter.specs.Query.{BuiltQuery, IsQueryOf, are_places}
use Rattle.mesa_model.specs.Orders.{is_candidate}
use Rattle.mesa_order.specs.Order.{query_through}
use Rattle.mesa_order.proofs.MovedQueries.{allowed, if_ok, may_ask, of_view}
use Rattle.mesa_order.proofs.moving.through.Goals as goal

pub among-requires : goal.among-requires
among-requires c =
    let l = c.args.evolving.now in
    let s : Columns = columns_of l in
    let v : View = c.view-view.result.now in
    let q : BuiltQuery = c.args.query.now in
    let ok = allowed s l.views c.args.view v c.present-table.ensures.rules.views c.view-view.ensures in
    let candidate = subst (λ (o : Option View). IfSome o (λ w. IsTrue (is_candidate s q.asked.values w))) c.view-view.ensures c.requires.candidate in
    let named : are_within c.filter.result.now.kinds q.asked.terms ≡ true = subst (λ terms. are_within c.filter.result.now.kinds terms ≡ true) c.filter.ensures.terms c.terms-terms.ensures.within in
    let within : are_within q.kinds q.asked.terms ≡ true = subst (λ kinds. are_within kinds q.asked.terms ≡ true) c.filter.ensures.kinds named in
    let may = may_ask s v q ok candidate c.requires.of_table within in
    let columns = c.keys.ensures.same ∙ ap (λ (t : Columns). t.keys) c.present-table.ensures.columns in
    let keys : c.deref.result.now ≡ view_key_places s v = c.deref.ensures.value ∙ c.in_ok-keys.ensures.places ∙ (λ i. places_in (map (λ (x : KeyColumn). x.name) (columns i)) (c.as_slice.ensures i)) in
    record {
      keys = subst (λ ks. are_places q.kinds ks ≡ true) (sym keys) may.there;
      columns = subst (λ ks. AllByRecursion (Holds ks) q.asked.columns) (sym keys) may.columns;
      terms = subst (λ ks. AllByRecursion (λ (t : Term). Holds ks t.column) q.asked.terms) (sym keys) may.terms;
    }

pub returns-clause-query : goal.returns-clause-query
returns-clause-query c =
    let s : Columns = columns_of c.args.evolving.now in
    let v : View = c.view-view.result.now in
    let q : BuiltQuery = c.args.query.now in
    let columns = c.keys.ensures.same ∙ ap (λ (t : Columns). t.keys) c.present-table.ensures.columns in
    let values = c.values.ensures.same ∙ ap (λ (t : Columns). t.values) c.present-table.ensures.columns in
    let keys : c.deref.result.now ≡ view_key_places s v = c.deref.ensures.value ∙ c.in_ok-keys.ensures.places ∙ (λ i. places_in (map (λ (x : KeyColumn). x.name) (columns i)) (c.as_slice.ensures i)) in
    let held : c.deref-2.result.now ≡ view_value_places s v = c.deref-2.ensures.value ∙ c.in_ok-values.ensures.places ∙ (λ i. places_in (map (λ (x : ValueColumn). x.name) (values i)) (c.as_slice-2.ensures i)) in
    if_ok c.among.result _ _ (λ found e. subst (λ (o : Option View). IfSome o (λ w. found ≡ query_through s w q)) (sym c.view-view.ensures) (e ∙ (λ i. query_among (keys i) (held i) q))) c.among.ensures

pub returns-clause-of_view : goal.returns-clause-of_view
returns-clause-of_view c =
    let l = c.args.evolving.now in
    let s : Columns = columns_of l in
    let v : View = c.view-view.result.now in
    let q : BuiltQuery = c.args.query.now in
    let ok = allowed s l.views c.args.view v c.present-table.ensures.rules.views c.view-view.ensures in
    let candidate = subst (λ (o : Option View). IfSome o (λ w. IsTrue (is_candidate s q.asked.values w))) c.view-view.ensures c.requires.candidate in
    let columns = c.keys.ensures.same ∙ ap (λ (t : Columns). t.keys) c.present-table.ensures.columns in
    let values = c.values.ensures.same ∙ ap (λ (t : Columns). t.values) c.present-table.ensures.columns in
    let keys : c.deref.result.now ≡ view_key_places s v = c.deref.ensures.value ∙ c.in_ok-keys.ensures.places ∙ (λ i. places_in (map (λ (x : KeyColumn). x.name) (columns i)) (c.as_slice.ensures i)) in
    let held : c.deref-2.result.now ≡ view_value_places s v = c.deref-2.ensures.value ∙ c.in_ok-values.ensures.places ∙ (λ i. places_in (map (λ (x : ValueColumn). x.name) (values i)) (c.as_slice-2.ensures i)) in
    if_ok c.among.result _ _ (λ found e. subst (λ (o : Option View). IfSome o (λ w. IsQueryOf (view_columns s w) found)) (sym c.view-view.ensures)
    (subst (IsQueryOf (view_columns s v)) (sym (e ∙ (λ i. query_among (keys i) (held i) q))) (of_view s v q ok candidate c.requires.of_table))) c.among.ensures
