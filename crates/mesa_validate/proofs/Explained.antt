-- What is told of how a query would be answered.
use Rattle.std.proofs.Common.{◌≡◌, ℕ, ◌<◌, List, [], length, map, get_or, refl, sym, ◌∙◌, ap, Option, Some, None, Err, Ok}
use Rattle.std.specs.Prelude.{IfSome, option_and_then, option_map, slice_get}
use Rattle.std.proofs.Math.ListN.{get_or-map}
use Rattle.std.proofs.lemmas.Option.{slice_get-get_or}
use Rattle.mesa_list.specs.Checks.{◌>>=◌, refused_as}
use Rattle.mesa_catalog.specs.mesa_columns.declared.views.View.{View}
use Rattle.mesa_schema.specs.Changes.{Lineage, columns_of}
use Rattle.mesa_filter.specs.declared.terms.Term.{Term}
use Rattle.mesa_filter.specs.Asked.{filter_refusal}
use Rattle.mesa_filter.specs.Filter.{filter_of}
use Rattle.mesa_span.specs.Plan.{plan}
use Rattle.mesa_catalog.specs.mesa_batch.Glance.{Known}
use Rattle.mesa_model.specs.declared.commands.ExplainWords.{ExplainWords}
use Rattle.mesa_model.specs.declared.replies.Refusal.{Refusal}
use Rattle.mesa_model.specs.declared.replies.Reply.TheVariants as reply
use Rattle.mesa_model.specs.Orders.{choice, order_asked, order_named, order_of, values_told}
use Rattle.mesa_model.specs.Refusals.{no_such_table, query_refusal}
use Rattle.mesa_model.specs.Relations.{relation_columns, relation_of}
use Rattle.mesa_model.specs.Versions.{version_asked}
use Rattle.mesa_model.specs.Warehouse.{Table, Warehouse, table_at}
use Rattle.mesa_catalog.specs.mesa_history_spec.Machine.{Machine, explained, ranges_at}
use Rattle.mesa_catalog.specs.mesa_store_spec.Catalog.{Catalog, no_meta, ranges_of, meta_at}
use Rattle.mesa_catalog.specs.mesa_catalog_table.declared.relation.Relation.{Relation as Place}
use Rattle.mesa_catalog.specs.mesa_catalog_records.Names.{relation_of as place_named}
use Rattle.mesa_binding.specs.declared.failure.Failure.{Failure}
use Rattle.mesa_binding.specs.declared.failure.Failure.TheVariants as failure
use Rattle.mesa_binding.specs.Told.{IsDue}
use Rattle.mesa_validate.specs.Found.{relation_seen, relation_with, without_rows}
use Rattle.mesa_validate.specs.Seen.{HasCatalog}
use Rattle.mesa_validate.proofs.Answering.{relation_there}
use Rattle.mesa_validate.proofs.Seen.{known_there}

-- ---- in which order

-- by which view a query of a table with these terms is answered that asks for all values but the replace columns'; a query of a view by that one
abbrev pub view_told : Lineage → List Term → Option ℕ → Option ℕ
view_told l terms None = choice (columns_of l) l.views (values_told (columns_of l)) terms
view_told l terms (Some view) = Some view

view_named : (t : Table) (terms : List Term) (view : Option ℕ) → IfSome view (λ n. n < length t.lineage.views) → order_of t (option_and_then (slice_get t.lineage.views) view) terms ≡ order_named t (view_told t.lineage terms view)
view_named t terms None within = refl
view_named t terms (Some n) within =
    let d : View = record { name = []; keys = []; values = [] } in
    ap (λ (o : Option View). order_of t o terms) (slice_get-get_or t.lineage.views n d within) ∙ sym (get_or-map (λ (v : View). v.name) t.lineage.views n d)

-- the name of that view is told, or the table's
pub name_told : (t : Table) (p : Place) (words : List ℕ) (terms : List Term) (name : List ℕ) → IfSome p.view (λ n. n < length t.lineage.views) → filter_of (relation_columns (relation_with t p)) words ≡ Ok terms → name ≡ order_named t (view_told t.lineage terms p.view)
    → order_asked (relation_with t p) (Some words) ≡ Ok (Some name)
name_told t p words terms name within read named =
    ap (λ r. refused_as query_refusal (refused_as filter_refusal r) >>= (λ (found : List Term). Ok (Some (order_of t (option_and_then (slice_get t.lineage.views) p.view) found)))) read
    ∙ ap (λ n. Ok (Some n)) (view_named t terms p.view within ∙ sym named)

-- ---- what is told

module _ (c : Catalog) (words : ExplainWords) (w : Warehouse) (m : Machine) (has : HasCatalog c w) where
  pub nothing_explained : place_named c words.relation ≡ None → explained w m words ≡ Err no_such_table
  nothing_explained none =
      let nowhere : relation_of w.store words.relation ≡ None = relation_there c w.store words.relation has.tables ∙ ap (option_map (relation_seen w.store)) none in
      rw (has.opened, nowhere) refl

  module _ (p : Place) (found : place_named c words.relation ≡ Some p) where
    relation_is : relation_of w.store words.relation ≡ Some (relation_seen w.store p)
    relation_is = relation_there c w.store words.relation has.tables ∙ ap (option_map (relation_seen w.store)) found

    -- the order hangs on the table's name, its columns and its views
    order_is : order_asked (relation_seen w.store p) words.filter ≡ order_asked (relation_with (without_rows (meta_at c p.table)) p) words.filter
    order_is = ap (λ (k : Known). order_asked (relation_with (record (without_rows (meta_at c p.table)) { name = k.name; lineage = k.lineage }) p) words.filter) (known_there c w p.table has)

    -- the filter is refused
    pub unordered : (f : Failure) → IsDue (order_asked (relation_with (without_rows (meta_at c p.table)) p) words.filter) f → IsDue (explained w m words) f
    unordered (failure.Refused refusal) due = (let none : order_asked (relation_seen w.store p) words.filter ≡ Err refusal = order_is ∙ due in rw (has.opened, relation_is, none) refl)
    unordered failure.Memory due = tt

    module _ (by : Option (List ℕ)) (order : order_asked (relation_with (without_rows (meta_at c p.table)) p) words.filter ≡ Ok by) where
      ordered : order_asked (relation_seen w.store p) words.filter ≡ Ok by
      ordered = order_is ∙ order

      pub unexplained : (refusal : Refusal) → version_asked w (table_at w.store p.table).oldest words.version ≡ Err refusal → explained w m words ≡ Err refusal
      unexplained refusal none = rw (has.opened, relation_is, ordered, none) refl

      pub plan_explained : (version : ℕ) → version_asked w (table_at w.store p.table).oldest words.version ≡ Ok version → m.ranges ≡ map ranges_of c.tables → explained w m words ≡ Ok (reply.Spans (plan (ranges_of (meta_at c p.table)) version) by)
      plan_explained version is ranges =
          let own : ranges_at m p.table ≡ ranges_of (meta_at c p.table) = ap (λ rs. get_or rs p.table (ranges_of no_meta)) ranges ∙ get_or-map ranges_of c.tables p.table no_meta in
          rw (has.opened, relation_is, ordered, is) (ap (λ r. Ok (reply.Spans (plan r version) by)) own)
