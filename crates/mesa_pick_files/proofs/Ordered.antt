-- What the files of a query tell by the order that is chosen for it.
use Rattle.std.proofs.Common.{◌≡◌, ◌∙◌, ℕ, List, true, refl, sym, subst, IsTrue, Option, Some}
use Rattle.std.specs.List.{list_all}
use Rattle.mesa_validate.specs.mesa_columns.declared.rows.Row.{Row}
use Rattle.mesa_validate.specs.mesa_columns.declared.views.View.{View}
use Rattle.mesa_schema.specs.Changes.{Lineage, columns_of}
use Rattle.mesa_validate.specs.mesa_columns.Columns.{Columns}
use Rattle.mesa_schema.specs.Lineages.{is_view_of}
use Rattle.mesa_validate.specs.mesa_columns.Rows.{AreRowsOf}
use Rattle.mesa_schema.specs.Views.{view_key_places}
use Rattle.mesa_validate.specs.mesa_filter.Filter.{are_within}
use Rattle.mesa_validate.specs.mesa_filter.Query.{IsQueryOf, group_kinds}
use Rattle.mesa_query.proofs.mesa_filter.PlacesAmong.{chosen_among}
use Rattle.mesa_validate.specs.mesa_model.Query.{answer_rows}
use Rattle.mesa_validate.specs.mesa_order.Order.{asked_through}
use Rattle.mesa_validate.proofs.mesa_order.FurtherOrders.{answers_through}
use Rattle.mesa_validate.proofs.mesa_order.MovedQueries.{allowed, may_ask, of_view}
use Rattle.mesa_validate.proofs.ReadBy.{IsChosen, read_through, reads}
use Rattle.mesa_validate.specs.Ordered.{as_read}
use Rattle.mesa_validate.specs.declared.found.Found.{Found}
use Rattle.mesa_validate.specs.mesa_store_spec.Catalog.{TableMeta}
use Rattle.mesa_validate.specs.mesa_store_spec.Contents.{Rows, content}
use Rattle.mesa_open_files.specs.Pins.{view_at}
use Rattle.mesa_pick_files.proofs.Reading.{IsThere, columns_read, view_seen}
use Rattle.mesa_pick_files.proofs.Telling.{content_read, rows_by}

-- What was found is a query of its relation, whose views are allowed.
pub record IsAllowed (l : Lineage) (f : Found) : Type 0 where
  pub query : IsQueryOf (columns_read l f.relation.view) f.query
  pub within : IsTrue (are_within f.query.kinds f.query.asked.terms)
  pub views : IsTrue (list_all (is_view_of (columns_of l)) l.views)
  pub there : IsThere l f.relation.view

module _ (l : Lineage) (f : Found) (is : IsAllowed l f) where
  abbrev s : Columns
  s = columns_of l

  module _ (number : ℕ) (v : View) (chosen : IsChosen l f number v) where
    ok : is_view_of s v ≡ true
    ok = allowed s l.views number v is.views chosen.there

    -- a query of the table, since no view was found
    of_table : IsQueryOf s f.query
    of_table = subst (λ (view : Option ℕ). IsQueryOf (columns_read l view) f.query) chosen.none is.query

    same_kinds : group_kinds (read_through l f number v).query ≡ group_kinds f.query
    same_kinds =
        let may = may_ask s v f.query ok chosen.candidate of_table is.within in
        chosen_among (view_key_places s v) f.query.asked.columns f.query.kinds may.there may.columns

    chosen_query : IsQueryOf (columns_read l (Some number)) (read_through l f number v).query
    chosen_query = subst (λ (o : Option View). IsQueryOf (view_seen s o) (read_through l f number v).query) (sym chosen.there) (of_view s v f.query ok chosen.candidate of_table)

  -- it is one of the relation by which it is read
  pub read_query : IsQueryOf (columns_read l (as_read l f).relation.view) (as_read l f).query
  read_query = reads (λ x. IsQueryOf (columns_read l x.relation.view) x.query) l f is.query (λ number v chosen. chosen_query number v chosen)

  -- its group columns have the same types
  pub read_kinds : group_kinds (as_read l f).query ≡ group_kinds f.query
  read_kinds = reads (λ x. group_kinds x.query ≡ group_kinds f.query) l f refl (λ number v chosen. same_kinds number v chosen)

-- a view that is read is there where the one that was found is
pub read_view : (l : Lineage) (f : Found) → IsThere l f.relation.view → IsThere l (as_read l f).relation.view
read_view l f there = reads (λ x. IsThere l x.relation.view) l f there (λ number v chosen. (v, chosen.there))

-- The rows of its answer are the same.
module _ (rows : Rows) (t : TableMeta) (f : Found) (version : ℕ) (is : IsAllowed t.lineage f) (formed : AreRowsOf (columns_of t.lineage) (content rows t version)) where
  abbrev its_rows : Found → List Row
  its_rows x = answer_rows (columns_read t.lineage x.relation.view) x.query.asked (content_read rows t x.relation.view version)

  chosen_rows : (number : ℕ) (v : View) → IsChosen t.lineage f number v → its_rows (read_through t.lineage f number v) ≡ its_rows f
  chosen_rows number v chosen =
      let all = columns_of t.lineage in
      let its = of_table t.lineage f is number v chosen in
      (λ i. answer_rows (view_seen all (chosen.there i)) (asked_through all v f.query.asked) (rows_by all (chosen.there i) (content rows t version)))
      ∙ answers_through all v f.query.asked (content rows t version) (ok t.lineage f is number v chosen) chosen.candidate
      (record { columns = its.columns; terms = subst (λ kinds. IsTrue (are_within kinds f.query.asked.terms)) its.kinds is.within }) formed
      ∙ (λ i. answer_rows (view_seen all (view_at t.lineage (sym chosen.none i))) f.query.asked (rows_by all (view_at t.lineage (sym chosen.none i)) (content rows t version)))

  pub read_rows : its_rows (as_read t.lineage f) ≡ its_rows f
  read_rows = reads (λ x. its_rows x ≡ its_rows f) t.lineage f refl chosen_rows
