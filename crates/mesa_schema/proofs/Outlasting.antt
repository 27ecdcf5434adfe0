-- Views outlast recasts of their table.
use Rattle.std.proofs.Common.{◌≡◌, ℕ, List, [], ◌∷◌, map, true, false, cond, refl, sym, ◌∙◌, ap, subst, Option, Some, None, Result, Ok, Err, is_ok, find}
use Rattle.std.specs.List.{AllByRecursion}
use Rattle.std.proofs.lemmas.List.{append-nil, length-map}
use Rattle.std.proofs.lemmas.Simd.{map-map}
use Rattle.mesa_fold.specs.mesa_list.Checks.{◌>>◌}
use Rattle.mesa_fold.specs.mesa_value.declared.Agg.{Agg}
use Rattle.mesa_fold.specs.mesa_value.declared.Agg.TheVariants.{Sum, Min, Max, Replace}
use Rattle.mesa_fold.specs.mesa_value.Agg.{IsOrderless}
use Rattle.mesa_columns.specs.declared.columns.ValueColumn.{ValueColumn}
use Rattle.mesa_columns.specs.declared.rows.Row.{Row}
use Rattle.mesa_columns.specs.declared.views.View.{View}
use Rattle.mesa_columns.specs.declared.views.ViewError.{ViewError}
use Rattle.mesa_columns.specs.declared.views.ViewError.TheVariants.{NoKey, NoValue, ReplaceInView}
use Rattle.mesa_columns.specs.Columns.{Columns, aggs_of, chosen, is_replace, key_names, value_names}
use Rattle.mesa_schema.specs.Views.{choice_checked, values_named, view_columns, view_key_places, view_rows, view_value_places}
use Rattle.mesa_schema.specs.Lineages.{is_view_of}
use Rattle.mesa_fold.specs.Folded.{folded, regrouped, rows_of}
use Rattle.mesa_columns.specs.Rows.{AreRowsOf, IsRowOf}
use Rattle.mesa_fold.proofs.Folds.{folded-folded}
use Rattle.mesa_fold.proofs.GroupedFolds.{groups_folded}
use Rattle.mesa_fold.proofs.GroupKeys.{chosen_mapped}
use Rattle.mesa_columns.proofs.Lists.{same_maps}
use Rattle.mesa_schema.proofs.Passing.{passed_first}
use Rattle.mesa_schema.specs.Recasts.{IsRecastOf, Recast, keeps_view, recast_columns, recast_keys, recast_rows, recast_values}
use Rattle.mesa_schema.specs.Laws.{Outlasts}
use Rattle.mesa_schema.proofs.ChosenAgain.{both, choice_there, there}
use Rattle.mesa_schema.proofs.Regrouping.{aggs_recast, key_names_recast, keys_again, row_again, rows_form, value_names_recast, values_again}

-- ---- views have no replace column

abbrev refuse_replace : Option ValueColumn → Result (Unit {0}) ViewError
refuse_replace None = Ok tt
refuse_replace (Some column) = Err (ReplaceInView column.name)

none_refused : (o : Option ValueColumn) → is_ok (refuse_replace o) ≡ true → o ≡ None
none_refused None h = refl
none_refused (Some c) h = cc

ordered : (c : ValueColumn) (g : Agg) → c.agg ≡ g → IsOrderless g → is_replace c ≡ false
ordered c Sum e o = cc
ordered c Min e o = cc
ordered c Max e o = cc
ordered c Replace e o = absurd o

pub orderless : (columns : List ValueColumn) → find is_replace columns ≡ None → AllByRecursion IsOrderless (map (λ (c : ValueColumn). c.agg) columns)
orderless [] none = tt
orderless (c ∷ columns) none =
    elim c.agg as (λ g. c.agg ≡ g → IsOrderless g × AllByRecursion IsOrderless (map (λ (c : ValueColumn). c.agg) columns)) [
      | Sum ↦ λ e. (tt, orderless columns (sym (ap (λ b. cond b (Some c) (find is_replace columns)) (ordered c Sum e tt)) ∙ none))
      | Min ↦ λ e. (tt, orderless columns (sym (ap (λ b. cond b (Some c) (find is_replace columns)) (ordered c Min e tt)) ∙ none))
      | Max ↦ λ e. (tt, orderless columns (sym (ap (λ b. cond b (Some c) (find is_replace columns)) (ordered c Max e tt)) ∙ none))
      | Replace ↦ λ e. cc
    ] refl

-- what an allowed view says
pub record Asks (s : Columns) (v : View) : Type 0 where
  pub keys : is_ok (choice_checked (key_names s) NoKey v.keys) ≡ true
  pub values : is_ok (choice_checked (value_names s) NoValue v.values) ≡ true
  pub free : find is_replace (values_named s v.values) ≡ None

pub asks : (s : Columns) (v : View) → is_view_of s v ≡ true → Asks s v
asks s v h =
    let first = passed_first (choice_checked (key_names s) NoKey v.keys) _ h in
    let second = passed_first (choice_checked (value_names s) NoValue v.values) _ first.1 in
    record { keys = first.0; values = second.0; free = none_refused (find is_replace (values_named s v.values)) second.1 }

choice_same : (names others : List (List ℕ)) (none : ViewError) (asked : List (List ℕ)) → there names asked ≡ true → there others asked ≡ true → choice_checked others none asked ≡ choice_checked names none asked
choice_same names others none asked e f = rw (e, f) refl

-- ---- the law

module _ (s : Columns) (r : Recast) (v : View) (is : IsRecastOf s r) (ok : is_view_of s v ≡ true) (keeps : keeps_view r v ≡ true) where
  abbrev now : Columns
  now = recast_columns s r

  keys : there (key_names s) r.keys ≡ true
  keys = choice_there (key_names s) NoKey r.keys is.keys

  values : there (value_names s) r.values ≡ true
  values = choice_there (value_names s) NoValue r.values is.values

  own : (there r.keys v.keys ≡ true) × (there r.values v.values ≡ true)
  own = both (there r.keys v.keys) (there r.values v.values) keeps

  named : values_named now v.values ≡ values_named s v.values
  named = values_again s r v keys values own.0 own.1 s.values refl

  pub still_allowed : is_view_of now v ≡ true
  still_allowed =
      let was = asks s v ok in
      let first : choice_checked (key_names now) NoKey v.keys ≡ choice_checked (key_names s) NoKey v.keys =
      choice_same (key_names s) (key_names now) NoKey v.keys (choice_there (key_names s) NoKey v.keys was.keys) (ap (λ names. there names v.keys) (key_names_recast s r v keys values own.0 own.1) ∙ own.0) in
      let second : choice_checked (value_names now) NoValue v.values ≡ choice_checked (value_names s) NoValue v.values =
      choice_same (value_names s) (value_names now) NoValue v.values (choice_there (value_names s) NoValue v.values was.values) (ap (λ names. there names v.values) (value_names_recast s r v keys values own.0 own.1) ∙ own.1) in
      (λ i. is_ok (first i >> (second i >> refuse_replace (find is_replace (named i))))) ∙ ok

  pub same_columns : view_columns now v ≡ view_columns s v
  same_columns = λ i. record { keys = keys_again s r v keys values own.0 own.1 s.keys refl i; values = named i }

  pub same_rows : (rows : List Row) → AreRowsOf s rows → view_rows now v (recast_rows s r rows) ≡ view_rows s v rows
  same_rows rows all =
      let was = asks s v ok in
      let place : Row → Row = regrouped s (recast_keys s r) (recast_values s r) in
      let again : Row → Row = regrouped now (view_key_places now v) (view_value_places now v) in
      let parts : List (List Row) = map place rows ∷ [] in
      let aggs : chosen (view_value_places now v) (aggs_of now) ≡ chosen (view_value_places s v) (aggs_of s) =
      ap (chosen (view_value_places now v)) (sym (aggs_recast s r)) ∙ values_again s r v keys values own.0 own.1 (aggs_of s) (sym (length-map s.values (λ (c : ValueColumn). c.agg))) in
      let free : AllByRecursion IsOrderless (chosen (view_value_places now v) (aggs_of now)) =
      subst (AllByRecursion IsOrderless) (sym (chosen_mapped (λ (c : ValueColumn). c.agg) (view_value_places s v) s.values) ∙ sym aggs) (orderless (values_named s v.values) was.free) in
      let forms : AreRowsOf now (rows_of parts) = subst (AreRowsOf now) (sym (append-nil (map place rows))) (rows_form s r rows all) in
      ap (λ gs. view_rows now v (folded gs parts)) (aggs_recast s r)
      ∙ groups_folded now (view_key_places now v) (view_value_places now v) parts free forms
      ∙ folded-folded (chosen (view_value_places now v) (aggs_of now)) (map again (map place rows) ∷ []) []
      ∙ (λ i. folded (aggs i) ((map-map again place rows ∙ same_maps (IsRowOf s) (λ row. again (place row)) (regrouped s (view_key_places s v) (view_value_places s v)) rows (row_again s r v keys values own.0 own.1) all) i ∷ []))

-- A view outlasts a recast that keeps its columns.
pub outlasts : (s : Columns) (r : Recast) (v : View) → IsRecastOf s r → is_view_of s v ≡ true → keeps_view r v ≡ true → Outlasts s r v
outlasts s r v is ok keeps = record { allowed = still_allowed s r v is ok keeps; columns = same_columns s r v is ok keeps; rows = same_rows s r v is ok keeps }
