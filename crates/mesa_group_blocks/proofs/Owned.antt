-- Files of the relation itself, and of its table.
use Rattle.std.proofs.Common.{◌≡◌, ℕ, List, [], ◌∷◌, ◌++◌, refl, sym, ◌∙◌, ap, subst, true, false}
use Rattle.std.specs.List.{AllByRecursion}
use Rattle.std.specs.Prelude.{Bool, Option, None, Some}
use Rattle.mesa_open_files.specs.mesa_columns.declared.rows.Row.{Row}
use Rattle.mesa_open_files.specs.mesa_columns.declared.views.View.{View}
use Rattle.mesa_schema.specs.Changes.{Lineage, columns_of}
use Rattle.mesa_open_files.specs.mesa_columns.Columns.{Columns}
use Rattle.mesa_schema.specs.Views.{view_columns}
use Rattle.mesa_filter.specs.declared.terms.Term.{Term}
use Rattle.mesa_filter.specs.Filter.{filtered}
use Rattle.mesa_scan.specs.Cursors.{IsInput, IsSameInput}
use Rattle.mesa_merge.specs.Inputs.{AreAlike, knowns_of}
use Rattle.mesa_answer.specs.Answering.{KeepsSums}
use Rattle.mesa_open_files.specs.Inputs.{lineage_of}
use Rattle.mesa_open_files.specs.Pins.{HasViewOf, IsOfRelation, IsPinnedInput, view_at}
use Rattle.mesa_open_files.specs.declared.querying.PinnedInput.{PinnedInput}
use Rattle.mesa_group_blocks.specs.Moved.{inputs_in}
use Rattle.mesa_group_blocks.specs.Ungrouped.{rows_under, under_some, under_view}

-- the relation's own file has its columns,
pub own_columns : (s : Columns) (view : Option ℕ) (l : Lineage) (own : Bool) → own ≡ true → IsOfRelation s view l own → columns_of l ≡ s
own_columns s view l own is h = subst (λ b. IsOfRelation s view l b) is h

-- and its rows
pub own_rows : (s : Columns) (terms : List Term) (view : Option ℕ) (l : Lineage) (own : Bool) (rows : List Row) → own ≡ true → IsOfRelation s view l own → filtered (columns_of l) terms rows ≡ filtered s terms (rows_under view l rows own)
own_rows s terms view l own rows is h = λ k. filtered (own_columns s view l own is h k) terms (rows_under view l rows (sym is k))

-- a table has the view, with the relation's columns
pub record HasView (s : Columns) (l : Lineage) (o : Option View) : Type 0 where
  pub view : View
  pub there : o ≡ Some view
  pub columns : view_columns (columns_of l) view ≡ s

some_view : (s : Columns) (l : Lineage) (o : Option View) → HasViewOf s (columns_of l) o → HasView s l o
some_view s l None h = absurd h
some_view s l (Some v) h = record { view = v; there = refl; columns = h }

pub table_view : (s : Columns) (view : Option ℕ) (l : Lineage) (own : Bool) → own ≡ false → IsOfRelation s view l own → HasView s l (view_at l view)
table_view s view l own is h = some_view s l (view_at l view) (subst (λ b. IsOfRelation s view l b) is h)

-- a query of a table is over its own files alone
pub no_view : (s : Columns) (view : Option ℕ) (l : Lineage) (own : Bool) → own ≡ false → view ≡ None → IsOfRelation s view l own → ⊥
no_view s view l own is none h = subst (λ (o : Option ℕ). HasViewOf s (columns_of l) (view_at l o)) none (subst (λ b. IsOfRelation s view l b) is h)

-- a table's file has its rows under the view's keys
pub table_rows : (view : Option ℕ) (l : Lineage) (own : Bool) (rows : List Row) (v : View) → own ≡ false → view_at l view ≡ Some v → under_view (columns_of l) v rows ≡ rows_under view l rows own
table_rows view l own rows v is there = sym (ap (rows_under view l rows) is ∙ ap (under_some (columns_of l) rows) there)

-- sums that keep their bound over the relation keep it over its own file
pub own_keeps : (s : Columns) (terms : List Term) (view : Option ℕ) (l : Lineage) (own : Bool) (given rows : List Row) → own ≡ true → IsOfRelation s view l own
    → KeepsSums s (given ++ filtered s terms (rows_under view l rows own)) → KeepsSums (columns_of l) (given ++ filtered (columns_of l) terms rows)
own_keeps s terms view l own given rows is h keeps =
    subst (λ (t : Columns). KeepsSums t (given ++ filtered (columns_of l) terms rows)) (sym (own_columns s view l own is h))
    (subst (λ (more : List Row). KeepsSums s (given ++ more)) (sym (own_rows s terms view l own rows is h)) keeps)

-- a file that was read stays one of the query
pub pinned_after : {R : Type 0} (bytes : R → Option (List ℕ)) (s : Columns) (view : Option ℕ) (old new : PinnedInput R) → IsSameInput bytes old.input new.input → new.own ≡ old.own → IsInput bytes new.input → IsPinnedInput bytes s view old → IsPinnedInput bytes s view new
pinned_after bytes s view old new same own input h = record {
  input = input;
  relation = subst (λ (l : Lineage). IsOfRelation s view l new.own) (sym (λ k. (same.evolving k).value)) (subst (λ b. IsOfRelation s view (lineage_of old.input) b) (sym own) h.relation);
}

-- the files of a query are inputs
pub all_inputs : {R : Type 0} (bytes : R → Option (List ℕ)) (s : Columns) (view : Option ℕ) (files : List (PinnedInput R)) → AllByRecursion (IsPinnedInput bytes s view) files → AllByRecursion (IsInput bytes) (inputs_in files)
all_inputs bytes s view [] all = tt
all_inputs bytes s view (file ∷ files) all = (all.0.input, all_inputs bytes s view files all.1)

-- and its own are lifted to its columns
pub all_alike : {R : Type 0} (bytes : R → Option (List ℕ)) (s : Columns) (view : Option ℕ) (files : List (PinnedInput R)) → AllByRecursion (IsPinnedInput bytes s view) files → AllByRecursion (λ (file : PinnedInput R). file.own ≡ true) files → AreAlike s (knowns_of bytes (inputs_in files))
all_alike bytes s view [] all own = tt
all_alike bytes s view (file ∷ files) all own = (own_columns s view (lineage_of file.input) file.own own.0 all.0.relation, all_alike bytes s view files all.1 own.1)
