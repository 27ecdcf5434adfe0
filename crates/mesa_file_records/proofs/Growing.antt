-- A table's columns and views, from one change to the next.
use Rattle.std.proofs.Common.{◌≡◌, ℕ, zero, suc, ◌-◌, ◌≤◌, List, [], ◌∷◌, ◌++◌, length, map, take, get_or, refl, sym, ◌∙◌, ap, subst, arith, true, Some}
use Rattle.std.specs.Prelude.{is_ok, slice_get}
use Rattle.std.specs.List.{AllByRecursion}
use Rattle.std.proofs.lemmas.List.{length-take, take-append-le, take_all}
use Rattle.std.proofs.lemmas.Option.{slice_get-get_or, slice_get_within}
use Rattle.std.proofs.lemmas.Simd.{map-map}
use Rattle.mesa_columns.specs.declared.changes.Change.{Change}
use Rattle.mesa_columns.specs.declared.rows.Row.{Row}
use Rattle.mesa_columns.specs.declared.views.View.{View}
use Rattle.mesa_columns.specs.Changes.{columns_after, lifted_once}
use Rattle.mesa_pick_files.specs.mesa_schema.Changes.{Lineage, columns_at, columns_of, epoch_of, lifted, rule_checked, with_change}
use Rattle.mesa_pick_files.specs.mesa_schema.Laws.{Outlives}
use Rattle.mesa_pick_files.specs.mesa_schema.Lineages.{IsLineage}
use Rattle.mesa_columns.specs.Rows.{AreRowsOf, IsRowOf}
use Rattle.mesa_pick_files.specs.mesa_schema.Views.{view_columns, view_rows, with_view}
use Rattle.mesa_columns.proofs.Lists.{all_map, all_so, map_is}
use Rattle.mesa_pick_files.proofs.mesa_schema.PresentRows.{columns_more, lifted_more, lifted_now, present_form}
use Rattle.mesa_pick_files.proofs.mesa_schema.ViewChanges.{views_outlive}
use Rattle.mesa_file_records.specs.Grown.{HasGrown}

-- ---- what was

-- no fewer changes are there
changes_was : (was now : Lineage) → HasGrown was now → length was.changes ≤ length now.changes
changes_was was now grown = let e = length-take (length was.changes) now.changes in let same = ap length grown.changes in omega (arith, e, same)

-- the epoch that was isn't a later one
pub epoch_was : (was now : Lineage) → HasGrown was now → epoch_of was ≤ epoch_of now
epoch_was was now grown = omega (arith, changes_was was now grown, grown.begins)

-- the columns of the epoch that was are those that were
pub columns_was : (was now : Lineage) → HasGrown was now → columns_at now (epoch_of was) ≡ columns_of was
columns_was was now grown =
    let since : epoch_of was - now.begins ≡ length was.changes = omega (arith, grown.begins) in
    λ i. columns_after (grown.first i) ((ap (λ n. take n now.changes) since ∙ grown.changes) i)

-- no fewer views are there
pub views_was : (was now : Lineage) → HasGrown was now → length was.views ≤ length now.views
views_was was now grown = by (length was.views) refl
  where
    none : View
    none = record { name = []; keys = []; values = [] }

    by : (n : ℕ) → n ≡ length was.views → length was.views ≤ length now.views
    by zero e = omega (arith, e)
    by (suc n) e =
        let last = slice_get-get_or was.views n none (omega (arith, e)) in
        let within = slice_get_within now.views n (get_or was.views n none) (grown.views n (get_or was.views n none) last).there in
        omega (arith, e, within)

-- ---- from itself

map_same : (f : Row → Row) (rows : List Row) → ((row : Row) → f row ≡ row) → map f rows ≡ rows
map_same f [] same = refl
map_same f (row ∷ rows) same = λ i. same row i ∷ map_same f rows same i

pub grown_not : (l : Lineage) → HasGrown l l
grown_not l = record {
  begins = refl;
  first = refl;
  changes = take_all (length l.changes) l.changes (omega arith);
  views = λ number v there. record {
    there = there;
    columns = refl;
    rows = λ rows form. ap (view_rows (columns_of l) v) (map_same (lifted l (epoch_of l) (epoch_of l)) rows (lifted_now l));
  };
}

-- ---- by a change

all_got : {X : Type 0} (P : X → Type 0) (xs : List X) (i : ℕ) (x : X) → AllByRecursion P xs → slice_get xs i ≡ Some x → P x
all_got P [] i x all e = absurd cc
all_got P (y ∷ xs) zero x all e = let same : y ≡ x = cc in subst P same all.0
all_got P (y ∷ xs) (suc i) x all e = all_got P xs i x all.1 e

module _ (was now : Lineage) (change : Change) (is : IsLineage now) (rule : is_ok (rule_checked now change) ≡ true) (grown : HasGrown was now) where
  abbrev later : Lineage
  later = with_change now change

  outlives : (number : ℕ) (v : View) → slice_get now.views number ≡ Some v → Outlives (columns_of now) change v
  outlives number v there = all_got (Outlives (columns_of now) change) now.views number v (views_outlive now change rule is.views) there

  -- rows of the epoch that was, through all changes and then through one more
  more : (rows : List Row) → map (lifted later (epoch_of was) (epoch_of later)) rows ≡ map (lifted_once (columns_of now) change) (map (lifted now (epoch_of was) (epoch_of now)) rows)
  more rows =
      map_is (lifted later (epoch_of was) (epoch_of later)) (λ row. lifted_once (columns_of now) change (lifted now (epoch_of was) (epoch_of now) row)) rows (λ row. lifted_more now change (epoch_of was) row (epoch_was was now grown))
      ∙ sym (map-map (lifted_once (columns_of now) change) (lifted now (epoch_of was) (epoch_of now)) rows)

  formed : (rows : List Row) → AreRowsOf (columns_of was) rows → AreRowsOf (columns_of now) (map (lifted now (epoch_of was) (epoch_of now)) rows)
  formed rows form =
      all_map (IsRowOf (columns_of now)) (lifted now (epoch_of was) (epoch_of now)) rows
      (all_so (IsRowOf (columns_of was)) (λ row. IsRowOf (columns_of now) (lifted now (epoch_of was) (epoch_of now) row)) rows
      (λ row has. present_form now (epoch_of was) row is (subst (λ s. IsRowOf s row) (sym (columns_was was now grown)) has)) form)

  pub grown_changed : HasGrown was (with_change now change)
  grown_changed = record {
    begins = grown.begins;
    first = grown.first;
    changes = take-append-le (length was.changes) now.changes (change ∷ []) (changes_was was now grown) ∙ grown.changes;
    views = λ number v there.
        let seen = grown.views number v there in
        let on = outlives number v seen.there in
        record {
          there = seen.there;
          columns = ap (λ s. view_columns s v) (columns_more now change) ∙ on.columns ∙ seen.columns;
          rows = λ rows form. (λ i. view_rows (columns_more now change i) v (more rows i)) ∙ on.rows (map (lifted now (epoch_of was) (epoch_of now)) rows) (formed rows form) ∙ seen.rows rows form;
        };
  }

-- ---- by a view

got_front : {X : Type 0} (xs ys : List X) (i : ℕ) (x : X) → slice_get xs i ≡ Some x → slice_get (xs ++ ys) i ≡ Some x
got_front [] ys i x e = absurd cc
got_front (y ∷ xs) ys zero x e = e
got_front (y ∷ xs) ys (suc i) x e = got_front xs ys i x e

pub grown_viewed : (was now : Lineage) (v : View) → HasGrown was now → HasGrown was (with_view now v)
grown_viewed was now v grown = record {
  begins = grown.begins;
  first = grown.first;
  changes = grown.changes;
  views = λ number u there. let seen = grown.views number u there in record { there = got_front now.views (v ∷ []) number u seen.there; columns = seen.columns; rows = seen.rows };
}
