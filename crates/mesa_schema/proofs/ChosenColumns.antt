-- Columns that are chosen by name, once a column is added or dropped.
use Rattle.std.proofs.Common.{◌≡◌, ℕ, zero, suc, List, [], ◌∷◌, ◌++◌, map, Bool, true, false, not, refl, sym, ◌∙◌, ap, Some, slice_get, inl, inr}
use Rattle.std.specs.Prelude.{option_map}
use Rattle.std.specs.List.{list_all}
use Rattle.std.proofs.lemmas.Bool.{and_from, and_parts, or_left, or_cases, or_right, or_parts}
use Rattle.std.proofs.lemmas.Cmp.{nat_list_eq_equiv}
use Rattle.std.proofs.lemmas.List.{length-map, map-append}
use Rattle.std.proofs.lemmas.List.Folds.{list_any-append}
use Rattle.std.proofs.lemmas.Option.{slice_get-map}
use Rattle.mesa_fold.specs.mesa_list.Bytes.{same_bytes}
use Rattle.mesa_columns.specs.Names.{has_name}
use Rattle.mesa_columns.specs.Columns.{chosen, places_in}
use Rattle.mesa_columns.specs.Changes.{without}
use Rattle.mesa_columns.proofs.Drops.{without-map, without-suc}
use Rattle.mesa_fold.proofs.Picks.{chosen-less, chosen-push}

module _ {C : Type 0} (f : C → List ℕ) where
  -- whether a column has a name
  abbrev pub named : List ℕ → C → Bool
  named name c = same_bytes name (f c)

  -- ---- a column more, and a column less

  pub chosen_push : (columns : List C) (column : C) (asked : List (List ℕ)) → list_all (λ name. has_name name (map f columns)) asked ≡ true
      → chosen (places_in (map f (columns ++ column ∷ [])) asked) (columns ++ column ∷ []) ≡ chosen (places_in (map f columns) asked) columns
  chosen_push columns column asked all =
      ap (λ names. chosen (places_in names asked) (columns ++ column ∷ [])) (map-append f columns (column ∷ []))
      ∙ chosen-push (map f columns) columns (f column) column asked (length-map columns f) all

  pub chosen_without : (i : ℕ) (columns : List C) (c : C) (asked : List (List ℕ)) → slice_get columns i ≡ Some c → list_all (λ name. not (named name c)) asked ≡ true
      → chosen (places_in (map f (without i columns)) asked) (without i columns) ≡ chosen (places_in (map f columns) asked) columns
  chosen_without i columns c asked at all =
      ap (λ names. chosen (places_in names asked) (without i columns)) (without-map f i columns)
      ∙ chosen-less (map f columns) columns i (f c) asked (length-map columns f) (slice_get-map f columns i ∙ ap (option_map f) at) all

  -- a name that is there stays there, where the column that goes has another
  has_without : (i : ℕ) (columns : List C) (c : C) (name : List ℕ) → slice_get columns i ≡ Some c → named name c ≡ false → has_name name (map f columns) ≡ true → has_name name (map f (without i columns)) ≡ true
  has_without i [] c name at other h = cc
  has_without zero (x ∷ columns) c name at other h =
      let same : x ≡ c = cc in
      elim (or_cases (named name x) (has_name name (map f columns)) h) [ inl here ↦ absurd (let no : true ≡ false = sym here ∙ ap (named name) same ∙ other in cc) | inr rest ↦ rest ]
  has_without (suc i) (x ∷ columns) c name at other h =
      ap (λ cs. has_name name (map f cs)) (without-suc i x columns)
      ∙ elim (or_cases (named name x) (has_name name (map f columns)) h) [
        | inl here ↦ or_left (named name x) (has_name name (map f (without i columns))) here
        | inr rest ↦ or_right (named name x) (has_name name (map f (without i columns))) (has_without i columns c name at other rest)
      ]

  pub all_without : (i : ℕ) (columns : List C) (c : C) (asked : List (List ℕ)) → slice_get columns i ≡ Some c → list_all (λ name. not (named name c)) asked ≡ true → list_all (λ name. has_name name (map f columns)) asked ≡ true
      → list_all (λ name. has_name name (map f (without i columns))) asked ≡ true
  all_without i columns c [] at other all = refl
  all_without i columns c (name ∷ asked) at other all =
      let first = and_parts (not (named name c)) (list_all (λ n. not (named n c)) asked) other in
      let second = and_parts (has_name name (map f columns)) (list_all (λ n. has_name n (map f columns)) asked) all in
      and_from (has_name name (map f (without i columns))) _ (has_without i columns c name at (no (named name c) first.0) second.0) (all_without i columns c asked at first.1 second.1)
    where
      no : (b : Bool) → not b ≡ true → b ≡ false
      no true h = cc
      no false h = refl

-- names that are there stay there when one more is
pub all_push : (names asked : List (List ℕ)) (more : List ℕ) → list_all (λ name. has_name name names) asked ≡ true → list_all (λ name. has_name name (names ++ more ∷ [])) asked ≡ true
all_push names [] more all = refl
all_push names (name ∷ asked) more all =
    let parts = and_parts (has_name name names) (list_all (λ n. has_name n names) asked) all in
    and_from (has_name name (names ++ more ∷ [])) _ (list_any-append (same_bytes name) names (more ∷ []) ∙ or_left (has_name name names) (has_name name (more ∷ [])) parts.0) (all_push names asked more parts.1)

-- names of which none is this one, as the views that don't use it have them
pub none_is : (name : List ℕ) (asked : List (List ℕ)) → has_name name asked ≡ false → list_all (λ other. not (same_bytes other name)) asked ≡ true
none_is name [] h = refl
none_is name (x ∷ asked) h =
    let parts = or_parts (same_bytes name x) (has_name name asked) h in
    and_from (not (same_bytes x name)) _ (ap not (nat_list_eq_equiv.symm x name ∙ parts.0)) (none_is name asked parts.1)
