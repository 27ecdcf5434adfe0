-- Counts of columns.
use Rattle.std.proofs.Common.{◌≡◌, ℕ, ◌+◌, ◌≤◌, ◌<◌, List, [], ◌∷◌, length, map, get_or, refl, sym, ◌∙◌, ap, arith, Bool, true, suc, zero, ◌-◌}
use Rattle.std.specs.Prelude.{not, nat_le, zip, is_some, is_none, Option, Some, None, slice_get, replicate}
use Rattle.std.specs.List.{list_all, list_any, range_with_len}
use Rattle.std.proofs.lemmas.List.FromFn.{get_or-map-range_with_len, length-map-range_with_len}
use Rattle.std.proofs.lemmas.List.{length-map, take_all}
use Rattle.std.proofs.lemmas.Option.{slice_get-get_or}
use Rattle.mesa_store_spec.specs.mesa_columns.declared.columns.KeyColumn.{KeyColumn}
use Rattle.mesa_store_spec.specs.mesa_columns.declared.columns.ValueColumn.{ValueColumn}
use Rattle.mesa_store_spec.specs.mesa_columns.declared.views.View.{View}
use Rattle.mesa_store_spec.specs.mesa_columns.declared.views.ViewError.TheVariants.{NoKey, NoValue}
use Rattle.mesa_store_spec.specs.mesa_columns.Names.{has_name}
use Rattle.mesa_store_spec.specs.mesa_columns.Columns.{Columns, chosen, key_names, place_of, places_in, value_names}
use Rattle.mesa_store_spec.specs.mesa_columns.Changes.{columns_after}
use Rattle.mesa_schema.specs.Changes.{Lineage, columns_at, epoch_of, columns_of}
use Rattle.mesa_schema.specs.Lineages.{is_view_of}
use Rattle.mesa_schema.specs.Views.{choice_checked, view_columns}
use Rattle.mesa_schema.proofs.Choices.{chosen-slot}
use Rattle.mesa_batch.proofs.mesa_columns.Maps.{is_some_position, position_map}
use Rattle.mesa_schema.proofs.Passing.{passed_first, passed_unless}
use Rattle.mesa_batch.proofs.NameNumbers.{position-within}
use Rattle.mesa_batch.specs.Totals.{over_bound, sum_bound}
use Rattle.mesa_list.specs.Bytes.{same_bytes}
use Rattle.mesa_catalog_table.specs.Meaning.{widths_of}
use Rattle.mesa_catalog_table.proofs.Tests.{both}

-- ---- value columns of an epoch

pub width_at : (l : Lineage) (epoch : ℕ) → epoch ≤ epoch_of l → get_or (widths_of l) epoch 0 ≡ length (columns_at l epoch).values
width_at l epoch h = get_or-map-range_with_len (λ e. length (columns_at l e).values) 0 (epoch_of l + 1) epoch epoch 0 (omega arith) (omega arith)

pub width_there : (l : Lineage) (epoch : ℕ) → epoch ≤ epoch_of l → epoch < length (widths_of l)
width_there l epoch h = let count = length-map-range_with_len (λ e. length (columns_at l e).values) 0 (epoch_of l + 1) in omega arith

same_counts : (f : Columns → ℕ) (l : Lineage) (from n : ℕ) → l.changes ≡ [] → map (λ e. f (columns_at l e)) (range_with_len from n) ≡ replicate n (f (columns_of l))
same_counts f l from zero none = refl
same_counts f l from (suc n) none =
    let short : length l.changes ≤ from - l.begins = omega (arith, ap length none) in
    (λ i. f (columns_after l.first (take_all (from - l.begins) l.changes short i)) ∷ same_counts f l (from + 1) n none i)

-- what is counted of each epoch, where there were no changes
pub counts_begun : (f : Columns → ℕ) (l : Lineage) → l.changes ≡ [] → map (λ e. f (columns_at l e)) (range_with_len 0 (epoch_of l + 1)) ≡ replicate (epoch_of l + 1) (f (columns_of l))
counts_begun f l none = same_counts f l 0 (epoch_of l + 1) none

-- ---- totals

none_not : {X : Type 0} (o : Option X) → is_none o ≡ not (is_some o)
none_not (Some x) = refl
none_not None = refl

-- no total passes its bound
pub none_over : (totals more : List ℕ) → is_none (over_bound totals more) ≡ not (list_any (λ (p : ℕ × ℕ). nat_le sum_bound (p.0 + p.1)) (zip totals more))
none_over totals more =
    none_not (over_bound totals more)
    ∙ ap (λ o. not (is_some o)) (position_map (λ total. nat_le sum_bound total) (λ (p : ℕ × ℕ). p.0 + p.1) (zip totals more))
    ∙ ap not (is_some_position (λ (p : ℕ × ℕ). nat_le sum_bound (p.0 + p.1)) (zip totals more))

-- ---- columns of a view

some_is : {X : Type 0} (o : Option X) → is_some o ≡ true → (x : X) × (o ≡ Some x)
some_is (Some x) e = (x, refl)
some_is None e = absurd (cc)

pub chosen_count : {C : Type 0} (names : List (List ℕ)) (columns : List C) (asked : List (List ℕ)) → length names ≡ length columns → list_all (λ name. has_name name names) asked ≡ true
    → length (chosen (places_in names asked) columns) ≡ length asked
chosen_count names columns [] same all = refl
chosen_count names columns (name ∷ asked) same all =
    let parts = both (has_name name names) (list_all (λ n. has_name n names) asked) all in
    let found = some_is (place_of name names) (is_some_position (same_bytes name) names ∙ parts.0) in
    let within : found.0 < length names = position-within (same_bytes name) names found.0 found.1 in
    elim columns as (λ cs. length names ≡ length cs → length (chosen (places_in names (name ∷ asked)) cs) ≡ length (name ∷ asked)) [
      | [] ↦ λ e. absurd (omega arith)
      | c ∷ cs ↦ λ e.
          ap length (chosen-slot names (c ∷ cs) name asked found.0 (get_or (c ∷ cs) found.0 c) found.1 (slice_get-get_or (c ∷ cs) found.0 c (omega arith)))
          ∙ ap suc (chosen_count names (c ∷ cs) asked e parts.1)
    ] same

passes_at : {X : Type 0} (p : X → Bool) (xs : List X) (i : ℕ) (x : X) → list_all p xs ≡ true → slice_get xs i ≡ Some x → p x ≡ true
passes_at p [] i x h e = absurd (cc)
passes_at p (y ∷ ys) zero x h e = let same : y ≡ x = cc in ap p (sym same) ∙ (both (p y) (list_all p ys) h).0
passes_at p (y ∷ ys) (suc i) x h e = passes_at p ys i x (both (p y) (list_all p ys) h).1 e

-- a view that is allowed has just the value columns that it names
pub view_width : (s : Columns) (views : List View) (i : ℕ) (v : View) → list_all (is_view_of s) views ≡ true → slice_get views i ≡ Some v → length (view_columns s v).values ≡ length v.values
view_width s views i v all at =
    let ok = passes_at (is_view_of s) views i v all at in
    let values = (passed_first (choice_checked (key_names s) NoKey v.keys) _ ok).1 in
    let chosen_ok = (passed_first (choice_checked (value_names s) NoValue v.values) _ values).0 in
    let there = (passed_unless (list_all (λ name. has_name name (value_names s)) v.values) _ _ chosen_ok).0 in
    chosen_count (value_names s) s.values v.values (length-map s.values (λ (c : ValueColumn). c.name)) there

-- and just the key columns
pub view_depth : (s : Columns) (views : List View) (i : ℕ) (v : View) → list_all (is_view_of s) views ≡ true → slice_get views i ≡ Some v → length (view_columns s v).keys ≡ length v.keys
view_depth s views i v all at =
    let ok = passes_at (is_view_of s) views i v all at in
    let keys = (passed_first (choice_checked (key_names s) NoKey v.keys) _ ok).0 in
    let there = (passed_unless (list_all (λ name. has_name name (key_names s)) v.keys) _ _ keys).0 in
    chosen_count (key_names s) s.keys v.keys (length-map s.keys (λ (c : KeyColumn). c.name)) there
