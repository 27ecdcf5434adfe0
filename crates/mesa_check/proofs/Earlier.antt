-- The last cumulative of those that had no fault.
use Rattle.std.proofs.Common.{◌≡◌, ℕ, zero, suc, ◌+◌, ◌<◌, ◌≤◌, List, [], ◌∷◌, ◌++◌, length, get_or, map, take, refl, sym, ◌∙◌, subst, arith, Bool, true, false, cond}
use Rattle.std.specs.Prelude.{flat_map, IfSome, Option, None, Some}
use Rattle.std.specs.List.{AllByRecursion}
use Rattle.mesa_disk.specs.Image.{Image}
use Rattle.mesa_schema.specs.Changes.{epoch_of}
use Rattle.mesa_store_spec.specs.Catalog.{TableMeta}
use Rattle.mesa_catalog_table.specs.declared.table.Table.{Table}
use Rattle.mesa_check.specs.Found.{Found}
use Rattle.mesa_check.specs.Faults.{fails, fault_of, keys_shown, merged_key, merged_keys, range_faults, view_keys}
use Rattle.mesa_check.specs.Ranges.{Range}
use Rattle.mesa_check.specs.Held.{delta_of, held_ranges, range_in}
use Rattle.mesa_check.specs.Parts.{Agrees}
use Rattle.mesa_check.specs.Shown.{is_found_in, is_merged, tested_range}
use Rattle.mesa_check.specs.Tested.{IsRead, range_of}
use Rattle.mesa_check.specs.declared.testing.Test.{Test}
use Rattle.mesa_check.proofs.Lists.{all_item, both_nil}
use Rattle.mesa_check.proofs.Ordered.{EndsBefore, ahead, merged_tests}
use Rattle.mesa_check.proofs.Told.{merged_in}

-- a cumulative among the first so many
abbrev pub IsEarlier : List Test → ℕ → Test → Type 0
IsEarlier tests n b = (k : ℕ) × (k < n) × (b ≡ get_or tests k b) × (is_merged (tested_range b) ≡ true)

-- and among one more
pub earlier_more : (tests : List Test) (n : ℕ) (x : Test) (o : Option Test) → x ≡ get_or tests n x → IfSome o (IsEarlier tests n) → IfSome (cond (is_merged (tested_range x)) (Some x) o) (IsEarlier tests (n + 1))
earlier_more tests n x o is earlier = by (is_merged (tested_range x)) refl
  where
    later : (o : Option Test) → IfSome o (IsEarlier tests n) → IfSome o (IsEarlier tests (n + 1))
    later None its = tt
    later (Some b) its = let less = its.1 in (its.0, omega (arith, less), its.2, its.3)

    by : (b : Bool) → is_merged (tested_range x) ≡ b → IfSome (cond b (Some x) o) (IsEarlier tests (n + 1))
    by true e = (n, omega arith, is, e)
    by false e = later o earlier

-- ---- what holds of it

all_before : {X : Type 0} (P : X → Type 0) (xs : List X) (n k : ℕ) (x : X) → k < n → n ≤ length xs → x ≡ get_or xs k x → AllByRecursion P (take n xs) → P x
all_before P [] n k x less h is all = absurd (omega (arith, less, h))
all_before P (y ∷ ys) zero k x less h is all = absurd (omega (arith, less))
all_before P (y ∷ ys) (suc n) zero x less h is all = subst P (sym is) all.0
all_before P (y ∷ ys) (suc n) (suc k) x less h is all = all_before P ys n k x (omega (arith, less)) (omega (arith, h)) is all.1

flat_nil : {X Y : Type 0} (f : X → List Y) (xs : List X) → flat_map f xs ≡ [] → AllByRecursion (λ x. f x ≡ []) xs
flat_nil f [] e = tt
flat_nil f (x ∷ xs) e = let parts = both_nil (f x) (flat_map f xs) e in (parts.0, flat_nil f xs parts.1)

nil_map : {X Y : Type 0} (f : X → Y) (xs : List X) → map f xs ≡ [] → xs ≡ []
nil_map f [] e = refl
nil_map f (x ∷ xs) e = absurd cc

no_keys : (found : Found) (u : TableMeta) (r : Range) → is_merged r ≡ true → range_faults found u r ≡ [] → merged_key found u r.to r.delta ≡ []
no_keys found u r is none =
    let all = nil_map (fault_of u r) (cond (fails found u r) (None ∷ []) [] ++ map Some (keys_shown found u r)) none in
    let keys = nil_map Some (keys_shown found u r) (both_nil (cond (fails found u r) (None ∷ []) []) (map Some (keys_shown found u r)) all).1 in
    sym (merged_in found u r is) ∙ (both_nil (merged_keys found u r) (view_keys found u.lineage r.delta) keys).0

-- those so far have no fault, so it agrees
pub earlier_agrees : (i : Image) (found : Found) (u : TableMeta) (tests : List Test) (n : ℕ) (o : Option Test) → n ≤ length tests → IfSome o (IsEarlier tests n) → AllByRecursion (IsRead i found u.lineage) tests → AllByRecursion (λ x. is_found_in x ≡ true) (take n tests)
    → flat_map (λ (x : Test). range_faults found u (tested_range x)) (take n tests) ≡ [] → IfSome o (Agrees i found u)
earlier_agrees i found u tests n None h earlier read there none = tt
earlier_agrees i found u tests n (Some b) h earlier read there none =
    let less = earlier.1 in
    record {
      read = all_item (IsRead i found u.lineage) tests earlier.0 b (omega (arith, less, h)) earlier.2 read;
      found = all_before (λ x. is_found_in x ≡ true) tests n earlier.0 b less h earlier.2 there;
      same = no_keys found u (tested_range b) earlier.3 (all_before (λ x. range_faults found u (tested_range x) ≡ []) tests n earlier.0 b less h earlier.2 (flat_nil (λ (x : Test). range_faults found u (tested_range x)) (take n tests) none));
    }

pub earlier_ends : (t : Table) (tests : List Test) (n : ℕ) (o : Option Test) (y : Test) → map range_in (map range_of tests) ≡ held_ranges t → n < length tests → y ≡ get_or tests n y → IfSome o (IsEarlier tests n) → IfSome o (λ b. is_merged (tested_range y) ≡ true → b.range.to ≤ y.range.to)
earlier_ends t tests n None y are h is earlier = tt
earlier_ends t tests n (Some b) y are h is earlier =
    all_before (λ x. EndsBefore is_merged (tested_range x) (tested_range y)) tests n earlier.0 b earlier.1 (omega (arith, h)) earlier.2 (ahead is_merged tests n y h is (merged_tests t tests are)) earlier.3

pub earlier_epoch : (t : Table) (tests : List Test) (n : ℕ) (o : Option Test) → n ≤ length tests → AllByRecursion (λ x. (delta_of (range_of x)).epoch ≤ epoch_of t.evolving.value) tests → IfSome o (IsEarlier tests n) → IfSome o (λ b. (delta_of b.range).epoch ≤ epoch_of t.evolving.value)
earlier_epoch t tests n None h epochs earlier = tt
earlier_epoch t tests n (Some b) h epochs earlier = let less = earlier.1 in all_item (λ (x : Test). (delta_of (range_of x)).epoch ≤ epoch_of t.evolving.value) tests earlier.0 b (omega (arith, less, h)) earlier.2 epochs
