-- Cumulatives stand by rising ends, and singletons by rising versions.
use Rattle.std.proofs.Common.{◌≡◌, ℕ, zero, suc, ◌+◌, ◌≤◌, ◌<◌, List, [], ◌∷◌, ◌++◌, length, get_or, map, take, drop, refl, sym, ◌∙◌, ap, subst, arith, Bool, true, false}
use Rattle.std.specs.Prelude.{option_map, Option, None, Some, ⊤}
use Rattle.std.specs.List.{AllByRecursion}
use Rattle.std.specs.declared.alloc.Global.{Global}
use Rattle.std.specs.declared.sync.Arc.{Arc}
use Rattle.std.proofs.lemmas.List.{map-append, take-append-drop}
use Rattle.mesa_schema.proofs.mesa_columns.Lists.{all_append}
use Rattle.mesa_store_spec.specs.Catalog.{Delta, Ending}
use Rattle.mesa_store_spec.proofs.Lists.{all_back, all_front}
use Rattle.mesa_catalog_table.specs.declared.table.Loaded.{Loaded}
use Rattle.mesa_catalog_table.specs.declared.table.Table.{Table}
use Rattle.mesa_catalog_table.specs.Meaning.{AreLoaded, IsTable, ending_of, start_of_base, tens_from}
use Rattle.mesa_check.specs.Ranges.{Range, base_range, cumulative_range}
use Rattle.mesa_check.specs.Counted.{is_single}
use Rattle.mesa_check.specs.Held.{firsts, held_ranges, loaded_range, range_in}
use Rattle.mesa_check.specs.Shown.{is_merged, tested_range}
use Rattle.mesa_check.specs.Tested.{range_of}
use Rattle.mesa_check.specs.declared.testing.Test.{Test}
use Rattle.mesa_check.proofs.Told.{mapped_twice}

either : {A : Type 0} (b : Bool) → b ≡ true → b ≡ false → A
either true e f = absurd cc
either false e f = absurd cc

-- of ranges of one kind
module _ (kind : Range → Bool) where
  -- if both are of the kind, a range ends no later than another
  abbrev pub EndsBefore : Range → Range → Type 0
  EndsBefore r s = kind r ≡ true → kind s ≡ true → r.to ≤ s.to

  -- each of the kind ends no later than those of it behind it
  abbrev pub AreInOrder : List Range → Type 0
  AreInOrder [] = ⊤
  AreInOrder (r ∷ ranges) = AllByRecursion (EndsBefore r) ranges × AreInOrder ranges

  -- a range isn't of the kind
  abbrev pub IsOther : Range → Type 0
  IsOther r = kind r ≡ false

  other_before : (r : Range) (ranges : List Range) → IsOther r → AllByRecursion (EndsBefore r) ranges
  other_before r [] other = tt
  other_before r (s ∷ ranges) other = ((λ e f. either (kind r) e other), other_before r ranges other)

  pub others_behind : (r : Range) (ranges : List Range) → AllByRecursion IsOther ranges → AllByRecursion (EndsBefore r) ranges
  others_behind r [] others = tt
  others_behind r (s ∷ ranges) others = ((λ e f. either (kind s) f others.0), others_behind r ranges others.1)

  -- others before a list, and within it
  pub fronted : (xs ys : List Range) → AllByRecursion IsOther xs → AreInOrder ys → AreInOrder (xs ++ ys)
  fronted [] ys others are = are
  fronted (x ∷ xs) ys others are = (other_before x (xs ++ ys) others.0, fronted xs ys others.1 are)

  pub inserted : (xs cs ys : List Range) → AllByRecursion IsOther cs → AreInOrder (xs ++ ys) → AreInOrder (xs ++ (cs ++ ys))
  inserted [] cs ys others are = fronted cs ys others are
  inserted (x ∷ xs) cs ys others are = (
    all_append (EndsBefore x) xs (cs ++ ys) (all_front (EndsBefore x) xs ys are.0) (all_append (EndsBefore x) cs ys (others_behind x cs others) (all_back (EndsBefore x) xs ys are.0)),
    inserted xs cs ys others are.1,
  )

  -- ---- by their places among tests

  pub ahead : (tests : List Test) (n : ℕ) (y : Test) → n < length tests → y ≡ get_or tests n y → AreInOrder (map tested_range tests) → AllByRecursion (λ x. EndsBefore (tested_range x) (tested_range y)) (take n tests)
  ahead [] n y h is are = absurd (omega (arith, h))
  ahead (z ∷ tests) zero y h is are = tt
  ahead (z ∷ tests) (suc n) y h is are = (later tests n (omega (arith, h)) is are.0, ahead tests n y (omega (arith, h)) is are.1)
    where
      later : (tests : List Test) (n : ℕ) → n < length tests → y ≡ get_or tests n y → AllByRecursion (EndsBefore (tested_range z)) (map tested_range tests) → EndsBefore (tested_range z) (tested_range y)
      later [] n h is all = absurd (omega (arith, h))
      later (x ∷ tests) zero h is all = subst (λ w. EndsBefore (tested_range z) (tested_range w)) (sym is) all.0
      later (x ∷ tests) (suc n) h is all = later tests n (omega (arith, h)) is all.1

  pub behind : (tests : List Test) (n : ℕ) (y : Test) → n < length tests → y ≡ get_or tests n y → AreInOrder (map tested_range tests) → AllByRecursion (λ x. EndsBefore (tested_range y) (tested_range x)) (drop (n + 1) tests)
  behind [] n y h is are = absurd (omega (arith, h))
  behind (z ∷ tests) zero y h is are = subst (λ w. AllByRecursion (λ x. EndsBefore (tested_range w) (tested_range x)) tests) (sym is) (unmapped tests are.0)
    where
      unmapped : (xs : List Test) → AllByRecursion (EndsBefore (tested_range z)) (map tested_range xs) → AllByRecursion (λ x. EndsBefore (tested_range z) (tested_range x)) xs
      unmapped [] all = tt
      unmapped (x ∷ xs) all = (all.0, unmapped xs all.1)
  behind (z ∷ tests) (suc n) y h is are =
      let count : suc n + 1 ≡ suc (n + 1) = omega arith in
      subst (λ k. AllByRecursion (λ x. EndsBefore (tested_range y) (tested_range x)) (drop k (z ∷ tests))) (sym count) (behind tests n y (omega (arith, h)) is are.1)

base_other : (kind : Range → Bool) (o : Option Ending) → ((e : Ending) → AllByRecursion (IsOther kind) (base_range (Some e))) → AllByRecursion (IsOther kind) (base_range o)
base_other kind None others = tt
base_other kind (Some e) others = others e

-- ---- cumulatives

loaded_other : (loaded : List Loaded) → AllByRecursion (IsOther is_merged) (map loaded_range loaded)
loaded_other [] = tt
loaded_other (l ∷ loaded) = (refl, loaded_other loaded)

tens_behind : (s at : ℕ) (e : Ending) (ds : List (Arc Delta Global)) → e.to ≤ at → AllByRecursion (EndsBefore is_merged (cumulative_range s e)) (map (cumulative_range s) (tens_from at ds))
tens_behind s at e [] h = tt
tens_behind s at e (d ∷ ds) h = ((λ _ _. (let less : e.to ≤ at + 9 = omega (arith, h) in less)), tens_behind s (at + 10) e ds (omega (arith, h)))

tens_in_order : (s at : ℕ) (ds : List (Arc Delta Global)) → AreInOrder is_merged (map (cumulative_range s) (tens_from at ds))
tens_in_order s at [] = tt
tens_in_order s at (d ∷ ds) =
    let e : Ending = record { to = at + 9; delta = d.value } in
    (tens_behind s (at + 10) e ds (let less : at + 9 ≤ at + 10 = omega arith in less), tens_in_order s (at + 10) ds)

backed : (kind : Range → Bool) (xs ys : List Range) → AreInOrder kind xs → AllByRecursion (IsOther kind) ys → AreInOrder kind (xs ++ ys)
backed kind [] ys are others = all_others ys others
  where
    all_others : (ys : List Range) → AllByRecursion (IsOther kind) ys → AreInOrder kind ys
    all_others [] others = tt
    all_others (y ∷ ys) others = (others_behind kind y ys others.1, all_others ys others.1)
backed kind (x ∷ xs) ys are others = (all_append (EndsBefore kind x) xs ys are.0 (others_behind kind x ys others), backed kind xs ys are.1 others)

cumulatives_in_order : (t : Table) → AreInOrder is_merged (held_ranges t)
cumulatives_in_order t =
    let start = start_of_base t.base in
    let loaded = t.loaded.items in
    let c = firsts start loaded in
    let tens = map (cumulative_range start) (tens_from start t.cumulatives.items) in
    let others = map loaded_range (drop c loaded) in
    fronted is_merged (base_range (option_map ending_of t.base)) _ (base_other is_merged (option_map ending_of t.base) (λ e. (refl, tt)))
    (fronted is_merged (map loaded_range (take c loaded)) (tens ++ others) (loaded_other (take c loaded)) (backed is_merged tens others (tens_in_order start start t.cumulatives.items) (loaded_other (drop c loaded))))

-- ---- singletons

tens_other : (s at : ℕ) (ds : List (Arc Delta Global)) → AllByRecursion (IsOther is_single) (map (cumulative_range s) (tens_from at ds))
tens_other s at [] = tt
tens_other s at (d ∷ ds) = (refl, tens_other s (at + 10) ds)

versions_behind : (from next : ℕ) (l : Loaded) (loaded : List Loaded) → l.version ≤ from → AreLoaded from next loaded → AllByRecursion (EndsBefore is_single (loaded_range l)) (map loaded_range loaded)
versions_behind from next l [] h are = tt
versions_behind from next l (m ∷ loaded) h are =
    let low = are.0 in
    ((λ _ _. (let less : l.version ≤ m.version = omega (arith, h, low) in less)), versions_behind (m.version + 1) next l loaded (omega (arith, h, low)) are.2)

loaded_in_order : (from next : ℕ) (loaded : List Loaded) → AreLoaded from next loaded → AreInOrder is_single (map loaded_range loaded)
loaded_in_order from next [] are = tt
loaded_in_order from next (l ∷ loaded) are = (versions_behind (l.version + 1) next l loaded (let less : l.version ≤ l.version + 1 = omega arith in less) are.2, loaded_in_order (l.version + 1) next loaded are.2)

singles_in_order : (next : ℕ) (t : Table) → IsTable next t → AreInOrder is_single (held_ranges t)
singles_in_order next t is =
    let start = start_of_base t.base in
    let loaded = t.loaded.items in
    let c = firsts start loaded in
    let first = map loaded_range (take c loaded) in
    let others = map loaded_range (drop c loaded) in
    let joined : map loaded_range loaded ≡ first ++ others = ap (map loaded_range) (sym (take-append-drop c loaded)) ∙ map-append loaded_range (take c loaded) (drop c loaded) in
    fronted is_single (base_range (option_map ending_of t.base)) _ (base_other is_single (option_map ending_of t.base) (λ e. (refl, tt)))
    (inserted is_single first (map (cumulative_range start) (tens_from start t.cumulatives.items)) others (tens_other start start t.cumulatives.items)
    (subst (AreInOrder is_single) joined (loaded_in_order start next loaded is.loaded)))

-- ---- of tests

module _ (t : Table) (tests : List Test) (are : map range_in (map range_of tests) ≡ held_ranges t) where
  pub merged_tests : AreInOrder is_merged (map tested_range tests)
  merged_tests = subst (AreInOrder is_merged) (sym (mapped_twice tests ∙ are)) (cumulatives_in_order t)

  pub single_tests : (next : ℕ) → IsTable next t → AreInOrder is_single (map tested_range tests)
  single_tests next is = subst (AreInOrder is_single) (sym (mapped_twice tests ∙ are)) (singles_in_order next t is)
