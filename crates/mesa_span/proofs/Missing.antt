-- The first cumulative that isn't there is found by one look at each that is.
use Rattle.std.proofs.Common.{◌≡◌, ℕ, zero, suc, ◌+◌, ◌≤◌, ◌<◌, List, [], ◌∷◌, map, true, cond, Some, None, refl, arith, ◌-◌, ◌/◌, inl, inr}
use Rattle.std.specs.Prelude.{◌==◌, nat_lt, nat_le, find}
use Rattle.std.specs.List.{range_with_len}
use Rattle.std.proofs.lemmas.Bool.Decides.{nat_tests}
use Rattle.std.proofs.lemmas.Bool.{cases_order}
use Rattle.mesa_span.specs.Ranges.{Rise, end_of}
use Rattle.mesa_span.specs.Work.{is_missing, missing_end}

-- how many tens have their cumulative, after a look at each of the ends
abbrev pub passed : ℕ → ℕ → List ℕ → ℕ
passed start tens [] = tens
passed start tens (end ∷ ends) = passed start (cond (end == end_of start tens) (tens + 1) tens) ends

pub passed_grows : (start tens : ℕ) (ends : List ℕ) → tens ≤ passed start tens ends
passed_grows start tens [] = omega arith
passed_grows start tens (end ∷ ends) = grind (arith, nat_tests, passed_grows start (cond (end == end_of start tens) (tens + 1) tens) ends)

-- where all ends lie behind the one that is looked for, none is it
pub passed_none : (start tens from : ℕ) (ends : List ℕ) → Rise from ends → end_of start tens < from → passed start tens ends ≡ tens
passed_none start tens from [] rise behind = refl
passed_none start tens from (end ∷ ends) (first, rest) behind = grind (arith, nat_tests, passed_none start tens (end + 1) ends rest)

pub missing_before : (x from : ℕ) (ends : List ℕ) → Rise from ends → x < from → is_missing ends x ≡ true
missing_before x from [] rise before = refl
missing_before x from (end ∷ ends) (first, rest) before = grind (arith, nat_tests, missing_before x (end + 1) ends rest)

-- an end that lies before all those that are looked for doesn't count
pub found_without : (start tens n end : ℕ) (ends : List ℕ) → end < end_of start tens → find (is_missing (end ∷ ends)) (map (end_of start) (range_with_len tens n)) ≡ find (is_missing ends) (map (end_of start) (range_with_len tens n))
found_without start tens zero end ends before = refl
found_without start tens (suc n) end ends before = grind (arith, nat_tests, found_without start (tens + 1) n end ends)

abbrev Found : ℕ → ℕ → ℕ → List ℕ → Type 0
Found start tens n ends = find (is_missing ends) (map (end_of start) (range_with_len tens n)) ≡ cond (nat_lt (passed start tens ends) (tens + n)) (Some (end_of start (passed start tens ends))) None

found_before : (start tens n end : ℕ) (ends : List ℕ) → end < end_of start tens → Found start tens n ends → Found start tens n (end ∷ ends)
found_before start tens n end ends before found = grind (arith, nat_tests, found_without start tens n end ends before)

found_later : (start tens n end : ℕ) (ends : List ℕ) → end_of start tens < end → Rise (end + 1) ends → Found start tens n (end ∷ ends)
found_later start tens zero end ends later rest = grind (arith, nat_tests, passed_none start tens (end + 1) ends rest)
found_later start tens (suc n) end ends later rest = grind (arith, nat_tests, passed_none start tens (end + 1) ends rest, missing_before (end_of start tens) (end + 1) ends rest)

found_here : (start tens n end : ℕ) (ends : List ℕ) → end ≡ end_of start tens → ((m : ℕ) → Found start (tens + 1) m ends) → Found start tens n (end ∷ ends)
found_here start tens zero end ends here found = grind (arith, nat_tests, passed_grows start (tens + 1) ends)
found_here start tens (suc n) end ends here found = grind (arith, nat_tests, found_without start (tens + 1) n end ends, found n)

-- what is found among the ends from so many tens on
pub found_missing : (ends : List ℕ) (start tens n from : ℕ) → Rise from ends → Found start tens n ends
found_missing [] start tens zero from rise = grind (arith, nat_tests)
found_missing [] start tens (suc n) from rise = grind (arith, nat_tests)
found_missing (end ∷ ends) start tens n from (first, rest) =
    elim (cases_order end (end_of start tens)) [
      | inl here ↦ found_here start tens n end ends here (λ m. found_missing ends start (tens + 1) m (end + 1) rest)
      | inr other ↦ elim other [
        | inl before ↦ found_before start tens n end ends before (found_missing ends start tens n (end + 1) rest)
        | inr later ↦ found_later start tens n end ends later rest
      ]
    ]

-- the end that is looked for, after a look at each of the ends
abbrev pub walked : ℕ → List ℕ → ℕ
walked wanted [] = wanted
walked wanted (end ∷ ends) = walked (cond (end == wanted) (wanted + 10) wanted) ends

pub walked_is : (start tens : ℕ) (ends : List ℕ) → walked (end_of start tens) ends ≡ end_of start (passed start tens ends)
walked_is start tens [] = refl
walked_is start tens (end ∷ ends) = grind (arith, nat_tests, walked_is start tens ends, walked_is start (tens + 1) ends)

-- the end that the walk finds is the first that is missing, where the versions have room for it
pub walked_to : (start newest wanted : ℕ) (ends : List ℕ) → Rise start ends → wanted ≡ walked (start + 9) ends → missing_end start ends (Some newest) ≡ cond (nat_le wanted newest) (Some wanted) None
walked_to start newest wanted ends rise found = grind (arith, nat_tests, found_missing ends start 0 ((newest + 1 - start) / 10) start rise, walked_is start 0 ends)
