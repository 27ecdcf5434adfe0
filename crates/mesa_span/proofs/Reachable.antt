-- Works leave the cumulatives of the first so many tens.
use Rattle.std.proofs.Common.{◌≡◌, ℕ, zero, suc, ◌+◌, ◌-◌, ◌/◌, ◌≤◌, List, [], ◌∷◌, ◌++◌, map, length, Bool, true, false, cond, Option, Some, None, refl, length-append, sym, subst, arith}
use Rattle.std.specs.Prelude.{◌&&◌, nat_le, nat_lt, find, option_map}
use Rattle.std.specs.List.{range_with_len}
use Rattle.std.proofs.lemmas.List.FromFn.{map-range_with_len_more}
use Rattle.std.proofs.lemmas.Bool.Decides.{nat_tests}
use Rattle.mesa_span.specs.declared.ranges.Ranges.{Ranges}
use Rattle.mesa_span.specs.declared.works.Work.{Work}
use Rattle.mesa_span.specs.declared.works.Work.TheVariants.{Base, Cumulative}
use Rattle.mesa_span.specs.Ranges.{Rise, start_of, end_of, ends_of_tens, IsReachable, IsInOrder}
use Rattle.mesa_span.specs.Work.{is_missing, missing_end, next_work, swapped}
use Rattle.mesa_span.proofs.Missing.{passed, found_missing}

-- the ends of tens rise
tens_rise : (start tens n from : ℕ) → from ≤ end_of start tens → Rise from (map (end_of start) (range_with_len tens n))
tens_rise start tens zero from below = tt
tens_rise start tens (suc n) from below = (below, tens_rise start (tens + 1) n (end_of start tens + 1) (omega arith))

pub reachable_in_order : (r : Ranges) → IsReachable r → IsInOrder r
reachable_in_order r reachable = let P : List ℕ → Type 0 = Rise (start_of r) in subst P (sym reachable) (tens_rise (start_of r) 0 (length r.cumulatives) (start_of r) (omega arith))

-- where the first so many tens have their cumulatives, all of them are passed
all_passed : (start tens n : ℕ) → passed start tens (map (end_of start) (range_with_len tens n)) ≡ tens + n
all_passed start tens zero = omega arith
all_passed start tens (suc n) = grind (arith, nat_tests, all_passed start (tens + 1) n)

-- then the first that is missing is the next ten's
found_next : (start k m : ℕ) → find (is_missing (ends_of_tens start k)) (ends_of_tens start m) ≡ cond (nat_lt k m) (Some (end_of start k)) None
found_next start k m = grind (arith, nat_tests, found_missing (ends_of_tens start k) start 0 m start (tens_rise start 0 k start (omega arith)), all_passed start 0 k)

next_missing : (start k : ℕ) (newest : Option ℕ) (end : ℕ) → missing_end start (ends_of_tens start k) newest ≡ Some end → end ≡ end_of start k
next_missing start k None end found = cc
next_missing start k (Some newest) end found = grind (arith, nat_tests, found_next start k ((newest + 1 - start) / 10))

-- one more
tens_more : (start k : ℕ) → ends_of_tens start (k + 1) ≡ ends_of_tens start k ++ end_of start k ∷ []
tens_more start k = map-range_with_len_more (end_of start) 0 k k (omega arith)

cumulative_kept : (r : Ranges) (end : ℕ) → IsReachable r → end ≡ end_of (start_of r) (length r.cumulatives) → r.cumulatives ++ end ∷ [] ≡ ends_of_tens (start_of r) (length (r.cumulatives ++ end ∷ []))
cumulative_kept r end reachable next = grind (arith, tens_more (start_of r) (length r.cumulatives), length-append r.cumulatives (end ∷ []))

-- the next work is a base, or the cumulative that is missing
next_cumulative : (start from to : ℕ) (missing : Option ℕ) → option_map (Cumulative start) missing ≡ Some (Cumulative from to) → missing ≡ Some to
next_cumulative start from to None same = cc
next_cumulative start from to (Some end) same = cc

behind_test : (based : Bool) (oldest start from to : ℕ) (missing : Option ℕ) → cond based (Some (Base oldest)) (option_map (Cumulative start) missing) ≡ Some (Cumulative from to) → missing ≡ Some to
behind_test true oldest start from to missing same = cc
behind_test false oldest start from to missing same = next_cumulative start from to missing same

pub works_keep : (r : Ranges) (oldest : ℕ) (newest : Option ℕ) (work : Work) → IsReachable r → next_work r oldest newest ≡ Some work → IsReachable (swapped work r)
works_keep r oldest newest (Base to) reachable next = refl
works_keep r oldest newest (Cumulative from to) reachable next =
    let missing : missing_end (start_of r) (ends_of_tens (start_of r) (length r.cumulatives)) newest ≡ Some to = rw (← reachable) (behind_test (nat_le 1 oldest && nat_le (start_of r) oldest) oldest (start_of r) from to (missing_end (start_of r) r.cumulatives newest) next) in
    cumulative_kept r to reachable (next_missing (start_of r) (length r.cumulatives) newest to missing)
