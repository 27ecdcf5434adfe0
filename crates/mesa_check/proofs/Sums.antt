-- Totals in which each of 2^128 or more stands as 2^128 - 1.
use lib.Pointwise.{pointwise}
use Rattle.std.proofs.Common.{◌≡◌, ℕ, suc, ◌+◌, ◌<◌, List, [], ◌∷◌, ◌++◌, length, map, refl, sym, ◌∙◌, ap, arith, Bool, true, false, ◌&&◌, nat_eq, nat_le, nat_lt}
use Rattle.std.specs.Prelude.{min, replicate, zip, ◌==◌}
use Rattle.std.specs.List.{AllByRecursion, list_all}
use Rattle.std.proofs.lemmas.Bool.Decides.{nat_tests}
use Rattle.std.proofs.lemmas.List.Sums.{sum_by-append}
use Rattle.mesa_pick_files.specs.mesa_columns.declared.rows.Row.{Row}
use Rattle.mesa_batch.specs.Totals.{abs_total, sum_bound}
use Rattle.mesa_compare.specs.mesa_examine.Sums.{counted, most}
use Rattle.mesa_check.specs.Faults.{are_at_most}

-- ---- of no rows, and of more

pub none_counted : (places : List ℕ) → replicate (length places) 0 ≡ counted (map (λ c. abs_total c []) places)
none_counted [] = refl
none_counted (c ∷ places) = let zero_is : 0 ≡ min most 0 = omega arith in λ i. zero_is i ∷ none_counted places i

cap_both : (m a b : ℕ) → min m (min m a + min m b) ≡ min m (a + b)
cap_both m a b = omega arith

pub counted_both : (places : List ℕ) (xs ys : List Row) → map (λ (p : ℕ × ℕ). min most (p.0 + p.1)) (zip (counted (map (λ c. abs_total c xs) places)) (counted (map (λ c. abs_total c ys) places))) ≡ counted (map (λ c. abs_total c (xs ++ ys)) places)
counted_both [] xs ys = refl
counted_both (c ∷ places) xs ys =
    let one : min most (min most (abs_total c xs) + min most (abs_total c ys)) ≡ min most (abs_total c (xs ++ ys)) = cap_both most (abs_total c xs) (abs_total c ys) ∙ ap (min most) (sym (sum_by-append _ xs ys)) in
    λ i. one i ∷ counted_both places xs ys i

-- ---- compared with totals that are within the bound

below : (y : ℕ) → y < sum_bound → y < most
below y h = omega (arith, h)

le_capped : (m x y : ℕ) → y < m → nat_le (min m x) y ≡ nat_le x y
le_capped m x y h = grind (arith, nat_tests)

lt_capped : (m x y : ℕ) → y < m → nat_lt (min m x) y ≡ nat_lt x y
lt_capped m x y h = grind (arith, nat_tests)

eq_capped : (m x y : ℕ) → y < m → nat_eq y (min m x) ≡ nat_eq y x
eq_capped m x y h = grind (arith, nat_tests)

pub most_counted : (xs ys : List ℕ) → AllByRecursion (λ y. y < sum_bound) ys → are_at_most (counted xs) ys ≡ are_at_most xs ys
most_counted [] [] all = refl
most_counted [] (y ∷ ys) all = refl
most_counted (x ∷ xs) [] all = refl
most_counted (x ∷ xs) (y ∷ ys) all = λ i. le_capped most x y (below y all.0) i && most_counted xs ys all.1 i

pub bounded_counted : (xs : List ℕ) → list_all (λ total. nat_lt total sum_bound) (counted xs) ≡ list_all (λ total. nat_lt total sum_bound) xs
bounded_counted [] = refl
bounded_counted (x ∷ xs) = let h : sum_bound < most = omega arith in λ i. lt_capped most x sum_bound h i && bounded_counted xs i

pub same_counted : (ys xs : List ℕ) → AllByRecursion (λ y. y < sum_bound) ys → pointwise nat_eq ys (counted xs) ≡ pointwise nat_eq ys xs
same_counted [] [] all = refl
same_counted [] (x ∷ xs) all = refl
same_counted (y ∷ ys) [] all = refl
same_counted (y ∷ ys) (x ∷ xs) all = λ i. eq_capped most x y (below y all.0) i && same_counted ys xs all.1 i

-- ---- pair by pair

pub zip_most : (xs ys : List ℕ) → length xs ≡ length ys → list_all (λ (p : ℕ × ℕ). nat_le p.0 p.1) (zip xs ys) ≡ are_at_most xs ys
zip_most [] [] e = refl
zip_most [] (y ∷ ys) e = absurd (omega (arith, e))
zip_most (x ∷ xs) [] e = absurd (omega (arith, e))
zip_most (x ∷ xs) (y ∷ ys) e = ap (λ b. nat_le x y && b) (zip_most xs ys (omega (arith, e)))

pub not_most : (xs ys : List ℕ) → (length xs ≡ length ys → ⊥) → are_at_most xs ys ≡ false
not_most [] [] differs = absurd (differs refl)
not_most [] (y ∷ ys) differs = refl
not_most (x ∷ xs) [] differs = refl
not_most (x ∷ xs) (y ∷ ys) differs = ap (λ b. nat_le x y && b) (not_most xs ys (λ e. differs (ap suc e))) ∙ last_out (nat_le x y)
  where
    last_out : (b : Bool) → (b && false) ≡ false
    last_out true = refl
    last_out false = refl

pub zip_same : (ys xs : List ℕ) → length ys ≡ length xs → list_all (λ (p : ℕ × ℕ). p.0 == p.1) (zip ys xs) ≡ pointwise nat_eq ys xs
zip_same [] [] e = refl
zip_same [] (x ∷ xs) e = absurd (omega (arith, e))
zip_same (y ∷ ys) [] e = absurd (omega (arith, e))
zip_same (y ∷ ys) (x ∷ xs) e = ap (λ b. nat_eq y x && b) (zip_same ys xs (omega (arith, e)))

pub not_same : (ys xs : List ℕ) → (length ys ≡ length xs → ⊥) → pointwise nat_eq ys xs ≡ false
not_same [] [] differs = absurd (differs refl)
not_same [] (x ∷ xs) differs = refl
not_same (y ∷ ys) [] differs = refl
not_same (y ∷ ys) (x ∷ xs) differs = ap (λ b. nat_eq y x && b) (not_same ys xs (λ e. differs (ap suc e))) ∙ last_out (nat_eq y x)
  where
    last_out : (b : Bool) → (b && false) ≡ false
    last_out true = refl
    last_out false = refl
