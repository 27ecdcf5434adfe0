-- Counts and totals that keep their bounds.
use Rattle.std.proofs.Common.{◌≡◌, ℕ, ◌+◌, ◌-◌, List, [], ◌∷◌, map, refl, sym, ◌∙◌, arith, Bool, true, false}
use Rattle.std.specs.Prelude.{◌||◌, ◌^◌, not, nat_le, min, zip, is_none}
use Rattle.std.specs.List.{list_any}
use Rattle.std.proofs.lemmas.Bool.Decides.{nat_tests}
use Rattle.mesa_batch.specs.Totals.{over_bound, sum_bound, totals_with}
use Rattle.mesa_catalog_table.proofs.Counts.{none_over}

bounded : (pairs : List (ℕ × ℕ)) → list_any (λ (p : ℕ × ℕ). nat_le sum_bound (p.0 + p.1)) pairs ≡ false → map (λ (p : ℕ × ℕ). min (2 ^ 128 - 1) (p.0 + p.1)) pairs ≡ map (λ (p : ℕ × ℕ). p.0 + p.1) pairs
bounded [] e = refl
bounded (p ∷ pairs) e =
    elim (nat_le sum_bound (p.0 + p.1)) as (λ b. nat_le sum_bound (p.0 + p.1) ≡ b → (b || list_any (λ (q : ℕ × ℕ). nat_le sum_bound (q.0 + q.1)) pairs) ≡ false
    → min (2 ^ 128 - 1) (p.0 + p.1) ∷ map (λ (q : ℕ × ℕ). min (2 ^ 128 - 1) (q.0 + q.1)) pairs ≡ (p.0 + p.1) ∷ map (λ (q : ℕ × ℕ). q.0 + q.1) pairs) [
      | true ↦ λ _ f. absurd (cc)
      | false ↦ λ small rest.
          let first : min (2 ^ 128 - 1) (p.0 + p.1) ≡ p.0 + p.1 = grind (arith, nat_tests) in
          λ i. first i ∷ bounded pairs rest i
    ] refl e

not_true : (b : Bool) → not b ≡ true → b ≡ false
not_true true e = absurd (cc)
not_true false e = refl

-- totals that keep their bound don't leave their type
pub totals_bounded : (totals more : List ℕ) → is_none (over_bound totals more) ≡ true → map (λ (p : ℕ × ℕ). min (2 ^ 128 - 1) (p.0 + p.1)) (zip totals more) ≡ totals_with totals more
totals_bounded totals more h = bounded (zip totals more) (not_true _ (sym (none_over totals more) ∙ h))
