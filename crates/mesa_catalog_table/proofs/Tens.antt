-- Cumulatives of ten, twenty and so on versions.
use Rattle.std.proofs.Common.{◌≡◌, ℕ, suc, zero, ◌+◌, ◌-◌, ◌*◌, ◌≤◌, List, [], ◌∷◌, ◌++◌, length, map, refl, sym, ◌∙◌, ap, subst, arith, Bool, true, false, cond}
use Rattle.std.specs.Prelude.{nat_lt, ◌==◌, Option, Some, None, option_map}
use Rattle.std.specs.List.{range_with_len}
use Rattle.std.specs.declared.alloc.Global.{Global}
use Rattle.std.specs.declared.sync.Arc.{Arc}
use Rattle.std.proofs.lemmas.Bool.Decides.{nat_tests}
use Rattle.mesa_span.specs.Ranges.{IsInOrder, Rise, base_before, end_of, ends_of_tens}
use Rattle.mesa_span.specs.Work.{missing_end}
use Rattle.mesa_span.proofs.Missing.{walked, walked_to}
use Rattle.mesa_store_spec.specs.Catalog.{Delta, end_in}
use Rattle.mesa_store_spec.specs.Fitting.{delta_in}
use Rattle.mesa_catalog_table.specs.declared.table.Base.{Base}
use Rattle.mesa_catalog_table.specs.Meaning.{ending_of, start_of_base, tens_from}

-- where a base ends
pub base_ends : (b : Option Base) → option_map end_in (option_map ending_of b) ≡ option_map (λ (base : Base). base.to) b
base_ends None = refl
base_ends (Some b) = refl

-- the end of the ten behind these
pub tens_pushed : (start : ℕ) (ds : List (Arc Delta Global)) (d : Arc Delta Global) → tens_from start (ds ++ d ∷ []) ≡ tens_from start ds ++ record { to = end_of start (length ds); delta = d.value } ∷ []
tens_pushed start [] d = let first : start + 9 ≡ end_of start 0 = omega arith in ap (λ to. record { to = to; delta = d.value } ∷ []) first
tens_pushed start (e ∷ ds) d =
    let same : end_of (start + 10) (length ds) ≡ end_of start (suc (length ds)) = omega arith in
    ap (λ es. record { to = start + 9; delta = e.value } ∷ es) (tens_pushed (start + 10) ds d)
    ∙ ap (λ to. (record { to = start + 9; delta = e.value } ∷ tens_from (start + 10) ds) ++ record { to = to; delta = d.value } ∷ []) same

ends_from : (start tens at : ℕ) (ds : List (Arc Delta Global)) → at ≡ start + 10 * tens → map end_in (tens_from at ds) ≡ map (end_of start) (range_with_len tens (length ds))
ends_from start tens at [] e = refl
ends_from start tens at (d ∷ ds) e =
    let here : at + 9 ≡ end_of start tens = omega arith in
    let later : at + 10 ≡ start + 10 * (tens + 1) = omega arith in
    ap (λ to. to ∷ map end_in (tens_from (at + 10) ds)) here ∙ ap (λ es. end_of start tens ∷ es) (ends_from start (tens + 1) (at + 10) ds later)

-- where they end
pub tens_end : (start : ℕ) (ds : List (Arc Delta Global)) → map end_in (tens_from start ds) ≡ ends_of_tens start (length ds)
tens_end start ds = ends_from start 0 start ds (omega arith)

pub tens_deltas : (start : ℕ) (ds : List (Arc Delta Global)) → map delta_in (tens_from start ds) ≡ map (λ (d : Arc Delta Global). d.value) ds
tens_deltas start [] = refl
tens_deltas start (d ∷ ds) = ap (λ es. d.value ∷ es) (tens_deltas (start + 10) ds)

-- ---- the first that isn't there

tens_rise : (start tens n from : ℕ) → from ≤ end_of start tens → Rise from (map (end_of start) (range_with_len tens n))
tens_rise start tens zero from below = tt
tens_rise start tens (suc n) from below = (below, tens_rise start (tens + 1) n (end_of start tens + 1) (omega arith))

all_walked : (start tens n : ℕ) → walked (end_of start tens) (map (end_of start) (range_with_len tens n)) ≡ end_of start (tens + n)
all_walked start tens zero = omega arith
all_walked start tens (suc n) =
    let rest = all_walked start (tens + 1) n in
    let next : end_of start tens + 10 ≡ end_of start (tens + 1) = omega arith in
    let same : end_of start (tens + 1 + n) ≡ end_of start (tens + suc n) = omega arith in
    grind (arith, nat_tests)

-- the ten behind those that are there, where the versions have room for it
pub next_ten : (start tens next : ℕ) → missing_end start (ends_of_tens start tens) (base_before next) ≡ cond (nat_lt (end_of start tens) next) (Some (end_of start tens)) None
next_ten start tens next =
    let Goal : Bool → Type 0 = λ b. next == 0 ≡ b → missing_end start (ends_of_tens start tens) (cond b None (Some (next - 1))) ≡ cond (nat_lt (end_of start tens) next) (Some (end_of start tens)) None in
    elim (next == 0) as Goal [
      | true ↦ λ e. grind (arith, nat_tests)
      | false ↦ λ e.
          let first : start + 9 ≡ end_of start 0 = omega arith in
          let walk : end_of start tens ≡ walked (start + 9) (ends_of_tens start tens) = sym (ap (λ w. walked w (ends_of_tens start tens)) first ∙ all_walked start 0 tens ∙ ap (end_of start) (omega arith)) in
          let found = walked_to start (next - 1) (end_of start tens) (ends_of_tens start tens) (tens_rise start 0 tens start (omega arith)) walk in
          grind (arith, nat_tests)
    ] refl

-- ranges with such cumulatives are in order
pub tens_in_order : (b : Option Base) (n : ℕ) (to : Option ℕ) (ends : List ℕ) → to ≡ option_map (λ (base : Base). base.to) b → ends ≡ ends_of_tens (start_of_base b) n → IsInOrder (record { base_to = to; cumulatives = ends })
tens_in_order b n to ends is are =
    let P : Option ℕ → List ℕ → Type 0 = λ t es. IsInOrder (record { base_to = t; cumulatives = es }) in
    let here : P (option_map (λ (base : Base). base.to) b) (ends_of_tens (start_of_base b) n) = tens_rise (start_of_base b) 0 n (start_of_base b) (omega arith) in
    subst (λ t. P t ends) (sym is) (subst (P (option_map (λ (base : Base). base.to) b)) (sym are) here)
