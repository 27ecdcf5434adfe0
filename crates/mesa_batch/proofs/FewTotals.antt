-- How many totals a table has.
use Rattle.std.proofs.Common.{◌≡◌, ◌<◌, ◌≤◌, ◌+◌, ◌^◌, ℕ, List, [], ◌∷◌, length, Bool, true, false, Some, arith}
use Rattle.std.specs.Prelude.{◌==◌, ◌||◌, nat_le, nat_lt, zip}
use Rattle.std.proofs.lemmas.Bool.{lt-ltb}
use Rattle.std.proofs.lemmas.List.{length-map}
use Rattle.std.proofs.lemmas.List.Quantifiers.{position-Some}
use Rattle.std.proofs.lemmas.Slice.Zip.{length-zip}
use Rattle.mesa_schema.specs.mesa_value.declared.Agg.{Agg}
use Rattle.mesa_schema.specs.mesa_value.declared.Agg.TheVariants as agg
use Rattle.mesa_schema.specs.mesa_columns.Columns.{Columns, aggs_of}
use Rattle.mesa_schema.specs.mesa_columns.Schema.{is_schema}
use Rattle.mesa_schema.specs.mesa_columns.declared.columns.ValueColumn.{ValueColumn}
use Rattle.mesa_schema.proofs.Passing.{passed_if}
use Rattle.mesa_batch.specs.Totals.{over_bound, sum_bound, sum_places, totals_with}

pub few_sums : (i : ℕ) (aggs : List Agg) → length (sum_places i aggs) ≤ length aggs
few_sums i [] = omega arith
few_sums i (agg.Sum ∷ aggs) = omega (arith, few_sums (i + 1) aggs)
few_sums i (agg.Min ∷ aggs) = omega (arith, few_sums (i + 1) aggs)
few_sums i (agg.Max ∷ aggs) = omega (arith, few_sums (i + 1) aggs)
few_sums i (agg.Replace ∷ aggs) = omega (arith, few_sums (i + 1) aggs)

either_none : (a b : Bool) → (a || b) ≡ false → b ≡ false
either_none true b e = absurd (cc)
either_none false b e = e

pub few_values : (s : Columns) → is_schema s ≡ true → length s.values ≤ 16
few_values s h =
    let keys = passed_if (length s.keys == 0) _ _ h in
    let values = passed_if (length s.values == 0) _ _ keys.1 in
    let few = passed_if (nat_lt 16 (length s.keys) || nat_lt 16 (length s.values)) _ _ values.1 in
    let no : nat_lt 16 (length s.values) ≡ false = either_none _ _ few.0 in
    grind (arith, lt-ltb 16 (length s.values))

pub few_totals : (s : Columns) (totals : List ℕ) → is_schema s ≡ true → length totals ≡ length (sum_places 0 (aggs_of s)) → length totals ≤ 2 ^ 16
few_totals s totals h count = omega (arith, few_values s h, few_sums 0 (aggs_of s), length-map s.values (λ (c : ValueColumn). c.agg), count)

-- the place of a total over the bound
pub over_within : (totals more : List ℕ) (place : ℕ) → over_bound totals more ≡ Some place → place < length totals
over_within totals more place e =
    let found = position-Some (nat_le sum_bound) (totals_with totals more) place 0 e in
    omega (arith, found.0, length-map (zip totals more) (λ (p : ℕ × ℕ). p.0 + p.1), length-zip totals more)
