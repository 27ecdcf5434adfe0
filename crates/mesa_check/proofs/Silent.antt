-- Where a table has no faults: what holds of its ranges.
use Rattle.std.proofs.Common.{◌≡◌, ℕ, ◌+◌, List, [], ◌∷◌, ◌++◌, map, take, drop, Bool, true, false, not, ◌&&◌, ◌==◌, Option, Some, None, refl, ◌∙◌, ap, arith}
use Rattle.std.proofs.lemmas.Bool.Decides.{nat_tests}
use Rattle.std.specs.Prelude.{◌||◌, cond, filter, is_some}
use Rattle.std.specs.List.{AllByRecursion}
use Rattle.mesa_schema.proofs.mesa_columns.Lists.{all_append, all_so}
use Rattle.mesa_store_spec.proofs.Lists.{all_front, all_back, all_unmap}
use Rattle.mesa_store_spec.specs.Catalog.{Delta, Ending, TableMeta, start_in}
use Rattle.mesa_store_spec.specs.Fitting.{base_deltas}
use Rattle.mesa_check.specs.Found.{Found}
use Rattle.mesa_check.specs.Ranges.{Range, base_range, checked_ranges, cumulative_range, is_range, single_ranges, totals_range}
use Rattle.mesa_check.specs.Faults.{exceeds_totals, fails, fault_of, has_false_totals, is_found, is_totalled, keys_shown, merged_keys, range_faults, view_keys}
use Rattle.mesa_check.proofs.KeyLists.{all_filtered, all_one_and_rest, both_nil, false_parts, first_all, last_false, nil_map, not_false, and_true}

-- A range has no faults: it doesn't fail, and no key shows one.
pub record IsSilent (found : Found) (t : TableMeta) (r : Range) : Type 0 where
  pub stands : fails found t r ≡ false
  pub merged : merged_keys found t r ≡ []
  pub views : view_keys found t.lineage r.delta ≡ []

none_before : {A : Type 0} (b : Bool) (x : A) → cond b (x ∷ []) [] ≡ [] → b ≡ false
none_before true x e = absurd cc
none_before false x e = refl

pub silent : (found : Found) (t : TableMeta) (r : Range) → range_faults found t r ≡ [] → IsSilent found t r
silent found t r e =
    let all = nil_map (fault_of t r) (cond (fails found t r) (None ∷ []) [] ++ map Some (keys_shown found t r)) e in
    let parts = both_nil (cond (fails found t r) (None ∷ []) []) (map Some (keys_shown found t r)) all in
    let keys = both_nil (merged_keys found t r) (view_keys found t.lineage r.delta) (nil_map Some (keys_shown found t r) parts.1) in
    record { stands = none_before (fails found t r) None parts.0; merged = keys.0; views = keys.1 }

-- ---- all ranges of a table

module _ (P : Range → Type 0) (t : TableMeta) (all : AllByRecursion P (checked_ranges t)) where
  abbrev singles : List Range
  singles = single_ranges (start_in t) t.singles

  abbrev cumulatives : List Range
  cumulatives = map (cumulative_range (start_in t)) t.cumulatives

  behind : AllByRecursion P (take 1 singles ++ (cumulatives ++ drop 1 singles))
  behind = all_back P (base_range t.base) (take 1 singles ++ (cumulatives ++ drop 1 singles)) all

  last : AllByRecursion P (cumulatives ++ drop 1 singles)
  last = all_back P (take 1 singles) (cumulatives ++ drop 1 singles) behind

  pub of_base : AllByRecursion P (base_range t.base)
  of_base = all_front P (base_range t.base) (take 1 singles ++ (cumulatives ++ drop 1 singles)) all

  pub of_cumulatives : AllByRecursion (λ e. P (cumulative_range (start_in t) e)) t.cumulatives
  of_cumulatives = all_unmap P (cumulative_range (start_in t)) t.cumulatives (all_front P cumulatives (drop 1 singles) last)

  pub of_singles : AllByRecursion P (single_ranges (start_in t) t.singles)
  of_singles = all_one_and_rest P singles (all_front P (take 1 singles) (cumulatives ++ drop 1 singles) behind) (all_back P cumulatives (drop 1 singles) last)

-- what holds of each range of a singleton holds of the singleton
pub of_deltas : (P : Delta → Type 0) (version : ℕ) (deltas : List Delta) → AllByRecursion (λ (r : Range). P r.delta) (single_ranges version deltas) → AllByRecursion P deltas
of_deltas P version [] all = tt
of_deltas P version (d ∷ deltas) all = (all.0, of_deltas P (version + 1) deltas all.1)

-- ---- what a table without faults has

same_number : (n : ℕ) → (n == n) ≡ true
same_number n = grind (arith, nat_tests)

-- a range is its own
pub is_itself : (o : Option Range) (r : Range) → o ≡ Some r → is_range o r ≡ true
is_itself o r e = ap (λ p. is_range p r) e ∙ and_true (r.from == r.from) (r.to == r.to) (same_number r.from) (same_number r.to)

module _ (found : Found) (t : TableMeta) (all : AllByRecursion (IsSilent found t) (checked_ranges t)) where
  parts_of : (r : Range) → IsSilent found t r → (is_found found t.lineage r.delta ≡ true) × (has_false_totals found t r ≡ false) × ((is_range (totals_range t) r && exceeds_totals found t) ≡ false)
  parts_of r s =
      let two = false_parts (not (is_found found t.lineage r.delta) || has_false_totals found t r) (is_range (totals_range t) r && exceeds_totals found t) s.stands in
      let one = false_parts (not (is_found found t.lineage r.delta)) (has_false_totals found t r) two.0 in
      (not_false (is_found found t.lineage r.delta) one.0, one.1, two.1)

  found_in : (rs : List Range) → AllByRecursion (IsSilent found t) rs → AllByRecursion (λ (r : Range). is_found found t.lineage r.delta ≡ true) rs
  found_in rs its = all_so (IsSilent found t) (λ (r : Range). is_found found t.lineage r.delta ≡ true) rs (λ r s. (parts_of r s).0) its

  pub base_found : AllByRecursion (λ d. is_found found t.lineage d ≡ true) (base_deltas t.base)
  base_found = by t.base (found_in (base_range t.base) (of_base (IsSilent found t) t all))
    where
      by : (o : Option Ending) → AllByRecursion (λ (r : Range). is_found found t.lineage r.delta ≡ true) (base_range o) → AllByRecursion (λ d. is_found found t.lineage d ≡ true) (base_deltas o)
      by None its = tt
      by (Some e) its = its

  pub singles_found : AllByRecursion (λ d. is_found found t.lineage d ≡ true) t.singles
  singles_found = of_deltas (λ d. is_found found t.lineage d ≡ true) (start_in t) t.singles (found_in (single_ranges (start_in t) t.singles) (of_singles (IsSilent found t) t all))

  pub cumulatives_found : AllByRecursion (λ (e : Ending). is_found found t.lineage e.delta ≡ true) t.cumulatives
  cumulatives_found = all_so (λ e. IsSilent found t (cumulative_range (start_in t) e)) (λ (e : Ending). is_found found t.lineage e.delta ≡ true) t.cumulatives (λ e s. (parts_of (cumulative_range (start_in t) e) s).0) (of_cumulatives (IsSilent found t) t all)

  totalled_from : (version : ℕ) (deltas : List Delta) → AllByRecursion (IsSilent found t) (single_ranges version deltas) → AllByRecursion (λ d. is_totalled found t.lineage d ≡ true) deltas
  totalled_from version [] its = tt
  totalled_from version (d ∷ deltas) its = (not_false (is_totalled found t.lineage d) (parts_of _ its.0).1, totalled_from (version + 1) deltas its.1)

  pub singles_totalled : AllByRecursion (λ d. is_totalled found t.lineage d ≡ true) t.singles
  singles_totalled = totalled_from (start_in t) t.singles (of_singles (IsSilent found t) t all)

  -- where a range tells of the table's totals, these aren't exceeded
  pub not_exceeded : (r : Range) → totals_range t ≡ Some r → exceeds_totals found t ≡ false
  not_exceeded r e =
      let its = first_all (IsSilent found t) (base_range t.base ++ filter (λ (q : Range). is_some q.delta.files) (single_ranges (start_in t) t.singles)) r e
      (all_append (IsSilent found t) (base_range t.base) _ (of_base (IsSilent found t) t all) (all_filtered (IsSilent found t) (λ (q : Range). is_some q.delta.files) (single_ranges (start_in t) t.singles) (of_singles (IsSilent found t) t all))) in
      last_false (is_range (totals_range t) r) (exceeds_totals found t) (is_itself (totals_range t) r e) (parts_of r its).2
