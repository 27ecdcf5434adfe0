-- The bound of the sums: of the totals of a batch's rows, and of those that stand in for them where they pass it by themselves.
use Rattle.std.proofs.Common.{◌≡◌, ℕ, ◌+◌, ◌<◌, min, List, [], ◌∷◌, length, map, refl, sym, ◌∙◌, ap, arith, Option, Some, None, Ok, Err, Result}
use Rattle.std.specs.Prelude.{Bool, true, false, ◌||◌, is_some, nat_le, position}
use Rattle.std.specs.List.{AllByRecursion, list_any}
use Rattle.std.proofs.lemmas.Bool.Decides.{nat_tests}
use Rattle.mesa_list.specs.Checks.{◌>>◌}
use Rattle.mesa_columns.proofs.Maps.{is_some_position, position_map}
use Rattle.mesa_batch.specs.Totals.{abs_total, capped, over_bound, sum_bound, totals_with}
use Rattle.mesa_model.specs.declared.replies.Refusal.{Refusal}

-- ---- none passes

pub none_passes : (totals more : List ℕ) → over_bound totals more ≡ None → list_any (λ total. nat_le sum_bound total) (totals_with totals more) ≡ false
none_passes totals more e = sym (is_some_position (λ total. nat_le sum_bound total) (totals_with totals more)) ∙ ap is_some e

pub not_some : (o : Option ℕ) → is_some o ≡ false → o ≡ None
not_some None e = refl
not_some (Some n) e = absurd (cc)

pub passes_none : (totals more : List ℕ) → list_any (λ total. nat_le sum_bound total) (totals_with totals more) ≡ false → over_bound totals more ≡ None
passes_none totals more e = not_some (over_bound totals more) (is_some_position (λ total. nat_le sum_bound total) (totals_with totals more) ∙ e)

pub neither : (a b : Bool) → (a || b) ≡ false → (a ≡ false) × (b ≡ false)
neither true b e = absurd (cc)
neither false b e = (refl, e)

-- ---- totals that were cut

same_over : (t m : ℕ) → nat_le sum_bound (t + min sum_bound m) ≡ nat_le sum_bound (t + m)
same_over t m = grind (arith, nat_tests)

over_alone : (t m : ℕ) → nat_le sum_bound (t + min sum_bound m) ≡ false → nat_le sum_bound m ≡ false
over_alone t m e = grind (arith, nat_tests)

small_same : (m : ℕ) → nat_le sum_bound m ≡ false → min sum_bound m ≡ m
small_same m e = grind (arith, nat_tests)

-- the first that passes is found among the tests
found : (bs cs : List Bool) → bs ≡ cs → position (λ b. b) bs ≡ position (λ b. b) cs
found bs cs e = ap (position (λ b. b)) e

tested : List ℕ → List ℕ → List Bool
tested totals more = map (λ total. nat_le sum_bound total) (totals_with totals more)

tested_cut : (totals more : List ℕ) → tested totals (capped more) ≡ tested totals more
unfolding tested
tested_cut [] more = refl
tested_cut (t ∷ totals) [] = refl
tested_cut (t ∷ totals) (m ∷ more) = λ i. same_over t m i ∷ tested_cut totals more i

-- totals that were cut pass the bound where the totals do
pub over_cut : (totals more : List ℕ) → over_bound totals (capped more) ≡ over_bound totals more
unfolding tested
over_cut totals more = sym (position_map (λ b. b) (λ total. nat_le sum_bound total) (totals_with totals (capped more))) ∙ found _ _ (tested_cut totals more) ∙ position_map (λ b. b) (λ total. nat_le sum_bound total) (totals_with totals more)

-- where none passes with those of a table, none does by itself
pub none_alone : (totals more : List ℕ) → length totals ≡ length more → over_bound totals (capped more) ≡ None → list_any (λ total. nat_le sum_bound total) more ≡ false
none_alone totals more len e = by totals more len (none_passes totals (capped more) e)
  where
    by : (totals more : List ℕ) → length totals ≡ length more → list_any (λ total. nat_le sum_bound total) (totals_with totals (capped more)) ≡ false → list_any (λ total. nat_le sum_bound total) more ≡ false
    by [] [] len e = refl
    by [] (m ∷ more) len e = absurd (omega arith)
    by (t ∷ totals) [] len e = refl
    by (t ∷ totals) (m ∷ more) len e =
        let both = neither (nat_le sum_bound (t + min sum_bound m)) (list_any (λ total. nat_le sum_bound total) (totals_with totals (capped more))) e in
        ap (λ b. b || list_any (λ total. nat_le sum_bound total) more) (over_alone t m both.0) ∙ by totals more (omega arith) both.1

-- and they weren't cut
pub uncut : (more : List ℕ) → list_any (λ total. nat_le sum_bound total) more ≡ false → capped more ≡ more
uncut [] e = refl
uncut (m ∷ more) e = let both = neither (nat_le sum_bound m) (list_any (λ total. nat_le sum_bound total) more) e in λ i. small_same m both.0 i ∷ uncut more both.1 i

-- ---- no rows

small : (t : ℕ) → t < sum_bound → nat_le sum_bound (t + 0) ≡ false
small t lt = grind (arith, nat_tests)

-- no rows pass no bound
pub nothing_over : (totals places : List ℕ) → AllByRecursion (λ total. total < sum_bound) totals → over_bound totals (map (λ column. abs_total column []) places) ≡ None
nothing_over totals places all = passes_none totals (map (λ column. abs_total column []) places) (by totals places all)
  where
    by : (totals places : List ℕ) → AllByRecursion (λ total. total < sum_bound) totals → list_any (λ total. nat_le sum_bound total) (totals_with totals (map (λ column. abs_total column []) places)) ≡ false
    by [] places all = refl
    by (t ∷ totals) [] all = refl
    by (t ∷ totals) (c ∷ places) all = ap (λ b. b || list_any (λ total. nat_le sum_bound total) (totals_with totals (map (λ column. abs_total column []) places))) (small t all.0) ∙ by totals places all.1

-- ---- checks one after another

pub both_ok : (a b : Result (Unit {0}) Refusal) → (a >> b) ≡ Ok tt → (a ≡ Ok tt) × (b ≡ Ok tt)
both_ok (Ok u) b e = (refl, e)
both_ok (Err x) b e = absurd (cc)
