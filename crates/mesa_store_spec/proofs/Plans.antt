-- A plan's deltas fold to the content, and a work that was due is still one that may be swapped in.
use Rattle.std.proofs.Common.{◌≡◌, ℕ, zero, suc, ◌+◌, ◌-◌, ◌/◌, ◌≤◌, List, [], ◌∷◌, ◌++◌, map, Option, Some, None, Bool, true, false, cond, ◌&&◌, ◌==◌, nat_le, refl, sym, ◌∙◌, ap, subst, arith}
use Rattle.std.specs.Prelude.{find, option_map}
use Rattle.std.specs.List.{range_with_len}
use Rattle.std.proofs.lemmas.Bool.Decides.{nat_tests}
use Rattle.std.proofs.lemmas.List.{map-append}
use Rattle.mesa_history_spec.specs.mesa_columns.Columns.{aggs_of}
use Rattle.mesa_history_spec.specs.mesa_schema.Changes.{columns_of}
use Rattle.mesa_history_spec.specs.mesa_fold.Folded.{folded}
use Rattle.mesa_history_spec.proofs.mesa_columns.Lists.{all_found}
use Rattle.mesa_history_spec.specs.mesa_span.declared.ranges.Ranges.{Ranges}
use Rattle.mesa_history_spec.specs.mesa_span.declared.works.Work.{Work}
use Rattle.mesa_history_spec.specs.mesa_span.declared.works.Work.TheVariants as work
use Rattle.mesa_history_spec.specs.mesa_span.Plan.{longest}
use Rattle.mesa_history_spec.specs.mesa_span.Ranges.{base_before, end_of, start_of}
use Rattle.mesa_history_spec.specs.mesa_span.Work.{is_missing, missing_end, next_work}
use Rattle.mesa_history_spec.proofs.mesa_span.Longest.{longest_is}
use Rattle.mesa_history_spec.proofs.mesa_span.Reachable.{reachable_in_order}
use Rattle.mesa_store_spec.specs.Catalog.{Catalog, Ending, TableMeta, end_in, ranges_of, start_in}
use Rattle.mesa_store_spec.specs.Fitting.{base_deltas, is_number, may_be_base, may_be_cumulative, may_be_work}
use Rattle.mesa_store_spec.specs.Contents.{Rows, content, present}
use Rattle.mesa_store_spec.specs.Sound.{IsMerged, HasSoundRows}
use Rattle.mesa_store_spec.specs.Shape.{IsShaped}
use Rattle.mesa_store_spec.specs.Moves.{first_of, is_base, last_of}
use Rattle.mesa_store_spec.specs.Planned.{behind_base, ending_at, longest_to, planned}
use Rattle.mesa_store_spec.proofs.Altered.{plan_folds}
use Rattle.mesa_store_spec.proofs.Lists.{is_equal}

-- ---- plans

found_end : (endings : List Ending) (end : ℕ) (e : Ending) → find (λ (x : Ending). x.to == end) endings ≡ Some e → e.to ≡ end
found_end [] end e is = absurd cc
found_end (x ∷ endings) end e is = by (x.to == end) refl is (found_end endings end e)
  where
    by : (b : Bool) → (x.to == end) ≡ b → cond b (Some x) (find (λ (y : Ending). y.to == end) endings) ≡ Some e → (find (λ (y : Ending). y.to == end) endings ≡ Some e → e.to ≡ end) → e.to ≡ end
    by true at is rest = (let same : x ≡ e = cc in sym (ap end_in same) ∙ is_equal x.to end at)
    by false at is rest = rest is

module _ (rows : Rows) (floor next : ℕ) (t : TableMeta) (shaped : IsShaped floor next t) (sound_rows : HasSoundRows rows t) (version : ℕ) where
  with_cumulative : (end : ℕ) (e : Ending) → longest version (map end_in t.cumulatives) ≡ Some end → find (λ (x : Ending). x.to == end) t.cumulatives ≡ Some e
      → folded (aggs_of (columns_of t.lineage)) (map (present rows t.lineage) (base_deltas t.base ++ behind_base t version (Some e))) ≡ content rows t version
  with_cumulative end e long found =
      let is = longest_is (start_in t) version (map end_in t.cumulatives) end (reachable_in_order (ranges_of t) shaped.reachable) long in
      let at : e.to ≡ end = found_end t.cumulatives end e found in
      let behind = is.behind in
      let within = is.within in
      ap (folded (aggs_of (columns_of t.lineage))) (map-append (present rows t.lineage) (base_deltas t.base) (behind_base t version (Some e)))
      ∙ plan_folds rows t e version (omega (arith, at, behind)) (omega (arith, at, within)) (all_found (IsMerged rows t) (λ (x : Ending). x.to == end) t.cumulatives e found sound_rows.merged)

  by_longest : (o : Option ℕ) → longest version (map end_in t.cumulatives) ≡ o → (p : Option Ending) → ending_at t.cumulatives o ≡ p
      → folded (aggs_of (columns_of t.lineage)) (map (present rows t.lineage) (base_deltas t.base ++ behind_base t version p)) ≡ content rows t version
  by_longest o long None found = refl
  by_longest None long (Some e) found = absurd cc
  by_longest (Some end) long (Some e) found = with_cumulative end e long found

  -- A plan's deltas fold to the content.
  pub planned_folds : folded (aggs_of (columns_of t.lineage)) (map (present rows t.lineage) (planned t version)) ≡ content rows t version
  planned_folds = by_longest (longest version (map end_in t.cumulatives)) refl (longest_to t version) refl

-- ---- works that were due

found_more : (p : ℕ → Bool) (f : ℕ → ℕ) (i k j x : ℕ) → find p (map f (range_with_len i k)) ≡ Some x → find p (map f (range_with_len i (k + j))) ≡ Some x
found_more p f i zero j x is = let no : None ≡ Some x = is in cc
found_more p f i (suc k) j x is =
    let e : suc k + j ≡ suc (k + j) = omega arith in
    subst (λ n. find p (map f (range_with_len i n)) ≡ Some x) (sym e) (by (p (f i)) (λ more. found_more p f (i + 1) k j x more) is)
  where
    by : (b : Bool) → (find p (map f (range_with_len (i + 1) k)) ≡ Some x → find p (map f (range_with_len (i + 1) (k + j))) ≡ Some x)
        → cond b (Some (f i)) (find p (map f (range_with_len (i + 1) k))) ≡ Some x → cond b (Some (f i)) (find p (map f (range_with_len (i + 1) (k + j)))) ≡ Some x
    by true rest e = e
    by false rest e = rest e

tens_rise : (start a b : ℕ) → a ≤ b → (a + 1 - start) / 10 ≤ (b + 1 - start) / 10
tens_rise start a b le = omega (arith, le)

missing_stays : (start : ℕ) (ends : List ℕ) (a b to : ℕ) → a ≤ b → missing_end start ends (Some a) ≡ Some to → missing_end start ends (Some b) ≡ Some to
missing_stays start ends a b to le is =
    let few = tens_rise start a b le in
    let more : (a + 1 - start) / 10 + ((b + 1 - start) / 10 - (a + 1 - start) / 10) ≡ (b + 1 - start) / 10 = omega (arith, few) in
    subst (λ n. find (is_missing ends) (map (end_of start) (range_with_len 0 n)) ≡ Some to) more (found_more (is_missing ends) (end_of start) 0 ((a + 1 - start) / 10) ((b + 1 - start) / 10 - (a + 1 - start) / 10) to is)

base_suc : (n : ℕ) → base_before (suc n) ≡ Some n
base_suc n =
    let e : (suc n == 0) ≡ false = grind (arith, nat_tests) in
    let m : suc n - 1 ≡ n = omega arith in
    ap (λ b. cond b None (Some (suc n - 1))) e ∙ ap Some m

-- an end that was missing is missing when there are more versions
missing_later : (start : ℕ) (ends : List ℕ) (n next to : ℕ) → n ≤ next → missing_end start ends (base_before n) ≡ Some to → missing_end start ends (base_before next) ≡ Some to
missing_later start ends zero next to le is = let no : None ≡ Some to = is in cc
missing_later start ends (suc n) zero to le is = absurd (omega (arith, le))
missing_later start ends (suc n) (suc m) to le is =
    subst (λ o. missing_end start ends o ≡ Some to) (sym (base_suc m)) (missing_stays start ends n m to (omega (arith, le)) (subst (λ o. missing_end start ends o ≡ Some to) (base_suc n) is))

le_is : (a b : ℕ) → a ≤ b → nat_le a b ≡ true
le_is a b le = grind (arith, nat_tests)

two_true : (a b : Bool) → a ≡ true → b ≡ true → (a && b) ≡ true
two_true true b e f = f
two_true false b e f = absurd (let g : false ≡ true = e in cc)

same_number : (n : ℕ) → (n == n) ≡ true
same_number n = grind (arith, nat_tests)

module _ (r : Ranges) (q oldest n next : ℕ) (w : Work) (later : q ≤ oldest) (more : n ≤ next) where
  abbrev Fits : Work → Type 0
  Fits w = (elim (is_base w) as (λ b. Bool) [ true ↦ may_be_base r oldest (first_of w) (last_of w) | false ↦ may_be_cumulative r next (first_of w) (last_of w) ]) ≡ true

  base_fits : (nat_le 1 q && nat_le (start_of r) q) ≡ true → Fits (work.Base q)
  base_fits e = two_true (nat_le 1 q && nat_le (start_of r) q) (nat_le q oldest) e (le_is q oldest later)

  cumulative_fits : (to : ℕ) → missing_end (start_of r) r.cumulatives (base_before n) ≡ Some to → Fits (work.Cumulative (start_of r) to)
  cumulative_fits to is =
      two_true (start_of r == start_of r) (is_number (missing_end (start_of r) r.cumulatives (base_before next)) to) (same_number (start_of r))
      (ap (λ m. is_number m to) (missing_later (start_of r) r.cumulatives n next to more is) ∙ same_number to)

  due_fits : next_work r q (base_before n) ≡ Some w → Fits w
  due_fits is = by (nat_le 1 q && nat_le (start_of r) q) refl (missing_end (start_of r) r.cumulatives (base_before n)) refl is
    where
      by : (b : Bool) → (nat_le 1 q && nat_le (start_of r) q) ≡ b → (m : Option ℕ) → missing_end (start_of r) r.cumulatives (base_before n) ≡ m → cond b (Some (work.Base q)) (option_map (work.Cumulative (start_of r)) m) ≡ Some w → Fits w
      by true e m missing is = let same : work.Base q ≡ w = cc in subst Fits same (base_fits e)
      by false e None missing is = absurd cc
      by false e (Some to) missing is = let same : work.Cumulative (start_of r) to ≡ w = cc in subst Fits same (cumulative_fits to missing)

-- A work that was due for these ranges may be swapped in while they stay: the table's oldest version and the newest only rise.
pub due_work_fits : (c : Catalog) (t : TableMeta) (q n : ℕ) (w : Work) → next_work (ranges_of t) q (base_before n) ≡ Some w → q ≤ t.oldest → n ≤ c.next → may_be_work c t (is_base w) (first_of w) (last_of w) ≡ true
due_work_fits c t q n w is later more = by w (due_fits (ranges_of t) q t.oldest n c.next w later more is)
  where
    by : (w : Work) → Fits (ranges_of t) q t.oldest n c.next w later more w → may_be_work c t (is_base w) (first_of w) (last_of w) ≡ true
    by (work.Base to) fit = fit
    by (work.Cumulative from to) fit = fit
