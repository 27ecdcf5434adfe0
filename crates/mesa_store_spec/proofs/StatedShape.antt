-- A checkpoint that fits states a catalogue.
use Rattle.std.proofs.Common.{◌≡◌, ◌⊎◌, inl, inr, ℕ, suc, ◌+◌, ◌-◌, ◌*◌, ◌<◌, ◌≤◌, List, [], ◌∷◌, ◌++◌, map, length, replicate, Bool, true, false, ◌&&◌, ◌||◌, ◌==◌, nat_le, nat_lt, is_ok, Option, Some, None, Result, Ok, Err, cond, append_assoc, refl, sym, ◌∙◌, ap, subst, arith, length-append}
use Rattle.std.proofs.lemmas.Bool.Decides.{nat_tests}
use Rattle.std.proofs.lemmas.List.Sums.{sum_by-cons}
use Rattle.std.proofs.lemmas.Bool.{cases_lt}
use Rattle.std.proofs.lemmas.List.{length-replicate, append-nil}
use Rattle.mesa_history_spec.specs.mesa_list.Checks.{◌>>◌, refuse_if}
use Rattle.std.specs.Prelude.{option_map}
use Rattle.std.specs.List.{AllByRecursion, list_all, range_with_len}
use Rattle.std.proofs.lemmas.List.{take_all}
use Rattle.mesa_history_spec.specs.mesa_columns.declared.changes.Change.{Change}
use Rattle.mesa_history_spec.specs.mesa_columns.declared.changes.Change.TheVariants.{AddKey, AddValue, DropValue}
use Rattle.mesa_history_spec.specs.mesa_columns.declared.changes.ChangeError.TheVariants.{EpochsFull}
use Rattle.mesa_history_spec.specs.mesa_columns.declared.views.View.{View}
use Rattle.mesa_history_spec.specs.mesa_columns.Columns.{Columns, aggs_of}
use Rattle.mesa_history_spec.specs.mesa_columns.Schema.{is_schema}
use Rattle.mesa_history_spec.specs.mesa_columns.Changes.{changed, columns_after}
use Rattle.mesa_history_spec.specs.mesa_schema.Changes.{Lineage, change_checked, columns_at, columns_of, epoch_of, max_changes, rule_checked}
use Rattle.mesa_history_spec.specs.mesa_schema.Views.{max_views}
use Rattle.mesa_history_spec.specs.mesa_schema.Lineages.{IsLineage, is_view_of}
use Rattle.mesa_history_spec.proofs.mesa_schema.LineageChanges.{lineage_changed, lineage_viewed}
use Rattle.mesa_history_spec.proofs.mesa_columns.Lists.{all_append, all_replicate, all_so}
use Rattle.mesa_history_spec.proofs.mesa_schema.PresentRows.{columns_more}
use Rattle.mesa_history_spec.specs.mesa_batch.Totals.{sum_bound, sums_in}
use Rattle.mesa_history_spec.specs.mesa_span.Ranges.{start_behind, end_of, ends_of_tens, IsReachable}
use Rattle.mesa_history_spec.specs.mesa_model.Warehouse.{max_tables, max_versions}
use Rattle.mesa_record.specs.mesa_record_fields.Rules.{IsTypedChange}
use Rattle.mesa_store_spec.specs.Catalog.{Delta, Ending, empty_delta, end_in, ranges_of, start_in}
use Rattle.mesa_record.specs.declared.record.Files.{Files}
use Rattle.mesa_store_spec.specs.Fitting.{base_deltas, delta_in, files_fit_if_any, has_epoch, run_of_id}
use Rattle.mesa_store_spec.specs.Shape.{HasBegun, HasBegunIfAny, IsShaped, IsCatalog, IsWithinBound}
use Rattle.mesa_store_spec.specs.Ids.{HasOwnIds, named, times}
use Rattle.mesa_store_spec.proofs.Defaults.{default_read}
use Rattle.mesa_store_spec.proofs.Lists.{both_true, is_at_most, is_equal, is_less}
use Rattle.mesa_record.specs.declared.checkpoint.CheckpointRange.{CheckpointRange}
use Rattle.mesa_record.specs.declared.checkpoint.CheckpointSingle.{CheckpointSingle}
use Rattle.mesa_record.specs.declared.checkpoint.CheckpointTable.{CheckpointTable}
use Rattle.mesa_record.specs.declared.checkpoint.Checkpoint.{Checkpoint}
use Rattle.mesa_store_spec.specs.Checkpoint.{lineage_stated, range_stated, single_stated, singles_stated, start_stated, meta_stated, stated, to_stated}
use Rattle.mesa_store_spec.specs.CheckpointFits.{plain, changes_pass, lineage_fits, delta_fits, range_fits, base_fits, are_tens, are_singles, single_fits, totals_fit, ranges_fit, singles_fit, starts_fit, table_fits, names_differ, ids_fit, oldest_fits, counts_fit, tables_fit}

-- ---- tests

all_true : {A : Type 0} (p : A → Bool) (xs : List A) → list_all p xs ≡ true → AllByRecursion (λ x. p x ≡ true) xs
all_true p [] e = tt
all_true p (x ∷ xs) e = let both = both_true (p x) (list_all p xs) e in (both.0, all_true p xs both.1)

pub all_below : (totals : List ℕ) → list_all (λ total. nat_lt total sum_bound) totals ≡ true → AllByRecursion (λ total. total < sum_bound) totals
all_below totals e = all_so (λ total. nat_lt total sum_bound ≡ true) (λ total. total < sum_bound) totals (λ total low. is_less total sum_bound low) (all_true (λ total. nat_lt total sum_bound) totals e)

-- ---- a table's columns

lineage_with : ℕ → Columns → List Change → List View → Lineage
lineage_with begins first changes views = record { begins = begins; first = first; changes = changes; views = views }

-- the columns of a first epoch
lineage_first : (begins : ℕ) (first : Columns) → is_schema first ≡ true → begins ≤ max_changes → IsLineage (lineage_with begins first [] [])
unfolding lineage_with
lineage_first begins first e few = record {
  schemas = λ epoch. ap (λ (changes : List Change). is_schema (columns_after first changes)) (take_all (epoch - begins) [] (omega arith)) ∙ e;
  defaults = tt;
  views = refl;
  few_changes = omega (arith, few);
  few_views = omega arith;
}

same_rule : (begins : ℕ) (first : Columns) (done : List Change) (c : Change) → rule_checked (plain (columns_after first done)) c ≡ rule_checked (lineage_with begins first done []) c
unfolding lineage_with
same_rule begins first done (AddValue column default) = refl
same_rule begins first done (DropValue name) = refl
same_rule begins first done (AddKey column default) = refl

ok_then : {E A B : Type 0} (r : Result A E) (rest : Result B E) → is_ok r ≡ true → is_ok rest ≡ true → is_ok (r >> rest) ≡ true
ok_then (Ok x) rest e f = f
ok_then (Err x) rest e f = absurd (let g : false ≡ true = e in cc)

ok_unless : {E : Type 0} (b : Bool) (e : E) → b ≡ false → is_ok (refuse_if b e) ≡ true
ok_unless false e f = refl
ok_unless true e f = absurd (let g : true ≡ false = f in cc)

allowed : (l : Lineage) (c : Change) → is_ok (rule_checked l c) ≡ true → epoch_of l < max_changes → is_ok (change_checked l c) ≡ true
allowed l c rule few = ok_then (rule_checked l c) _ rule (ok_unless (nat_le max_changes (epoch_of l)) EpochsFull (let low : nat_le max_changes (epoch_of l) ≡ false = grind (arith, nat_tests) in low))

-- changes after changes
lineage_from : (begins : ℕ) (first : Columns) (done cs : List Change) → IsLineage (lineage_with begins first done []) → AllByRecursion IsTypedChange cs → changes_pass (columns_after first done) cs ≡ true → begins + length done + length cs ≤ max_changes
    → IsLineage (lineage_with begins first (done ++ cs) [])
unfolding lineage_with
lineage_from begins first done [] is typed e few = subst (λ changes. IsLineage (lineage_with begins first changes [])) (sym (append-nil done)) is
lineage_from begins first done (c ∷ cs) is typed e few =
    let l = lineage_with begins first done [] in
    let both = both_true (is_ok (rule_checked (plain (columns_after first done)) c)) (changes_pass (changed (columns_after first done) c) cs) e in
    let rule : is_ok (rule_checked l c) ≡ true = ap is_ok (sym (same_rule begins first done c)) ∙ both.0 in
    let next : IsLineage (lineage_with begins first (done ++ c ∷ []) []) = lineage_changed l c is (default_read l c typed.0 rule) (allowed l c rule (omega (arith, few))) in
    let rest : changes_pass (columns_after first (done ++ c ∷ [])) cs ≡ true = ap (λ (s : Columns). changes_pass s cs) (columns_more l c) ∙ both.1 in
    subst (λ changes. IsLineage (lineage_with begins first changes [])) (append_assoc done (c ∷ []) cs)
    (lineage_from begins first (done ++ c ∷ []) cs next typed.1 rest (omega (arith, few, length-append done (c ∷ []))))

-- and views after views
viewed_from : (begins : ℕ) (first : Columns) (changes : List Change) (done vs : List View) → IsLineage (lineage_with begins first changes done) → list_all (is_view_of (columns_after first changes)) vs ≡ true → length done + length vs ≤ max_views
    → IsLineage (lineage_with begins first changes (done ++ vs))
unfolding lineage_with
viewed_from begins first changes done [] is e few = subst (λ views. IsLineage (lineage_with begins first changes views)) (sym (append-nil done)) is
viewed_from begins first changes done (v ∷ vs) is e few =
    let both = both_true (is_view_of (columns_after first changes) v) (list_all (is_view_of (columns_after first changes)) vs) e in
    let next : IsLineage (lineage_with begins first changes (done ++ v ∷ [])) = lineage_viewed (lineage_with begins first changes done) v is (omega (arith, few)) both.0 in
    subst (λ views. IsLineage (lineage_with begins first changes views)) (append_assoc done (v ∷ []) vs)
    (viewed_from begins first changes (done ++ v ∷ []) vs next both.1 (omega (arith, few, length-append done (v ∷ []))))

lineage_fit : (l : Lineage) → lineage_fits l ≡ true → AllByRecursion IsTypedChange l.changes → IsLineage l
unfolding lineage_with
lineage_fit l e typed =
    let last = both_true (is_schema l.first && changes_pass l.first l.changes && nat_le (epoch_of l) max_changes && list_all (is_view_of (columns_of l)) l.views) (nat_le (length l.views) max_views) e in
    let views = both_true (is_schema l.first && changes_pass l.first l.changes && nat_le (epoch_of l) max_changes) (list_all (is_view_of (columns_of l)) l.views) last.0 in
    let few = both_true (is_schema l.first && changes_pass l.first l.changes) (nat_le (epoch_of l) max_changes) views.0 in
    let first = both_true (is_schema l.first) (changes_pass l.first l.changes) few.0 in
    let most : epoch_of l ≤ max_changes = is_at_most (epoch_of l) max_changes few.1 in
    let made : IsLineage (lineage_with l.begins l.first [] []) = lineage_first l.begins l.first first.0 (omega (arith, most)) in
    let changed : IsLineage (lineage_with l.begins l.first l.changes []) = lineage_from l.begins l.first [] l.changes made typed first.1 (omega (arith, most)) in
    viewed_from l.begins l.first l.changes [] l.views changed views.1 (omega (arith, is_at_most (length l.views) max_views last.1))

-- ---- its deltas

start_of_stated : (next : ℕ) (t : CheckpointTable) → start_in (meta_stated next t) ≡ start_stated t
start_of_stated next t = by t.base
  where
    by : (o : Option CheckpointRange) → start_behind (option_map end_in (option_map range_stated o)) ≡ start_behind (option_map to_stated o)
    by None = refl
    by (Some r) = refl

singles_count : (from next : ℕ) (singles : List CheckpointSingle) → from ≤ next → are_singles from next singles ≡ true → from + length (singles_stated from next singles) ≡ next
singles_count from next [] le e = omega (arith, le, length-replicate (next - from) empty_delta)
singles_count from next (s ∷ singles) le e =
    let last = both_true (nat_le from s.version && nat_lt s.version next) (are_singles (s.version + 1) next singles) e in
    let both = both_true (nat_le from s.version) (nat_lt s.version next) last.0 in
    let low : from ≤ s.version = is_at_most from s.version both.0 in
    let high : s.version < next = is_less s.version next both.1 in
    let rest = singles_count (s.version + 1) next singles (omega (arith, high)) last.1 in
    omega (arith, rest, low, length-append (replicate (s.version - from) empty_delta) (single_stated s ∷ singles_stated (s.version + 1) next singles), length-replicate (s.version - from) empty_delta)

tens : (start n : ℕ) (rs : List CheckpointRange) → are_tens (start + 10 * n) rs ≡ true → map end_in (map range_stated rs) ≡ map (end_of start) (range_with_len n (length (map end_in (map range_stated rs))))
tens start n [] e = refl
tens start n (r ∷ rs) e =
    let both = both_true (r.to == start + 10 * n + 9) (are_tens (start + 10 * n + 10) rs) e in
    let same : r.to ≡ start + 10 * n + 9 = is_equal r.to (start + 10 * n + 9) both.0 in
    let at : start + 10 * n + 10 ≡ start + 10 * (n + 1) = omega arith in
    let rest = tens start (n + 1) rs (ap (λ k. are_tens k rs) (sym at) ∙ both.1) in
    λ i. same i ∷ rest i

-- the epoch of a delta that fits
epoch_since : (l : Lineage) (epoch : ℕ) (files : Option Files) → delta_fits l epoch files ≡ true → (l.begins ≤ epoch) × (epoch ≤ epoch_of l)
epoch_since l epoch files e =
    let both = both_true (nat_le l.begins epoch) (nat_le epoch (epoch_of l)) (both_true (has_epoch l epoch) (files_fit_if_any l epoch files) e).0 in
    (is_at_most l.begins epoch both.0, is_at_most epoch (epoch_of l) both.1)

epoch_fit : (l : Lineage) (d : Delta) → delta_fits l d.epoch d.files ≡ true → d.epoch ≤ epoch_of l
epoch_fit l d e = (epoch_since l d.epoch d.files e).1

oldest_fit : (oldest next : ℕ) → oldest_fits oldest next ≡ true → (oldest < next) ⊎ ((oldest ≡ 0) × (next ≡ 0))
oldest_fit oldest next e = by (nat_lt oldest next) refl
  where
    by : (b : Bool) → nat_lt oldest next ≡ b → (oldest < next) ⊎ ((oldest ≡ 0) × (next ≡ 0))
    by true is = inl (is_less oldest next is)
    by false is =
        let rest : ((oldest == 0) && (next == 0)) ≡ true = ap (λ b. b || ((oldest == 0) && (next == 0))) (sym is) ∙ e in
        let both = both_true (oldest == 0) (next == 0) rest in
        inr (is_equal oldest 0 both.0, is_equal next 0 both.1)

module _ (next : ℕ) (t : CheckpointTable) where
  abbrev l : Lineage
  l = lineage_stated t

  abbrev E : Delta → Type 0
  E d = d.epoch ≤ epoch_of l

  base_low : (o : Option CheckpointRange) → base_fits l t.oldest next o ≡ true → (start_behind (option_map to_stated o) ≤ t.oldest + 1) × (start_behind (option_map to_stated o) ≤ next) × AllByRecursion E (base_deltas (option_map range_stated o))
  base_low None e = (omega arith, omega arith, tt)
  base_low (Some r) e =
      let both = both_true (nat_le r.to t.oldest) (range_fits l next r) e in
      let fit = both_true (nat_lt r.to next) (delta_fits l r.epoch r.files) both.1 in
      let low : r.to ≤ t.oldest = is_at_most r.to t.oldest both.0 in
      let high : r.to < next = is_less r.to next fit.0 in
      (omega (arith, low), omega (arith, high), (epoch_fit l (range_stated r).delta fit.1, tt))

  ranges_low : (rs : List CheckpointRange) → list_all (range_fits l next) rs ≡ true → AllByRecursion (λ (e : Ending). e.to < next) (map range_stated rs) × AllByRecursion E (map delta_in (map range_stated rs))
  ranges_low [] e = (tt, tt)
  ranges_low (r ∷ rs) e =
      let both = both_true (range_fits l next r) (list_all (range_fits l next) rs) e in
      let fit = both_true (nat_lt r.to next) (delta_fits l r.epoch r.files) both.0 in
      let rest = ranges_low rs both.1 in
      ((is_less r.to next fit.0, rest.0), (epoch_fit l (range_stated r).delta fit.1, rest.1))

  singles_low : (from : ℕ) (ss : List CheckpointSingle) → list_all (single_fits l) ss ≡ true → AllByRecursion E (singles_stated from next ss)
  singles_low from [] e = all_replicate E empty_delta (next - from) (omega arith)
  singles_low from (s ∷ ss) e =
      let both = both_true (single_fits l s) (list_all (single_fits l) ss) e in
      let fit = both_true (delta_fits l s.epoch (Some s.files)) _ both.0 in
      all_append E (replicate (s.version - from) empty_delta) (single_stated s ∷ singles_stated (s.version + 1) next ss) (all_replicate E empty_delta (s.version - from) (omega arith))
      (epoch_fit l (single_stated s) fit.0, singles_low (s.version + 1) ss both.1)

  base_since : (o : Option CheckpointRange) → base_fits l t.oldest next o ≡ true → AllByRecursion (HasBegun l) (base_deltas (option_map range_stated o))
  base_since None e = tt
  base_since (Some r) e =
      let both = both_true (nat_le r.to t.oldest) (range_fits l next r) e in
      let fit = both_true (nat_lt r.to next) (delta_fits l r.epoch r.files) both.1 in
      ((epoch_since l r.epoch r.files fit.1).0, tt)

  ranges_since : (rs : List CheckpointRange) → list_all (range_fits l next) rs ≡ true → AllByRecursion (HasBegun l) (map delta_in (map range_stated rs))
  ranges_since [] e = tt
  ranges_since (r ∷ rs) e =
      let both = both_true (range_fits l next r) (list_all (range_fits l next) rs) e in
      let fit = both_true (nat_lt r.to next) (delta_fits l r.epoch r.files) both.0 in
      ((epoch_since l r.epoch r.files fit.1).0, ranges_since rs both.1)

  singles_since : (from : ℕ) (ss : List CheckpointSingle) → list_all (single_fits l) ss ≡ true → AllByRecursion (HasBegunIfAny l) (singles_stated from next ss)
  singles_since from [] e = all_replicate (HasBegunIfAny l) empty_delta (next - from) tt
  singles_since from (s ∷ ss) e =
      let both = both_true (single_fits l s) (list_all (single_fits l) ss) e in
      let fit = both_true (delta_fits l s.epoch (Some s.files)) (totals_fit (columns_at l s.epoch) s.totals) both.0 in
      all_append (HasBegunIfAny l) (replicate (s.version - from) empty_delta) (single_stated s ∷ singles_stated (s.version + 1) next ss) (all_replicate (HasBegunIfAny l) empty_delta (s.version - from) tt)
      ((epoch_since l s.epoch (Some s.files) fit.0).0, singles_since (s.version + 1) ss both.1)

  base_within : (o : Option CheckpointRange) → AllByRecursion IsWithinBound (base_deltas (option_map range_stated o))
  base_within None = tt
  base_within (Some r) = (tt, tt)

  ranges_within : (rs : List CheckpointRange) → AllByRecursion IsWithinBound (map delta_in (map range_stated rs))
  ranges_within [] = tt
  ranges_within (r ∷ rs) = (tt, ranges_within rs)

  singles_within : (from : ℕ) (ss : List CheckpointSingle) → list_all (single_fits l) ss ≡ true → AllByRecursion IsWithinBound (singles_stated from next ss)
  singles_within from [] e = all_replicate IsWithinBound empty_delta (next - from) tt
  singles_within from (s ∷ ss) e =
      let both = both_true (single_fits l s) (list_all (single_fits l) ss) e in
      let fit = both_true (delta_fits l s.epoch (Some s.files)) (totals_fit (columns_at l s.epoch) s.totals) both.0 in
      let totals = both_true (length s.totals == sums_in (aggs_of (columns_at l s.epoch))) (list_all (λ total. nat_lt total sum_bound) s.totals) fit.1 in
      all_append IsWithinBound (replicate (s.version - from) empty_delta) (single_stated s ∷ singles_stated (s.version + 1) next ss) (all_replicate IsWithinBound empty_delta (s.version - from) tt)
      (all_below s.totals totals.1, singles_within (s.version + 1) ss both.1)

  pub shaped : (floor : ℕ) → AllByRecursion IsTypedChange t.changes → table_fits floor next t ≡ true → IsShaped floor next (meta_stated next t)
  shaped floor typed e =
      let stands = both_true (lineage_fits l && totals_fit (columns_of l) t.totals && ranges_fit l next t && singles_fit l next t) (starts_fit floor next t) e in
      let oldest = both_true (nat_le floor t.oldest) (oldest_fits t.oldest next) stands.1 in
      let last = both_true (lineage_fits l && totals_fit (columns_of l) t.totals && ranges_fit l next t) (singles_fit l next t) stands.0 in
      let third = both_true (lineage_fits l && totals_fit (columns_of l) t.totals) (ranges_fit l next t) last.0 in
      let first = both_true (lineage_fits l) (totals_fit (columns_of l) t.totals) third.0 in
      let totals = both_true (length t.totals == sums_in (aggs_of (columns_of l))) (list_all (λ total. nat_lt total sum_bound) t.totals) first.1 in
      let ranges = both_true (base_fits l t.oldest next t.base && are_tens (start_stated t) t.cumulatives) (list_all (range_fits l next) t.cumulatives) third.1 in
      let bases = both_true (base_fits l t.oldest next t.base) (are_tens (start_stated t) t.cumulatives) ranges.0 in
      let singles = both_true (are_singles (start_stated t) next t.singles) (list_all (single_fits l) t.singles) last.1 in
      let start = start_of_stated next t in
      let base = base_low t.base bases.0 in
      let covered = ranges_low t.cumulatives ranges.1 in
      record {
        lineage = lineage_fit l first.0 typed;
        totals = is_equal (length t.totals) (sums_in (aggs_of (columns_of l))) totals.0;
        bounded = all_below t.totals totals.1;
        above = is_at_most floor t.oldest oldest.0;
        oldest = oldest_fit t.oldest next oldest.1;
        singles = ap (λ from. from + length (singles_stated (start_stated t) next t.singles)) start ∙ singles_count (start_stated t) next t.singles base.1 singles.0;
        base = omega (arith, base.0, start);
        reachable = tens_reach start bases.1;
        ends = covered.0;
        epochs = all_append E (base_deltas (option_map range_stated t.base)) _ base.2 (all_append E (map delta_in (map range_stated t.cumulatives)) _ covered.1 (singles_low (start_stated t) t.singles singles.1));
        merged_begun = all_append (HasBegun l) (base_deltas (option_map range_stated t.base)) (map delta_in (map range_stated t.cumulatives)) (base_since t.base bases.0) (ranges_since t.cumulatives ranges.1);
        singles_begun = singles_since (start_stated t) t.singles singles.1;
        recorded = all_append IsWithinBound (base_deltas (option_map range_stated t.base)) _ (base_within t.base) (all_append IsWithinBound (map delta_in (map range_stated t.cumulatives)) _ (ranges_within t.cumulatives) (singles_within (start_stated t) t.singles singles.1));
      }
    where
      tens_reach : start_in (meta_stated next t) ≡ start_stated t → are_tens (start_stated t) t.cumulatives ≡ true → IsReachable (ranges_of (meta_stated next t))
      tens_reach start e =
          let at : start_stated t ≡ start_stated t + 10 * 0 = omega arith in
          let is = tens (start_stated t) 0 t.cumulatives (ap (λ k. are_tens k t.cumulatives) (sym at) ∙ e) in
          is ∙ ap (λ s. ends_of_tens s (length (map end_in (map range_stated t.cumulatives)))) (sym start)

-- ---- all tables

tables_shaped : (floor next : ℕ) (ts : List CheckpointTable) → AllByRecursion (λ (t : CheckpointTable). AllByRecursion IsTypedChange t.changes) ts → list_all (table_fits floor next) ts ≡ true
    → AllByRecursion (IsShaped floor next) (map (meta_stated next) ts)
tables_shaped floor next [] typed e = tt
tables_shaped floor next (t ∷ ts) typed e =
    let both = both_true (table_fits floor next t) (list_all (table_fits floor next) ts) e in
    (shaped next t floor typed.0 both.0, tables_shaped floor next ts typed.1 both.1)

length-map-stated : (next : ℕ) (ts : List CheckpointTable) → length (map (meta_stated next) ts) ≡ length ts
length-map-stated next [] = refl
length-map-stated next (t ∷ ts) = ap suc (length-map-stated next ts)

-- A checkpoint whose counts and tables fit states a catalogue.
pub stated_shaped : (k : Checkpoint) → counts_fit k ≡ true → tables_fit k ≡ true → AllByRecursion (λ (t : CheckpointTable). AllByRecursion IsTypedChange t.changes) k.tables → IsCatalog (stated k)
stated_shaped k counts tables typed =
    let last = both_true (nat_le (length k.tables) max_tables && nat_le k.versions max_versions && nat_le k.run _) (oldest_fits k.floor k.versions) counts in
    let third = both_true (nat_le (length k.tables) max_tables && nat_le k.versions max_versions) _ last.0 in
    let first = both_true (nat_le (length k.tables) max_tables) (nat_le k.versions max_versions) third.0 in
    let named = both_true (list_all (table_fits k.floor k.versions) k.tables && names_differ (stated k)) (ids_fit (stated k)) tables in
    let all = both_true (list_all (table_fits k.floor k.versions) k.tables) (names_differ (stated k)) named.0 in
    record {
      tables = tables_shaped k.floor k.versions k.tables typed all.0;
      names = all.1;
      floor = oldest_fit k.floor k.versions last.1;
      few = omega (arith, is_at_most (length k.tables) max_tables first.0, length-map-stated k.versions k.tables);
      most = is_at_most k.versions max_versions first.1;
    }

-- ---- ids

abbrev one_if : Bool → ℕ
one_if b = cond b 1 0

times_more : (id x : ℕ) (ids : List ℕ) → (id == x) ≡ false → times id (x ∷ ids) ≡ times id ids
times_more id x ids is =
    let none : one_if (id == x) ≡ 0 = ap one_if is in
    omega (arith, sum_by-cons (λ m. cond (id == m) 1 0) x ids, none)

counted_by : (P : ℕ → Type 0) (id x : ℕ) (ids : List ℕ) → P x → (0 < times id ids → P id) → 0 < times id (x ∷ ids) → (b : Bool) → (id == x) ≡ b → P id
counted_by P id x ids here rest some true is = subst P (sym (is_equal id x is)) here
counted_by P id x ids here rest some false is = rest (subst (λ n. 0 < n) (times_more id x ids is) some)

counted_among : (P : ℕ → Type 0) (id : ℕ) (ids : List ℕ) → AllByRecursion P ids → 0 < times id ids → P id
counted_among P id [] all some = absurd (omega (arith, some))
counted_among P id (x ∷ ids) all some = counted_by P id x ids all.0 (counted_among P id ids all.1) some (id == x) refl

-- Each id that it names is that of one file, and of a run up to the last one.
pub stated_owns : (k : Checkpoint) → tables_fit k ≡ true → HasOwnIds (stated k)
stated_owns k tables =
    let c = stated k in
    let ids = (both_true (list_all (table_fits k.floor k.versions) k.tables && names_differ c) (ids_fit c) tables).1 in
    let all = all_true (λ id. (times id (named c) == 1) && nat_le (run_of_id id) c.run) (named c) ids in
    let each = λ (id : ℕ) (some : 0 < times id (named c)). both_true (times id (named c) == 1) (nat_le (run_of_id id) c.run) (counted_among (λ i. ((times i (named c) == 1) && nat_le (run_of_id i) c.run) ≡ true) id (named c) all some) in
    record {
      once = λ id. at_most_once id (named c) (λ some. is_equal (times id (named c)) 1 (each id some).0);
      runs = λ id some. is_at_most (run_of_id id) c.run (each id some).1;
    }
  where
    at_most_once : (id : ℕ) (ids : List ℕ) → (0 < times id ids → times id ids ≡ 1) → times id ids ≤ 1
    at_most_once id ids once = elim (cases_lt 0 (times id ids)) [ inl some ↦ omega (arith, once some) | inr none ↦ omega (arith, none) ]
