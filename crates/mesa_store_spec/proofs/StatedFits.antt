-- The checkpoint of a catalogue fits.
use Rattle.std.proofs.Common.{◌≡◌, ◌⊎◌, inl, inr, ℕ, suc, ◌+◌, ◌-◌, ◌*◌, ◌<◌, ◌≤◌, List, [], ◌∷◌, ◌++◌, map, length, take, Bool, true, false, ◌&&◌, ◌||◌, ◌==◌, nat_le, nat_lt, Option, Some, None, cond, refl, sym, ◌∙◌, ap, subst, arith}
use Rattle.std.proofs.lemmas.Bool.Decides.{nat_tests}
use Rattle.std.proofs.lemmas.List.Sums.{sum_by-cons}
use Rattle.std.specs.Prelude.{option_map, IfSome}
use Rattle.std.specs.List.{AllByRecursion, list_all, range_with_len}
use Rattle.mesa_history_spec.specs.mesa_columns.Columns.{aggs_of}
use Rattle.mesa_history_spec.specs.mesa_columns.Schema.{is_schema}
use Rattle.mesa_history_spec.specs.mesa_columns.Changes.{columns_after}
use Rattle.mesa_history_spec.specs.mesa_schema.Changes.{Lineage, columns_at, columns_of, epoch_of, max_changes}
use Rattle.mesa_history_spec.specs.mesa_schema.Views.{max_views}
use Rattle.mesa_history_spec.specs.mesa_schema.Lineages.{is_view_of}
use Rattle.mesa_history_spec.specs.mesa_batch.Totals.{sum_bound, sums_in}
use Rattle.mesa_history_spec.specs.mesa_span.Ranges.{start_behind, end_of}
use Rattle.mesa_history_spec.specs.mesa_model.Warehouse.{max_tables, max_versions}
use Rattle.mesa_record.specs.declared.record.Files.{Files}
use Rattle.mesa_store_spec.specs.Catalog.{Delta, Ending, TableMeta, Catalog, end_in, start_in}
use Rattle.mesa_store_spec.specs.Fitting.{base_deltas, delta_in, files_fit_if_any, has_epoch, max_runs, run_of_id}
use Rattle.mesa_store_spec.specs.Shape.{HasBegun, HasBegunIfAny, IsShaped, IsCatalog, IsWithinBound}
use Rattle.mesa_store_spec.specs.Ids.{HasOwnIds, named, times}
use Rattle.mesa_history_spec.proofs.mesa_columns.Lists.{all_so}
use Rattle.mesa_store_spec.proofs.Lists.{all_back, all_front}
use Rattle.mesa_record.specs.declared.checkpoint.CheckpointSingle.{CheckpointSingle}
use Rattle.mesa_store_spec.specs.Checkpoint.{stated, stating_range, stating_single, stating_singles, stating_table, checkpoint_of, to_stated}
use Rattle.mesa_store_spec.specs.Statable.{IsSingle, IsStatable, AreStatable}
use Rattle.mesa_store_spec.specs.CheckpointFits.{changes_pass, lineage_fits, delta_fits, range_fits, base_fits, are_tens, are_singles, single_fits, totals_fit, ranges_fit, singles_fit, starts_fit, table_fits, names_differ, ids_fit, oldest_fits, counts_fit, tables_fit}
use Rattle.mesa_store_spec.specs.Countable.{CountsFiles, CountsTotals, IsCounted, AreCounted}
use Rattle.mesa_store_spec.proofs.Stating.{start_again, catalog_again}

pub two_true : (a b : Bool) → a ≡ true → b ≡ true → (a && b) ≡ true
two_true true b e f = f
two_true false b e f = absurd (let g : false ≡ true = e in cc)

low : (a b : ℕ) → a ≤ b → nat_le a b ≡ true
low a b le = grind (arith, nat_tests)

less : (a b : ℕ) → a < b → nat_lt a b ≡ true
less a b lt = grind (arith, nat_tests)

same : (a b : ℕ) → a ≡ b → (a == b) ≡ true
same a b e = grind (arith, nat_tests)

all_pass : {A : Type 0} (p : A → Bool) (xs : List A) → AllByRecursion (λ x. p x ≡ true) xs → list_all p xs ≡ true
all_pass p [] all = refl
all_pass p (x ∷ xs) all = two_true (p x) (list_all p xs) all.0 (all_pass p xs all.1)

bounded : (totals : List ℕ) → AllByRecursion (λ total. total < sum_bound) totals → list_all (λ total. nat_lt total sum_bound) totals ≡ true
bounded [] all = refl
bounded (total ∷ totals) all = two_true (nat_lt total sum_bound) (list_all (λ total. nat_lt total sum_bound) totals) (less total sum_bound all.0) (bounded totals all.1)

-- ---- ranges

head_same : (x y : ℕ) (xs ys : List ℕ) → x ∷ xs ≡ y ∷ ys → x ≡ y
head_same x y xs ys e = cc

tail_same : (x y : ℕ) (xs ys : List ℕ) → x ∷ xs ≡ y ∷ ys → xs ≡ ys
tail_same x y xs ys e = cc

tens_back : (start n : ℕ) (es : List Ending) → map end_in es ≡ map (end_of start) (range_with_len n (length (map end_in es))) → are_tens (start + 10 * n) (map stating_range es) ≡ true
tens_back start n [] e = refl
tens_back start n (x ∷ es) e =
    let first : x.to ≡ start + 10 * n + 9 = head_same x.to (end_of start n) (map end_in es) (map (end_of start) (range_with_len (n + 1) (length (map end_in es)))) e in
    let rest = tens_back start (n + 1) es (tail_same x.to (end_of start n) (map end_in es) (map (end_of start) (range_with_len (n + 1) (length (map end_in es)))) e) in
    let at : start + 10 * (n + 1) ≡ start + 10 * n + 10 = omega arith in
    two_true (x.to == start + 10 * n + 9) (are_tens (start + 10 * n + 10) (map stating_range es)) (same x.to (start + 10 * n + 9) first) (ap (λ k. are_tens k (map stating_range es)) (sym at) ∙ rest)

-- ---- singletons

singles_lower : (from next : ℕ) (ss : List CheckpointSingle) → are_singles (from + 1) next ss ≡ true → are_singles from next ss ≡ true
singles_lower from next [] e = refl
singles_lower from next (s ∷ ss) e = by (nat_le (from + 1) s.version) refl e
  where
    by : (b : Bool) → nat_le (from + 1) s.version ≡ b → (b && nat_lt s.version next && are_singles (s.version + 1) next ss) ≡ true → (nat_le from s.version && nat_lt s.version next && are_singles (s.version + 1) next ss) ≡ true
    by true is e = ap (λ b. b && nat_lt s.version next && are_singles (s.version + 1) next ss) (let is_low : nat_le from s.version ≡ true = grind (arith, nat_tests) in is_low) ∙ e
    by false is e = absurd (let g : false ≡ true = e in cc)

singles_by : (from next epoch : ℕ) (totals : Option (List ℕ)) (files : Option Files) (rest : List CheckpointSingle) → from < next → are_singles (from + 1) next rest ≡ true → are_singles from next (stating_single from epoch totals files ++ rest) ≡ true
singles_by from next epoch totals None rest lt e = singles_lower from next rest e
singles_by from next epoch totals (Some f) rest lt e = two_true (nat_le from from && nat_lt from next) (are_singles (from + 1) next rest) (two_true (nat_le from from) (nat_lt from next) (low from from (omega arith)) (less from next lt)) e

singles_rise : (from next : ℕ) (ds : List Delta) → from + length ds ≡ next → are_singles from next (stating_singles from ds) ≡ true
singles_rise from next [] len = refl
singles_rise from next (d ∷ ds) len = singles_by from next d.epoch d.totals d.files (stating_singles (from + 1) ds) (omega (arith, len)) (singles_rise (from + 1) next ds (omega (arith, len)))

module _ (l : Lineage) where
  delta_ok : (d : Delta) → l.begins ≤ d.epoch → d.epoch ≤ epoch_of l → CountsFiles l d → delta_fits l d.epoch d.files ≡ true
  delta_ok d begun le files = two_true (has_epoch l d.epoch) (files_fit_if_any l d.epoch d.files) (two_true (nat_le l.begins d.epoch) (nat_le d.epoch (epoch_of l)) (low l.begins d.epoch begun) (low d.epoch (epoch_of l) le)) files

  single_ok : (from : ℕ) (d : Delta) (rest : List CheckpointSingle) → HasBegunIfAny l d → d.epoch ≤ epoch_of l → CountsFiles l d → CountsTotals l d → IsWithinBound d → IsSingle d → list_all (single_fits l) rest ≡ true → list_all (single_fits l) (stating_single from d.epoch d.totals d.files ++ rest) ≡ true
  single_ok from d rest begun le files totals below (inl none) e = ap (λ (x : Delta). list_all (single_fits l) (stating_single from x.epoch x.totals x.files ++ rest)) none ∙ e
  single_ok from d rest begun le files totals below (inr has) e =
      let s : CheckpointSingle = record { version = from; epoch = d.epoch; files = has.own; totals = has.counts } in
      let since : l.begins ≤ d.epoch = subst (λ o. IfSome o (λ f. l.begins ≤ d.epoch)) has.files begun in
      let count : length has.counts ≡ sums_in (aggs_of (columns_at l d.epoch)) = subst (λ o. IfSome o (λ totals. length totals ≡ sums_in (aggs_of (columns_at l d.epoch)))) has.totals totals in
      let within : AllByRecursion (λ total. total < sum_bound) has.counts = subst (λ o. IfSome o (λ totals. AllByRecursion (λ total. total < sum_bound) totals)) has.totals below in
      let tests = two_true (length has.counts == sums_in (aggs_of (columns_at l d.epoch))) (list_all (λ total. nat_lt total sum_bound) has.counts) (same (length has.counts) (sums_in (aggs_of (columns_at l d.epoch))) count) (bounded has.counts within) in
      (λ i. list_all (single_fits l) (stating_single from d.epoch (has.totals i) (has.files i) ++ rest))
      ∙ two_true (single_fits l s) (list_all (single_fits l) rest)
      (two_true (delta_fits l d.epoch (Some has.own)) (totals_fit (columns_at l d.epoch) has.counts) (ap (delta_fits l d.epoch) (sym has.files) ∙ delta_ok d since le files) tests) e

  singles_ok : (from : ℕ) (ds : List Delta) → AllByRecursion (HasBegunIfAny l) ds → AllByRecursion (λ (d : Delta). d.epoch ≤ epoch_of l) ds → AllByRecursion (CountsFiles l) ds → AllByRecursion (CountsTotals l) ds → AllByRecursion IsWithinBound ds → AllByRecursion IsSingle ds → list_all (single_fits l) (stating_singles from ds) ≡ true
  singles_ok from [] begun epochs files totals below are = refl
  singles_ok from (d ∷ ds) begun epochs files totals below are = single_ok from d (stating_singles (from + 1) ds) begun.0 epochs.0 files.0 totals.0 below.0 are.0 (singles_ok (from + 1) ds begun.1 epochs.1 files.1 totals.1 below.1 are.1)

  ranges_ok : (next : ℕ) (es : List Ending) → AllByRecursion (λ (e : Ending). e.to < next) es → AllByRecursion (HasBegun l) (map delta_in es) → AllByRecursion (λ (d : Delta). d.epoch ≤ epoch_of l) (map delta_in es) → AllByRecursion (CountsFiles l) (map delta_in es)
      → list_all (range_fits l next) (map stating_range es) ≡ true
  ranges_ok next [] ends begun epochs files = refl
  ranges_ok next (e ∷ es) ends begun epochs files =
      two_true (range_fits l next (stating_range e)) (list_all (range_fits l next) (map stating_range es))
      (two_true (nat_lt e.to next) (delta_fits l e.delta.epoch e.delta.files) (less e.to next ends.0) (delta_ok e.delta begun.0 epochs.0 files.0)) (ranges_ok next es ends.1 begun.1 epochs.1 files.1)

  base_ok : (oldest next : ℕ) (o : Option Ending) → start_behind (option_map end_in o) ≤ oldest + 1 → start_behind (option_map end_in o) ≤ next → AllByRecursion (HasBegun l) (base_deltas o) → AllByRecursion (λ (d : Delta). d.epoch ≤ epoch_of l) (base_deltas o) → AllByRecursion (CountsFiles l) (base_deltas o)
      → base_fits l oldest next (option_map stating_range o) ≡ true
  base_ok oldest next None below within begun epochs files = refl
  base_ok oldest next (Some e) below within begun epochs files =
      two_true (nat_le e.to oldest) (range_fits l next (stating_range e)) (low e.to oldest (omega (arith, below)))
      (two_true (nat_lt e.to next) (delta_fits l e.delta.epoch e.delta.files) (less e.to next (omega (arith, within))) (delta_ok e.delta begun.0 epochs.0 files.0))

oldest_ok : (oldest next : ℕ) → (oldest < next) ⊎ ((oldest ≡ 0) × (next ≡ 0)) → oldest_fits oldest next ≡ true
oldest_ok oldest next (inl lt) = ap (λ b. b || ((oldest == 0) && (next == 0))) (less oldest next lt)
oldest_ok oldest next (inr none) = or_true (nat_lt oldest next) ((oldest == 0) && (next == 0)) (two_true (oldest == 0) (next == 0) (same oldest 0 none.0) (same next 0 none.1))
  where
    or_true : (a b : Bool) → b ≡ true → (a || b) ≡ true
    or_true true b e = refl
    or_true false b e = e

-- ---- a table

table_ok : (floor next : ℕ) (t : TableMeta) → IsShaped floor next t → IsStatable t → IsCounted t → table_fits floor next (stating_table t) ≡ true
table_ok floor next t shaped so is =
    let l = t.lineage in
    let E = λ (d : Delta). d.epoch ≤ epoch_of l in
    let F = CountsFiles l in
    let epochs = all_back E (base_deltas t.base) (map delta_in t.cumulatives ++ t.singles) shaped.epochs in
    let files = all_back F (base_deltas t.base) (map delta_in t.cumulatives ++ t.singles) is.files in
    let recorded = all_back IsWithinBound (map delta_in t.cumulatives) t.singles (all_back IsWithinBound (base_deltas t.base) (map delta_in t.cumulatives ++ t.singles) shaped.recorded) in
    let views : list_all (is_view_of (columns_of l)) l.views ≡ true = shaped.lineage.views in
    let none : l.begins - l.begins ≡ 0 = omega arith in
    let first : is_schema l.first ≡ true = subst (λ n. is_schema (columns_after l.first (take n l.changes)) ≡ true) none (shaped.lineage.schemas l.begins) in
    let lineage = two_true (is_schema l.first && changes_pass l.first l.changes && nat_le (epoch_of l) max_changes && list_all (is_view_of (columns_of l)) l.views) (nat_le (length l.views) max_views)
    (two_true (is_schema l.first && changes_pass l.first l.changes && nat_le (epoch_of l) max_changes) (list_all (is_view_of (columns_of l)) l.views)
    (two_true (is_schema l.first && changes_pass l.first l.changes) (nat_le (epoch_of l) max_changes) (two_true (is_schema l.first) (changes_pass l.first l.changes) first is.changes) (low (epoch_of l) max_changes shaped.lineage.few_changes)) views)
    (low (length l.views) max_views shaped.lineage.few_views) in
    let totals = two_true (length t.totals == sums_in (aggs_of (columns_of l))) (list_all (λ total. nat_lt total sum_bound) t.totals) (same (length t.totals) (sums_in (aggs_of (columns_of l))) shaped.totals) (bounded t.totals shaped.bounded) in
    let start = start_again t.base in
    let base = base_ok l t.oldest next t.base (omega (arith, shaped.base)) (omega (arith, shaped.singles)) (all_front (HasBegun l) (base_deltas t.base) (map delta_in t.cumulatives) shaped.merged_begun) (all_front E (base_deltas t.base) (map delta_in t.cumulatives ++ t.singles) shaped.epochs) (all_front F (base_deltas t.base) (map delta_in t.cumulatives ++ t.singles) is.files) in
    let at : start_in t + 10 * 0 ≡ start_in t = omega arith in
    let tens : are_tens (start_behind (option_map to_stated (option_map stating_range t.base))) (map stating_range t.cumulatives) ≡ true = ap (λ k. are_tens k (map stating_range t.cumulatives)) (start ∙ sym at) ∙ tens_back (start_in t) 0 t.cumulatives shaped.reachable in
    let covered = ranges_ok l next t.cumulatives shaped.ends (all_back (HasBegun l) (base_deltas t.base) (map delta_in t.cumulatives) shaped.merged_begun) (all_front E (map delta_in t.cumulatives) t.singles epochs) (all_front F (map delta_in t.cumulatives) t.singles files) in
    let ranges = two_true (base_fits l t.oldest next (option_map stating_range t.base) && are_tens (start_behind (option_map to_stated (option_map stating_range t.base))) (map stating_range t.cumulatives)) (list_all (range_fits l next) (map stating_range t.cumulatives)) (two_true (base_fits l t.oldest next (option_map stating_range t.base)) _ base tens) covered in
    let rise : are_singles (start_behind (option_map to_stated (option_map stating_range t.base))) next (stating_singles (start_in t) t.singles) ≡ true = ap (λ k. are_singles k next (stating_singles (start_in t) t.singles)) start ∙ singles_rise (start_in t) next t.singles shaped.singles in
    let singles = two_true (are_singles (start_behind (option_map to_stated (option_map stating_range t.base))) next (stating_singles (start_in t) t.singles)) (list_all (single_fits l) (stating_singles (start_in t) t.singles)) rise
    (singles_ok l (start_in t) t.singles shaped.singles_begun (all_back E (map delta_in t.cumulatives) t.singles epochs) (all_back F (map delta_in t.cumulatives) t.singles files) is.totals recorded so.singles) in
    let stands = two_true (nat_le floor t.oldest) (oldest_fits t.oldest next) (low floor t.oldest shaped.above) (oldest_ok t.oldest next shaped.oldest) in
    two_true (lineage_fits l && totals_fit (columns_of l) t.totals && ranges_fit l next (stating_table t) && singles_fit l next (stating_table t)) (starts_fit floor next (stating_table t))
    (two_true (lineage_fits l && totals_fit (columns_of l) t.totals && ranges_fit l next (stating_table t)) (singles_fit l next (stating_table t))
    (two_true (lineage_fits l && totals_fit (columns_of l) t.totals) (ranges_fit l next (stating_table t)) (two_true (lineage_fits l) (totals_fit (columns_of l) t.totals) lineage totals) ranges) singles) stands

tables_ok : (floor next : ℕ) (ts : List TableMeta) → AllByRecursion (IsShaped floor next) ts → AllByRecursion IsStatable ts → AllByRecursion IsCounted ts → list_all (table_fits floor next) (map stating_table ts) ≡ true
tables_ok floor next [] shaped so is = refl
tables_ok floor next (t ∷ ts) shaped so is = two_true (table_fits floor next (stating_table t)) (list_all (table_fits floor next) (map stating_table ts)) (table_ok floor next t shaped.0 so.0 is.0) (tables_ok floor next ts shaped.1 so.1 is.1)

-- ---- all tables

length_stating : (ts : List TableMeta) → length (map stating_table ts) ≡ length ts
length_stating [] = refl
length_stating (t ∷ ts) = ap suc (length_stating ts)

pub counts_ok : (c : Catalog) (number : ℕ) → IsCatalog c → AreCounted c → counts_fit (checkpoint_of number c) ≡ true
counts_ok c number shaped is =
    let few : nat_le (length (map stating_table c.tables)) max_tables ≡ true = low (length (map stating_table c.tables)) max_tables (omega (arith, shaped.few, length_stating c.tables)) in
    two_true (nat_le (length (map stating_table c.tables)) max_tables && nat_le c.next max_versions && nat_le c.run max_runs) (oldest_fits c.floor c.next)
    (two_true (nat_le (length (map stating_table c.tables)) max_tables && nat_le c.next max_versions) (nat_le c.run max_runs) (two_true (nat_le (length (map stating_table c.tables)) max_tables) (nat_le c.next max_versions) few (low c.next max_versions shaped.most)) (low c.run max_runs is.run))
    (oldest_ok c.floor c.next shaped.floor)

abbrev one_if : Bool → ℕ
one_if b = cond b 1 0

times_next : (id x : ℕ) (ids : List ℕ) → times id (x ∷ ids) ≡ one_if (id == x) + times id ids
times_next id x ids = sum_by-cons (λ m. cond (id == m) 1 0) x ids

times_head : (id : ℕ) (ids : List ℕ) → 0 < times id (id ∷ ids)
times_head id ids =
    let one : one_if (id == id) ≡ 1 = ap one_if (same id id refl) in
    omega (arith, times_next id id ids, one)

times_more : (id x : ℕ) (ids : List ℕ) → times id ids ≤ times id (x ∷ ids)
times_more id x ids = omega (arith, times_next id x ids)

among_all : (all ids : List ℕ) → ((id : ℕ) → times id ids ≤ times id all) → AllByRecursion (λ id. 0 < times id all) ids
among_all all [] f = tt
among_all all (id ∷ ids) f = (omega (arith, f id, times_head id ids), among_all all ids (λ x. omega (arith, f x, times_more x id ids)))

ids_ok : (c : Catalog) → HasOwnIds c → ids_fit c ≡ true
ids_ok c own = all_pass (λ id. (times id (named c) == 1) && nat_le (run_of_id id) c.run) (named c) (all_so (λ id. 0 < times id (named c)) (λ id. ((times id (named c) == 1) && nat_le (run_of_id id) c.run) ≡ true) (named c)
    (λ id some. two_true (times id (named c) == 1) (nat_le (run_of_id id) c.run) (same (times id (named c)) 1 (omega (arith, some, own.once id))) (low (run_of_id id) c.run (own.runs id some))) (among_all (named c) (named c) (λ id. omega arith)))

pub tables_fitted : (c : Catalog) (number : ℕ) → IsCatalog c → HasOwnIds c → AreStatable c → AreCounted c → tables_fit (checkpoint_of number c) ≡ true
tables_fitted c number shaped own so is =
    let again = catalog_again c number shaped so in
    two_true (list_all (table_fits c.floor c.next) (map stating_table c.tables) && names_differ (stated (checkpoint_of number c))) (ids_fit (stated (checkpoint_of number c)))
    (two_true (list_all (table_fits c.floor c.next) (map stating_table c.tables)) (names_differ (stated (checkpoint_of number c))) (tables_ok c.floor c.next c.tables shaped.tables so is.tables) (ap names_differ again ∙ shaped.names))
    (ap ids_fit again ∙ ids_ok c own)
