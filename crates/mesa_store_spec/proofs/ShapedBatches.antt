-- A batch and a merged range that fit keep what catalogues keep.
use Rattle.std.proofs.Common.{◌≡◌, inl, inr, ℕ, zero, suc, ◌+◌, ◌-◌, ◌*◌, ◌/◌, ◌<◌, ◌≤◌, List, [], ◌∷◌, ◌++◌, map, length, flat_map, Option, Some, None, is_none, is_some, true, false, Bool, ◌&&◌, ◌||◌, ◌==◌, nat_le, nat_lt, cond, refl, sym, ◌∙◌, ap, subst, arith, slice_index_or}
use Rattle.std.proofs.lemmas.Bool.Decides.{nat_tests}
use Rattle.std.proofs.lemmas.Bool.{leb-false}
use Rattle.std.specs.Prelude.{option_map}
use Rattle.std.specs.List.{AllByRecursion, list_all, list_any, range_with_len}
use Rattle.mesa_history_spec.specs.mesa_columns.Columns.{aggs_of}
use Rattle.mesa_history_spec.specs.mesa_columns.Names.{repeated}
use Rattle.mesa_history_spec.specs.mesa_schema.Changes.{columns_of, epoch_of}
use Rattle.mesa_history_spec.proofs.mesa_columns.Lists.{all_found}
use Rattle.mesa_history_spec.proofs.mesa_columns.Maps.{is_some_position}
use Rattle.mesa_history_spec.specs.mesa_batch.Totals.{over_bound, sum_bound, totals_with}
use Rattle.mesa_history_spec.specs.mesa_span.declared.works.Work.TheVariants as work
use Rattle.mesa_history_spec.specs.mesa_span.Ranges.{end_of}
use Rattle.mesa_history_spec.specs.mesa_span.Work.{is_missing, missing_end, possible_ends}
use Rattle.mesa_history_spec.proofs.mesa_span.Reachable.{works_keep}
use Rattle.mesa_history_spec.specs.mesa_batch.Totals.{sums_in}
use Rattle.mesa_history_spec.specs.mesa_model.Warehouse.{max_versions}
use Rattle.mesa_history_spec.specs.mesa_span.Ranges.{base_before}
use Rattle.mesa_record.specs.declared.record.Files.{Files}
use Rattle.mesa_record.specs.declared.record.Part.{Part}
use Rattle.mesa_record.specs.declared.record.Record.TheVariants as record_of
use Rattle.mesa_store_spec.specs.Catalog.{Delta, TableMeta, Catalog, start_in, ranges_of, no_meta, meta_at, meta_loaded, metas_loaded, meta_swapped, merged_delta, part_of, with_meta, applied}
use Rattle.mesa_store_spec.specs.Fitting.{names_in, is_there, files_fit, files_fit_if_any, has_epoch, part_fits, publish_fits, may_be_work, is_number, swap_fits}
use Rattle.mesa_store_spec.specs.Shape.{IsShaped, IsCatalog}
use Rattle.mesa_store_spec.proofs.Lists.{both_true, is_at_most, is_equal, is_less, meta_found}
use Rattle.mesa_store_spec.proofs.Shaping.{PartFits, FitsIfAny, loaded_shaped, based_shaped, covered_shaped}
use Rattle.mesa_store_spec.proofs.ShapedTables.{same_set}

-- ---- a batch

under : (t : ℕ) → nat_le sum_bound t ≡ false → t < sum_bound
under t e = leb-false sum_bound t e

none_over : (totals : List ℕ) → list_any (λ total. nat_le sum_bound total) totals ≡ false → AllByRecursion (λ total. total < sum_bound) totals
none_over [] e = tt
none_over (t ∷ totals) e = by (nat_le sum_bound t) refl e (none_over totals)
  where
    by : (b : Bool) → nat_le sum_bound t ≡ b → (b || list_any (λ total. nat_le sum_bound total) totals) ≡ false → (list_any (λ total. nat_le sum_bound total) totals ≡ false → AllByRecursion (λ total. total < sum_bound) totals)
        → (t < sum_bound) × AllByRecursion (λ total. total < sum_bound) totals
    by true is e rest = absurd (let f : true ≡ false = e in cc)
    by false is e rest = (under t is, rest e)

not_some : {A : Type 0} (o : Option A) → is_none o ≡ true → is_some o ≡ false
not_some None e = refl
not_some (Some x) e = absurd (let f : false ≡ true = e in cc)

pub part_shaped : (t : TableMeta) (p : Part) → part_fits t p ≡ true → PartFits t p
part_shaped t p e =
    let last = both_true _ (is_none (over_bound t.totals p.totals)) e in
    let third = both_true _ (length p.totals == sums_in (aggs_of (columns_of t.lineage))) last.0 in
    let first = both_true (p.epoch == epoch_of t.lineage) (files_fit t.lineage p.epoch p.files) third.0 in
    record {
      epoch = is_equal p.epoch (epoch_of t.lineage) first.0;
      count = is_equal (length p.totals) (sums_in (aggs_of (columns_of t.lineage))) third.1;
      bound = none_over (totals_with t.totals p.totals) (sym (is_some_position (λ total. nat_le sum_bound total) (totals_with t.totals p.totals)) ∙ not_some (over_bound t.totals p.totals) last.1);
    }

-- what is asked of each part
abbrev fits_its : Catalog → Part → Bool
fits_its c p = is_there c p.table && part_fits (meta_at c p.table) p

fits_first : (c : Catalog) (number : ℕ) (q : Part) (qs : List Part) → part_fits (meta_at c q.table) q ≡ true → FitsIfAny (meta_at c number) (part_of number qs) → (b : Bool) → (q.table == number) ≡ b → FitsIfAny (meta_at c number) (cond b (Some q) (part_of number qs))
fits_first c number q qs own rest true e = subst (λ n. PartFits (meta_at c n) q) (is_equal q.table number e) (part_shaped (meta_at c q.table) q own)
fits_first c number q qs own rest false e = rest

fits_found : (c : Catalog) (number : ℕ) (parts : List Part) → list_all (fits_its c) parts ≡ true → FitsIfAny (meta_at c number) (part_of number parts)
fits_found c number [] e = tt
fits_found c number (q ∷ qs) e =
    let both = both_true (fits_its c q) (list_all (fits_its c) qs) e in
    fits_first c number q qs (both_true (is_there c q.table) (part_fits (meta_at c q.table) q) both.0).1 (fits_found c number qs both.1) (q.table == number) refl

all_loaded : (c : Catalog) (parts : List Part) (number : ℕ) (tables : List TableMeta) → list_all (fits_its c) parts ≡ true → ((i : ℕ) → i < length tables → meta_at c (number + i) ≡ slice_index_or tables i no_meta)
    → AllByRecursion (IsShaped c.floor c.next) tables → AllByRecursion (IsShaped c.floor (c.next + 1)) (metas_loaded parts number tables)
all_loaded c parts number [] e at all = tt
all_loaded c parts number (t ∷ tables) e at all =
    let here : meta_at c number ≡ t = (let n : number ≡ number + 0 = omega arith in ap (meta_at c) n) ∙ at 0 (omega arith) in (
      loaded_shaped c.floor c.next t (part_of number parts) all.0 (subst (λ (s : TableMeta). FitsIfAny s (part_of number parts)) here (fits_found c number parts e)),
      all_loaded c parts (number + 1) tables e (λ i lt. (let n : number + 1 + i ≡ number + suc i = omega arith in ap (meta_at c) n) ∙ at (suc i) (omega (arith, lt))) all.1,
    )

loaded_names : (t : TableMeta) (p : Option Part) → names_in (meta_loaded t p) ≡ names_in t
loaded_names t None = refl
loaded_names t (Some p) = refl

names_loaded : (parts : List Part) (number : ℕ) (tables : List TableMeta) → flat_map names_in (metas_loaded parts number tables) ≡ flat_map names_in tables
names_loaded parts number [] = refl
names_loaded parts number (t ∷ tables) = λ i. loaded_names t (part_of number parts) i ++ names_loaded parts (number + 1) tables i

pub length_loaded : (parts : List Part) (number : ℕ) (tables : List TableMeta) → length (metas_loaded parts number tables) ≡ length tables
length_loaded parts number [] = refl
length_loaded parts number (t ∷ tables) = ap suc (length_loaded parts (number + 1) tables)

pub publish_shaped : (c : Catalog) (version : ℕ) (parts : List Part) → IsCatalog c → publish_fits c version parts ≡ true → IsCatalog (applied c (record_of.Publish version parts))
publish_shaped c version parts is e =
    let last = both_true ((version == c.next) && nat_lt version max_versions) (list_all (fits_its c) parts) e in
    let first = both_true (version == c.next) (nat_lt version max_versions) last.0 in
    let same = is_equal version c.next first.0 in
    let lt = is_less version max_versions first.1 in
    record {
      tables = all_loaded c parts 0 c.tables last.1 (λ i lt. (let n : 0 + i ≡ i = omega arith in ap (meta_at c) n)) is.tables;
      names = ap (λ ns. is_none (repeated ns)) (names_loaded parts 0 c.tables) ∙ is.names;
      floor = elim is.floor [ inl lt ↦ inl (omega (arith, lt)) | inr none ↦ inl (omega (arith, none.0)) ];
      few = omega (arith, is.few, length_loaded parts 0 c.tables);
      most = omega (arith, same, lt);
    }

-- ---- a merged range

ends_within : (start newest tens n : ℕ) → start + 10 * (tens + n) ≤ newest + 1 → AllByRecursion (λ e. e ≤ newest) (map (end_of start) (range_with_len tens n))
ends_within start newest tens zero le = tt
ends_within start newest tens (suc n) le = (omega (arith, le), ends_within start newest (tens + 1) n (omega (arith, le)))

-- an end that is missing is that of a version that is there
pub missing_there : (start next to : ℕ) (ends : List ℕ) → start ≤ next → missing_end start ends (base_before next) ≡ Some to → to < next
missing_there start next to ends le e = by (next == 0) refl e
  where
    by : (b : Bool) → (next == 0) ≡ b → missing_end start ends (cond b None (Some (next - 1))) ≡ Some to → to < next
    by true is e = absurd (cc)
    by false is e =
        let some : 1 ≤ next = grind (arith, nat_tests) in
        let tens = (next - 1 + 1 - start) / 10 in
        let few : start + 10 * (0 + tens) ≤ next - 1 + 1 = omega (arith, some, le) in
        let top : to ≤ next - 1 = all_found (λ x. x ≤ next - 1) (is_missing ends) (possible_ends start (Some (next - 1))) to e (ends_within start (next - 1) 0 tens few) in
        omega (arith, some, top)

-- and lies behind the base
ends_behind : (start tens n : ℕ) → AllByRecursion (λ e. start ≤ e) (map (end_of start) (range_with_len tens n))
ends_behind start tens zero = tt
ends_behind start tens (suc n) = (omega arith, ends_behind start (tens + 1) n)

pub missing_behind : (start to : ℕ) (ends : List ℕ) (newest : Option ℕ) → missing_end start ends newest ≡ Some to → start ≤ to
missing_behind start to ends None e = absurd cc
missing_behind start to ends (Some newest) e = all_found (λ x. start ≤ x) (is_missing ends) (possible_ends start (Some newest)) to e (ends_behind start 0 ((newest + 1 - start) / 10))

pub number_is : (o : Option ℕ) (n : ℕ) → is_number o n ≡ true → o ≡ Some n
number_is None n e = absurd (let f : false ≡ true = e in cc)
number_is (Some m) n e = ap Some (is_equal m n e)

swapped_shaped : (c : Catalog) (t : TableMeta) (base : Bool) (from to epoch : ℕ) (files : Option Files) → IsCatalog c → IsShaped c.floor c.next t → may_be_work c t base from to ≡ true → t.lineage.begins ≤ epoch → epoch ≤ epoch_of t.lineage
    → IsShaped c.floor c.next (meta_swapped t base to (merged_delta epoch files))
swapped_shaped c t true from to epoch files is shaped may begun le =
    let last = both_true ((from == 0) && nat_le 1 to && nat_le (start_in t) to) (nat_le to t.oldest) may in
    let third = both_true ((from == 0) && nat_le 1 to) (nat_le (start_in t) to) last.0 in
    let first = both_true (from == 0) (nat_le 1 to) third.0 in
    let some = is_at_most 1 to first.1 in
    let within = is_at_most to t.oldest last.1 in
    let lt : to < c.next = elim shaped.oldest [ inl lt ↦ omega (arith, within, lt) | inr none ↦ absurd (omega (arith, some, within, none.0)) ] in
    based_shaped c.floor c.next t to (merged_delta epoch files) (is_at_most (start_in t) to third.1) within lt begun le tt refl shaped
swapped_shaped c t false from to epoch files is shaped may begun le =
    let both = both_true (from == start_in t) (is_number (missing_end (start_in t) (ranges_of t).cumulatives (base_before c.next)) to) may in
    let missing = number_is (missing_end (start_in t) (ranges_of t).cumulatives (base_before c.next)) to both.1 in
    let lt : to < c.next = missing_there (start_in t) c.next to (ranges_of t).cumulatives (omega (arith, shaped.singles)) missing in
    covered_shaped c.floor c.next t to (merged_delta epoch files) lt begun le tt (works_keep (ranges_of t) 0 (base_before c.next) (work.Cumulative (start_in t) to) shaped.reachable (ap (option_map (work.Cumulative (start_in t))) missing)) shaped

pub swap_shaped : (c : Catalog) (table : ℕ) (base : Bool) (from to epoch : ℕ) (files : Option Files) → IsCatalog c → is_there c table && swap_fits c (meta_at c table) base from to epoch files ≡ true
    → IsCatalog (with_meta c table (meta_swapped (meta_at c table) base to (merged_delta epoch files)))
swap_shaped c table base from to epoch files is e =
    let t = meta_at c table in
    let both = both_true (is_there c table) (swap_fits c t base from to epoch files) e in
    let there = is_less table (length c.tables) both.0 in
    let last = both_true (may_be_work c t base from to && has_epoch t.lineage epoch) (files_fit_if_any t.lineage epoch files) both.1 in
    let first = both_true (may_be_work c t base from to) (has_epoch t.lineage epoch) last.0 in
    let epochs = both_true (nat_le t.lineage.begins epoch) (nat_le epoch (epoch_of t.lineage)) first.1 in
    let shaped = meta_found (IsShaped c.floor c.next) c.tables table there is.tables in
    same_set c table (meta_swapped t base to (merged_delta epoch files)) is (swapped_shaped c t base from to epoch files is shaped first.0 (is_at_most t.lineage.begins epoch epochs.0) (is_at_most epoch (epoch_of t.lineage) epochs.1)) (names_swapped t base to (merged_delta epoch files))
  where
    names_swapped : (t : TableMeta) (base : Bool) (to : ℕ) (d : Delta) → names_in (meta_swapped t base to d) ≡ names_in t
    names_swapped t true to d = refl
    names_swapped t false to d = refl
