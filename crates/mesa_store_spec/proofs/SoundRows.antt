-- What is to hold of a table's rows holds after a batch and a merged range.
use Rattle.std.proofs.Common.{◌≡◌, ℕ, zero, suc, ◌+◌, ◌-◌, ◌<◌, ◌≤◌, List, [], ◌∷◌, ◌++◌, map, length, take, drop, Option, Some, None, true, false, refl, sym, ◌∙◌, ap, subst, arith, append_assoc, slice_get}
use Rattle.std.proofs.lemmas.List.{append-nil, length-map, map-append, take-append-drop, take-append-le, take_all}
use Rattle.std.proofs.lemmas.List.Sums.{sum_by-append}
use Rattle.std.proofs.lemmas.Grind.{flat_map-append}
use Rattle.std.specs.Prelude.{pos, nat_abs, slice_index_or}
use Rattle.std.specs.List.{AllByRecursion}
use Rattle.mesa_delta_format.specs.mesa_value.declared.Agg.{Agg}
use Rattle.mesa_delta_format.specs.mesa_value.declared.Agg.TheVariants.{Sum, Min, Max, Replace}
use Rattle.mesa_history_spec.specs.mesa_columns.declared.rows.Row.{Row}
use Rattle.mesa_history_spec.specs.mesa_columns.declared.columns.ValueColumn.{ValueColumn}
use Rattle.mesa_history_spec.specs.mesa_columns.Columns.{Columns, aggs_of}
use Rattle.mesa_history_spec.specs.mesa_columns.Changes.{columns_after}
use Rattle.mesa_history_spec.specs.mesa_schema.Changes.{Lineage, columns_at, columns_of, epoch_of}
use Rattle.mesa_history_spec.specs.mesa_fold.Folded.{folded, rows_of}
use Rattle.mesa_history_spec.specs.mesa_columns.Rows.{AreRowsOf, IsRowOf}
use Rattle.mesa_history_spec.specs.mesa_fold.Laws.{AreFull}
use Rattle.mesa_history_spec.proofs.mesa_columns.Lists.{all_append, all_both, all_drop, all_so}
use Rattle.mesa_history_spec.specs.mesa_batch.Totals.{AreAtMost, abs_total, abs_totals, sum_places, totals_with}
use Rattle.mesa_history_spec.proofs.mesa_batch.Merged.{folds_totals}
use Rattle.mesa_record.specs.declared.record.Part.{Part}
use Rattle.mesa_store_spec.specs.Catalog.{Delta, Ending, TableMeta, start_in, meta_loaded, meta_swapped, empty_delta, part_delta}
use Rattle.mesa_store_spec.specs.Fitting.{base_deltas, delta_in, deltas_of, delta_live}
use Rattle.mesa_store_spec.specs.Contents.{Rows, present, deltas_to}
use Rattle.mesa_store_spec.specs.Sound.{IsTold, IsMerged, AreGrouped, IsTotalled, HasSoundRows}
use Rattle.mesa_store_spec.specs.Shape.{IsShaped}
use Rattle.mesa_store_spec.specs.Brought.{Brings, BringsIfAny, Replaces}
use Rattle.mesa_store_spec.proofs.Lists.{all_front, all_back, all_unflat}
use Rattle.mesa_store_spec.proofs.Named.{BroughtTo, with_single, swapped_meta}
use Rattle.mesa_store_spec.proofs.Contents.{part_rows}
use Rattle.mesa_store_spec.proofs.Formed.{AreFormed, all_formed, rows_formed, up_to}

at_most_more : (f g : ℕ → ℕ) (places totals : List ℕ) → AreAtMost (map f places) totals → AreAtMost (map (λ c. f c + g c) places) (totals_with totals (map g places))
at_most_more f g [] [] most = tt
at_most_more f g [] (t ∷ totals) most = absurd most
at_most_more f g (c ∷ places) [] most = absurd most
at_most_more f g (c ∷ places) (t ∷ totals) most = (omega (arith, most.0), at_most_more f g places totals most.1)

at_most_less : (f g : ℕ → ℕ) (places totals : List ℕ) → AllByRecursion (λ c. g c ≤ f c) places → AreAtMost (map f places) totals → AreAtMost (map g places) totals
at_most_less f g [] totals less most = most
at_most_less f g (c ∷ places) [] less most = absurd most
at_most_less f g (c ∷ places) (t ∷ totals) less most = (omega (arith, less.0, most.0), at_most_less f g places totals less.1 most.1)

abs_append : (c : ℕ) (xs ys : List Row) → abs_total c (xs ++ ys) ≡ abs_total c xs + abs_total c ys
abs_append c xs ys = sum_by-append (λ (row : Row). nat_abs (slice_index_or row.values c (pos 0))) xs ys

same_map : (f g : ℕ → ℕ) (xs : List ℕ) → ((c : ℕ) → f c ≡ g c) → map f xs ≡ map g xs
same_map f g [] same = refl
same_map f g (x ∷ xs) same = λ i. same x i ∷ same_map f g xs same i

rows_push : (parts : List (List Row)) (batch : List Row) → rows_of (parts ++ batch ∷ []) ≡ rows_of parts ++ batch
rows_push parts batch = flat_map-append (λ (part : List Row). part) parts (batch ∷ []) ∙ ap (λ l. rows_of parts ++ l) (append-nil batch)

-- ---- sum columns

drop_next : {A : Type 0} (i : ℕ) (all : List A) (x : A) (xs : List A) → drop i all ≡ x ∷ xs → (slice_get all i ≡ Some x) × (drop (i + 1) all ≡ xs)
drop_next zero [] x xs e = absurd cc
drop_next zero (y ∷ ys) x xs e = (let same : y ≡ x = cc in ap Some same, cc)
drop_next (suc i) [] x xs e = absurd cc
drop_next (suc i) (y ∷ ys) x xs e =
    let next = drop_next i ys x xs e in
    let behind : suc i + 1 ≡ suc (i + 1) = omega arith in
    (next.0, ap (λ n. drop n (y ∷ ys)) behind ∙ next.1)

-- the places of sum columns are those
sums_at : (all : List Agg) (i : ℕ) (aggs : List Agg) → drop i all ≡ aggs → AllByRecursion (λ c. slice_get all c ≡ Some Sum) (sum_places i aggs)
sums_at all i [] e = tt
sums_at all i (Sum ∷ aggs) e = let next = drop_next i all Sum aggs e in (next.0, sums_at all (i + 1) aggs next.1)
sums_at all i (Min ∷ aggs) e = sums_at all (i + 1) aggs (drop_next i all Min aggs e).1
sums_at all i (Max ∷ aggs) e = sums_at all (i + 1) aggs (drop_next i all Max aggs e).1
sums_at all i (Replace ∷ aggs) e = sums_at all (i + 1) aggs (drop_next i all Replace aggs e).1

are_full : (s : Columns) (rows : List Row) → AreRowsOf s rows → AreFull (aggs_of s) rows
are_full s rows all = all_so (IsRowOf s) (λ (row : Row). length row.values ≡ length (aggs_of s)) rows (λ row form. form.values ∙ sym (length-map s.values (λ (c : ValueColumn). c.agg))) all

-- a fold's absolute values add up to at most those of its parts
folds_less : (s : Columns) (parts : List (List Row)) → AreRowsOf s (rows_of parts) → AllByRecursion (λ c. abs_total c (folded (aggs_of s) parts) ≤ abs_total c (rows_of parts)) (sum_places 0 (aggs_of s))
folds_less s parts forms =
    all_so (λ c. slice_get (aggs_of s) c ≡ Some Sum) (λ c. abs_total c (folded (aggs_of s) parts) ≤ abs_total c (rows_of parts)) (sum_places 0 (aggs_of s))
    (λ c sum. folds_totals (aggs_of s) parts c sum (are_full s (rows_of parts) forms)) (sums_at (aggs_of s) 0 (aggs_of s) refl)

columns_now : (l : Lineage) → columns_at l (epoch_of l) ≡ columns_of l
columns_now l = ap (columns_after l.first) (take_all (epoch_of l - l.begins) l.changes (omega arith))

-- ---- a batch

module _ (rows : Rows) (floor next : ℕ) (t : TableMeta) (shaped : IsShaped floor next t) (sound_rows : HasSoundRows rows t) where
  abbrev l : Lineage
  l = t.lineage

  abbrev s : Columns
  s = columns_of t.lineage

  abbrev more_deltas : Delta → List Delta
  more_deltas d = base_deltas t.base ++ (map delta_in t.cumulatives ++ (t.singles ++ d ∷ []))

  still_merged : (d : Delta) (e : Ending) → e.to < next → IsMerged rows t e
      → present rows t.lineage e.delta ≡ folded (aggs_of (columns_of t.lineage)) (map (present rows t.lineage) (take (e.to + 1 - start_in t) (t.singles ++ d ∷ [])))
  still_merged d e lt is = is ∙ ap (λ ds. folded (aggs_of s) (map (present rows l) ds)) (sym (take-append-le (e.to + 1 - start_in t) t.singles (d ∷ []) (omega (arith, shaped.singles, lt))))

  grouped_more : (d : Delta) → AreGrouped rows t.lineage d → AllByRecursion (AreGrouped rows t.lineage) (more_deltas d)
  grouped_more d new =
      let G = AreGrouped rows t.lineage in
      let rest = all_back G (base_deltas t.base) (map delta_in t.cumulatives ++ t.singles) sound_rows.grouped in
      all_append G (base_deltas t.base) _ (all_front G (base_deltas t.base) (map delta_in t.cumulatives ++ t.singles) sound_rows.grouped)
      (all_append G (map delta_in t.cumulatives) _ (all_front G (map delta_in t.cumulatives) t.singles rest) (all_append G t.singles (d ∷ []) (all_back G (map delta_in t.cumulatives) t.singles rest) (new, tt)))

  bound_more : (d : Delta) (more : List ℕ) → more ≡ abs_totals (columns_of t.lineage) (present rows t.lineage d)
      → AreAtMost (abs_totals (columns_of t.lineage) (rows_of (map (present rows t.lineage) (base_deltas t.base ++ (t.singles ++ d ∷ []))))) (totals_with t.totals more)
  bound_more d more is =
      let parts = map (present rows l) (base_deltas t.base ++ t.singles) in
      let new = present rows l d in
      let split : map (present rows l) (base_deltas t.base ++ (t.singles ++ d ∷ [])) ≡ parts ++ new ∷ [] =
      ap (map (present rows l)) (sym (append_assoc (base_deltas t.base) t.singles (d ∷ []))) ∙ map-append (present rows l) (base_deltas t.base ++ t.singles) (d ∷ []) in
      let all : rows_of (map (present rows l) (base_deltas t.base ++ (t.singles ++ d ∷ []))) ≡ rows_of parts ++ new = ap rows_of split ∙ rows_push parts new in
      let sums : abs_totals s (rows_of parts ++ new) ≡ map (λ c. abs_total c (rows_of parts) + abs_total c new) (sum_places 0 (aggs_of s)) =
      same_map (λ c. abs_total c (rows_of parts ++ new)) (λ c. abs_total c (rows_of parts) + abs_total c new) (sum_places 0 (aggs_of s)) (λ c. abs_append c (rows_of parts) new) in
      subst (λ x. AreAtMost x (totals_with t.totals more)) (sym (ap (abs_totals s) all ∙ sums))
      (subst (λ ts. AreAtMost (map (λ c. abs_total c (rows_of parts) + abs_total c new) (sum_places 0 (aggs_of s))) (totals_with t.totals ts)) (sym is)
      (at_most_more (λ c. abs_total c (rows_of parts)) (λ c. abs_total c new) (sum_places 0 (aggs_of s)) t.totals sound_rows.bound))

  -- a version without rows adds nothing
  bound_same : AreAtMost (abs_totals (columns_of t.lineage) (rows_of (map (present rows t.lineage) (base_deltas t.base ++ (t.singles ++ empty_delta ∷ []))))) t.totals
  bound_same =
      let parts = map (present rows l) (base_deltas t.base ++ t.singles) in
      let all : rows_of (map (present rows l) (base_deltas t.base ++ (t.singles ++ empty_delta ∷ []))) ≡ rows_of parts =
      ap rows_of (ap (map (present rows l)) (sym (append_assoc (base_deltas t.base) t.singles (empty_delta ∷ []))) ∙ map-append (present rows l) (base_deltas t.base ++ t.singles) (empty_delta ∷ []))
      ∙ rows_push parts [] ∙ append-nil (rows_of parts) in
      subst (λ rs. AreAtMost (abs_totals s rs) t.totals) (sym all) sound_rows.bound

  totalled : (p : Part) (load : List Row) → Brings rows t p load → IsTotalled rows t.lineage (part_delta p)
  totalled p load brings = brings.same_totals ∙ ap (λ columns. abs_totals columns (rows p.files.file.id)) (sym (ap (columns_at l) brings.epoch ∙ columns_now l))

  pub loaded_sound_rows : (p : Option Part) (load : List Row) → BringsIfAny rows t p load → BroughtTo (IsTold rows) t.lineage p → HasSoundRows rows (meta_loaded t p)
  loaded_sound_rows None load brings told = record {
    files = with_single (IsTold rows) t (meta_loaded t None) empty_delta refl refl sound_rows.files tt;
    merged = all_both (λ (e : Ending). e.to < next) (IsMerged rows t) (IsMerged rows (meta_loaded t None)) t.cumulatives (still_merged empty_delta) shaped.ends sound_rows.merged;
    grouped = grouped_more empty_delta tt;
    totals = all_append (IsTotalled rows l) t.singles (empty_delta ∷ []) sound_rows.totals (tt, tt);
    bound = bound_same;
  }
  loaded_sound_rows (Some p) load brings told =
      let d = part_delta p in
      record {
        files = with_single (IsTold rows) t (meta_loaded t (Some p)) d refl refl sound_rows.files told;
        merged = all_both (λ (e : Ending). e.to < next) (IsMerged rows t) (IsMerged rows (meta_loaded t (Some p))) t.cumulatives (still_merged d) shaped.ends sound_rows.merged;
        grouped = grouped_more d brings.grouped;
        totals = all_append (IsTotalled rows l) t.singles (d ∷ []) sound_rows.totals (totalled p load brings, tt);
        bound = bound_more d p.totals (brings.same_totals ∙ ap (abs_totals s) (sym (part_rows rows t p brings.epoch)));
      }

  -- ---- a merged range

  table_formed : (to : ℕ) → AreFormed rows t.lineage (deltas_to t to)
  table_formed to = up_to (λ (d : Delta). AreRowsOf (columns_of t.lineage) (present rows t.lineage d)) t to (all_formed rows t.lineage (deltas_of t) shaped.lineage (all_unflat (IsTold rows) (delta_live t.lineage) (deltas_of t) sound_rows.files))

  -- a new base: its rows stand for the deltas that it takes the place of
  pub based_sound_rows : (to : ℕ) (d : Delta) → AllByRecursion (IsTold rows) (delta_live t.lineage d) → AreGrouped rows t.lineage d → Replaces rows t.lineage d (deltas_to t to)
      → HasSoundRows rows (meta_swapped t true to d)
  based_sound_rows to d told grouped replaces =
      let n = to + 1 - start_in t in
      let G = AreGrouped rows l in
      let rest = all_back G (base_deltas t.base) (map delta_in t.cumulatives ++ t.singles) sound_rows.grouped in
      let olds = map (present rows l) (deltas_to t to) in
      let later = map (present rows l) (drop n t.singles) in
      let places = sum_places 0 (aggs_of s) in
      let forms = rows_formed rows l (deltas_to t to) (table_formed to) in
      let whole : take n t.singles ++ drop n t.singles ≡ t.singles = take-append-drop n t.singles in
      let parts : rows_of olds ++ rows_of later ≡ rows_of (map (present rows l) (base_deltas t.base ++ t.singles)) =
      sym (flat_map-append (λ (part : List Row). part) olds later)
      ∙ ap rows_of (sym (map-append (present rows l) (deltas_to t to) (drop n t.singles)) ∙ ap (map (present rows l)) (append_assoc (base_deltas t.base) (take n t.singles) (drop n t.singles) ∙ ap (λ ds. base_deltas t.base ++ ds) whole)) in
      let less : AllByRecursion (λ c. abs_total c (present rows l d ++ rows_of later) ≤ abs_total c (rows_of (map (present rows l) (base_deltas t.base ++ t.singles)))) places =
      all_so (λ c. abs_total c (folded (aggs_of s) olds) ≤ abs_total c (rows_of olds)) (λ c. abs_total c (present rows l d ++ rows_of later) ≤ abs_total c (rows_of (map (present rows l) (base_deltas t.base ++ t.singles)))) places
      (λ c le.
      let new : abs_total c (present rows l d) ≡ abs_total c (folded (aggs_of s) olds) = ap (abs_total c) replaces in
      let all : abs_total c (rows_of olds) + abs_total c (rows_of later) ≡ abs_total c (rows_of (map (present rows l) (base_deltas t.base ++ t.singles))) = sym (abs_append c (rows_of olds) (rows_of later)) ∙ ap (abs_total c) parts in
      omega (arith, abs_append c (present rows l d) (rows_of later), new, all, le)) (folds_less s olds forms) in
      record {
        files = swapped_meta (IsTold rows) t true to d sound_rows.files told;
        merged = tt;
        grouped = (grouped, all_drop G n t.singles (all_back G (map delta_in t.cumulatives) t.singles rest));
        totals = all_drop (IsTotalled rows l) n t.singles sound_rows.totals;
        bound = at_most_less (λ c. abs_total c (rows_of (map (present rows l) (base_deltas t.base ++ t.singles)))) (λ c. abs_total c (present rows l d ++ rows_of later)) places t.totals less sound_rows.bound;
      }

  -- a cumulative more: its rows are the fold of its range's singletons
  pub covered_sound_rows : (to : ℕ) (d : Delta) → AllByRecursion (IsTold rows) (delta_live t.lineage d) → AreGrouped rows t.lineage d → Replaces rows t.lineage d (take (to + 1 - start_in t) t.singles)
      → HasSoundRows rows (meta_swapped t false to d)
  covered_sound_rows to d told grouped replaces =
      let G = AreGrouped rows l in
      let rest = all_back G (base_deltas t.base) (map delta_in t.cumulatives ++ t.singles) sound_rows.grouped in
      let ending : Ending = record { to = to; delta = d } in
      record {
        files = swapped_meta (IsTold rows) t false to d sound_rows.files told;
        merged = all_append (IsMerged rows (meta_swapped t false to d)) t.cumulatives (ending ∷ []) sound_rows.merged (replaces, tt);
        grouped = all_append G (base_deltas t.base) _ (all_front G (base_deltas t.base) (map delta_in t.cumulatives ++ t.singles) sound_rows.grouped)
            (all_append G (map delta_in (t.cumulatives ++ ending ∷ [])) t.singles (subst (AllByRecursion G) (sym (map-append delta_in t.cumulatives (ending ∷ []))) (all_append G (map delta_in t.cumulatives) (d ∷ []) (all_front G (map delta_in t.cumulatives) t.singles rest) (grouped, tt))) (all_back G (map delta_in t.cumulatives) t.singles rest));
        totals = sound_rows.totals;
        bound = sound_rows.bound;
      }
