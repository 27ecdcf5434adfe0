-- How often an id is named, after a record.
use Rattle.std.proofs.Common.{◌≡◌, ⊎_elim, ℕ, zero, suc, ◌+◌, ◌-◌, ◌<◌, ◌≤◌, List, [], ◌∷◌, ◌++◌, map, length, take, drop, replicate, flat_map, Option, Some, None, true, false, Bool, cond, not, ◌&&◌, ◌||◌, ◌==◌, ◌^◌, nat_le, nat_lt, refl, sym, ◌∙◌, ap, subst, arith, slice_index_or, slice_set}
use Rattle.std.proofs.lemmas.Bool.Decides.{nat_tests}
use Rattle.std.proofs.lemmas.Bool.{cases_lt}
use Rattle.std.proofs.lemmas.Grind.{flat_map-append}
use Rattle.std.proofs.lemmas.List.{map-append, take-append-drop}
use Rattle.std.proofs.lemmas.List.Sums.{sum_by-append}
use Rattle.std.proofs.lemmas.Simd.{map-map}
use Rattle.std.specs.List.{AllByRecursion, list_all}
use Rattle.mesa_history_spec.specs.mesa_schema.Changes.{Lineage}
use Rattle.mesa_history_spec.specs.mesa_schema.Recasts.{recast_lineage}
use Rattle.mesa_history_spec.specs.mesa_model.Warehouse.{max_versions}
use Rattle.mesa_record.specs.declared.record.Files.{Files}
use Rattle.mesa_record.specs.declared.record.Part.{Part}
use Rattle.mesa_record.specs.declared.record.Record.{Record}
use Rattle.mesa_record.specs.declared.checkpoint.CheckpointSingle.{CheckpointSingle}
use Rattle.mesa_record.specs.declared.recasting.Recasting.{Recasting}
use Rattle.mesa_record.specs.declared.record.Record.TheVariants as record_of
use Rattle.mesa_record.specs.mesa_record_fields.Rules.{rise_from}
use Rattle.mesa_record.specs.Rules.{are_parts, is_part, keeps_rules}
use Rattle.mesa_store_spec.specs.Catalog.{Catalog, Delta, Ending, TableMeta, applied, base_told, empty_delta, merged_delta, new_meta, no_meta, part_delta, part_of, recast_in, single_stated, singles_stated, singles_told, start_in, meta_at, meta_changed, meta_loaded, meta_recast, meta_swapped, meta_viewed, metas_loaded}
use Rattle.mesa_store_spec.specs.Fitting.{LiveFile, are_new_ids, base_deltas, brings_new_files, delta_in, delta_own, delta_live, deltas_of, files_live, fits, has_number, is_there, kind_fits, max_runs, own_live, part_fits, part_live, publish_fits, recast_fits, run_of_id, live_id, meta_live, swap_fits, view_live}
use Rattle.mesa_store_spec.specs.Ids.{HasOwnIds, IsNewId, brought_ids, delta_ids, dropped_deltas, dropped_ids, file_ids, named, own_delta_id, own_id, recast_dropped, times, view_id}
use Rattle.mesa_store_spec.proofs.Lists.{both_true, is_equal, is_less, not_true}
use Rattle.mesa_store_spec.proofs.Expiring.{expire_catalog_tables, expire_table_catalog_tables}
use Rattle.mesa_store_spec.proofs.Moving.{kind_of}
use Rattle.mesa_store_spec.proofs.RecastFits.{ArePlaced, IsPlaced, base_among, fits_of, placed_append, places_of, view_refs}
use Rattle.mesa_store_spec.proofs.Tables.{IsEmpty, new_deltas}

-- ---- by ids alone, whatever the columns

abbrev meta_ids : TableMeta → List ℕ
meta_ids t = flat_map delta_ids (deltas_of t)

ids_of_files : (l : Lineage) (epoch : ℕ) (files : Option Files) → map live_id (files_live l epoch files) ≡ file_ids files
ids_of_files l epoch None = refl
ids_of_files l epoch (Some f) = ap (λ ids. f.file.id ∷ ids) (map-map live_id (view_live l) f.views)

ids_of_deltas : (l : Lineage) (ds : List Delta) → map live_id (flat_map (delta_live l) ds) ≡ flat_map delta_ids ds
ids_of_deltas l [] = refl
ids_of_deltas l (d ∷ ds) = map-append live_id (delta_live l d) (flat_map (delta_live l) ds) ∙ (λ i. ids_of_files l d.epoch d.files i ++ ids_of_deltas l ds i)

ids_of_metas : (tables : List TableMeta) → map live_id (flat_map meta_live tables) ≡ flat_map meta_ids tables
ids_of_metas [] = refl
ids_of_metas (t ∷ tables) = map-append live_id (meta_live t) (flat_map meta_live tables) ∙ (λ i. ids_of_deltas t.lineage (deltas_of t) i ++ ids_of_metas tables i)

part_ids : Part → List ℕ
part_ids p = file_ids (Some p.files)

ids_of_parts : (c : Catalog) (parts : List Part) → map live_id (flat_map (part_live c) parts) ≡ flat_map part_ids parts
unfolding part_ids
ids_of_parts c [] = refl
ids_of_parts c (p ∷ parts) = map-append live_id (part_live c p) (flat_map (part_live c) parts) ∙ (λ i. ids_of_files (meta_at c p.table).lineage p.epoch (Some p.files) i ++ ids_of_parts c parts i)

own_of_files : (l : Lineage) (epoch : ℕ) (files : Option Files) → map live_id (own_live l epoch files) ≡ own_id files
own_of_files l epoch None = refl
own_of_files l epoch (Some f) = refl

ids_of_own : (l : Lineage) (ds : List Delta) → map live_id (flat_map (delta_own l) ds) ≡ flat_map own_delta_id ds
ids_of_own l [] = refl
ids_of_own l (d ∷ ds) = map-append live_id (delta_own l d) (flat_map (delta_own l) ds) ∙ (λ i. own_of_files l d.epoch d.files i ++ ids_of_own l ds i)

-- a table's own id, and those of its views
ids_parted : (files : Option Files) → file_ids files ≡ own_id files ++ map view_id (view_refs files)
ids_parted None = refl
ids_parted (Some f) = refl

-- versions without rows have no ids
no_ids : (f : Delta → List ℕ) → f empty_delta ≡ [] → (n : ℕ) → flat_map f (replicate n empty_delta) ≡ []
no_ids f none zero = refl
no_ids f none (suc n) = λ i. none i ++ no_ids f none n i

-- so ids of singletons that are told are those of the versions with rows
ids_told : (f : Delta → List ℕ) → f empty_delta ≡ [] → (from next : ℕ) (ss : List CheckpointSingle) → flat_map f (singles_stated from next ss) ≡ flat_map (λ (s : CheckpointSingle). f (single_stated s)) ss
ids_told f none from next [] = no_ids f none (next - from)
ids_told f none from next (s ∷ ss) =
    flat_map-append f (replicate (s.version - from) empty_delta) (single_stated s ∷ singles_stated (s.version + 1) next ss)
    ∙ (λ i. no_ids f none (s.version - from) i ++ (f (single_stated s) ++ ids_told f none (s.version + 1) next ss i))

-- ---- counting

module _ (id : ℕ) where
  times-append : (xs ys : List ℕ) → times id (xs ++ ys) ≡ times id xs + times id ys
  times-append xs ys = sum_by-append (λ n. cond (id == n) 1 0) xs ys

  times-next : (n : ℕ) (ids : List ℕ) → times id (n ∷ ids) ≡ cond (id == n) 1 0 + times id ids
  times-next n ids = omega (arith, times-append (n ∷ []) ids)

  -- in deltas, and in tables
  abbrev In : List Delta → ℕ
  In ds = times id (flat_map delta_ids ds)

  abbrev Of : List TableMeta → ℕ
  Of tables = times id (flat_map meta_ids tables)

  In-append : (xs ys : List Delta) → In (xs ++ ys) ≡ In xs + In ys
  In-append xs ys = ap (times id) (flat_map-append delta_ids xs ys) ∙ times-append (flat_map delta_ids xs) (flat_map delta_ids ys)

  Of-next : (t : TableMeta) (tables : List TableMeta) → Of (t ∷ tables) ≡ times id (meta_ids t) + Of tables
  Of-next t tables = times-append (meta_ids t) (flat_map meta_ids tables)

  Of-push : (tables : List TableMeta) (t : TableMeta) → Of (tables ++ t ∷ []) ≡ Of tables + times id (meta_ids t)
  Of-push tables t =
      let last = times-append (meta_ids t) [] in
      let all = ap (times id) (flat_map-append meta_ids tables (t ∷ [])) ∙ times-append (flat_map meta_ids tables) (flat_map meta_ids (t ∷ [])) in
      omega (arith, all, last)

  Of-set : (tables : List TableMeta) (n : ℕ) (u : TableMeta) → n < length tables → Of (slice_set tables n u) + times id (meta_ids (slice_index_or tables n no_meta)) ≡ Of tables + times id (meta_ids u)
  Of-set [] n u lt = absurd (omega (arith, lt))
  Of-set (t ∷ tables) zero u lt = omega (arith, Of-next t tables, Of-next u tables)
  Of-set (t ∷ tables) (suc n) u lt = omega (arith, Of-next t tables, Of-next t (slice_set tables n u), Of-set tables n u (omega (arith, lt)))

  -- a table of the same files in the place of another, where there is one
  Of-same : (tables : List TableMeta) (n : ℕ) (u : TableMeta) → meta_ids u ≡ meta_ids (slice_index_or tables n no_meta) → Of (slice_set tables n u) ≡ Of tables
  Of-same [] n u same = refl
  Of-same (t ∷ tables) zero u same = ap (λ ids. times id (ids ++ flat_map meta_ids tables)) same
  Of-same (t ∷ tables) (suc n) u same = Of-next t (slice_set tables n u) ∙ ap (λ k. times id (meta_ids t) + k) (Of-same tables n u same) ∙ sym (Of-next t tables)

  named_of : (c : Catalog) → times id (named c) ≡ Of c.tables
  named_of c = ap (times id) (ids_of_metas c.tables)

  -- ---- a table

  none_in : (ds : List Delta) → AllByRecursion IsEmpty ds → In ds ≡ 0
  none_in [] all = refl
  none_in (d ∷ ds) all = ap (λ (files : Option Files). times id (file_ids files ++ flat_map delta_ids ds)) all.0 ∙ none_in ds all.1

  -- ---- a merged range

  counted_base : (t : TableMeta) (to epoch : ℕ) (files : Option Files) → times id (meta_ids (meta_swapped t true to (merged_delta epoch files))) + In (dropped_deltas t to) ≡ times id (meta_ids t) + times id (file_ids files)
  counted_base t to epoch files =
      let n = to + 1 - start_in t in
      let cumulatives = map delta_in t.cumulatives in
      let new = times-append (file_ids files) (flat_map delta_ids (drop n t.singles)) in
      let old = In-append (base_deltas t.base) (cumulatives ++ t.singles) in
      let old_rest = In-append cumulatives t.singles in
      let gone = In-append (base_deltas t.base) (cumulatives ++ take n t.singles) in
      let gone_rest = In-append cumulatives (take n t.singles) in
      let singles = ap In (sym (take-append-drop n t.singles)) ∙ In-append (take n t.singles) (drop n t.singles) in
      omega (arith, new, old, old_rest, gone, gone_rest, singles)

  counted_cumulative : (t : TableMeta) (to epoch : ℕ) (files : Option Files) → times id (meta_ids (meta_swapped t false to (merged_delta epoch files))) ≡ times id (meta_ids t) + times id (file_ids files)
  counted_cumulative t to epoch files =
      let ending : Ending = record { to = to; delta = merged_delta epoch files } in
      let cumulatives = map delta_in t.cumulatives in
      let new = In-append (base_deltas t.base) (map delta_in (t.cumulatives ++ ending ∷ []) ++ t.singles) in
      let new_rest = In-append (map delta_in (t.cumulatives ++ ending ∷ [])) t.singles in
      let more = ap In (map-append delta_in t.cumulatives (ending ∷ [])) ∙ In-append cumulatives (merged_delta epoch files ∷ []) in
      let one = times-append (file_ids files) [] in
      let old = In-append (base_deltas t.base) (cumulatives ++ t.singles) in
      let old_rest = In-append cumulatives t.singles in
      omega (arith, new, new_rest, more, one, old, old_rest)

  -- ---- a recast

  -- a table's own files alone
  abbrev Own : List Delta → ℕ
  Own ds = times id (flat_map own_delta_id ds)

  counted_place : (l : Lineage) (epoch : ℕ) (old new : Delta) → IsPlaced l epoch old new → times id (delta_ids new) + times id (own_delta_id old) ≡ times id (delta_ids old) + times id (own_delta_id new)
  counted_place l epoch old new is =
      let now = ap (times id) (ids_parted new.files) ∙ times-append (own_id new.files) (map view_id (view_refs new.files)) in
      let was = ap (times id) (ids_parted old.files) ∙ times-append (own_id old.files) (map view_id (view_refs old.files)) in
      let same : times id (map view_id (view_refs new.files)) ≡ times id (map view_id (view_refs old.files)) = ap (λ vs. times id (map view_id vs)) is.views in
      omega (arith, now, was, same)

  counted_places : (l : Lineage) (epoch : ℕ) (olds news : List Delta) → ArePlaced l epoch olds news → In news + Own olds ≡ In olds + Own news
  counted_places l epoch [] [] is = refl
  counted_places l epoch [] (new ∷ news) is = absurd is
  counted_places l epoch (old ∷ olds) [] is = absurd is
  counted_places l epoch (old ∷ olds) (new ∷ news) is =
      let now = times-append (delta_ids new) (flat_map delta_ids news) in
      let was = times-append (delta_ids old) (flat_map delta_ids olds) in
      let own_now = times-append (own_delta_id new) (flat_map own_delta_id news) in
      let own_was = times-append (own_delta_id old) (flat_map own_delta_id olds) in
      let one = counted_place l epoch old new is.0 in
      let more = counted_places l epoch olds news is.1 in
      omega (arith, now, was, own_now, own_was, one, more)

  -- ids of a base and of singletons that a recast tells, whatever versions without rows are among them
  same_told : (f : Delta → List ℕ) → f empty_delta ≡ [] → (next other : ℕ) (t : TableMeta) (k : Recasting)
      → times id (flat_map f (base_deltas (base_told k) ++ singles_told next t k)) ≡ times id (flat_map f (base_deltas (base_told k) ++ singles_told other t k))
  same_told f none next other t k =
      let base = base_deltas (base_told k) in
      ap (times id) (flat_map-append f base (singles_told next t k)
      ∙ ap (λ ids. flat_map f base ++ ids) (ids_told f none (start_in t) next k.singles ∙ sym (ids_told f none (start_in t) other k.singles))
      ∙ sym (flat_map-append f base (singles_told other t k)))

  counted_recast : (l : Lineage) (epoch next : ℕ) (t : TableMeta) (k : Recasting) → ArePlaced l epoch (base_deltas t.base ++ t.singles) (base_deltas (base_told k) ++ singles_told next t k)
      → times id (meta_ids (meta_recast next t k)) + times id (recast_dropped t) ≡ times id (meta_ids t) + Own (base_deltas (base_told k) ++ singles_told next t k)
  counted_recast l epoch next t k is =
      let cumulatives = map delta_in t.cumulatives in
      let all = counted_places l epoch (base_deltas t.base ++ t.singles) (base_deltas (base_told k) ++ singles_told next t k) is in
      let gone = times-append (flat_map own_delta_id (base_deltas t.base ++ t.singles)) (flat_map delta_ids cumulatives) in
      let some = In-append (base_deltas t.base) t.singles in
      let was = In-append (base_deltas t.base) (cumulatives ++ t.singles) in
      let rest = In-append cumulatives t.singles in
      omega (arith, all, gone, some, was, rest)

  -- ---- a batch

  ids_if_any : Option Part → List ℕ
  ids_if_any None = []
  ids_if_any (Some p) = part_ids p

  with_single : (t u : TableMeta) (d : Delta) → deltas_of u ≡ base_deltas t.base ++ (map delta_in t.cumulatives ++ (t.singles ++ d ∷ [])) → times id (meta_ids u) ≡ times id (meta_ids t) + times id (delta_ids d)
  with_single t u d deltas =
      let cumulatives = map delta_in t.cumulatives in
      let new = ap In deltas ∙ In-append (base_deltas t.base) (cumulatives ++ (t.singles ++ d ∷ [])) in
      let new_rest = In-append cumulatives (t.singles ++ d ∷ []) in
      let more = In-append t.singles (d ∷ []) in
      let one = times-append (delta_ids d) [] in
      let old = In-append (base_deltas t.base) (cumulatives ++ t.singles) in
      let old_rest = In-append cumulatives t.singles in
      omega (arith, new, new_rest, more, one, old, old_rest)

  loaded_one : (t : TableMeta) (p : Option Part) → times id (meta_ids (meta_loaded t p)) ≡ times id (meta_ids t) + times id (ids_if_any p)
  unfolding ids_if_any part_ids
  loaded_one t None = with_single t (meta_loaded t None) empty_delta refl
  loaded_one t (Some p) = with_single t (meta_loaded t (Some p)) (part_delta p) refl

  -- in what is found for the tables from a number on
  found : List Part → ℕ → List TableMeta → ℕ
  found parts number [] = 0
  found parts number (t ∷ tables) = times id (ids_if_any (part_of number parts)) + found parts (number + 1) tables

  loaded_all : (parts : List Part) (number : ℕ) (tables : List TableMeta) → Of (metas_loaded parts number tables) ≡ Of tables + found parts number tables
  unfolding found
  loaded_all parts number [] = refl
  loaded_all parts number (t ∷ tables) =
      omega (arith, Of-next (meta_loaded t (part_of number parts)) (metas_loaded parts (number + 1) tables), Of-next t tables, loaded_one t (part_of number parts), loaded_all parts (number + 1) tables)

  nothing_found : (number : ℕ) (tables : List TableMeta) → found [] number tables ≡ 0
  unfolding found ids_if_any
  nothing_found number [] = refl
  nothing_found number (t ∷ tables) = omega (arith, nothing_found (number + 1) tables)

  is_other : (a b : ℕ) → a < b → (a == b) ≡ false
  is_other a b lt = grind (arith, nat_tests)

  -- a part of a table before is no part of these
  found_past : (p : Part) (parts : List Part) (number : ℕ) (tables : List TableMeta) → p.table < number → found (p ∷ parts) number tables ≡ found parts number tables
  unfolding found
  found_past p parts number [] lt = refl
  found_past p parts number (t ∷ tables) lt =
      (λ i. times id (ids_if_any (cond (is_other p.table number lt i) (Some p) (part_of number parts))) + found_past p parts (number + 1) tables (omega (arith, lt)) i)

  -- one part more is found at most once
  found_more : (p : Part) (parts : List Part) (number : ℕ) (tables : List TableMeta) → found (p ∷ parts) number tables ≤ times id (part_ids p) + found parts number tables
  unfolding found ids_if_any
  found_more p parts number [] = omega arith
  found_more p parts number (t ∷ tables) = by (p.table == number) refl (found_more p parts (number + 1) tables)
    where
      by : (b : Bool) → (p.table == number) ≡ b → found (p ∷ parts) (number + 1) tables ≤ times id (part_ids p) + found parts (number + 1) tables → found (p ∷ parts) number (t ∷ tables) ≤ times id (part_ids p) + found parts number (t ∷ tables)
      by true e rest =
          let same : p.table ≡ number = is_equal p.table number e in
          let here : times id (ids_if_any (part_of number (p ∷ parts))) ≡ times id (part_ids p) = ap (λ b. times id (ids_if_any (cond b (Some p) (part_of number parts)))) e in
          let past = found_past p parts (number + 1) tables (omega (arith, same)) in
          omega (arith, here, past)
      by false e rest =
          let here : times id (ids_if_any (part_of number (p ∷ parts))) ≡ times id (ids_if_any (part_of number parts)) = ap (λ b. times id (ids_if_any (cond b (Some p) (part_of number parts)))) e in
          omega (arith, here, rest)

  found_most : (parts : List Part) (number : ℕ) (tables : List TableMeta) → found parts number tables ≤ times id (flat_map part_ids parts)
  found_most [] number tables = omega (arith, nothing_found number tables)
  found_most (p ∷ parts) number tables = omega (arith, found_more p parts number tables, found_most parts number tables, times-append (part_ids p) (flat_map part_ids parts))

  -- none of these is of the table
  none_of : (number : ℕ) (parts : List Part) → rise_from (number + 1) (map (λ (p : Part). p.table) parts) ≡ true → part_of number parts ≡ None
  none_of number [] rise = refl
  none_of number (p ∷ parts) rise =
      let both = both_true (nat_le (number + 1) p.table) (rise_from (p.table + 1) (map (λ (q : Part). q.table) parts)) rise in
      let above : (p.table == number) ≡ false = (let e = both.0 in grind (arith, nat_tests)) in
      ap (λ b. cond b (Some p) (part_of number parts)) above ∙ none_of number parts (from_less (number + 1) (p.table + 1) (map (λ (q : Part). q.table) parts) (let e = both.0 in grind (arith, nat_tests)) both.1)
    where
      from_less : (a b : ℕ) (ns : List ℕ) → a ≤ b → rise_from b ns ≡ true → rise_from a ns ≡ true
      from_less a b [] le rise = refl
      from_less a b (n ∷ ns) le rise =
          let both = both_true (nat_le b n) (rise_from (n + 1) ns) rise in
          let here : nat_le a n ≡ true = (let e = both.0 in grind (arith, nat_tests)) in
          ap (λ t. t && rise_from (n + 1) ns) here ∙ both.1

  -- these are found once among the tables from a number on
  abbrev FoundEach : List Part → ℕ → List TableMeta → Type 0
  FoundEach parts number tables = rise_from number (map (λ (p : Part). p.table) parts) ≡ true → AllByRecursion (λ (p : Part). p.table < number + length tables) parts → found parts number tables ≡ times id (flat_map part_ids parts)

  -- each part is found once, where they rise and their tables are there
  found_each : (parts : List Part) (number : ℕ) (tables : List TableMeta) → rise_from number (map (λ (p : Part). p.table) parts) ≡ true → AllByRecursion (λ (p : Part). p.table < number + length tables) parts
      → found parts number tables ≡ times id (flat_map part_ids parts)
  unfolding found ids_if_any
  found_each [] number tables rise there = nothing_found number tables
  found_each (p ∷ parts) number [] rise there =
      let both = both_true (nat_le number p.table) (rise_from (p.table + 1) (map (λ (q : Part). q.table) parts)) rise in
      absurd (let e = both.0 in let lt = there.0 in grind (arith, nat_tests))
  found_each (p ∷ parts) number (t ∷ tables) rise there = by (p.table == number) refl (λ r a. found_each parts (number + 1) tables r a) (λ r a. found_each (p ∷ parts) (number + 1) tables r a)
    where
      both : (nat_le number p.table ≡ true) × (rise_from (p.table + 1) (map (λ (q : Part). q.table) parts) ≡ true)
      both = both_true (nat_le number p.table) (rise_from (p.table + 1) (map (λ (q : Part). q.table) parts)) rise

      nearer : (ps : List Part) → AllByRecursion (λ (q : Part). q.table < number + length (t ∷ tables)) ps → AllByRecursion (λ (q : Part). q.table < number + 1 + length tables) ps
      nearer [] all = tt
      nearer (q ∷ qs) all = ((let lt = all.0 in let e : q.table < number + 1 + length tables = omega (arith, lt) in e), nearer qs all.1)

      by : (b : Bool) → (p.table == number) ≡ b → FoundEach parts (number + 1) tables → FoundEach (p ∷ parts) (number + 1) tables → found (p ∷ parts) number (t ∷ tables) ≡ times id (flat_map part_ids (p ∷ parts))
      by true e rest all =
          let same : p.table ≡ number = is_equal p.table number e in
          let here : part_of number (p ∷ parts) ≡ Some p = ap (λ b. cond b (Some p) (part_of number parts)) e in
          ap (λ o. times id (ids_if_any o) + found (p ∷ parts) (number + 1) tables) here
          ∙ ap (λ k. times id (part_ids p) + k) (found_past p parts (number + 1) tables (omega (arith, same))
          ∙ rest (subst (λ n. rise_from (n + 1) (map (λ (q : Part). q.table) parts) ≡ true) same both.1) (nearer parts there.1))
          ∙ sym (times-append (part_ids p) (flat_map part_ids parts))
      by false e rest all =
          let above : nat_le (number + 1) p.table ≡ true = (let le = both.0 in grind (arith, nat_tests)) in
          let rises : rise_from (number + 1) (map (λ (q : Part). q.table) (p ∷ parts)) ≡ true = ap (λ b. b && rise_from (p.table + 1) (map (λ (q : Part). q.table) parts)) above ∙ both.1 in
          let none : times id (ids_if_any (part_of number (p ∷ parts))) ≡ 0 = ap (λ o. times id (ids_if_any o)) (none_of number (p ∷ parts) rises) in
          omega (arith, none, all rises (nearer (p ∷ parts) there))

  -- ---- every record

  parts_there : (c : Catalog) (parts : List Part) → list_all (λ (p : Part). is_there c p.table && part_fits (meta_at c p.table) p) parts ≡ true → AllByRecursion (λ (p : Part). p.table < 0 + length c.tables) parts
  parts_there c [] e = tt
  parts_there c (p ∷ parts) e =
      let both = both_true (is_there c p.table && part_fits (meta_at c p.table) p) (list_all (λ (q : Part). is_there c q.table && part_fits (meta_at c q.table) q) parts) e in
      let lt = is_less p.table (length c.tables) (both_true (is_there c p.table) (part_fits (meta_at c p.table) p) both.0).0 in
      ((let e : p.table < 0 + length c.tables = omega (arith, lt) in e), parts_there c parts both.1)

  published : (c : Catalog) (version : ℕ) (parts : List Part) → are_parts parts ≡ true → publish_fits c version parts ≡ true
      → times id (named (applied c (record_of.Publish version parts))) ≡ times id (named c) + times id (brought_ids c (record_of.Publish version parts))
  published c version parts rules e =
      let rise = (both_true (nat_lt (length parts) (2 ^ 16)) (rise_from 0 (map (λ (p : Part). p.table) parts)) (both_true _ (list_all is_part parts) rules).0).1 in
      let there = parts_there c parts (both_true ((version == c.next) && nat_lt version max_versions) _ e).1 in
      let after = named_of (applied c (record_of.Publish version parts)) in
      let brought = ap (times id) (ids_of_parts c parts) in
      omega (arith, after, named_of c, loaded_all parts 0 c.tables, found_each parts 0 c.tables rise there, brought)

  swapped : (c : Catalog) (table : ℕ) (base : Bool) (from to epoch : ℕ) (files : Option Files) → table < length c.tables
      → times id (named (applied c (record_of.Swap table base from to epoch files))) + times id (dropped_ids c (record_of.Swap table base from to epoch files))
      ≡ times id (named c) + times id (brought_ids c (record_of.Swap table base from to epoch files))
  swapped c table true from to epoch files there =
      let t = meta_at c table in
      let after = named_of (applied c (record_of.Swap table true from to epoch files)) in
      let brought = ap (times id) (ids_of_files t.lineage epoch files) in
      omega (arith, after, named_of c, brought, Of-set c.tables table (meta_swapped t true to (merged_delta epoch files)) there, counted_base t to epoch files)
  swapped c table false from to epoch files there =
      let t = meta_at c table in
      let after = named_of (applied c (record_of.Swap table false from to epoch files)) in
      let brought = ap (times id) (ids_of_files t.lineage epoch files) in
      omega (arith, after, named_of c, brought, Of-set c.tables table (meta_swapped t false to (merged_delta epoch files)) there, counted_cumulative t to epoch files)

  -- what a recast names, and what it lets go
  pub recast_names : (c : Catalog) (k : Recasting) → kind_fits c (record_of.Recast k) ≡ true
      → times id (named (applied c (record_of.Recast k))) + times id (dropped_ids c (record_of.Recast k)) ≡ times id (named c) + times id (brought_ids c (record_of.Recast k))
  recast_names c k e =
      let both = both_true (is_there c k.table) (recast_fits (meta_at c k.table) k) e in
      let there = is_less k.table (length c.tables) both.0 in
      let t = meta_at c k.table in
      let l = recast_lineage t.lineage (recast_in k) in
      let versions = start_in t + length t.singles in
      let places = places_of versions t k refl (fits_of t k both.1) in
      let placed = placed_append l k.epoch (base_deltas t.base) (base_deltas (base_told k)) t.singles (singles_told versions t k) (base_among l k.epoch t.base (base_told k) places.base) places.singles in
      let one = counted_recast l k.epoch versions t k placed in
      let named_same = same_told delta_ids refl c.next versions t k in
      let own_same = same_told own_delta_id refl c.next versions t k in
      let brought = ap (times id) (ids_of_own l (base_deltas (base_told k) ++ singles_told c.next t k)) in
      let after = named_of (applied c (record_of.Recast k)) in
      omega (arith, after, named_of c, Of-set c.tables k.table (meta_recast c.next t k) there, one, named_same, own_same, brought)

  -- What is named after a record, and what it lets go, is what was named before and what it brings.
  pub counted : (c : Catalog) (r : Record) → keeps_rules r ≡ true → kind_fits c r ≡ true → times id (named (applied c r)) + times id (dropped_ids c r) ≡ times id (named c) + times id (brought_ids c r)
  counted c (record_of.Run number) rules e = refl
  counted c (record_of.Table name keys values) rules e =
      let t = new_meta c name (record { keys = keys; values = values }) in
      omega (arith, named_of (applied c (record_of.Table name keys values)), named_of c, Of-push c.tables t, none_in (deltas_of t) (new_deltas c name (record { keys = keys; values = values })))
  counted c (record_of.View table name keys values) rules e =
      omega (arith, named_of (applied c (record_of.View table name keys values)), named_of c, Of-same c.tables table (meta_viewed (meta_at c table) name keys values) refl)
  counted c (record_of.Alter table change) rules e =
      omega (arith, named_of (applied c (record_of.Alter table change)), named_of c, Of-same c.tables table (meta_changed (meta_at c table) change) refl)
  counted c (record_of.Publish version parts) rules e = omega (arith, published c version parts rules e)
  counted c (record_of.Swap table base from to epoch files) rules e =
      swapped c table base from to epoch files (is_less table (length c.tables) (both_true (is_there c table) (swap_fits c (meta_at c table) base from to epoch files) e).0)
  counted c (record_of.Expire version) rules e = ap (λ (xs : List LiveFile). times id (map live_id xs) + times id []) (expire_catalog_tables c version)
  counted c (record_of.ExpireTable table version) rules e = ap (λ (xs : List LiveFile). times id (map live_id xs) + times id []) (expire_table_catalog_tables c table version)
  counted c (record_of.Checkpoint k) rules e = refl
  counted c (record_of.Recast k) rules e = recast_names c k e

  -- No more is named after a record than was named before, and what the record brings, whatever its rules.
  pub counted_most : (c : Catalog) (r : Record) → kind_fits c r ≡ true → times id (named (applied c r)) ≤ times id (named c) + times id (brought_ids c r)
  counted_most c (record_of.Run number) e = omega arith
  counted_most c (record_of.Table name keys values) e =
      let t = new_meta c name (record { keys = keys; values = values }) in
      omega (arith, named_of (applied c (record_of.Table name keys values)), named_of c, Of-push c.tables t, none_in (deltas_of t) (new_deltas c name (record { keys = keys; values = values })))
  counted_most c (record_of.View table name keys values) e =
      omega (arith, named_of (applied c (record_of.View table name keys values)), named_of c, Of-same c.tables table (meta_viewed (meta_at c table) name keys values) refl)
  counted_most c (record_of.Alter table change) e =
      omega (arith, named_of (applied c (record_of.Alter table change)), named_of c, Of-same c.tables table (meta_changed (meta_at c table) change) refl)
  counted_most c (record_of.Publish version parts) e =
      let brought = ap (times id) (ids_of_parts c parts) in
      omega (arith, named_of (applied c (record_of.Publish version parts)), named_of c, loaded_all parts 0 c.tables, found_most parts 0 c.tables, brought)
  counted_most c (record_of.Swap table base from to epoch files) e =
      let same = swapped c table base from to epoch files (is_less table (length c.tables) (both_true (is_there c table) (swap_fits c (meta_at c table) base from to epoch files) e).0) in
      omega (arith, same)
  counted_most c (record_of.Expire version) e =
      let same : times id (named (applied c (record_of.Expire version))) ≡ times id (named c) = ap (λ (xs : List LiveFile). times id (map live_id xs)) (expire_catalog_tables c version) in
      omega (arith, same)
  counted_most c (record_of.ExpireTable table version) e =
      let same : times id (named (applied c (record_of.ExpireTable table version))) ≡ times id (named c) = ap (λ (xs : List LiveFile). times id (map live_id xs)) (expire_table_catalog_tables c table version) in
      omega (arith, same)
  counted_most c (record_of.Checkpoint k) e = omega arith
  counted_most c (record_of.Recast k) e = omega (arith, recast_names c k e)

  -- ---- new ids

  not_among : (taken : List ℕ) → has_number id taken ≡ false → times id taken ≡ 0
  not_among [] e = refl
  not_among (t ∷ taken) e = by (id == t) refl e (not_among taken)
    where
      by : (b : Bool) → (id == t) ≡ b → (b || has_number id taken) ≡ false → (has_number id taken ≡ false → times id taken ≡ 0) → times id (t ∷ taken) ≡ 0
      by true is e rest = absurd (let f : true ≡ false = e in cc)
      by false is e rest = (let none : times id taken ≡ 0 = rest e in times-next t taken ∙ ap (λ b. cond b 1 0 + times id taken) is ∙ ap (λ n. 0 + n) none)

  -- an id among new ones: once, not taken, and of the run
  record IsNew (run : ℕ) (taken ids : List ℕ) : Type 0 where
    once : times id ids ≤ 1
    new : 0 < times id ids → times id taken ≡ 0
    run_is : 0 < times id ids → run_of_id id ≡ run

  are_new : (run : ℕ) (taken ids : List ℕ) → are_new_ids run taken ids ≡ true → IsNew run taken ids
  are_new run taken [] e = record { once = omega arith; new = λ lt. absurd (omega (arith, lt)); run_is = λ lt. absurd (omega (arith, lt)) }
  are_new run taken (x ∷ ids) e = by (id == x) refl (are_new run (x ∷ taken) ids split.1)
    where
      split : (((run_of_id x == run) && not (has_number x taken)) ≡ true) × (are_new_ids run (x ∷ taken) ids ≡ true)
      split = both_true ((run_of_id x == run) && not (has_number x taken)) (are_new_ids run (x ∷ taken) ids) e

      first : ((run_of_id x == run) ≡ true) × (not (has_number x taken) ≡ true)
      first = both_true (run_of_id x == run) (not (has_number x taken)) split.0

      by : (b : Bool) → (id == x) ≡ b → IsNew run (x ∷ taken) ids → IsNew run taken (x ∷ ids)
      by true is rest =
          let same : id ≡ x = is_equal id x is in
          let one : times id (x ∷ taken) ≡ 1 + times id taken = times-next x taken ∙ ap (λ b. cond b 1 0 + times id taken) is in
          let whole : times id (x ∷ ids) ≡ 1 + times id ids = times-next x ids ∙ ap (λ b. cond b 1 0 + times id ids) is in
          let none : times id ids ≡ 0 = ⊎_elim (λ some. absurd (let zero = rest.new some in omega (arith, one, zero))) (λ le. (let none : times id ids ≡ 0 = omega (arith, le) in none)) (cases_lt 0 (times id ids)) in
          record {
            once = omega (arith, whole, none);
            new = λ lt. not_among taken (ap (λ n. has_number n taken) same ∙ not_true (has_number x taken) first.1);
            run_is = λ lt. ap run_of_id same ∙ is_equal (run_of_id x) run first.0;
          }
      by false is rest =
          let one : times id (x ∷ taken) ≡ times id taken = times-next x taken ∙ ap (λ b. cond b 1 0 + times id taken) is ∙ (let e : 0 + times id taken ≡ times id taken = omega arith in e) in
          let whole : times id (x ∷ ids) ≡ times id ids = times-next x ids ∙ ap (λ b. cond b 1 0 + times id ids) is ∙ (let e : 0 + times id ids ≡ times id ids = omega arith in e) in
          let once = rest.once in
          record {
            once = omega (arith, whole, once);
            new = λ lt. (let zero = rest.new (omega (arith, whole, lt)) in omega (arith, one, zero));
            run_is = λ lt. rest.run_is (omega (arith, whole, lt));
          }

  brings : (c : Catalog) (r : Record) → fits c r ≡ true → IsNew c.run (named c) (brought_ids c r)
  unfolding fits
  brings c r fit = are_new c.run (named c) (brought_ids c r) (both_true (kind_fits c r) (brings_new_files c r) fit).1

  -- What a record brings has an id of its own.
  pub brought_own : (c : Catalog) (r : Record) → fits c r ≡ true → 0 < times id (brought_ids c r) → IsNewId c r id
  brought_own c r fit some = let its = brings c r fit in let once = its.once in record { once = omega (arith, once, some); new = its.new some; run = its.run_is some }

  run_rises : (c : Catalog) (r : Record) → kind_fits c r ≡ true → c.run ≤ (applied c r).run
  run_rises c (record_of.Run number) e = let next = is_equal number (c.run + 1) (both_true (number == c.run + 1) (nat_le number max_runs) e).0 in omega (arith, next)
  run_rises c (record_of.Table name keys values) e = omega arith
  run_rises c (record_of.View table name keys values) e = omega arith
  run_rises c (record_of.Alter table change) e = omega arith
  run_rises c (record_of.Publish version parts) e = omega arith
  run_rises c (record_of.Swap table base from to epoch files) e = omega arith
  run_rises c (record_of.Expire version) e = omega arith
  run_rises c (record_of.ExpireTable table version) e = omega arith
  run_rises c (record_of.Checkpoint k) e = omega arith
  run_rises c (record_of.Recast k) e = omega arith

  still_once : (c : Catalog) (r : Record) → keeps_rules r ≡ true → fits c r ≡ true → times id (named c) ≤ 1 → times id (named (applied c r)) ≤ 1
  still_once c r rules fit once =
      let all = counted c r rules (kind_of c r fit) in
      let its = brings c r fit in
      let most = its.once in
      ⊎_elim (λ some. (let zero = its.new some in let le : times id (named (applied c r)) ≤ 1 = omega (arith, all, most, zero) in le)) (λ none. (let le : times id (named (applied c r)) ≤ 1 = omega (arith, all, none, once) in le)) (cases_lt 0 (times id (brought_ids c r)))

  still_of_runs : (c : Catalog) (r : Record) → keeps_rules r ≡ true → fits c r ≡ true → (0 < times id (named c) → run_of_id id ≤ c.run) → 0 < times id (named (applied c r)) → run_of_id id ≤ (applied c r).run
  still_of_runs c r rules fit runs some =
      let all = counted c r rules (kind_of c r fit) in
      let rises = run_rises c r (kind_of c r fit) in
      let its = brings c r fit in
      ⊎_elim (λ new. (let is = its.run_is new in let le : run_of_id id ≤ (applied c r).run = omega (arith, is, rises) in le))
      (λ none. (let was = runs (omega (arith, all, none, some)) in let le : run_of_id id ≤ (applied c r).run = omega (arith, was, rises) in le)) (cases_lt 0 (times id (brought_ids c r)))

-- A record that fits keeps each id its file's own.
pub own_ids : (c : Catalog) (r : Record) → keeps_rules r ≡ true → fits c r ≡ true → HasOwnIds c → HasOwnIds (applied c r)
own_ids c r rules fit is = record { once = λ id. still_once id c r rules fit (is.once id); runs = λ id. still_of_runs id c r rules fit (is.runs id) }
