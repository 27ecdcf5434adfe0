-- The files that a catalogue names after a record are those that it named and those that the record brings.
use Rattle.std.proofs.Common.{◌≡◌, ◌≢◌, ℕ, suc, ◌+◌, ◌-◌, ◌<◌, List, [], ◌∷◌, ◌++◌, map, length, drop, Option, Some, None, true, false, Bool, cond, not, ◌||◌, ◌==◌, refl, sym, ◌∙◌, ap, subst, arith, slice_index_or}
use Rattle.std.proofs.lemmas.Bool.Decides.{nat_tests}
use Rattle.std.proofs.lemmas.List.{map-append}
use Rattle.std.specs.List.{AllByRecursion}
use Rattle.mesa_history_spec.specs.mesa_schema.Changes.{Lineage}
use Rattle.mesa_record.specs.declared.record.Part.{Part}
use Rattle.mesa_record.specs.declared.record.Files.{Files}
use Rattle.mesa_record.specs.declared.record.Record.{Record}
use Rattle.mesa_record.specs.declared.record.Record.TheVariants as record_of
use Rattle.mesa_store_spec.specs.Catalog.{Delta, TableMeta, Catalog, start_in, part_of, meta_from, meta_loaded, metas_loaded, meta_swapped, meta_at, no_meta, merged_delta, applied, empty_delta, part_delta}
use Rattle.mesa_store_spec.specs.Fitting.{LiveFile, base_deltas, delta_in, deltas_of, delta_live, meta_live, files_live, part_live, live_files, live_id, brought, are_new_ids, brings_new_files, fits, has_number, kind_fits}
use Rattle.mesa_store_spec.specs.Held.{IsUnnamed}
use Rattle.mesa_history_spec.proofs.mesa_columns.Lists.{all_append, all_so, all_drop, all_map, all_set}
use Rattle.mesa_store_spec.proofs.Lists.{all_front, all_back, all_flat, all_unflat, all_unmap, both_true, not_true, meta_found}

module _ (P : LiveFile → Type 0) where
  -- all files of a delta
  abbrev pub Q : Lineage → Delta → Type 0
  Q l d = AllByRecursion P (delta_live l d)

  abbrev pub R : TableMeta → Type 0
  R t = AllByRecursion P (meta_live t)

  pub with_single : (t u : TableMeta) (d : Delta) → u.lineage ≡ t.lineage → deltas_of u ≡ base_deltas t.base ++ (map delta_in t.cumulatives ++ (t.singles ++ d ∷ [])) → R t → Q t.lineage d → R u
  with_single t u d same deltas all new =
      let l = t.lineage in
      let old = all_unflat P (delta_live l) (deltas_of t) all in
      let base = all_front (Q l) (base_deltas t.base) (map delta_in t.cumulatives ++ t.singles) old in
      let rest = all_back (Q l) (base_deltas t.base) (map delta_in t.cumulatives ++ t.singles) old in
      let merged = all_front (Q l) (map delta_in t.cumulatives) t.singles rest in
      let singles = all_back (Q l) (map delta_in t.cumulatives) t.singles rest in
      let more : AllByRecursion (Q l) (base_deltas t.base ++ (map delta_in t.cumulatives ++ (t.singles ++ d ∷ []))) =
      all_append (Q l) (base_deltas t.base) _ base (all_append (Q l) (map delta_in t.cumulatives) _ merged (all_append (Q l) t.singles (d ∷ []) singles (new, tt))) in
      all_flat P (delta_live u.lineage) (deltas_of u) (subst (λ k. AllByRecursion (Q k) (deltas_of u)) (sym same) (subst (AllByRecursion (Q l)) (sym deltas) more))

  -- what a batch brings to a table
  abbrev pub BroughtTo : Lineage → Option Part → Type 0
  BroughtTo l None = Unit {0}
  BroughtTo l (Some p) = AllByRecursion P (files_live l p.epoch (Some p.files))

  loaded_meta : (t : TableMeta) (p : Option Part) → R t → BroughtTo t.lineage p → R (meta_loaded t p)
  loaded_meta t None all new = with_single t (meta_loaded t None) empty_delta refl refl all tt
  loaded_meta t (Some p) all new = with_single t (meta_loaded t (Some p)) (part_delta p) refl refl all new

  found_first : (c : Catalog) (number : ℕ) (q : Part) (qs : List Part) → AllByRecursion P (part_live c q) → BroughtTo (meta_at c number).lineage (part_of number qs) → (b : Bool) → (q.table == number) ≡ b → BroughtTo (meta_at c number).lineage (cond b (Some q) (part_of number qs))
  found_first c number q qs own rest true e = let same : q.table ≡ number = grind (arith, nat_tests) in subst (λ n. AllByRecursion P (files_live (meta_at c n).lineage q.epoch (Some q.files))) same own
  found_first c number q qs own rest false e = rest

  pub found_part : (c : Catalog) (number : ℕ) (parts : List Part) → AllByRecursion (λ (p : Part). AllByRecursion P (part_live c p)) parts → BroughtTo (meta_at c number).lineage (part_of number parts)
  found_part c number [] all = tt
  found_part c number (q ∷ qs) all = found_first c number q qs all.0 (found_part c number qs all.1) (q.table == number) refl

  loaded_metas : (c : Catalog) (parts : List Part) (number : ℕ) (tables : List TableMeta) → ((i : ℕ) → i < length tables → meta_at c (number + i) ≡ slice_index_or tables i no_meta)
      → AllByRecursion R tables → AllByRecursion (λ (p : Part). AllByRecursion P (part_live c p)) parts → AllByRecursion R (metas_loaded parts number tables)
  loaded_metas c parts number [] at all new = tt
  loaded_metas c parts number (t ∷ tables) at all new =
      let here : meta_at c number ≡ t = (let e : number ≡ number + 0 = omega arith in ap (meta_at c) e) ∙ at 0 (omega arith) in (
        loaded_meta t (part_of number parts) all.0 (subst (λ (s : TableMeta). BroughtTo s.lineage (part_of number parts)) here (found_part c number parts new)),
        loaded_metas c parts (number + 1) tables (λ i lt. (let e : number + 1 + i ≡ number + suc i = omega arith in ap (meta_at c) e) ∙ at (suc i) (omega (arith, lt))) all.1 new,
      )

  pub named_published : (c : Catalog) (version : ℕ) (parts : List Part) → AllByRecursion P (live_files c) → AllByRecursion P (brought c (record_of.Publish version parts)) → AllByRecursion P (live_files (applied c (record_of.Publish version parts)))
  named_published c version parts all new =
      all_flat P meta_live (metas_loaded parts 0 c.tables)
      (loaded_metas c parts 0 c.tables (λ i lt. (let e : 0 + i ≡ i = omega arith in ap (meta_at c) e)) (all_unflat P meta_live c.tables all) (all_unflat P (part_live c) parts new))

  pub swapped_meta : (t : TableMeta) (base : Bool) (to : ℕ) (d : Delta) → R t → Q t.lineage d → R (meta_swapped t base to d)
  swapped_meta t base to d all new = by base
    where
      l : Lineage
      l = t.lineage

      old : AllByRecursion (Q t.lineage) (deltas_of t)
      old = all_unflat P (delta_live t.lineage) (deltas_of t) all

      rest : AllByRecursion (Q t.lineage) (map delta_in t.cumulatives ++ t.singles)
      rest = all_back (Q t.lineage) (base_deltas t.base) (map delta_in t.cumulatives ++ t.singles) old

      singles : AllByRecursion (Q t.lineage) t.singles
      singles = all_back (Q t.lineage) (map delta_in t.cumulatives) t.singles rest

      by : (base : Bool) → R (meta_swapped t base to d)
      by true = all_flat P (delta_live t.lineage) (d ∷ drop (to + 1 - start_in t) t.singles) (new, all_drop (Q t.lineage) (to + 1 - start_in t) t.singles singles)
      by false =
          let base = all_front (Q t.lineage) (base_deltas t.base) (map delta_in t.cumulatives ++ t.singles) old in
          let merged = all_front (Q t.lineage) (map delta_in t.cumulatives) t.singles rest in
          let more : AllByRecursion (Q t.lineage) (map delta_in (t.cumulatives ++ record { to = to; delta = d } ∷ [])) =
          subst (AllByRecursion (Q t.lineage)) (sym (map-append delta_in t.cumulatives (record { to = to; delta = d } ∷ []))) (all_append (Q t.lineage) (map delta_in t.cumulatives) (d ∷ []) merged (new, tt)) in
          all_flat P (delta_live t.lineage) (deltas_of (meta_swapped t false to d)) (all_append (Q t.lineage) (base_deltas t.base) _ base (all_append (Q t.lineage) _ t.singles more singles))

  pub named_swapped : (c : Catalog) (table : ℕ) (base : Bool) (from to epoch : ℕ) (files : Option Files) → table < length c.tables → AllByRecursion P (live_files c) → AllByRecursion P (brought c (record_of.Swap table base from to epoch files))
      → AllByRecursion P (live_files (applied c (record_of.Swap table base from to epoch files)))
  named_swapped c table base from to epoch files there all new =
      let metas = all_unflat P meta_live c.tables all in
      let t = meta_at c table in
      all_flat P meta_live _ (all_set R c.tables table (meta_swapped t base to (merged_delta epoch files)) (swapped_meta t base to (merged_delta epoch files) (meta_found R c.tables table there metas) new) metas)

  pub named_run : (c : Catalog) (number : ℕ) → AllByRecursion P (live_files c) → AllByRecursion P (live_files (applied c (record_of.Run number)))
  named_run c number all = all

  pub named_expired : (c : Catalog) (version : ℕ) → AllByRecursion P (live_files c) → AllByRecursion P (live_files (applied c (record_of.Expire version)))
  named_expired c version all = all_flat P meta_live (map (meta_from version) c.tables) (all_map R (meta_from version) c.tables (all_unflat P meta_live c.tables all))

  pub named_expired_of : (c : Catalog) (table version : ℕ) → table < length c.tables → AllByRecursion P (live_files c) → AllByRecursion P (live_files (applied c (record_of.ExpireTable table version)))
  named_expired_of c table version there all =
      let metas = all_unflat P meta_live c.tables all in
      all_flat P meta_live _ (all_set R c.tables table (meta_from version (meta_at c table)) (meta_found R c.tables table there metas) metas)

-- ---- new ids

none_first : (id t : ℕ) (taken : List ℕ) → (has_number id taken ≡ false → AllByRecursion (λ u. u ≢ id) taken) → (b : Bool) → (id == t) ≡ b → (b || has_number id taken) ≡ false → AllByRecursion (λ u. u ≢ id) (t ∷ taken)
none_first id t taken rest true is e = absurd (let f : true ≡ false = e in cc)
none_first id t taken rest false is e = ((λ same. let f : t ≡ id = same in let n : (id == t) ≡ true = grind (arith, nat_tests) in let g : true ≡ false = sym n ∙ is in cc), rest e)

none_has : (id : ℕ) (taken : List ℕ) → has_number id taken ≡ false → AllByRecursion (λ t. t ≢ id) taken
none_has id [] e = tt
none_has id (t ∷ taken) e = none_first id t taken (none_has id taken) (id == t) refl e

pub new_ids : (run : ℕ) (taken ids : List ℕ) → are_new_ids run taken ids ≡ true → AllByRecursion (λ id. AllByRecursion (λ t. t ≢ id) taken) ids
new_ids run taken [] e = tt
new_ids run taken (id ∷ ids) e =
    let split = both_true _ (are_new_ids run (id ∷ taken) ids) e in
    let first = both_true _ (not (has_number id taken)) split.0 in
    let rest = new_ids run (id ∷ taken) ids split.1 in
    (none_has id taken (not_true (has_number id taken) first.1), all_so (λ i. AllByRecursion (λ t. t ≢ i) (id ∷ taken)) (λ i. AllByRecursion (λ t. t ≢ i) taken) ids (λ i both. both.1) rest)

-- The ids of the files that a record brings are new.
pub brought_new : (c : Catalog) (r : Record) → fits c r ≡ true → AllByRecursion (λ (x : LiveFile). IsUnnamed c x.file.id) (brought c r)
unfolding fits
brought_new c r fit =
    let ids = new_ids c.run (map live_id (live_files c)) (map live_id (brought c r)) (both_true (kind_fits c r) (brings_new_files c r) fit).1 in
    all_so (λ (x : LiveFile). AllByRecursion (λ t. t ≢ x.file.id) (map live_id (live_files c))) (λ (x : LiveFile). IsUnnamed c x.file.id) (brought c r)
    (λ x all. all_unmap (λ t. t ≢ x.file.id) live_id (live_files c) all)
    (all_unmap (λ id. AllByRecursion (λ t. t ≢ id) (map live_id (live_files c))) live_id (brought c r) ids)
