-- What each table of a catalogue was made of, after each record.
use Rattle.std.proofs.Common.{◌≡◌, inl, inr, ℕ, zero, suc, ◌+◌, ◌<◌, ◌≤◌, List, [], ◌∷◌, ◌++◌, map, length, Option, Some, None, Bool, true, false, ◌&&◌, ◌==◌, cond, nat_le, refl, sym, ◌∙◌, ap, subst, arith, slice_index_or, slice_set, length-append}
use Rattle.std.proofs.lemmas.Bool.{eq-eqb, ne_eqb}
use Rattle.std.proofs.lemmas.List.{length-map}
use Rattle.std.specs.Prelude.{IfSome}
use Rattle.std.specs.List.{AllByRecursion}
use Rattle.mesa_history_spec.specs.mesa_columns.declared.changes.Change.{Change}
use Rattle.mesa_history_spec.proofs.mesa_columns.Lists.{all_append, all_so}
use Rattle.mesa_history_spec.specs.mesa_span.Ranges.{base_before}
use Rattle.mesa_history_spec.specs.mesa_span.Work.{missing_end}
use Rattle.mesa_history_spec.specs.mesa_columns.declared.columns.KeyColumn.{KeyColumn}
use Rattle.mesa_history_spec.specs.mesa_columns.declared.columns.ValueColumn.{ValueColumn}
use Rattle.mesa_history_spec.specs.mesa_columns.Columns.{Columns, aggs_of}
use Rattle.mesa_history_spec.specs.mesa_schema.Changes.{Lineage, columns_at, columns_of, epoch_of}
use Rattle.mesa_history_spec.specs.mesa_fold.Folded.{folded}
use Rattle.mesa_history_spec.specs.mesa_columns.Rows.{AreRowsOf}
use Rattle.mesa_history_spec.specs.mesa_batch.Batch.{rows_for}
use Rattle.mesa_history_spec.specs.mesa_batch.Batch.{Placed}
use Rattle.mesa_history_spec.proofs.mesa_schema.LineageRecasts.{recast_allowed}
use Rattle.mesa_history_spec.specs.Law.{Accepts, Regroups, batch_written}
use Rattle.mesa_history_spec.specs.Sources.{Source, Written, range_rows, sources_from, written_recast}
use Rattle.mesa_history_spec.specs.mesa_model.Warehouse.{Table, table_at}
use Rattle.mesa_record.specs.declared.recasting.Recasting.{Recasting}
use Rattle.mesa_record.specs.declared.record.Files.{Files}
use Rattle.mesa_record.specs.declared.record.Part.{Part}
use Rattle.mesa_record.specs.declared.record.Record.TheVariants as record_of
use Rattle.mesa_record.specs.mesa_record_fields.Rules.{IsTypedChange}
use Rattle.mesa_store_spec.specs.Catalog.{Catalog, Delta, Ending, TableMeta, applied, base_told, merged_delta, new_meta, no_meta, part_of, ranges_of, recast_in, singles_told, start_in, meta_at, meta_changed, meta_from, meta_loaded, meta_recast, meta_swapped, meta_viewed, metas_loaded}
use Rattle.mesa_store_spec.specs.Fitting.{base_deltas, delta_in, expire_fits, files_fit_if_any, fits, has_epoch, is_number, is_there, kind_fits, may_be_work, live_files, meta_live, swap_fits}
use Rattle.mesa_store_spec.specs.Contents.{Rows, content, kept_of, present}
use Rattle.mesa_store_spec.specs.Sound.{HaveSoundRows, HasSoundRows}
use Rattle.mesa_store_spec.specs.Shape.{IsCatalog, IsShaped}
use Rattle.mesa_store_spec.specs.Brought.{AreTold, BringsAll, BringsIfAny, BringsRecast, Replaces, merged_of}
use Rattle.mesa_store_spec.specs.Sourced.{AreFormed, AreMadeOf, AreSourced, AreToCome, HasForm, HasSources, IsAccepted, IsMadeOf, IsMergedOf, IsSourced, IsUnwritten, found_written, written_behind}
use Rattle.mesa_store_spec.proofs.Lists.{all_unflat, both_true, is_at_most, is_equal, is_less, meta_found}
use Rattle.mesa_store_spec.proofs.ShapedBatches.{length_loaded, missing_behind, missing_there, number_is}
use Rattle.mesa_store_spec.proofs.ShapedTables.{length_set}
use Rattle.mesa_store_spec.proofs.Written.{rise_push}
use Rattle.mesa_store_spec.proofs.Changes.{rule, there}
use Rattle.mesa_store_spec.proofs.Defaults.{default_read}
use Rattle.mesa_store_spec.proofs.Found.{found_sourced, new_sourced}
use Rattle.mesa_store_spec.proofs.Moving.{kind_of, view_there}
use Rattle.mesa_store_spec.proofs.Lifted.{columns_now}
use Rattle.mesa_store_spec.proofs.Sourcing.{altered_sourced, content_made, first, forms_from, loaded_sourced, made_replaces, merge_made, merged_made, swapped_sourced, viewed_sourced}
use Rattle.mesa_store_spec.proofs.Agreeing.{Agrees, Same, SameMeta, bases, merged_deltas, same_present, singles}
use Rattle.mesa_store_spec.proofs.RecastKept.{recast_brought}
use Rattle.mesa_store_spec.proofs.RecastSourced.{recast_sourced}
use Rattle.mesa_store_spec.proofs.ShapedRecasts.{recast_its, recast_shape, recast_there}
use Rattle.mesa_store_spec.proofs.Views.{kept_at, kept_past}

module _ (rows : Rows) (written : ℕ → List Written) where
  -- one of the tables
  pub sourced_at : (number : ℕ) (tables : List TableMeta) (n : ℕ) → n < length tables → AreSourced rows written number tables → IsSourced rows (written (number + n)) (slice_index_or tables n no_meta)
  sourced_at number [] n lt all = absurd (omega (arith, lt))
  sourced_at number (t ∷ tables) zero lt all = (let e : number ≡ number + 0 = omega arith in subst (λ k. IsSourced rows (written k) t) e all.0)
  sourced_at number (t ∷ tables) (suc n) lt all =
      (let e : number + 1 + n ≡ number + suc n = omega arith in subst (λ k. IsSourced rows (written k) (slice_index_or tables n no_meta)) e (sourced_at (number + 1) tables n (omega (arith, lt)) all.1))

  -- one in the place of another
  sourced_set : (number : ℕ) (tables : List TableMeta) (n : ℕ) (u : TableMeta) → IsSourced rows (written (number + n)) u → AreSourced rows written number tables → AreSourced rows written number (slice_set tables n u)
  sourced_set number [] n u is all = tt
  sourced_set number (t ∷ tables) zero u is all = ((let e : number + 0 ≡ number = omega arith in subst (λ k. IsSourced rows (written k) u) e is), all.1)
  sourced_set number (t ∷ tables) (suc n) u is all = (all.0, sourced_set (number + 1) tables n u (let e : number + suc n ≡ number + 1 + n = omega arith in subst (λ k. IsSourced rows (written k) u) e is) all.1)

  -- one more
  sourced_push : (number : ℕ) (tables : List TableMeta) (u : TableMeta) → IsSourced rows (written (number + length tables)) u → AreSourced rows written number tables → AreSourced rows written number (tables ++ u ∷ [])
  sourced_push number [] u is all = ((let e : number + 0 ≡ number = omega arith in subst (λ k. IsSourced rows (written k) u) e is), tt)
  sourced_push number (t ∷ tables) u is all = (all.0, sourced_push (number + 1) tables u (let e : number + suc (length tables) ≡ number + 1 + length tables = omega arith in subst (λ k. IsSourced rows (written k) u) e is) all.1)

-- the range of a work
module _ (rows : Rows) where
  work_range : (c : Catalog) (t : TableMeta) (base : Bool) (from to : ℕ) → IsCatalog c → IsShaped c.floor c.next t → may_be_work c t base from to ≡ true → (ws : List Written) (its : IsSourced rows ws t)
      → (from ≡ first rows ws t its base) × (start_in t ≤ to + 1) × (to + 1 ≤ start_in t + length t.singles)
  work_range c t true from to is shaped may ws its =
      let last = both_true ((from == 0) && nat_le 1 to && nat_le (start_in t) to) (nat_le to t.oldest) may in
      let third = both_true ((from == 0) && nat_le 1 to) (nat_le (start_in t) to) last.0 in
      let two = both_true (from == 0) (nat_le 1 to) third.0 in
      let some = is_at_most 1 to two.1 in
      let behind = is_at_most (start_in t) to third.1 in
      let within = is_at_most to t.oldest last.1 in
      let whole = shaped.singles in
      let lt : to < c.next = elim shaped.oldest [ inl lt ↦ omega (arith, within, lt) | inr none ↦ absurd (omega (arith, some, within, none.0)) ] in
      (is_equal from 0 two.0, omega (arith, behind), omega (arith, whole, lt))
  work_range c t false from to is shaped may ws its =
      let both = both_true (from == start_in t) (is_number (missing_end (start_in t) (ranges_of t).cumulatives (base_before c.next)) to) may in
      let missing = number_is (missing_end (start_in t) (ranges_of t).cumulatives (base_before c.next)) to both.1 in
      let whole = shaped.singles in
      let lt : to < c.next = missing_there (start_in t) c.next to (ranges_of t).cumulatives (omega (arith, whole)) missing in
      let behind : start_in t ≤ to = missing_behind (start_in t) to (ranges_of t).cumulatives (base_before c.next) missing in
      (is_equal from (start_in t) both.0, omega (arith, behind), omega (arith, whole, lt))

-- versions that are let go leave what deltas were made of
from_sourced : (rows : Rows) (written : List Written) (version : ℕ) (t : TableMeta) → IsSourced rows written t → IsSourced rows written (meta_from version t)
from_sourced rows written version t is = record { are = is.are; there = is.there; base = is.base; cumulatives = is.cumulatives; singles = is.singles }

module _ (rows : Rows) (written : ℕ → List Written) (c : Catalog) (has : HasSources rows written c) where
  all_from : (version number : ℕ) (tables : List TableMeta) → AreSourced rows written number tables → AreSourced rows written number (map (meta_from version) tables)
  all_from version number [] all = tt
  all_from version number (t ∷ tables) all = (from_sourced rows (written number) version t all.0, all_from version (number + 1) tables all.1)

  pub expire_sourced : (version : ℕ) → HasSources rows written (applied c (record_of.Expire version))
  expire_sourced version = record {
    tables = all_from version 0 c.tables has.tables;
    others = λ number le. has.others number (let same = length-map c.tables (meta_from version) in omega (arith, le, same));
  }

  pub expire_table_sourced : (table version : ℕ) → fits c (record_of.ExpireTable table version) ≡ true → HasSources rows written (applied c (record_of.ExpireTable table version))
  expire_table_sourced table version fit =
      let there = is_less table (length c.tables) (both_true (is_there c table) (expire_fits c (meta_at c table).oldest version) (kind_of c (record_of.ExpireTable table version) fit)).0 in
      let u = meta_from version (meta_at c table) in
      let own : IsSourced rows (written (0 + table)) u = from_sourced rows (written (0 + table)) version (meta_at c table) (sourced_at rows written 0 c.tables table there has.tables) in
      record {
        tables = sourced_set rows written 0 c.tables table u own has.tables;
        others = λ number le. has.others number (let same = length_set c.tables table u in omega (arith, le, same));
      }

module _ (rows : Rows) (written : ℕ → List Written) (c : Catalog) (is : IsCatalog c) (has : HasSources rows written c) where
  pub own : (table : ℕ) → table < length c.tables → IsSourced rows (written table) (meta_at c table)
  own table lt = (let e : 0 + table ≡ table = omega arith in subst (λ k. IsSourced rows (written k) (meta_at c table)) e (sourced_at rows written 0 c.tables table lt has.tables))

  -- one table in the place of another
  set : (table : ℕ) (u : TableMeta) → IsSourced rows (written table) u → HasSources rows written (record c { tables = slice_set c.tables table u })
  set table u its =
      let e : table ≡ 0 + table = omega arith in
      record {
        tables = sourced_set rows written 0 c.tables table u (subst (λ k. IsSourced rows (written k) u) e its) has.tables;
        others = λ number le. has.others number (let same = length_set c.tables table u in omega (arith, le, same));
      }

  pub table_sourced : (name : List ℕ) (keys : List KeyColumn) (values : List ValueColumn) → HasSources rows written (applied c (record_of.Table name keys values))
  table_sourced name keys values =
      let s : Columns = record { keys = keys; values = values } in
      let e : length c.tables ≡ 0 + length c.tables = omega arith in
      record {
        tables = sourced_push rows written 0 c.tables (new_meta c name s) (subst (λ k. IsSourced rows (written k) (new_meta c name s)) e (new_sourced rows c name s (written (length c.tables)) is (has.others (length c.tables) (omega arith)))) has.tables;
        others = λ number le. has.others number (let more = length-append c.tables (new_meta c name s ∷ []) in omega (arith, le, more));
      }

  pub view_sourced : (sound_rows : HaveSoundRows rows c) (table : ℕ) (name : List ℕ) (keys values : List (List ℕ)) → fits c (record_of.View table name keys values) ≡ true → HasSources rows written (applied c (record_of.View table name keys values))
  view_sourced sound_rows table name keys values fit =
      set table (meta_viewed (meta_at c table) name keys values) (viewed_sourced rows (written table) (meta_at c table) name keys values (own table (view_there rows c sound_rows table name keys values fit)))

  pub alter_sourced : (table : ℕ) (change : Change) → fits c (record_of.Alter table change) ≡ true → IsTypedChange change → HasSources rows written (applied c (record_of.Alter table change))
  alter_sourced table change fit typed =
      let kind = kind_of c (record_of.Alter table change) fit in
      let lt = there c table change is kind in
      let shaped = meta_found (IsShaped c.floor c.next) c.tables table lt is.tables in
      let default = default_read (meta_at c table).lineage change typed (rule c table change is kind) in
      set table (meta_changed (meta_at c table) change) (altered_sourced rows c.floor c.next (written table) (meta_at c table) change shaped default (own table lt))

  -- ---- a merged range

  module _ (table : ℕ) (base : Bool) (from to epoch : ℕ) (files : Option Files) (fit : fits c (record_of.Swap table base from to epoch files) ≡ true) where
    swap_kind : (is_there c table && swap_fits c (meta_at c table) base from to epoch files) ≡ true
    swap_kind = kind_of c (record_of.Swap table base from to epoch files) fit

    swap_table : table < length c.tables
    swap_table = is_less table (length c.tables) (both_true (is_there c table) (swap_fits c (meta_at c table) base from to epoch files) swap_kind).0

    swap_shaped : IsShaped c.floor c.next (meta_at c table)
    swap_shaped = meta_found (IsShaped c.floor c.next) c.tables table swap_table is.tables

    swap_work : may_be_work c (meta_at c table) base from to ≡ true
    swap_work =
        let t = meta_at c table in
        let all = (both_true (is_there c table) (swap_fits c t base from to epoch files) swap_kind).1 in
        (both_true (may_be_work c t base from to) (has_epoch t.lineage epoch) (both_true (may_be_work c t base from to && has_epoch t.lineage epoch) (files_fit_if_any t.lineage epoch files) all).0).0

    swap_range : (from ≡ first rows (written table) (meta_at c table) (own table swap_table) base) × (start_in (meta_at c table) ≤ to + 1) × (to + 1 ≤ start_in (meta_at c table) + length (meta_at c table).singles)
    swap_range = work_range rows c (meta_at c table) base from to is swap_shaped swap_work (written table) (own table swap_table)

    -- a merged range whose rows were made of what was written in it
    pub swap_sourced : IsMadeOf rows (meta_at c table).lineage (written table) from to (merged_delta epoch files) → HasSources rows written (applied c (record_of.Swap table base from to epoch files))
    swap_sourced made =
        let t = meta_at c table in
        set table (meta_swapped t base to (merged_delta epoch files)) (swapped_sourced rows (written table) t base to (merged_delta epoch files) (own table swap_table) swap_range.1 swap_range.2
        (subst (λ f. IsMadeOf rows t.lineage (written table) f to (merged_delta epoch files)) swap_range.0 made))

    -- and its rows replace what the table has of it
    pub swap_replaces : IsMadeOf rows (meta_at c table).lineage (written table) from to (merged_delta epoch files) → Replaces rows (meta_at c table).lineage (merged_delta epoch files) (merged_of (meta_at c table) base to)
    swap_replaces made =
        let t = meta_at c table in
        made_replaces rows (written table) t (own table swap_table) base to (merged_delta epoch files) swap_range.1 swap_range.2 (subst (λ f. IsMadeOf rows t.lineage (written table) f to (merged_delta epoch files)) swap_range.0 made)

  -- ---- a batch

  module _ (parts : List Part) (batch : List Placed) (accepted : IsAccepted c batch) where
    -- what it writes of the table of a number
    abbrev its_written : ℕ → Written
    its_written number = batch_written (kept_of rows c).store c.next batch number

    loaded_one : (number : ℕ) (t : TableMeta) → IsShaped c.floor c.next t → IsSourced rows (written number) t → BringsIfAny rows t (part_of number parts) (rows_for number batch) → AreRowsOf (columns_of t.lineage) (rows_for number batch)
        → epoch_of (table_at (kept_of rows c).store number).lineage ≡ epoch_of t.lineage → IsSourced rows (written_behind rows c (Accepts c.next batch) written number) (meta_loaded t (part_of number parts))
    loaded_one number t shaped sourced brings form epoch =
        let w = its_written number in
        let whole = shaped.singles in
        let columns : columns_of t.lineage ≡ columns_at t.lineage w.source.epoch = sym (ap (columns_at t.lineage) epoch ∙ columns_now t.lineage) in
        loaded_sourced rows (written number) t (part_of number parts) w sourced brings
        (record { epoch = omega (arith, epoch); form = subst (λ s. AreRowsOf s w.source.rows) columns form }) epoch (sym whole)
        (all_so (λ (e : Ending). e.to < c.next) (λ (e : Ending). e.to < start_in t + length t.singles) t.cumulatives (λ e lt. (let le : e.to < start_in t + length t.singles = omega (arith, lt, whole) in le)) shaped.ends)

    loaded_all : (number : ℕ) (tables : List TableMeta) → ((i : ℕ) → i < length tables → epoch_of (table_at (kept_of rows c).store (number + i)).lineage ≡ epoch_of (slice_index_or tables i no_meta).lineage)
        → AllByRecursion (IsShaped c.floor c.next) tables → AreSourced rows written number tables → BringsAll rows parts batch number tables → AreFormed batch number tables
        → AreSourced rows (written_behind rows c (Accepts c.next batch) written) number (metas_loaded parts number tables)
    loaded_all number [] at shaped all brings forms = tt
    loaded_all number (t ∷ tables) at shaped all brings forms = (
      loaded_one number t shaped.0 all.0 brings.0 forms.0 (let e : number ≡ number + 0 = omega arith in ap (λ n. epoch_of (table_at (kept_of rows c).store n).lineage) e ∙ at 0 (omega arith)),
      loaded_all (number + 1) tables (λ i lt. (let e : number + 1 + i ≡ number + suc i = omega arith in ap (λ n. epoch_of (table_at (kept_of rows c).store n).lineage) e ∙ at (suc i) (omega (arith, lt)))) shaped.1 all.1 brings.1 forms.1,
    )

    still_to_come : (number : ℕ) → length c.tables ≤ number → AreToCome (c.next + 1) (written_behind rows c (Accepts c.next batch) written number)
    still_to_come number le =
        let come = has.others number le in
        let w = its_written number in
        let first : w.source.epoch ≡ 0 = ap (λ (t : Table). epoch_of t.lineage) (kept_past rows c number le) in
        record {
          nothing = all_append IsUnwritten (written number) (w ∷ []) come.nothing ((first, accepted.within number le), tt);
          rise = rise_push 0 (written number) w come.rise come.there (omega arith);
          there = all_append (λ (x : Written). x.version < c.next + 1) (written number) (w ∷ [])
              (all_so (λ (x : Written). x.version < c.next) (λ (x : Written). x.version < c.next + 1) (written number) (λ x lt. (let e : x.version < c.next + 1 = omega (arith, lt) in e)) come.there)
              ((let e : w.version < c.next + 1 = omega arith in e), tt);
        }

    pub publish_sourced : (version : ℕ) → BringsAll rows parts batch 0 c.tables → HasSources rows (written_behind rows c (Accepts c.next batch) written) (applied c (record_of.Publish version parts))
    publish_sourced version brings = record {
      tables = loaded_all 0 c.tables (λ i lt. (let e : 0 + i ≡ i = omega arith in ap (λ n. epoch_of (table_at (kept_of rows c).store n).lineage) e ∙ ap (λ (t : Table). epoch_of t.lineage) (kept_at rows c i lt))) is.tables has.tables brings accepted.formed;
      others = λ number le. still_to_come number (let same = length_loaded parts 0 c.tables in omega (arith, le, same));
    }

  -- ---- a recast

  -- the table is made of what was written of it, regrouped; of others nothing changes
  module _ (k : Recasting) (fit : kind_fits c (record_of.Recast k) ≡ true) (told : AreTold rows c (record_of.Recast k)) (brings : BringsRecast rows c.next (meta_at c k.table) k) where
    its_there : k.table < length c.tables
    its_there = recast_there c k is fit

    later_here : written_behind rows c (Regroups k.table (recast_in k)) written k.table ≡ map (written_recast (meta_at c k.table).lineage (recast_in k)) (written k.table)
    later_here =
        ap (λ b. cond b (map (written_recast (table_at (kept_of rows c).store k.table).lineage (recast_in k)) (written k.table)) (written k.table)) (eq-eqb k.table k.table refl)
        ∙ ap (λ (t : Table). map (written_recast t.lineage (recast_in k)) (written k.table)) (kept_at rows c k.table its_there)

    later_else : (number : ℕ) → (k.table ≡ number → ⊥) → written_behind rows c (Regroups k.table (recast_in k)) written number ≡ written number
    later_else number other = ap (λ b. cond b (map (written_recast (table_at (kept_of rows c).store number).lineage (recast_in k)) (written number)) (written number)) (ne_eqb k.table number other)

    -- the tables behind it
    tables_behind : (number : ℕ) (tables : List TableMeta) → k.table < number → AreSourced rows written number tables → AreSourced rows (written_behind rows c (Regroups k.table (recast_in k)) written) number tables
    tables_behind number [] lt all = tt
    tables_behind number (x ∷ tables) lt all = (
      subst (λ ws. IsSourced rows ws x) (sym (later_else number (λ same. omega (arith, same, lt)))) all.0,
      tables_behind (number + 1) tables (omega (arith, lt)) all.1,
    )

    tables_round : (number : ℕ) (tables : List TableMeta) (n : ℕ) (u : TableMeta) → number + n ≡ k.table → IsSourced rows (written_behind rows c (Regroups k.table (recast_in k)) written k.table) u → AreSourced rows written number tables
        → AreSourced rows (written_behind rows c (Regroups k.table (recast_in k)) written) number (slice_set tables n u)
    tables_round number [] n u at its all = tt
    tables_round number (x ∷ tables) zero u at its all = (
      (let e : k.table ≡ number = omega (arith, at) in subst (λ m. IsSourced rows (written_behind rows c (Regroups k.table (recast_in k)) written m) u) e its),
      tables_behind (number + 1) tables (omega (arith, at)) all.1,
    )
    tables_round number (x ∷ tables) (suc n) u at its all = (
      subst (λ ws. IsSourced rows ws x) (sym (later_else number (λ same. omega (arith, same, at)))) all.0,
      tables_round (number + 1) tables n u (omega (arith, at)) its all.1,
    )

    pub recast_sources : HasSources rows (written_behind rows c (Regroups k.table (recast_in k)) written) (applied c (record_of.Recast k))
    recast_sources =
        let t = meta_at c k.table in
        let u = meta_recast c.next t k in
        let shaped = recast_shape c k is fit in
        let rules = (recast_allowed t.lineage (recast_in k) (recast_its c k is fit).checked).rules in
        let made = recast_sourced rows c.floor c.next (written k.table) t (recast_in k) (base_told k) (singles_told c.next t k) shaped (own k.table its_there) rules (recast_brought c k is fit rows told brings) in
        record {
          tables = tables_round 0 c.tables k.table u (omega arith) (subst (λ ws. IsSourced rows ws u) (sym later_here) made) has.tables;
          others = λ number le.
              let most : length c.tables ≤ number = (let same = length_set c.tables k.table u in omega (arith, le, same)) in
              subst (AreToCome c.next) (sym (later_else number (λ same. (let lt = its_there in omega (arith, same, most, lt))))) (has.others number most);
        }

-- ---- the start

-- A catalogue of sound rows was made of what is found written of it.
pub all_found : (rows : Rows) (c : Catalog) → IsCatalog c → HaveSoundRows rows c → HasSources rows (λ number. found_written rows (meta_at c number)) c
all_found rows c is sound_rows = record {
  tables = each 0 c.tables (λ i lt. (let e : 0 + i ≡ i = omega arith in ap (meta_at c) e)) is.tables sound_rows;
  others = λ number le. subst (λ t. AreToCome c.next (found_written rows t)) (sym (past c.tables number le)) (record { nothing = tt; rise = tt; there = tt });
}
  where
    each : (number : ℕ) (tables : List TableMeta) → ((i : ℕ) → i < length tables → meta_at c (number + i) ≡ slice_index_or tables i no_meta) → AllByRecursion (IsShaped c.floor c.next) tables → AllByRecursion (HasSoundRows rows) tables
        → AreSourced rows (λ n. found_written rows (meta_at c n)) number tables
    each number [] at shaped sound_rows = tt
    each number (t ∷ tables) at shaped sound_rows =
        let here : meta_at c number ≡ t = (let e : number ≡ number + 0 = omega arith in ap (meta_at c) e) ∙ at 0 (omega arith) in (
          subst (λ u. IsSourced rows (found_written rows u) t) (sym here) (found_sourced rows c.floor c.next t shaped.0 sound_rows.0),
          each (number + 1) tables (λ i lt. (let e : number + 1 + i ≡ number + suc i = omega arith in ap (meta_at c) e) ∙ at (suc i) (omega (arith, lt))) shaped.1 sound_rows.1,
        )

    past : (tables : List TableMeta) (i : ℕ) → length tables ≤ i → slice_index_or tables i no_meta ≡ no_meta
    past [] i le = refl
    past (t ∷ tables) zero le = absurd (omega (arith, le))
    past (t ∷ tables) (suc i) le = past tables i (omega (arith, le))

-- ---- other rows

module _ (old new : Rows) where
  made_alike : (l : Lineage) (written : List Written) (from to : ℕ) (d : Delta) → Same old new l d → IsMadeOf old l written from to d → IsMadeOf new l written from to d
  made_alike l written from to d same is = same_present old new l d same ∙ is

  base_alike : (l : Lineage) (written : List Written) (o : Option Ending) → AllByRecursion (Same old new l) (base_deltas o) → IfSome o (λ (e : Ending). IsMadeOf old l written 0 e.to e.delta) → IfSome o (λ (e : Ending). IsMadeOf new l written 0 e.to e.delta)
  base_alike l written None same is = is
  base_alike l written (Some e) same is = made_alike l written 0 e.to e.delta same.0 is

  singles_alike : (l : Lineage) (written : List Written) (version : ℕ) (ds : List Delta) → AllByRecursion (Same old new l) ds → AreMadeOf old l written version ds → AreMadeOf new l written version ds
  singles_alike l written version [] same all = tt
  singles_alike l written version (d ∷ ds) same all = (made_alike l written version version d same.0 all.0, singles_alike l written (version + 1) ds same.1 all.1)

  endings_alike : (l : Lineage) (written : List Written) (start : ℕ) (es : List Ending) → AllByRecursion (Same old new l) (map delta_in es) → AllByRecursion (λ (e : Ending). IsMadeOf old l written start e.to e.delta) es → AllByRecursion (λ (e : Ending). IsMadeOf new l written start e.to e.delta) es
  endings_alike l written start [] same all = tt
  endings_alike l written start (e ∷ es) same all = (made_alike l written start e.to e.delta same.0 all.0, endings_alike l written start es same.1 all.1)

  table_alike : (written : List Written) (t : TableMeta) → SameMeta old new t → IsSourced old written t → IsSourced new written t
  table_alike written t same is = record {
    are = is.are;
    there = is.there;
    base = base_alike t.lineage written t.base (bases old new t same) is.base;
    cumulatives = endings_alike t.lineage written (start_in t) t.cumulatives (merged_deltas old new t same) is.cumulatives;
    singles = singles_alike t.lineage written (start_in t) t.singles (singles old new t same) is.singles;
  }

  tables_alike : (written : ℕ → List Written) (number : ℕ) (tables : List TableMeta) → AllByRecursion (SameMeta old new) tables → AreSourced old written number tables → AreSourced new written number tables
  tables_alike written number [] same all = tt
  tables_alike written number (t ∷ tables) same all = (table_alike (written number) t same.0 all.0, tables_alike written (number + 1) tables same.1 all.1)

  -- Other rows that agree on all files that are named were made of the same.
  pub agree_sourced : (written : ℕ → List Written) (c : Catalog) → AllByRecursion (Agrees old new) (live_files c) → HasSources old written c → HasSources new written c
  agree_sourced written c same is = record { tables = tables_alike written 0 c.tables (all_unflat (Agrees old new) meta_live c.tables same) is.tables; others = is.others }

-- ---- what sources tell

module _ (rows : Rows) (written : ℕ → List Written) (c : Catalog) (is : IsCatalog c) (has : HasSources rows written c) (table : ℕ) (lt : table < length c.tables) where
  its : IsSourced rows (written table) (meta_at c table)
  its = own rows written c is has table lt

  shaped : IsShaped c.floor c.next (meta_at c table)
  shaped = meta_found (IsShaped c.floor c.next) c.tables table lt is.tables

  -- A content is what was written to its version.
  pub content_written : (version : ℕ) → (meta_at c table).oldest ≤ version → version < c.next → content rows (meta_at c table) version ≡ range_rows (meta_at c table).lineage (epoch_of (meta_at c table).lineage) (sources_from 0 version (written table))
  content_written version from to =
      let base = shaped.base in
      let whole = shaped.singles in
      content_made rows (written table) (meta_at c table) its version (omega (arith, base, from)) (omega (arith, whole, to))

  -- What a work reads folds to what was written in its range.
  pub work_written : (base : Bool) (from to : ℕ) → may_be_work c (meta_at c table) base from to ≡ true
      → folded (aggs_of (columns_of (meta_at c table).lineage)) (map (present rows (meta_at c table).lineage) (merged_of (meta_at c table) base to)) ≡ range_rows (meta_at c table).lineage (epoch_of (meta_at c table).lineage) (sources_from from to (written table))
  work_written base from to may =
      let t = meta_at c table in
      let range = work_range rows c t base from to is shaped may (written table) its in
      merged_made rows (written table) t its base to range.1 range.2 ∙ ap (λ f. range_rows t.lineage (epoch_of t.lineage) (sources_from f to (written table))) (sym range.0)

  -- All that was written is of epochs that the table had.
  pub epochs_written : (from to : ℕ) → AllByRecursion (λ (s : Source). s.epoch ≤ epoch_of (meta_at c table).lineage) (sources_from from to (written table))
  epochs_written from to =
      all_so (HasForm (meta_at c table).lineage) (λ (s : Source). s.epoch ≤ epoch_of (meta_at c table).lineage) (sources_from from to (written table)) (λ s form. form.epoch) (forms_from (meta_at c table).lineage from to (written table) its.are.forms)

  -- What was merged in its own epoch is made of its range at present.
  pub merge_written : (from to : ℕ) (d : Delta) → IsMergedOf rows (meta_at c table).lineage (written table) from to d → IsMadeOf rows (meta_at c table).lineage (written table) from to d
  merge_written from to d m = merge_made rows (written table) (meta_at c table) its from to d shaped.lineage m
