-- What is told of a recast's record.
use Rattle.std.proofs.Common.{◌≡◌, ℕ, ◌+◌, ◌<◌, ◌≤◌, ◌^◌, List, [], ◌∷◌, ◌++◌, map, length, true, sym, ◌∙◌, ap, subst, arith, Option, Some, None, Ok}
use Rattle.std.specs.Prelude.{IfSome, option_map}
use Rattle.std.specs.List.{AllByRecursion}
use Rattle.mesa_pick_files.specs.mesa_schema.Changes.{columns_of, epoch_of}
use Rattle.mesa_columns.specs.Columns.{Columns}
use Rattle.mesa_pick_files.specs.mesa_schema.Recasts.{recast_checked, recast_columns, recast_rows}
use Rattle.mesa_pick_files.specs.mesa_schema.Recasts.{Recast as Asked}
use Rattle.mesa_columns.specs.Schema.{is_schema}
use Rattle.mesa_pick_files.proofs.mesa_schema.LineageRecasts.{recast_allowed, recast_schema}
use Rattle.mesa_pick_files.proofs.mesa_schema.LineageRules.{present_schema}
use Rattle.mesa_span.specs.Ranges.{start_behind}
use Rattle.mesa_record.specs.declared.checkpoint.CheckpointSingle.{CheckpointSingle}
use Rattle.mesa_record.specs.declared.recasting.RecastBase.{RecastBase}
use Rattle.mesa_record.specs.declared.recasting.Recasting.{Recasting}
use Rattle.mesa_engine.specs.mesa_store_spec.Catalog.{Catalog, Ending, TableMeta, end_in, start_in}
use Rattle.mesa_engine.specs.mesa_store_spec.Fitting.{brought, LiveFile, are_new_ids, brings_new_files, counts_columns, fits, kind_fits, live_id, totals_fit}
use Rattle.mesa_engine.specs.mesa_store_spec.Shape.{IsCatalog, IsShaped}
use Rattle.mesa_engine.specs.mesa_store_spec.Countable.{AreCounted, IsCounted}
use Rattle.mesa_engine.specs.mesa_store_spec.Recordable.{AreRecordable, IsRecordable}
use Rattle.mesa_engine.specs.mesa_store_spec.Rewritten.{AreCovered, Covers, IsCoveredAt, Rewritten, base_rewritten, recasting_of, singles_rewritten, CountsRange, IsRewritten, IsRuled}
use Rattle.mesa_engine.proofs.mesa_store_spec.Lists.{meta_found}
use Rattle.mesa_engine.specs.EngineState.{EngineState, next_id, first_id, most_files}
use Rattle.mesa_record.specs.declared.record.Record.TheVariants as record_of
use Rattle.mesa_catalog_table.specs.Meaning.{AreLoaded, singles_from}
use Rattle.mesa_catalog_table.specs.declared.table.Loaded.{Loaded}
use Rattle.mesa_open_files.specs.Recasts.{IsRecastTask, recast_in, recast_table, AreRewritten}
use Rattle.mesa_open_files.specs.declared.recasting.Recast.{Recast}
use Rattle.mesa_file_records.specs.Grown.{HasSameColumns}
use Rattle.mesa_file_records.specs.Recasts.{AreSinglesRewritten, IsBaseRewritten, Took, rewritten_under, singles_in, meta_of_recast, AreTaken, HasItsRange, HasItsRanges, IsRecastIn, files_taken}
use Rattle.mesa_file_records.proofs.Brought.{brought_own, rewritten_joined, taken_live, live_file_list, live_ids, live_told}
use Rattle.mesa_file_records.proofs.Covering.{AreThese, base_below, base_covered, base_is, singles_are}
use Rattle.mesa_file_records.proofs.Rewriting.{same_columns, range_rewritten}
use Rattle.std.proofs.lemmas.List.{length-map}
use Rattle.mesa_columns.specs.declared.rows.Row.{Row}
use Rattle.mesa_columns.proofs.Lists.{all_so}
use Rattle.mesa_engine.specs.mesa_commit.Turn.{made_ids, told_files}
use Rattle.mesa_pick_files.specs.mesa_delta_format.File.{file_bytes}
use Rattle.mesa_pick_files.specs.mesa_delta_format.Summary.{file_layout}
use Rattle.mesa_disk.specs.Files.{HasDistinctIds, files_of}
use Rattle.mesa_engine.specs.mesa_record_fields.Rules.{is_file_ref}
use Rattle.mesa_record.specs.Rules.{keeps_rules}
use Rattle.mesa_record.specs.declared.record.Record.{Record}
use Rattle.mesa_engine.specs.mesa_commit.Filed.{AreGiven}
use Rattle.mesa_engine.specs.mesa_commit.Holding.{Among}
use Rattle.mesa_engine.specs.mesa_store_spec.Contents.{Rows}
use Rattle.mesa_engine.specs.mesa_store_spec.Sound.{IsTold, wants}
use Rattle.mesa_engine.specs.mesa_store_spec.Brought.{AreTold}
use Rattle.mesa_engine.specs.mesa_store_spec.Ids.{brought_ids, named}
use Rattle.mesa_engine.proofs.mesa_store_spec.RecastRules.{recasting_ruled}
use Rattle.mesa_engine.proofs.mesa_store_spec.RewrittenRanges.{rewritten_fits}
use Rattle.mesa_file_records.specs.Adopted.{ref_under, told_under}
use Rattle.mesa_file_records.specs.Published.{rows_with}
use Rattle.mesa_file_records.proofs.Ids.{new_ids, rows_stand, rows_stay, under_distinct, under_given, under_ids}
use Rattle.mesa_file_records.proofs.Lists.{AreAt, ids_from}
use Rattle.mesa_file_records.proofs.Parts.{AreTold as AreToldFiles, layout_under}
use Rattle.mesa_file_records.proofs.Told.{files_tell}
use Rattle.mesa_engine.specs.mesa_history_spec.Sources.{Written}
use Rattle.mesa_open_files.specs.declared.recasting.RecastRange.{RecastRange}
use Rattle.mesa_open_files.specs.declared.recasting.RecastedRange.{RecastedRange}
use Rattle.mesa_file_records.specs.declared.swapping.Swapped.{Swapped}
use Rattle.mesa_file_records.proofs.Counted.{few_totals, less, of_rows_fit}
use Rattle.mesa_file_records.proofs.Keeping.{all_true}
use Rattle.mesa_file_records.proofs.Listed.{IsListed, all_listed, beside, each_under, from_seen, listed_has}
use Rattle.mesa_file_records.proofs.TakenFiles.{AllFrom, IsOneOf, each_referred, ones_taken, referred_one, rows_taken, taken_joined}

-- a base ends before the first singleton
pub ends_before : (old : Option Ending) → IfSome old (λ (e : Ending). e.to < start_behind (option_map end_in old))
ends_before None = tt
ends_before (Some e) = omega arith

module _ {R : Type 0} (read : R → Option (List ℕ)) (l : EngineState) (shaped : IsCatalog l.catalogue) (counted : AreCounted l.catalogue) (recordable : AreRecordable l.catalogue) (t : Recast R) (task : IsRecastTask read t)
    (there : t.table < length l.catalogue.tables) (allowed : recast_checked (meta_of_recast l t).lineage (recast_in t) ≡ Ok tt) (same : HasSameColumns (recast_table t) (meta_of_recast l t).lineage) where
  abbrev c : Catalog
  c = l.catalogue

  abbrev now : TableMeta
  now = meta_of_recast l t

  abbrev r : Asked
  r = recast_in t

  pub shape : IsShaped c.floor c.next now
  shape = meta_found (IsShaped c.floor c.next) c.tables t.table there shaped.tables

  pub its_columns : IsCounted now
  its_columns = meta_found IsCounted c.tables t.table there counted.tables

  pub its_rules : IsRecordable now
  its_rules = meta_found IsRecordable c.tables t.table there recordable

  -- the columns are those that the task was granted with
  pub columns_are : columns_of now.lineage ≡ columns_of (recast_table t)
  columns_are = same_columns (recast_table t) now.lineage same

  pub schema : is_schema (recast_columns (columns_of (recast_table t)) r) ≡ true
  schema = subst (λ (s : Columns). is_schema (recast_columns s r) ≡ true) columns_are (recast_schema (columns_of now.lineage) r (present_schema now.lineage shape.lineage) (recast_allowed now.lineage r allowed).rules)

  pub epoch_is : t.epoch ≡ epoch_of now.lineage
  epoch_is = task.epoch ∙ sym (λ i. same.begins i + length (same.changes i))

  -- ---- the record of what was taken

  module _ {M : Type 0} (of_base of_singles : List (Took M)) (base : Option RecastBase) (singles : List CheckpointSingle) (loaded : List Loaded) (rise : AreLoaded (start_in now) c.next loaded) (of_loaded : singles_from (start_in now) c.next loaded ≡ now.singles)
      (is_base : IsBaseRewritten now.base (rewritten_under (next_id l) of_base) base) (are_singles : AreSinglesRewritten (t.epoch + 1) (singles_in loaded) (rewritten_under (next_id l + length of_base) of_singles) singles) where
    abbrev pub taken : List (Took M)
    taken = of_base ++ of_singles

    abbrev pub made : List Rewritten
    made = rewritten_under (next_id l) taken

    abbrev both : List Rewritten
    both = rewritten_under (next_id l) of_base ++ rewritten_under (next_id l + length of_base) of_singles

    made_is : made ≡ both
    made_is = rewritten_joined (next_id l) of_base of_singles

    abbrev pub told : Recasting
    told = record { table = t.table; epoch = t.epoch + 1; keys = t.keys; values = t.values; base = base; singles = singles }

    these : AreThese (t.epoch + 1) (start_in now) both now.singles singles
    these = subst (λ ds. AreThese (t.epoch + 1) (start_in now) both ds singles) of_loaded
        (singles_are (t.epoch + 1) (start_in now) c.next loaded (rewritten_under (next_id l) of_base) (rewritten_under (next_id l + length of_base) of_singles) singles rise
        (base_below (start_in now) now.base (rewritten_under (next_id l) of_base) base (ends_before now.base) is_base) are_singles)

    base_told : base ≡ base_rewritten made now.base
    base_told = base_is now.base (rewritten_under (next_id l) of_base) (rewritten_under (next_id l + length of_base) of_singles) base is_base ∙ ap (λ (m : List Rewritten). base_rewritten m now.base) (sym made_is)

    singles_told : singles ≡ singles_rewritten (epoch_of now.lineage + 1) (start_in now) made now.singles
    singles_told = these.told ∙ (λ i. singles_rewritten (epoch_is i + 1) (start_in now) (sym made_is i) now.singles)

    -- It is that of the ranges that were rewritten,
    pub told_is : told ≡ recasting_of t.table now r made
    told_is = λ i. record { table = t.table; epoch = epoch_is i + 1; keys = t.keys; values = t.values; base = base_told i; singles = singles_told i }

    -- which cover the table;
    pub covers_all : Covers made now
    covers_all = record {
      base = subst (λ (m : List Rewritten). IfSome now.base (λ (e : Ending). IsCoveredAt 0 e.to m e.delta.files)) (sym made_is)
          (base_covered now.base (rewritten_under (next_id l) of_base) (rewritten_under (next_id l + length of_base) of_singles) base is_base);
      singles = subst (λ (m : List Rewritten). AreCovered (start_in now) m now.singles) (sym made_is) these.covered;
    }

    -- and it brings their files.
    pub brings_taken : brought c (record_of.Recast told) ≡ taken_live (recast_columns (columns_of (recast_table t)) r) (next_id l) taken
    brings_taken =
        brought_own now.lineage r (t.epoch + 1) now.base (singles_in loaded) (next_id l) (start_in now) c.next of_base of_singles base singles is_base are_singles
        ∙ ap (λ (s : Columns). taken_live (recast_columns s r) (next_id l) taken) columns_are

    -- ---- and what is told of it

    module _ (bytes : M → Option (List ℕ)) (id_of : M → ℕ) (ranges : List (RecastedRange M)) (are : AreRewritten bytes id_of read (columns_of (recast_table t)) r t.ranges.items ranges)
        (left end : List (RecastedRange M)) (first : AreTaken ranges of_base left) (then : AreTaken left of_singles end)
        (given : (id : ℕ) → Among id (named l.catalogue) → id < next_id l) (room : l.adopted + most_files < 2 ^ 40) (few : length (of_base ++ of_singles) ≤ most_files)
        (x : Swapped M) (entry : x.entry ≡ record_of.Recast told) (files : files_of bytes x.made.items ≡ told_under bytes (next_id l) (files_taken (of_base ++ of_singles))) (adopted : x.adopted ≡ l.adopted + length (of_base ++ of_singles)) where
      abbrev s : Columns
      s = columns_of (recast_table t)

      abbrev new : Columns
      new = recast_columns s r

      abbrev Its : RecastRange R → Type 0
      Its one = IsListed one t.ranges.items

      ones : AllByRecursion (IsOneOf bytes id_of read s r Its) taken
      ones = ones_taken bytes id_of read s r Its t.ranges.items ranges taken end are (all_listed t.ranges.items) (taken_joined ranges of_base left of_singles end first then)

      -- the totals of each fit the new columns
      small : AllByRecursion (λ (k : Took M). totals_fit new k.range.totals ≡ true) taken
      small = all_so (IsOneOf bytes id_of read s r Its) (λ (k : Took M). totals_fit new k.range.totals ≡ true) taken (λ k one. of_rows_fit new (recast_rows s r one.is.rows) k.range.totals one.is.totals one.is.small) ones

      abbrev more : List (List Row)
      more = rows_taken bytes id_of read s r Its taken ones

      abbrev later : Rows → Rows
      later rows = rows_with rows (next_id l) more

      abbrev Seen : Rows → ℕ → Took M → Type 0
      Seen rows id k = IsTold rows (record { columns = new; file = ref_under id k.file }) × (counts_columns new (ref_under id k.file) ≡ true) × (is_file_ref (ref_under id k.file) ≡ true)

      seen : (rows : Rows) → AllFrom (Seen (later rows)) (next_id l) taken
      seen rows = each_referred bytes id_of read s r Its schema (later rows) (next_id l) taken ones (rows_stand rows (next_id l) more) (Seen (later rows)) (λ id k one is. (is.told, is.counts, is.ruled))

      ruled : AllByRecursion IsRuled made
      ruled = each_under IsRuled (λ id k. Seen (later (λ n. [])) id k × (totals_fit new k.range.totals ≡ true))
          (λ id k is. record { file = is.0.2; totals = few_totals new k.range.totals schema is.1 }) (next_id l) taken (beside (Seen (later (λ n. []))) _ (next_id l) taken (seen (λ n. [])) small)

      counts : AllByRecursion (CountsRange (recast_columns (columns_of now.lineage) r)) made
      counts = subst (λ (of : Columns). AllByRecursion (CountsRange (recast_columns of r)) made) (sym columns_are)
          (each_under (CountsRange new) (λ id k. Seen (later (λ n. [])) id k × (totals_fit new k.range.totals ≡ true)) (λ id k is. record { file = is.0.1; totals = is.1 }) (next_id l) taken
          (beside (Seen (later (λ n. []))) _ (next_id l) taken (seen (λ n. [])) small))

      entry_is : x.entry ≡ record_of.Recast (recasting_of t.table now r made)
      entry_is = entry ∙ ap (λ (k : Recasting). record_of.Recast k) told_is

      ids_are : map live_id (brought c (record_of.Recast told)) ≡ ids_from (next_id l) (files_taken taken)
      ids_are = ap (map live_id) brings_taken ∙ live_ids new (next_id l) taken

      fits_told : fits c (record_of.Recast told) ≡ true
      unfolding fits
      fits_told = all_true kind_told new_files
        where
          kind_told : kind_fits c (record_of.Recast told) ≡ true
          kind_told = ap (λ (k : Recasting). kind_fits c (record_of.Recast k)) told_is ∙ all_true (less t.table (length c.tables) there) (rewritten_fits c.floor c.next t.table now r made shape its_columns allowed counts covers_all)

          new_files : brings_new_files c (record_of.Recast told) ≡ true
          new_files = ap (are_new_ids c.run (named c)) ids_are ∙ new_ids c.run l.adopted (named c) (files_taken taken) given (let n = few in let m = length-map taken (λ (k : Took M). k.file) in omega (arith, n, m, room))

      -- where the task has its ranges, each file has the rows of its range, regrouped
      rewritten_so : (rows : Rows) (written : List Written) → HasItsRanges read t written → AllByRecursion (IsRewritten (later rows) now.lineage r written) made
      rewritten_so rows written has = by (next_id l) taken ones (rows_stand rows (next_id l) more)
        where
          by : (id : ℕ) (ks : List (Took M)) (each : AllByRecursion (IsOneOf bytes id_of read s r Its) ks) → AreAt (later rows) id (rows_taken bytes id_of read s r Its ks each) → AllByRecursion (IsRewritten (later rows) now.lineage r written) (rewritten_under id ks)
          by id [] each at = tt
          by id (k ∷ ks) each at = (
            (let one = each.0 in
                range_rewritten bytes id_of read (later rows) (recast_table t) now.lineage r written one.of k.range (ref_under id k.file) same (listed_has (HasItsRange read (recast_table t) written) t.ranges.items one.of has one.holds) one.is at.0
                (referred_one bytes id_of read s r Its schema (later rows) id k one at.0).told),
            by (id + 1) ks each.1 at.1,
          )

      -- the bytes of its files
      tells : (rows : Rows) (id : ℕ) (ks : List (Took M)) (each : AllByRecursion (IsOneOf bytes id_of read s r Its) ks) → AreAt rows id (rows_taken bytes id_of read s r Its ks each) → AreToldFiles bytes (files_taken ks)
          → AllFrom (λ n (k : Took M). bytes k.file.made ≡ Some (file_bytes (file_layout new (ref_under n k.file)) (rows n))) id ks
      tells rows id [] each at all = tt
      tells rows id (k ∷ ks) each at all = (
        (let one = each.0 in all.0.1 ∙ ap (λ (b : List ℕ). Some b) (one.file.told all.0.0 all.0.1) ∙ (λ i. Some (file_bytes (layout_under id new k.file one.file.reference.format i) (sym at.0 i)))),
        tells rows (id + 1) ks each.1 at.1 all.1,
      )

      pub is_recast_in : IsRecastIn bytes read l t x
      is_recast_in = record {
        made = made;
        entry = entry_is;
        rules = ap keeps_rules entry_is ∙ recasting_ruled c.floor c.next t.table now r made (let most = shaped.most in omega (arith, most)) shape its_rules allowed ruled;
        fitting = ap (fits c) entry ∙ fits_told;
        covers = covers_all;
        more = more;
        told = λ rows. subst (λ (e : Record). AreTold (later rows) c e) (sym entry)
            (subst (AllByRecursion (IsTold (later rows))) (sym brings_taken) (live_told new (later rows) (next_id l) taken (from_seen (Seen (later rows)) _ (λ id k is. is.0) (next_id l) taken (seen rows))));
        rewritten = λ rows written has. rewritten_so rows written has;
        agree = λ rows id lt. rows_stay rows (next_id l) more id lt;
        files = λ rows all.
            files ∙ live_file_list bytes new (later rows) (next_id l) taken (tells (later rows) (next_id l) taken ones (rows_stand rows (next_id l) more) (files_tell bytes x.made.items (next_id l) (files_taken taken) files all))
            ∙ ap (λ (fs : List LiveFile). told_files (wants (later rows) fs)) (sym brings_taken) ∙ ap (λ (e : Record). told_files (wants (later rows) (brought c e))) (sym entry);
        ids = ap made_ids files ∙ under_ids bytes (next_id l) (files_taken taken) ∙ sym ids_are ∙ ap (brought_ids c) (sym entry);
        distinct = subst HasDistinctIds (sym files) (under_distinct bytes (next_id l) (files_taken taken));
        adopts = (let m = length-map taken (λ (k : Took M). k.file) in record {
          given = subst (AreGiven (next_id l) (first_id c.run + x.adopted)) (sym files) (under_given bytes (next_id l) (next_id l) (first_id c.run + x.adopted) (files_taken taken) (omega arith) (omega (arith, adopted, m)));
          more = omega (arith, adopted);
          few = (let n = few in omega (arith, adopted, n));
        });
      }
