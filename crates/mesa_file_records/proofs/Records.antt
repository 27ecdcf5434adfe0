-- What is told of a swap's record.
use Rattle.std.proofs.Common.{◌≡◌, ℕ, ◌+◌, ◌^◌, ◌<◌, ◌≤◌, List, [], length, sym, ◌∙◌, ap, subst, arith, Option}
use Rattle.std.specs.Prelude.{Bool, true, ◌&&◌, nat_le, nat_lt}
use Rattle.std.proofs.lemmas.Bool.Decides.{nat_tests}
use Rattle.std.specs.List.{AllByRecursion}
use Rattle.mesa_columns.specs.declared.rows.Row.{Row}
use Rattle.mesa_pick_files.specs.mesa_schema.Changes.{Lineage, epoch_of}
use Rattle.mesa_disk.specs.Files.{HasDistinctIds, files_of}
use Rattle.mesa_engine.specs.mesa_commit.Turn.{made_ids, told_files}
use Rattle.mesa_engine.specs.mesa_commit.Filed.{AreGiven}
use Rattle.mesa_engine.specs.mesa_commit.Holding.{Among}
use Rattle.mesa_record.specs.Rules.{keeps_rules}
use Rattle.mesa_record.specs.declared.record.Files.{Files}
use Rattle.mesa_record.specs.declared.record.Record.{Record}
use Rattle.mesa_engine.specs.mesa_store_spec.Catalog.{Catalog}
use Rattle.mesa_engine.specs.mesa_store_spec.Contents.{Rows}
use Rattle.mesa_engine.specs.mesa_store_spec.Fitting.{are_new_ids, brings_new_files, brought, files_fit_if_any, fits, has_epoch, may_be_work}
use Rattle.mesa_engine.specs.mesa_store_spec.Shape.{IsCatalog, IsShaped}
use Rattle.mesa_engine.specs.mesa_store_spec.Sound.{wants}
use Rattle.mesa_engine.specs.mesa_store_spec.Brought.{AreTold}
use Rattle.mesa_engine.specs.mesa_store_spec.Ids.{brought_ids, named}
use Rattle.mesa_engine.specs.mesa_store_spec.Moves.{first_of, is_base, last_of}
use Rattle.mesa_engine.specs.mesa_history_spec.Sources.{Source, Written, range_rows}
use Rattle.mesa_engine.proofs.mesa_store_spec.Lists.{meta_found}
use Rattle.mesa_open_files.specs.declared.merging.NewDelta.{NewDelta}
use Rattle.mesa_open_files.specs.declared.merging.Task.{Task}
use Rattle.mesa_engine.specs.EngineState.{EngineState, first_id, most_files, next_id}
use Rattle.mesa_file_records.specs.Adopted.{files_if_any, told_under}
use Rattle.mesa_file_records.specs.Published.{rows_with}
use Rattle.mesa_file_records.proofs.Ids.{new_ids, rows_stand, rows_stay, under_distinct, under_given, under_ids}
use Rattle.mesa_file_records.proofs.Lists.{AreAt, from_first}
use Rattle.mesa_file_records.proofs.Told.{files_tell}
use Rattle.mesa_file_records.specs.declared.swapping.Swapped.{Swapped}
use Rattle.mesa_file_records.specs.Finished.{HasRange, IsFinished, sources_in}
use Rattle.mesa_file_records.specs.Swapped.{IsSwapped, files_under_if_any, swap_of, table_in}
use Rattle.mesa_file_records.proofs.Growing.{epoch_was, views_was}
use Rattle.mesa_file_records.proofs.Merging.{files_few, merged_fit, merged_grouped, merged_ids, merged_keeps, merged_rows, merged_tell, merged_told, rows_made}
use Rattle.mesa_file_records.proofs.Ranges.{range_same}

both : {a b : Bool} → a ≡ true → b ≡ true → (a && b) ≡ true
both p q = λ i. p i && q i

less : (n k : ℕ) → n < k → nat_lt n k ≡ true
less n k lt = grind (arith, nat_tests)

at_most : (n k : ℕ) → n ≤ k → nat_le n k ≡ true
at_most n k le = grind (arith, nat_tests)

module _ {M R : Type 0} (bytes : M → Option (List ℕ)) (id_of : M → ℕ) (read : R → Option (List ℕ)) (l : EngineState) (shaped : IsCatalog l.catalogue) (was : Lineage) (t : Task R) (d : NewDelta M)
    (is : IsFinished bytes id_of read was (table_in l t).lineage t d) (there : t.table < length l.catalogue.tables) where
  abbrev c : Catalog
  c = l.catalogue

  abbrev now : Lineage
  now = (table_in l t).lineage

  abbrev its : List Row
  its = is.merged.rows

  -- the rows of the files, in the order of their ids
  abbrev more : List (List Row)
  more = rows_made was its d.files

  shape : IsShaped c.floor c.next (table_in l t)
  shape = meta_found (IsShaped c.floor c.next) c.tables t.table there shaped.tables

  pub few_files : length (files_if_any d.files) ≤ most_files
  few_files =
      let few = files_few bytes id_of was its d.files is.merged.files in
      let views = views_was was now is.grown in
      omega (arith, few, views, shape.lineage.few_views)

  module _ (may : may_be_work c (table_in l t) (is_base t.work) (first_of t.work) (last_of t.work) ≡ true) (given : (id : ℕ) → Among id (named c) → id < next_id l) (room : l.adopted + most_files < 2 ^ 40)
      (s : Swapped M) (entry : s.entry ≡ swap_of t (files_under_if_any (next_id l) d.files)) (made : files_of bytes s.made.items ≡ told_under bytes (next_id l) (files_if_any d.files)) (adopted : s.adopted ≡ l.adopted + length (files_if_any d.files)) where
    abbrev files : Option Files
    files = files_under_if_any (next_id l) d.files

    abbrev later : Rows → Rows
    later rows = rows_with rows (next_id l) more

    at : (rows : Rows) → AreAt (later rows) (next_id l) more
    at rows = rows_stand rows (next_id l) more

    fits_record : fits c (swap_of t files) ≡ true
    unfolding fits
    fits_record = both (both (less t.table (length c.tables) there) (both (both may epoch) right)) new
      where
        epoch : has_epoch now t.epoch ≡ true
        epoch = both
            (at_most now.begins t.epoch (let same = is.task.epoch in omega (arith, same, is.grown.begins)))
            (at_most t.epoch (epoch_of now) (let same = is.task.epoch in let le = epoch_was was now is.grown in omega (arith, same, le)))

        right : files_fit_if_any now t.epoch files ≡ true
        right = merged_fit bytes id_of (later (λ id. [])) was now is.grown its t.epoch is.task.epoch (from_first was.views) (next_id l) d.files is.merged.files (at (λ id. []))

        new : brings_new_files c (swap_of t files) ≡ true
        new = ap (are_new_ids c.run (named c)) (merged_ids bytes id_of (later (λ id. [])) was now is.grown its t.epoch is.task.epoch (from_first was.views) (next_id l) d.files)
            ∙ new_ids c.run l.adopted (named c) (files_if_any d.files) given (let n = few_files in omega (arith, n, room))

    -- the rows of the range, where the task has it
    its_are : (written : List Written) → HasRange read was t written → its ≡ range_rows was t.epoch (sources_in t written)
    its_are written has = has.rows its is.merged.merge

    pub is_swapped : IsSwapped bytes read l was t s
    is_swapped = record {
      refs = files;
      entry = entry;
      rules = ap keeps_rules entry ∙ merged_keeps bytes id_of (later (λ id. [])) was now is.grown its t.epoch is.task.epoch (from_first was.views) (next_id l) shape.lineage d.files is.merged.files (at (λ id. []));
      fitting = ap (fits c) entry ∙ fits_record;
      more = more;
      told = λ rows. subst (λ (r : Record). AreTold (later rows) c r) (sym entry) (merged_told bytes id_of (later rows) was now is.grown its t.epoch is.task.epoch (from_first was.views) (next_id l) d.files is.merged.files (at rows));
      merged = λ rows written has. record {
        epochs = has.epochs;
        rows_are =
            merged_rows bytes id_of (later rows) was now is.grown its t.epoch is.task.epoch (from_first was.views) (next_id l) d.files is.merged.files (at rows)
            ∙ its_are written has ∙ range_at written has;
      };
      grouped = λ rows written has. merged_grouped bytes id_of (later rows) was now is.grown its t.epoch is.task.epoch (from_first was.views) (next_id l) d.files is.merged.files (at rows);
      agree = λ rows id lt. rows_stay rows (next_id l) more id lt;
      files = λ rows all.
          made ∙ merged_tell bytes id_of (later rows) was now is.grown its t.epoch is.task.epoch (from_first was.views) (next_id l) d.files is.merged.files (at rows) (files_tell bytes s.made.items (next_id l) (files_if_any d.files) made all)
          ∙ ap (λ (r : Record). told_files (wants (later rows) (brought c r))) (sym entry);
      ids = ap made_ids made ∙ under_ids bytes (next_id l) (files_if_any d.files)
          ∙ sym (merged_ids bytes id_of (later (λ id. [])) was now is.grown its t.epoch is.task.epoch (from_first was.views) (next_id l) d.files) ∙ ap (brought_ids c) (sym entry);
      distinct = subst HasDistinctIds (sym made) (under_distinct bytes (next_id l) (files_if_any d.files));
      adopts = record {
        given = subst (AreGiven (next_id l) (first_id c.run + s.adopted)) (sym made) (under_given bytes (next_id l) (next_id l) (first_id c.run + s.adopted) (files_if_any d.files) (omega arith) (omega (arith, adopted)));
        more = omega (arith, adopted);
        few = (let n = few_files in omega (arith, adopted, n));
      };
    }
      where
        range_at : (written : List Written) → HasRange read was t written → range_rows was t.epoch (sources_in t written) ≡ range_rows now t.epoch (sources_in t written)
        range_at written has =
            ap (λ e. range_rows was e (sources_in t written)) is.task.epoch
            ∙ range_same was now is.grown (sources_in t written) (subst (λ e. AllByRecursion (λ (x : Source). x.epoch ≤ e) (sources_in t written)) is.task.epoch has.epochs)
            ∙ ap (λ e. range_rows now e (sources_in t written)) (sym is.task.epoch)
