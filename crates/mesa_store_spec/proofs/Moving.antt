-- Each record that fits moves a catalogue to one that stands for what its command makes.
use Rattle.std.proofs.Common.{◌≡◌, ℕ, ◌<◌, List, length, Option, Some, Bool, true, ◌&&◌, nat_le, nat_lt, is_ok, subst, sym}
use Rattle.mesa_history_spec.specs.mesa_columns.declared.changes.Change.{Change}
use Rattle.mesa_history_spec.specs.mesa_columns.declared.columns.KeyColumn.{KeyColumn}
use Rattle.mesa_history_spec.specs.mesa_columns.declared.columns.ValueColumn.{ValueColumn}
use Rattle.mesa_history_spec.specs.mesa_schema.Changes.{columns_of}
use Rattle.mesa_history_spec.specs.mesa_schema.Views.{max_views, view_checked}
use Rattle.mesa_history_spec.proofs.mesa_columns.Lists.{all_map}
use Rattle.mesa_history_spec.specs.mesa_batch.Batch.{Placed}
use Rattle.mesa_commit.specs.mesa_disk.Image.{file_of}
use Rattle.mesa_commit.specs.Images.{Has}
use Rattle.mesa_record.specs.declared.record.Files.{Files}
use Rattle.mesa_record.specs.declared.record.Part.{Part}
use Rattle.mesa_record.specs.declared.record.Record.{Record}
use Rattle.mesa_record.specs.declared.record.Record.TheVariants as record_of
use Rattle.mesa_record.specs.mesa_record_fields.Rules.{IsTypedChange}
use Rattle.mesa_store_spec.specs.Catalog.{Catalog, applied, merged_delta, meta_at}
use Rattle.mesa_store_spec.specs.Fitting.{brings_new_files, expire_fits, fits, is_new_name, is_there, kind_fits, live_files}
use Rattle.mesa_store_spec.specs.Contents.{Rows, kept_of}
use Rattle.mesa_store_spec.specs.Sound.{HaveSoundRows, wanted, wants}
use Rattle.mesa_store_spec.specs.Shape.{IsCatalog}
use Rattle.mesa_store_spec.specs.Brought.{AreTold, BringsAll, Merges}
use Rattle.mesa_store_spec.specs.Moves.{Moves, kept_altered, kept_expired, kept_expired_of, kept_loaded, kept_made, kept_swapped, kept_viewed, work_of}
use Rattle.mesa_store_spec.proofs.Lists.{all_unmap, both_true, is_less}
use Rattle.mesa_store_spec.proofs.Changes.{alter_moves, alter_catalog_tables, alter_sound_rows}
use Rattle.mesa_store_spec.proofs.Expiring.{expire_catalog_tables, expire_sound_rows, expire_table_moves, expire_table_catalog_tables, expire_table_sound_rows}
use Rattle.mesa_store_spec.proofs.Kept.{expire_moves, publish_moves, run_moves, swap_moves}
use Rattle.mesa_store_spec.proofs.Published.{publish_grows, publish_sound_rows}
use Rattle.mesa_store_spec.proofs.Swapping.{swap_grows, swap_sound_rows, swap_there, swap_within}
use Rattle.mesa_store_spec.proofs.Tables.{named_table, table_moves, table_sound_rows}
use Rattle.mesa_store_spec.proofs.Views.{view_moves, view_catalog_tables, view_sound_rows}

-- a record that fits keeps the rules of its kind
pub kind_of : (c : Catalog) (r : Record) → fits c r ≡ true → kind_fits c r ≡ true
unfolding fits
kind_of c r e = (both_true (kind_fits c r) (brings_new_files c r) e).0

module _ (rows : Rows) (c : Catalog) (sound_rows : HaveSoundRows rows c) where
  pub run_step : (number : ℕ) → Moves rows c (record_of.Run number) (kept_of rows c)
  run_step number = record { kept = run_moves rows c number; sound_rows = sound_rows; grows = λ i old new. old }

  pub table_step : (name : List ℕ) (keys : List KeyColumn) (values : List ValueColumn) → Moves rows c (record_of.Table name keys values) (kept_made (kept_of rows c) name (record { keys = keys; values = values }))
  table_step name keys values = record {
    kept = table_moves rows c name keys values;
    sound_rows = table_sound_rows rows c name keys values sound_rows;
    grows = λ i old new. (
        let W = λ (w : ℕ × List ℕ). file_of i w.0 ≡ Some w.1 in
        all_map W (wanted rows) (live_files (applied c (record_of.Table name keys values))) (named_table (λ x. W (wanted rows x)) c name keys values (all_unmap W (wanted rows) (live_files c) old)));
  }

  pub view_there : (table : ℕ) (name : List ℕ) (keys values : List (List ℕ)) → fits c (record_of.View table name keys values) ≡ true → table < length c.tables
  view_there table name keys values fit =
      let s = columns_of (meta_at c table).lineage in
      let last = both_true (is_there c table && is_new_name c name && is_ok (view_checked s keys values)) (nat_lt (length (meta_at c table).lineage.views) max_views) (kind_of c (record_of.View table name keys values) fit) in
      let third = both_true (is_there c table && is_new_name c name) (is_ok (view_checked s keys values)) last.0 in
      is_less table (length c.tables) (both_true (is_there c table) (is_new_name c name) third.0).0

  pub view_files : (table : ℕ) (name : List ℕ) (keys values : List (List ℕ)) → fits c (record_of.View table name keys values) ≡ true → live_files (applied c (record_of.View table name keys values)) ≡ live_files c
  view_files table name keys values fit = view_catalog_tables rows c table name keys values (view_there table name keys values fit) sound_rows

  pub view_step : (table : ℕ) (name : List ℕ) (keys values : List (List ℕ)) → fits c (record_of.View table name keys values) ≡ true
      → Moves rows c (record_of.View table name keys values) (kept_viewed (kept_of rows c) table (record { name = name; keys = keys; values = values }))
  view_step table name keys values fit =
      let there = view_there table name keys values fit in
      record {
        kept = view_moves rows c table name keys values there;
        sound_rows = view_sound_rows rows c table name keys values there sound_rows;
        grows = λ i old new. subst (λ xs. Has (wants rows xs) i) (sym (view_files table name keys values fit)) old;
      }

  pub alter_step : (is : IsCatalog c) (table : ℕ) (change : Change) → fits c (record_of.Alter table change) ≡ true → IsTypedChange change → Moves rows c (record_of.Alter table change) (kept_altered (kept_of rows c) table change)
  alter_step is table change fit typed =
      let kind = kind_of c (record_of.Alter table change) fit in
      record {
        kept = alter_moves c table change is kind rows sound_rows typed;
        sound_rows = alter_sound_rows c table change is kind rows sound_rows typed;
        grows = λ i old new. subst (λ xs. Has (wants rows xs) i) (sym (alter_catalog_tables c table change is kind)) old;
      }

  pub expire_step : (version : ℕ) → fits c (record_of.Expire version) ≡ true → Moves rows c (record_of.Expire version) (kept_expired (kept_of rows c) version)
  expire_step version fit =
      let both = both_true (nat_le c.floor version) (nat_lt version c.next) (kind_of c (record_of.Expire version) fit) in
      record {
        kept = expire_moves rows c version (is_less version c.next both.1);
        sound_rows = expire_sound_rows rows c version sound_rows;
        grows = λ i old new. subst (λ xs. Has (wants rows xs) i) (sym (expire_catalog_tables c version)) old;
      }

  pub expire_table_step : (table version : ℕ) → fits c (record_of.ExpireTable table version) ≡ true → Moves rows c (record_of.ExpireTable table version) (kept_expired_of (kept_of rows c) table version)
  expire_table_step table version fit =
      let both = both_true (is_there c table) (expire_fits c (meta_at c table).oldest version) (kind_of c (record_of.ExpireTable table version) fit) in
      let there = is_less table (length c.tables) both.0 in
      let range = both_true (nat_le (meta_at c table).oldest version) (nat_lt version c.next) both.1 in
      record {
        kept = expire_table_moves rows c table version there (is_less version c.next range.1);
        sound_rows = expire_table_sound_rows rows c table version there sound_rows;
        grows = λ i old new. subst (λ xs. Has (wants rows xs) i) (sym (expire_table_catalog_tables c table version)) old;
      }

  pub publish_step : (is : IsCatalog c) (version : ℕ) (parts : List Part) (batch : List Placed) → AreTold rows c (record_of.Publish version parts) → BringsAll rows parts batch 0 c.tables
      → Moves rows c (record_of.Publish version parts) (kept_loaded (kept_of rows c) batch)
  publish_step is version parts batch told brings = record {
    kept = publish_moves rows c version parts batch is brings;
    sound_rows = publish_sound_rows rows c version parts batch is sound_rows told brings;
    grows = publish_grows rows c version parts;
  }

  pub swap_step : (is : IsCatalog c) (table : ℕ) (base : Bool) (from to epoch : ℕ) (files : Option Files) → fits c (record_of.Swap table base from to epoch files) ≡ true → AreTold rows c (record_of.Swap table base from to epoch files)
      → Merges rows (meta_at c table) base to (merged_delta epoch files) → Moves rows c (record_of.Swap table base from to epoch files) (kept_swapped (kept_of rows c) table (work_of base from to))
  swap_step is table base from to epoch files fit told merges =
      let kind = kind_of c (record_of.Swap table base from to epoch files) fit in
      let there = swap_there c table base from to epoch files kind in
      record {
        kept = swap_moves rows c table base from to epoch files (swap_within c table base from to epoch files kind) merges.replaces;
        sound_rows = swap_sound_rows rows c table base from to epoch files there is.tables sound_rows told merges;
        grows = λ i old new. swap_grows rows c table base from to epoch files i there old new;
      }
