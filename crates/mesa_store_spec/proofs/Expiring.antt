-- Versions that are let go, of all tables or of one: the files that are named stay, and what holds of their rows.
use Rattle.std.proofs.Common.{◌≡◌, ℕ, ◌<◌, List, [], ◌∷◌, ◌++◌, map, length, refl, sym, ◌∙◌, ap, arith, slice_set}
use Rattle.std.specs.Prelude.{flat_map}
use Rattle.std.proofs.lemmas.List.{map-set}
use Rattle.mesa_history_spec.proofs.mesa_columns.Lists.{all_map, all_set, all_so}
use Rattle.mesa_history_spec.specs.mesa_model.Versions.{table_from}
use Rattle.mesa_record.specs.declared.record.Record.TheVariants as record_of
use Rattle.mesa_store_spec.specs.Catalog.{Catalog, TableMeta, applied, ranges_of, meta_at, meta_from}
use Rattle.mesa_store_spec.specs.Fitting.{live_files, meta_live}
use Rattle.mesa_store_spec.specs.Contents.{Rows, table_of, kept_of}
use Rattle.mesa_store_spec.specs.Sound.{HaveSoundRows, HasSoundRows}
use Rattle.mesa_store_spec.specs.Moves.{kept_expired_of}
use Rattle.mesa_store_spec.proofs.Kept.{from_is}
use Rattle.mesa_store_spec.proofs.Lists.{meta_found}
use Rattle.mesa_store_spec.proofs.Views.{ranges_same, set_live, meta_table}

-- ---- of all tables

from_live : (version : ℕ) (tables : List TableMeta) → flat_map meta_live (map (meta_from version) tables) ≡ flat_map meta_live tables
from_live version [] = refl
from_live version (t ∷ tables) = ap (λ xs. meta_live t ++ xs) (from_live version tables)

pub expire_catalog_tables : (c : Catalog) (version : ℕ) → live_files (applied c (record_of.Expire version)) ≡ live_files c
expire_catalog_tables c version = from_live version c.tables

from_sound_rows : (rows : Rows) (version : ℕ) (t : TableMeta) → HasSoundRows rows t → HasSoundRows rows (meta_from version t)
from_sound_rows rows version t is = record { files = is.files; merged = is.merged; grouped = is.grouped; totals = is.totals; bound = is.bound }

pub expire_sound_rows : (rows : Rows) (c : Catalog) (version : ℕ) → HaveSoundRows rows c → HaveSoundRows rows (applied c (record_of.Expire version))
expire_sound_rows rows c version is = all_map (HasSoundRows rows) (meta_from version) c.tables (all_so (HasSoundRows rows) (λ t. HasSoundRows rows (meta_from version t)) c.tables (from_sound_rows rows version) is)

-- ---- of one table

pub expire_table_catalog_tables : (c : Catalog) (table version : ℕ) → live_files (applied c (record_of.ExpireTable table version)) ≡ live_files c
expire_table_catalog_tables c table version = set_live c.tables table (meta_from version (meta_at c table)) refl

pub expire_table_sound_rows : (rows : Rows) (c : Catalog) (table version : ℕ) → table < length c.tables → HaveSoundRows rows c → HaveSoundRows rows (applied c (record_of.ExpireTable table version))
expire_table_sound_rows rows c table version there is = all_set (HasSoundRows rows) c.tables table (meta_from version (meta_at c table)) (from_sound_rows rows version (meta_at c table) (meta_found (HasSoundRows rows) c.tables table there is)) is

pub expire_table_moves : (rows : Rows) (c : Catalog) (table version : ℕ) → table < length c.tables → version < c.next → kept_of rows (applied c (record_of.ExpireTable table version)) ≡ kept_expired_of (kept_of rows c) table version
unfolding kept_of
expire_table_moves rows c table version there lt =
    let table_is = table_of rows c.next in
    let u = meta_from version (meta_at c table) in
    let one = from_is rows c.next version (meta_at c table) (omega (arith, lt)) in
    let tables = map-set table_is c.tables table u ∙ ap (slice_set (map table_is c.tables) table) (one ∙ ap (table_from version) (sym (meta_table rows c table there))) in
    λ i. record {
      store = record { tables = tables i; floor = c.floor };
      next = c.next;
      ranges = (map-set ranges_of c.tables table u ∙ ranges_same c table) i;
    }
