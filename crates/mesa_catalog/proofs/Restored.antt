-- The catalogue that a checkpoint states.
use Rattle.std.proofs.Common.{◌≡◌, ℕ, ◌+◌, ◌≤◌, ◌<◌, List, [], ◌∷◌, ◌++◌, length, map, take, get_or, sym, ◌∙◌, ap, arith, true}
use Rattle.std.specs.Prelude.{◌&&◌, nat_le, None}
use Rattle.std.specs.List.{AllByRecursion}
use Rattle.std.proofs.lemmas.Bool.Decides.{nat_tests}
use Rattle.std.proofs.lemmas.List.{length-map, map_push, take_more}
use Rattle.mesa_catalog_records.specs.mesa_record.declared.checkpoint.Checkpoint.{Checkpoint}
use Rattle.mesa_catalog_records.specs.mesa_store_spec.Checkpoint.{stated, meta_stated}
use Rattle.mesa_catalog_records.specs.mesa_store_spec.CheckpointFits.{counts_fit, ids_fit, oldest_fits}
use Rattle.mesa_catalog_records.specs.mesa_store_spec.Fitting.{max_runs}
use Rattle.mesa_catalog_records.specs.mesa_model.Warehouse.{max_tables, max_versions}
use Rattle.mesa_catalog_records.specs.mesa_store_spec.Ids.{named}
use Rattle.mesa_catalog_records.specs.mesa_catalog_table.Meaning.{IsTable, meta_of}
use Rattle.mesa_catalog_records.proofs.mesa_table_records.Restored.{there}
use Rattle.mesa_catalog_records.proofs.mesa_catalog_table.Tests.{both}
use Rattle.mesa_catalog_records.specs.declared.catalog_tables.CatalogTables.{CatalogTables}
use Rattle.mesa_catalog.specs.Kept.{IsKept}
use Rattle.mesa_catalog_records.specs.Meaning.{AreCatalogTables, catalogue_of}
use Rattle.mesa_catalog.proofs.RestoredIds.{stands_once}

-- Tables that were made of those that a checkpoint states.
pub record AreRestored (k : Checkpoint) (s : CatalogTables) : Type 0 where
  pub floor : s.floor ≡ k.floor
  pub next : s.next ≡ k.versions
  pub run : s.run ≡ k.run
  pub metas : map (meta_of s.next) s.tables.items ≡ map (meta_stated k.versions) k.tables
  pub tables : AllByRecursion (IsTable s.next) s.tables.items

pub catalogue_restored : (k : Checkpoint) (s : CatalogTables) → AreRestored k s → catalogue_of s ≡ stated k
catalogue_restored k s r = λ i. record { tables = r.metas i; floor = r.floor i; next = r.next i; run = r.run i }

pub catalog_tables_restored : (k : Checkpoint) (s : CatalogTables) → counts_fit k ≡ true → AreRestored k s → AreCatalogTables s
catalog_tables_restored k s fits r =
    let there_too = both (nat_le (length k.tables) max_tables && nat_le k.versions max_versions && nat_le k.run max_runs) (oldest_fits k.floor k.versions) fits in
    let runs = both (nat_le (length k.tables) max_tables && nat_le k.versions max_versions) (nat_le k.run max_runs) there_too.0 in
    let counts = both (nat_le (length k.tables) max_tables) (nat_le k.versions max_versions) runs.0 in
    let few : length k.tables ≤ 32 = grind (arith, nat_tests, counts.0) in
    let most : k.versions ≤ max_versions = grind (arith, nat_tests, counts.1) in
    let floor = there k.floor k.versions there_too.1 in
    let count : length s.tables.items ≡ length k.tables = sym (length-map s.tables.items (meta_of s.next)) ∙ ap length r.metas ∙ length-map k.tables (meta_stated k.versions) in
    let next = r.next in
    let oldest = r.floor in
    record {
      few = omega (arith, count, few);
      most = omega (arith, most, next);
      floor = omega (arith, floor, next, oldest);
      tables = r.tables;
    }

pub kept_restored : (s : CatalogTables) (greatest : ℕ) → AreCatalogTables s → ids_fit (catalogue_of s) ≡ true → AllByRecursion (λ id. id ≤ greatest) (named (catalogue_of s)) → IsKept s None greatest
kept_restored s greatest live_files fits most = record {
  catalog_tables = live_files;
  ready = tt;
  once = stands_once s.run (named (catalogue_of s)) fits;
  most = most;
}

-- what is made of one more of what is made of each
pub mapped_more : {X Y Z : Type 0} (f : X → Y) (g : Y → Z) (xs : List X) (i : ℕ) (x : X) → i < length xs → x ≡ get_or xs i x → map g (map f (take (i + 1) xs)) ≡ map g (map f (take i xs)) ++ g (f x) ∷ []
mapped_more f g xs i x h is =
    ap (λ ys. map g (map f ys)) (take_more xs i x h ∙ ap (λ y. take i xs ++ y ∷ []) (sym is))
    ∙ ap (map g) (map_push f (take i xs) x) ∙ map_push g (map f (take i xs)) (f x)
