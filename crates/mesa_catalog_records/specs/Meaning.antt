-- What all the tables that are held stand for.
use Rattle.std.specs.Prelude.{◌-◌, ◌^◌, ◌≤◌, map, length}
use Rattle.std.specs.List.{AllByRecursion}
use Rattle.mesa_table_records.specs.mesa_store_spec.Catalog.{Catalog}
use Rattle.mesa_table_records.specs.mesa_catalog_table.Meaning.{IsTable, meta_of}
use Rattle.mesa_catalog_records.specs.declared.catalog_tables.CatalogTables.{CatalogTables}

-- What all that is held stands for.
abbrev pub catalogue_of : CatalogTables → Catalog
catalogue_of s = record { tables = map (meta_of s.next) s.tables.items; floor = s.floor; next = s.next; run = s.run }

-- ---- what holds of what is held

-- Not too many tables and versions, a floor that is there where there is any version, and tables of these versions.
pub record AreCatalogTables (s : CatalogTables) : Type 0 where
  pub few : length s.tables.items ≤ 32
  pub most : s.next ≤ 2 ^ 32 - 1
  pub floor : s.floor ≤ s.next - 1
  pub tables : AllByRecursion (IsTable s.next) s.tables.items
