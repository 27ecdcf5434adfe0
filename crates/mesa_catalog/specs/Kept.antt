-- What a catalogue is, and what holds of its parts.
use Rattle.std.specs.Prelude.{ℕ, ◌≤◌, Option, None, IfSome, option_map}
use Rattle.std.specs.List.{AllByRecursion}
use Rattle.mesa_catalog_records.specs.mesa_record.declared.record.Record.{Record}
use Rattle.mesa_catalog_records.specs.mesa_store_spec.Catalog.{Catalog}
use Rattle.mesa_catalog_records.specs.mesa_store_spec.Ids.{named, times}
use Rattle.mesa_catalog_records.specs.declared.catalog_tables.CatalogTables.{CatalogTables}
use Rattle.mesa_catalog_records.specs.declared.ready.Ready.{Ready}
use Rattle.mesa_catalog_records.specs.Meaning.{AreCatalogTables, catalogue_of}
use Rattle.mesa_catalog_records.specs.Readied.{IsReady, record_in}

-- A catalogue, and the record for which all memory is there that taking it in needs, if there is one.
pub record Reserved : Type 0 where
  pub catalogue : Catalog
  pub reserved : Option Record

abbrev pub reserved_of : CatalogTables → Option Ready → Reserved
reserved_of s ready = record { catalogue = catalogue_of s; reserved = option_map record_in ready }

-- a catalogue for which nothing is reserved
abbrev pub unreserved : Catalog → Reserved
unreserved c = record { catalogue = c; reserved = None }

-- what a catalogue's parts keep: no id is named twice, and none is greater than the greatest that was named
pub record IsKept (s : CatalogTables) (made : Option Ready) (greatest : ℕ) : Type 0 where
  pub catalog_tables : AreCatalogTables s
  pub ready : IfSome made (IsReady s)
  pub once : (id : ℕ) → times id (named (catalogue_of s)) ≤ 1
  pub most : AllByRecursion (λ id. id ≤ greatest) (named (catalogue_of s))
