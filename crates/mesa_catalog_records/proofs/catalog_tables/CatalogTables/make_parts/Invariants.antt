use Rattle.std.proofs.Common.{◌≡◌, map, take}
use Rattle.std.specs.List.{AllByRecursion}
use Rattle.mesa_catalog_records.specs.Meaning.{catalogue_of}
use Rattle.mesa_catalog_records.specs.Readied.{IsMadePart}
use Rattle.mesa_table_records.specs.Readied.{part_in}
use Rattle.mesa_catalog_records.proofs.catalog_tables.CatalogTables.make_parts.Given as goal

-- the parts so far
abbrev pub invariant-loop-part : goal.invariant-loop-part
invariant-loop-part l = record {
  parts : map part_in l.made.items ≡ take l.part-index l.parts;
  made : AllByRecursion (IsMadePart (catalogue_of l.self)) l.made.items;
}
