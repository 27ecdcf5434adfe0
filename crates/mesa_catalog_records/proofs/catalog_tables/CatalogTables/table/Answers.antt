use Rattle.std.proofs.Common.{◌∙◌, ap, sym, subst, arith}
use Rattle.mesa_table_records.specs.mesa_catalog_table.Meaning.{IsTable, meta_of}
use Rattle.mesa_catalog_records.proofs.TableMetas.{all_at, meta_here, there_within}
use Rattle.mesa_catalog_records.proofs.catalog_tables.CatalogTables.table.Goals as goal

pub index-requires : goal.index-requires
index-requires c = let within = there_within c.args.self.now c.args.table c.requires.there in omega arith

pub returns-clause-meta : goal.returns-clause-meta
returns-clause-meta c =
    let s = c.args.self.now in
    meta_here s c.args.table c.index.result.now (there_within s c.args.table c.requires.there) ∙ ap (meta_of s.next) (sym c.index.ensures)

pub returns-clause-table : goal.returns-clause-table
returns-clause-table c =
    let s = c.args.self.now in
    subst (IsTable s.next) (sym c.index.ensures) (all_at (IsTable s.next) s.tables.items c.args.table c.index.result.now c.requires.live_files.tables (there_within s c.args.table c.requires.there))
