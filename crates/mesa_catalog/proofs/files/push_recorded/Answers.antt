use Rattle.std.proofs.Common.{map}
use Rattle.mesa_catalog_records.specs.mesa_store_spec.Fitting.{meta_live}
use Rattle.mesa_catalog_records.specs.mesa_catalog_table.declared.table.Table.{Table}
use Rattle.mesa_catalog_records.specs.mesa_catalog_table.Files.{recorded_of}
use Rattle.mesa_catalog_records.specs.mesa_catalog_table.Meaning.{meta_of}
use Rattle.mesa_catalog_records.proofs.mesa_catalog_table.Pushes.{pushed_all}
use Rattle.mesa_catalog.proofs.files.push_recorded.Goals as goal

pub returns : goal.returns
returns c = λ next. pushed_all (λ (t : Table). map recorded_of (meta_live (meta_of next t))) _ _ c.args.tables.now c.loop-table.table-index c.loop-table-test.false (c.loop-table.invariant next)
