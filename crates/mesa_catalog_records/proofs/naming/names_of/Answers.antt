use Rattle.std.proofs.Common.{[]}
use Rattle.mesa_table_records.proofs.mesa_catalog_table.Pushes.{pushed_all, pushed_more}
use Rattle.mesa_catalog_records.specs.Names.{table_names}
use Rattle.mesa_catalog_records.proofs.naming.names_of.Goals as goal

pub loop-table-preserved : goal.loop-table-preserved
loop-table-preserved c = pushed_more table_names [] _ _ c.args.tables.now c.loop-table.table-index c.table-item.result c.loop-table-test.true c.table-item.is c.loop-table.invariant c.in_ok-push_names.ensures

pub returns : goal.returns
returns c = pushed_all table_names [] _ c.args.tables.now c.loop-table.table-index c.loop-table-test.false c.loop-table.invariant
