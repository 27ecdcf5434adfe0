use Rattle.std.proofs.Common.{◌<◌, arith, length, map}
use Rattle.mesa_table_records.specs.mesa_store_spec.Catalog.{meta_from}
use Rattle.mesa_table_records.specs.mesa_catalog_table.Meaning.{IsTable, meta_of}
use Rattle.mesa_catalog_records.proofs.Expired.{expired_all, expired_step}
use Rattle.mesa_catalog_records.proofs.TableMetas.{all_at, all_set}
use Rattle.mesa_catalog_records.proofs.applying.expire_tables.Goals as goal

pub loop-table-preserved : goal.loop-table-preserved
loop-table-preserved c =
    let within : c.loop-table.table-index < length c.loop-table.tables = omega arith in
    record {
      metas = λ next. expired_step c.args.version next c.loop-table.table-index c.loop-table.tables c.table-item.result c.expire.new.self (map (meta_from c.args.version) (map (meta_of next) c.args.tables.now)) within (c.expire.ensures.meta next) (c.loop-table.invariant.metas next);
      tables = λ next below all.
          let before = c.loop-table.invariant.tables next below all in
          all_set (IsTable next) c.loop-table.tables c.loop-table.table-index c.expire.new.self before (c.expire.ensures.table next below (all_at (IsTable next) c.loop-table.tables c.loop-table.table-index c.table-item.result before within));
    }

pub returns-clause-metas : goal.returns-clause-metas
returns-clause-metas c = λ next. expired_all c.args.version next c.loop-table.table-index c.loop-table.tables _ (omega arith) (c.loop-table.invariant.metas next)

pub returns-clause-tables : goal.returns-clause-tables
returns-clause-tables c = c.loop-table.invariant.tables
