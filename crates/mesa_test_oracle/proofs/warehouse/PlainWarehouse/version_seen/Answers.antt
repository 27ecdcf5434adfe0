use Rattle.mesa_model.specs.Warehouse.{table_at}
use Rattle.mesa_test_oracle.proofs.warehouse.PlainWarehouse.version_seen.Goals as goal

pub returns-in-Latest : goal.returns-in-Latest
returns-in-Latest c = rw c.in-Latest.is (c.newest_version.ensures.asked (table_at c.args.store.now.store c.args.table).oldest)
