use Rattle.mesa_store_spec.proofs.Expiring.{expire_catalog_tables, expire_table_catalog_tables}
use Rattle.mesa_store_spec.proofs.files.expiries_keep_files.Goals as goal

pub returns : goal.returns
returns g = record { all = expire_catalog_tables; table = expire_table_catalog_tables }
