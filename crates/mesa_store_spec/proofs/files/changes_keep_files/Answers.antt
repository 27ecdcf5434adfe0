use Rattle.mesa_store_spec.proofs.Changes.{alter_catalog_tables}
use Rattle.mesa_store_spec.proofs.files.changes_keep_files.Goals as goal

pub returns : goal.returns
returns g c table change is fit = alter_catalog_tables c table change is fit
