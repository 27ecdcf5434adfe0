use Rattle.mesa_store_spec.proofs.Moving.{view_files}
use Rattle.mesa_store_spec.proofs.files.views_keep_files.Goals as goal

pub returns : goal.returns
returns g rows c table name keys values sound_rows fit = view_files rows c sound_rows table name keys values fit
