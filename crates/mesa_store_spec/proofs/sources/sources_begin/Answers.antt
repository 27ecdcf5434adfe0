use Rattle.mesa_store_spec.proofs.AllSourced.{all_found}
use Rattle.mesa_store_spec.proofs.sources.sources_begin.Goals as goal

pub returns : goal.returns
returns g rows c is sound_rows = all_found rows c is sound_rows
