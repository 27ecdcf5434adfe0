use Rattle.mesa_store_spec.proofs.Moving.{publish_step}
use Rattle.mesa_store_spec.proofs.moves.batches_move.Goals as goal

pub returns : goal.returns
returns g rows c version parts batch is sound_rows told brings = publish_step rows c sound_rows is version parts batch told brings
