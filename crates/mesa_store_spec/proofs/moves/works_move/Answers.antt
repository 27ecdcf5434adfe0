use Rattle.mesa_store_spec.proofs.Moving.{swap_step}
use Rattle.mesa_store_spec.proofs.moves.works_move.Goals as goal

pub returns : goal.returns
returns g rows c table base from to epoch files is sound_rows fit told merges = swap_step rows c sound_rows is table base from to epoch files fit told merges
