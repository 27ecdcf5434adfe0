use Rattle.mesa_store_spec.proofs.Moving.{run_step}
use Rattle.mesa_store_spec.proofs.moves.runs_move_nothing.Goals as goal

pub returns : goal.returns
returns g rows c number sound_rows = run_step rows c sound_rows number
