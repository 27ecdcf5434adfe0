use Rattle.mesa_store_spec.proofs.Agreeing.{agree_kept, agree_sound_rows, agree_wants}
use Rattle.mesa_store_spec.proofs.AllSourced.{agree_sourced}
use Rattle.mesa_store_spec.proofs.files.rows_count_where_named.Goals as goal

pub returns : goal.returns
returns g = record { kept = agree_kept; sound_rows = agree_sound_rows; sourced = λ old new written c same has. agree_sourced old new written c same has; wanted = agree_wants }
