use Rattle.mesa_shell.proofs.Empty.{empty_sound, empty_stands, empty_start}
use Rattle.mesa_shell.proofs.small_scripts.empty_stores_are_sound.Goals as goal

pub returns : goal.returns
returns c = record { sound = empty_sound; stands = empty_stands; start = empty_start }
