use Rattle.mesa_check.proofs.Stores.{none_is_sound, sound_found, sound_has_none}
use Rattle.mesa_check.proofs.laws.sound_where_no_fault.Goals as goal

pub returns-clause-sound : goal.returns-clause-sound
returns-clause-sound c = none_is_sound

pub returns-clause-none : goal.returns-clause-none
returns-clause-none c = sound_has_none

pub returns-clause-found : goal.returns-clause-found
returns-clause-found c = sound_found
