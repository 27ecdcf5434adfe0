use Rattle.mesa_store_spec.proofs.Empty.{is_sound, stands_for_nothing}
use Rattle.mesa_store_spec.proofs.laws.empty_images_are_sound.Goals as goal

pub returns : goal.returns
returns c = record { sound = is_sound; empty = stands_for_nothing }
