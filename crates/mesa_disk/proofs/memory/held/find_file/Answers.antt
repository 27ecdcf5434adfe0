use Rattle.std.proofs.Common.{◌≡◌, Option, Some, None, Bor, refl, ◌∙◌, sym, ap}
use Rattle.std.specs.Option.{option_map, option_copied}
use Rattle.std.specs.Arc.{arc_value}
use Rattle.mesa_disk.specs.Image.{file_of}
use Rattle.mesa_disk.specs.Recorded.{held_image}
use Rattle.mesa_disk.proofs.Maps.{get-shown}
use Rattle.mesa_disk.proofs.memory.held.find_file.Goals as goal

through : {X Y : Type 0} (f : X → Y) (o : Option (Bor X)) → option_map (λ b. f b.now) o ≡ option_map f (option_copied o)
through f (Some b) = refl
through f None = refl

pub returns : goal.returns
returns c =
    through arc_value c.get.result
    ∙ ap (option_map arc_value) c.get.ensures.value
    ∙ sym (get-shown arc_value c.args.held.now.files.entries c.number.result)
    ∙ ap (file_of (held_image c.args.held.now)) c.number.ensures
