use Rattle.std.proofs.Common.{◌∙◌, ap}
use Rattle.std.specs.Arc.{arc_value}
use Rattle.mesa_disk.specs.Image.{without_file}
use Rattle.mesa_disk.specs.Recorded.{held_image}
use Rattle.mesa_disk.proofs.Maps.{shown-remove}
use Rattle.mesa_disk.proofs.memory.held.drop_file.Goals as goal

pub returns : goal.returns
returns c =
    ap (λ m. record (held_image c.args.held.now) { files = m }) (shown-remove arc_value c.args.held.now.files.entries c.remove-file.new.self.entries c.number.result c.remove-file.ensures.updates.0)
    ∙ ap (λ k. without_file k (held_image c.args.held.now)) c.number.ensures
