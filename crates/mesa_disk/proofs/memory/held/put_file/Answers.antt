use Rattle.std.proofs.Common.{◌∙◌, ap}
use Rattle.std.specs.Arc.{arc_value}
use Rattle.mesa_disk.specs.Image.{with_file}
use Rattle.mesa_disk.specs.Recorded.{held_image}
use Rattle.mesa_disk.proofs.Maps.{shown-insert}
use Rattle.mesa_disk.proofs.memory.held.put_file.Goals as goal

pub returns-clause-ok : goal.returns-clause-ok
returns-clause-ok c =
    ap (λ m. record (held_image c.args.held.now) { files = m }) (shown-insert arc_value c.args.held.now.files.entries c.insert.new.self.entries c.number.result c.args.bytes c.in_ok-insert.ensures.updates.0)
    ∙ ap (λ k. with_file k (arc_value c.args.bytes) (held_image c.args.held.now)) c.number.ensures
