use Rattle.std.proofs.Common.{◌≡◌, Some, ◌∙◌, sym, subst}
use Rattle.mesa_disk.specs.Image.{Image}
use Rattle.mesa_disk.specs.Recorded.{MayHaveLeft}
use Rattle.mesa_disk.specs.Memory.{start_of, image_at}
use Rattle.mesa_disk.proofs.Picks.{image_left}
use Rattle.mesa_disk.proofs.memory.disk.MemDisk.image.Goals as goal

same_image : (i j : Image) → Some i ≡ Some j → i ≡ j
same_image i j is = cc

pub returns-clause-left : goal.returns-clause-left
returns-clause-left c x told =
    let log = c.args.self.now.log in
    let is : image_at c.args.self.now c.args.moment c.args.pick ≡ x = sym c.in_ok-held.ensures ∙ same_image _ _ (sym c.starting.ensures.told ∙ told) in
    subst (MayHaveLeft (start_of log) log.calls.items c.args.moment) is (image_left c.args.pick c.args.moment (start_of log) log.calls.items log.placed)
