use Rattle.std.proofs.Common.{◌≡◌, Some, None, sym, subst}
use Rattle.mesa_disk.specs.Image.{Image, Adopts, May, file_of}
use Rattle.mesa_disk.specs.Story.{Follows}
use Rattle.mesa_index_cache.proofs.Standing.{still_adopted}
use Rattle.mesa_index_cache.proofs.indexed_disk.IndexedDiskDisk.adopt.Goals as goal

pub invariant_of-self : goal.invariant_of-self
invariant_of-self g c =
    let absent = subst (λ d. (i : Image) → (g.D.Disk.story d).told ≡ Some i → file_of i c.args.id ≡ None) (sym c.self.view_is) c.requires in
    still_adopted c.args.id (g.M.Made.bytes c.args.made) (g.D.Disk.story c.self.inside.disk).told (g.D.Disk.story c.adopt.new.self).told c.self.inside.indexes absent c.adopt.ensures.whole c.self.invariant

pub returns-clause-crash : goal.returns-clause-crash
returns-clause-crash g c =
    subst (λ d. Follows (May Adopts (c.args.id, g.M.Made.bytes c.args.made)) (g.D.Disk.story d).may_leave (g.D.Disk.story c.adopt.new.self).may_leave) c.self.view_is c.adopt.ensures.crash
