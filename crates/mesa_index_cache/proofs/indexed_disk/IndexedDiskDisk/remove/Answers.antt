use Rattle.std.proofs.Common.{subst}
use Rattle.mesa_disk.specs.Image.{Loses, May}
use Rattle.mesa_disk.specs.Story.{Follows}
use Rattle.mesa_index_cache.proofs.Standing.{still_removed}
use Rattle.mesa_index_cache.proofs.indexed_disk.IndexedDiskDisk.remove.Goals as goal

pub invariant_of-self : goal.invariant_of-self
invariant_of-self g c =
    still_removed c.args.id (g.D.Disk.story c.self.inside.disk).told (g.D.Disk.story c.remove.new.self).told c.self.inside.indexes c.forget.new.self c.forget.ensures c.remove.ensures.whole c.self.invariant

pub returns-clause-crash : goal.returns-clause-crash
returns-clause-crash g c =
    subst (λ d. Follows (May Loses c.args.id) (g.D.Disk.story d).may_leave (g.D.Disk.story c.remove.new.self).may_leave) c.self.view_is c.remove.ensures.crash
