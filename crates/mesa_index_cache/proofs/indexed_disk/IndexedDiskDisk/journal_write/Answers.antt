use Rattle.std.proofs.Common.{length, subst}
use Rattle.mesa_disk.specs.Image.{Tears}
use Rattle.mesa_disk.specs.Story.{Follows}
use Rattle.mesa_index_cache.proofs.Standing.{still_written}
use Rattle.mesa_index_cache.proofs.indexed_disk.IndexedDiskDisk.journal_write.Goals as goal

pub invariant_of-self : goal.invariant_of-self
invariant_of-self g c =
    still_written c.args.area c.args.at (length c.args.bytes.now) (g.D.Disk.story c.self.inside.disk).told (g.D.Disk.story c.journal_write.new.self).told c.self.inside.indexes c.journal_write.ensures.torn c.self.invariant

pub returns-clause-crash : goal.returns-clause-crash
returns-clause-crash g c =
    subst (λ d. Follows (Tears c.args.area c.args.at (length c.args.bytes.now)) (g.D.Disk.story d).may_leave (g.D.Disk.story c.journal_write.new.self).may_leave) c.self.view_is c.journal_write.ensures.crash
