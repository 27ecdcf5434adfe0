use Rattle.std.proofs.Common.{sym, subst}
use Rattle.mesa_open_files.specs.Opening.{IsTrueOf}
use Rattle.mesa_index_cache.proofs.Standing.{with_one}
use Rattle.mesa_index_cache.proofs.indexed_disk.IndexedDiskDeltaDisk.keep_index.Goals as goal

pub invariant_of-self : goal.invariant_of-self
invariant_of-self g c =
    let x = c.args.index.now in
    let told = subst (λ d. IsTrueOf (g.D.Disk.story d).told x.file x) (sym c.self.view_is) c.requires.told in
    with_one (g.D.Disk.story c.self.inside.disk).told x.file x c.self.inside.indexes c.keep.new.self c.keep.ensures told c.self.invariant
