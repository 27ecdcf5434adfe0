use Rattle.std.proofs.Common.{List, arith, map, subst, sym}
use Rattle.mesa_group_blocks.specs.mesa_open_files.declared.querying.Pinned.{Pinned}
use Rattle.mesa_group_blocks.specs.mesa_open_files.declared.querying.PinnedInput.{PinnedInput}
use Rattle.mesa_query.specs.Cooled.{cooled, cooled_file}
use Rattle.mesa_query.specs.Same.{AreReadable, AreSameFiles, IsSamePin}
use Rattle.mesa_query.proofs.CachedFiles.{readable_of}
use Rattle.mesa_query.proofs.CachedPins.{none_behind, same_pin, with_files}
use Rattle.mesa_query.proofs.warm.Warm.cool.Goals as goal

pub cool_all-requires-clause-room : goal.cool_all-requires-clause-room
cool_all-requires-clause-room g c κs within = omega (arith, c.self.invariant.empty, c.self.invariant.fits)

pub cool_all-requires-clause-readable : goal.cool_all-requires-clause-readable
cool_all-requires-clause-readable g c κs within =
    let old = cooled c.self.inside.pinned in
    subst (λ (files : List (PinnedInput _)). AreReadable g.R.FileReader.bytes files) (sym (none_behind (map cooled_file c.self.inside.pinned.inputs.items) c.self.inside.room c.self.invariant.empty))
    (readable_of g.R.FileReader.bytes c.self.invariant.pinned.0 old.view old.inputs.items c.self.invariant.pinned.1.inputs)

pub returns : goal.returns
returns g c =
    let old = cooled c.self.inside.pinned in
    let same = subst (λ (files : List (PinnedInput _)). AreSameFiles g.R.FileReader.bytes files c.cool_all.result.items) (none_behind (map cooled_file c.self.inside.pinned.inputs.items) c.self.inside.room c.self.invariant.empty) c.cool_all.ensures.same in
    subst (λ (p : Pinned _). IsSamePin g.R.FileReader.bytes p (with_files old c.cool_all.result)) c.self.view_is (same_pin g.R.FileReader.bytes old c.cool_all.result same c.cool_all.ensures.readable)
