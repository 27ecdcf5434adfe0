use Rattle.std.proofs.Common.{◌≡◌, ◌++◌, length, Some}
use Rattle.std.specs.Vec.Iter.{into_iter_items, into_iter_len}
use Rattle.mesa_disk.specs.declared.area.Area.{Area}
use Rattle.mesa_disk.specs.Image.{Image, Adopts, May}
use Rattle.mesa_disk.specs.Files.{files_of, AddsSome, AreAbsent, HasDistinctIds}
use Rattle.mesa_disk.proofs.Rounds.{Moving}
use Rattle.mesa_disk.proofs.moving.adopt_all.Given as goal

abbrev pub invariant-loop-adoption : goal.invariant-loop-adoption
invariant-loop-adoption g l =
    let story = g.D.Disk.story in
    let files = files_of g.M.Made.bytes in
    record {
      items : l.yielded ++ into_iter_items l.adoption-iterator ≡ into_iter_items l.initial.adoption-iterator;
      size : into_iter_len l.adoption-iterator ≡ length (into_iter_items l.adoption-iterator);
      distinct : HasDistinctIds (files (into_iter_items l.adoption-iterator));
      absent : (i : Image) → (story l.disk).told ≡ Some i → AreAbsent (files (into_iter_items l.adoption-iterator)) i;
      moving : Moving Adopts (May Adopts) AddsSome (files l.yielded) (files (into_iter_items l.adoption-iterator)) (story l.initial.disk) (story l.disk);
      len : (a : Area) → (story l.disk).len a ≡ (story l.initial.disk).len a;
      faults : (story l.disk).faults ≡ (story l.initial.disk).faults;
      read_faults : (story l.disk).read_faults ≡ (story l.initial.disk).read_faults;
    }
