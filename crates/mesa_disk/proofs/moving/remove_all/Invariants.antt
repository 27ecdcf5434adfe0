use Rattle.std.proofs.Common.{◌≡◌, take, drop}
use Rattle.mesa_disk.specs.declared.area.Area.{Area}
use Rattle.mesa_disk.specs.Image.{Loses, May}
use Rattle.mesa_disk.specs.Files.{LosesSome}
use Rattle.mesa_disk.proofs.Rounds.{Moving}
use Rattle.mesa_disk.proofs.moving.remove_all.Given as goal

abbrev pub invariant-loop-id : goal.invariant-loop-id
invariant-loop-id g l =
    let story = g.D.Disk.story in
    record {
      moving : Moving Loses (May Loses) LosesSome (take l.id-index l.ids) (drop l.id-index l.ids) (story l.initial.disk) (story l.disk);
      len : (a : Area) → (story l.disk).len a ≡ (story l.initial.disk).len a;
      faults : (story l.disk).faults ≡ (story l.initial.disk).faults;
      read_faults : (story l.disk).read_faults ≡ (story l.initial.disk).read_faults;
    }
