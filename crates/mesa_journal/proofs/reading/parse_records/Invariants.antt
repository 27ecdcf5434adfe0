use Rattle.std.proofs.Common.{◌≡◌, ◌-◌, length}
use Rattle.std.specs.List.{AllByRecursion}
use Rattle.mesa_disk.specs.mesa_key.Spelling.{AreBytes}
use Rattle.mesa_journal.specs.Read.{bodies_of, placed_from}
use Rattle.mesa_journal.proofs.Tails.{Parsed}
use Rattle.mesa_journal.proofs.reading.parse_records.Given as goal

abbrev pub invariant-loop-at : goal.invariant-loop-at
invariant-loop-at l = record { parsed : Parsed l.area (bodies_of l.bodies) l.at; places : l.bodies ≡ placed_from 0 (bodies_of l.bodies); bytes : AllByRecursion AreBytes (bodies_of l.bodies) }

abbrev pub decreases-loop-at : goal.decreases-loop-at
decreases-loop-at l = length l.area - l.at
