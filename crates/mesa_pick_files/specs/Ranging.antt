-- What is opened of one of a table's ranges.
use Rattle.std.specs.Prelude.{◌≡◌, ℕ, List, ◌++◌, Option}
use Rattle.std.specs.List.{AllByRecursion}
use Rattle.mesa_disk.specs.Image.{Image}
use Rattle.mesa_schema.specs.Changes.{Lineage}
use Rattle.mesa_open_files.specs.declared.recasting.RecastRange.{RecastRange}
use Rattle.mesa_pick_files.specs.Ranges.{IsOpenedAs, Ranged}
use Rattle.mesa_pick_files.specs.declared.ranges.TableRange.{TableRange}

-- a range that a table lends
abbrev pub of_table : TableRange → Ranged
of_table x = record { from = x.from; to = x.to; delta = x.delta.now }

-- Its file was opened, if any was, and stands behind the ranges that were there.
abbrev pub HasMoreAs : {R : Type 0} → (R → Option (List ℕ)) → (R → ℕ) → Option Image → Lineage → Ranged → List (RecastRange R) → List (RecastRange R) → Type 0
HasMoreAs {R = R} bytes faults told l x old new = (more : List (RecastRange R)) × (new ≡ old ++ more) × AllByRecursion (IsOpenedAs bytes faults told l x.from x.to x.delta) more
