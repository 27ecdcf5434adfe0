use Rattle.std.proofs.Common.{◌≡◌, take}
use Rattle.std.specs.Prelude.{flat_map}
use Rattle.std.specs.List.{AllByRecursion}
use Rattle.mesa_disk.specs.Image.{Image}
use Rattle.mesa_batch.specs.Totals.{abs_totals}
use Rattle.mesa_schema.specs.Changes.{columns_of}
use Rattle.mesa_compare.specs.mesa_examine.Sums.{counted}
use Rattle.mesa_check.specs.Found.{Found}
use Rattle.mesa_check.specs.Counted.{is_single, rows_where}
use Rattle.mesa_check.specs.Shown.{tested_range}
use Rattle.mesa_check.specs.Tested.{IsRead}
use Rattle.mesa_check.specs.declared.testing.Test.{Test}
use Rattle.mesa_check.proofs.Unasked.{AllKeep}
use Rattle.mesa_check.proofs.asked.asked_below.Given as goal

-- the singletons so far are found and keep the bound, and the sums are those of their rows
abbrev pub invariant-singles : goal.invariant-singles
invariant-singles l = (i : Image) (found : Found) → AllByRecursion (IsRead i found l.table.evolving.value) l.tests
    → (l.sums.items ≡ counted (abs_totals (columns_of l.table.evolving.value) (flat_map (λ (x : Test). rows_where found l.table.evolving.value is_single (tested_range x)) (take l.one-index l.tests)))) × AllKeep found l.table.evolving.value (take l.one-index l.tests)
