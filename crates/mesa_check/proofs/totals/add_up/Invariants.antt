use Rattle.std.proofs.Common.{◌≡◌, take, true}
use Rattle.std.specs.Prelude.{flat_map}
use Rattle.std.specs.List.{AllByRecursion}
use Rattle.mesa_batch.specs.Totals.{abs_totals}
use Rattle.mesa_schema.specs.Changes.{Lineage, columns_of}
use Rattle.mesa_compare.specs.mesa_examine.Sums.{counted}
use Rattle.mesa_check.specs.Found.{Found}
use Rattle.mesa_check.specs.Counted.{is_counted, rows_where}
use Rattle.mesa_check.specs.Held.{range_in}
use Rattle.mesa_check.specs.declared.testing.Test.{Test}
use Rattle.mesa_check.proofs.totals.add_up.Given as goal

-- the totals of those so far
abbrev pub invariant-loop-one : goal.invariant-loop-one
invariant-loop-one l = (found : Found) (n : Lineage) → l.schema ≡ columns_of n
    → AllByRecursion (λ (t : Test). is_counted (range_in t.range) ≡ true → t.present ≡ counted (abs_totals l.schema (rows_where found n is_counted (range_in t.range)))) l.tests
    → l.sums.items ≡ counted (abs_totals l.schema (flat_map (λ (t : Test). rows_where found n is_counted (range_in t.range)) (take l.one-index l.tests)))
