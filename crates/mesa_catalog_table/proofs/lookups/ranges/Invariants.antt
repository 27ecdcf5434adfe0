use Rattle.std.proofs.Common.{◌≡◌, map}
use Rattle.std.specs.List.{range_with_len}
use Rattle.mesa_span.specs.Ranges.{end_of}
use Rattle.mesa_catalog_table.proofs.lookups.ranges.Given as goal

-- the ends of the tens so far
abbrev pub invariant-loop-ten : goal.invariant-loop-ten
invariant-loop-ten l = l.ends.items ≡ map (end_of l.start) (range_with_len 0 l.ten)
