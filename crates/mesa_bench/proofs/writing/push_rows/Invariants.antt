use Rattle.std.proofs.Common.{◌≡◌}
use Rattle.mesa_delta.specs.Writing.{HasTaken, columns_of}
use Rattle.mesa_bench.specs.Made.{rows_below}
use Rattle.mesa_bench.proofs.writing.push_rows.Given as goal

abbrev pub invariant-loop-number : goal.invariant-loop-number
invariant-loop-number g l = HasTaken g.T.Draft.bytes l.writer (rows_below l.number) × (columns_of l.writer ≡ columns_of l.fn.writer)
