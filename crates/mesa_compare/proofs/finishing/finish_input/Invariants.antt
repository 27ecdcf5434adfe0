use Rattle.std.proofs.Common.{◌≡◌, ◌++◌, List}
use Rattle.mesa_schema.specs.mesa_columns.declared.rows.Row.{Row}
use Rattle.std.specs.Prelude.{None}
use Rattle.mesa_examine.specs.mesa_scan.Cursors.{HasGiven, IsInput, IsSameInput, low_of, reader_in}
use Rattle.mesa_compare.proofs.finishing.finish_input.Given as goal

-- the rows so far are given
abbrev pub invariant-rows : goal.invariant-rows
invariant-rows g l = record {
  input : IsInput g.R.FileReader.bytes l.input;
  same : IsSameInput g.R.FileReader.bytes l.fn.input l.input;
  faults : g.R.FileReader.faults (reader_in l.input) ≡ g.R.FileReader.faults (reader_in l.fn.input);
  low : low_of l.cursor ≡ None;
  given : (before : List Row) → HasGiven g.R.FileReader.bytes l.fn.input l.fn.cursor before → (more : List Row) × HasGiven g.R.FileReader.bytes l.input l.cursor (before ++ more);
}
