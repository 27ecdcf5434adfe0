use Rattle.std.proofs.Common.{◌≡◌, ℕ, [], List}
use Rattle.mesa_open_files.specs.mesa_columns.declared.rows.Row.{Row}
use Rattle.mesa_scan.specs.Cursors.{HasGiven, IsInput, IsSameInput, reader_in}
use Rattle.mesa_examine.specs.Tallies.{Tallies}
use Rattle.mesa_examine.proofs.examining.tally_rows.Given as goal

-- the rows so far are tallied
abbrev pub invariant-rows : goal.invariant-rows
invariant-rows g l = record {
  input : IsInput g.R.FileReader.bytes l.input;
  same : IsSameInput g.R.FileReader.bytes l.fn.input l.input;
  faults : g.R.FileReader.faults (reader_in l.input) ≡ g.R.FileReader.faults (reader_in l.fn.input);
  tallied : (given : List Row) × HasGiven g.R.FileReader.bytes l.input l.cursor given × ((present : ℕ) → Tallies l.own l.lift present l.fn.tally [] → Tallies l.own l.lift present l.tally given);
}
