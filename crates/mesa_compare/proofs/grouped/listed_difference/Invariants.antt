use Rattle.std.proofs.Common.{◌≡◌, take}
use Rattle.mesa_examine.specs.mesa_scan.Cursors.{HasGiven, IsInput, IsSameInput, reader_in}
use Rattle.mesa_compare.proofs.grouped.listed_difference.Given as goal

-- the rows so far are the file's
abbrev pub invariant-loop-row : goal.invariant-loop-row
invariant-loop-row g l = record {
  input : IsInput g.R.FileReader.bytes l.input;
  same : IsSameInput g.R.FileReader.bytes l.fn.input l.input;
  faults : g.R.FileReader.faults (reader_in l.input) ≡ g.R.FileReader.faults (reader_in l.fn.input);
  read : HasGiven g.R.FileReader.bytes l.input l.cursor (take l.row-index l.rows);
}
