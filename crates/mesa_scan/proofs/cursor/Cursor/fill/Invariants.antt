use Rattle.std.proofs.Common.{◌≡◌, ◌-◌, ◌+◌, ◌<◌, ◌≤◌, ℕ, List, [], length}
use Rattle.std.specs.Prelude.{Option, None}
use Rattle.mesa_delta.specs.mesa_columns.declared.rows.Row.{Row}
use Rattle.mesa_delta.specs.Reading.{index_of}
use Rattle.mesa_scan.specs.Cursors.{HasGivenFrom, IsInput, IsSameInput, at_hand, low_of, next_of, reader_in}
use Rattle.mesa_scan.proofs.cursor.Cursor.fill.Given as goal

-- What was given stays so. A row at hand stays there, and where all rows are given, no block was read as long as no row is at hand.
abbrev pub invariant-reading : goal.invariant-reading
invariant-reading g l = record {
  input : IsInput g.R.FileReader.bytes l.fn.input → IsInput g.R.FileReader.bytes l.input;
  same : IsSameInput g.R.FileReader.bytes l.fn.input l.input;
  size : g.R.FileReader.size (reader_in l.input) ≡ g.R.FileReader.size (reader_in l.fn.input);
  faults : g.R.FileReader.faults (reader_in l.input) ≡ g.R.FileReader.faults (reader_in l.fn.input);
  reads : g.R.FileReader.reads (reader_in l.input) + next_of l.fn.self ≤ g.R.FileReader.reads (reader_in l.fn.input) + next_of l.self;
  low : low_of l.self ≡ low_of l.fn.self;
  given : (low : Option (List ℕ)) (given : List Row) → HasGivenFrom g.R.FileReader.bytes low l.fn.input l.fn.self given → HasGivenFrom g.R.FileReader.bytes low l.input l.self given;
  stays : 0 < length (at_hand l.fn.self) → (l.self ≡ l.fn.self) × (l.input ≡ l.fn.input);
  whole : low_of l.fn.self ≡ None → at_hand l.self ≡ [] → (l.self ≡ l.fn.self) × (l.input ≡ l.fn.input);
  few : low_of l.fn.self ≡ None → g.R.FileReader.reads (reader_in l.input) ≤ g.R.FileReader.reads (reader_in l.fn.input) + 1;
}

abbrev pub decreases-reading : goal.decreases-reading
decreases-reading g l = length (index_of l.input.reader).entries - next_of l.self
