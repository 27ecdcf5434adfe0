use Rattle.std.proofs.Common.{◌≡◌, List}
use Rattle.std.specs.Prelude.{Some, slice_get}
use Rattle.mesa_delta.specs.Ahead.{AreAhead, AreOfFile, Told}
use Rattle.mesa_delta.specs.Reading.{index_of}
use Rattle.mesa_scan.specs.Cursors.{reader_in}
use Rattle.mesa_scan.specs.Moving.{moved_to, told_in}
use Rattle.mesa_scan.proofs.ahead.read_on.Given as goal

-- what waits is of this input, or waited before, and of the input only what it reads from moved
abbrev pub invariant-each_block : goal.invariant-each_block
invariant-each_block g l = record {
  own : AreOfFile (g.R.FileReader.bytes (reader_in l.fn.input)) (index_of l.fn.input.reader) l.place l.fn.ahead → AreOfFile (g.R.FileReader.bytes (reader_in l.fn.input)) (index_of l.fn.input.reader) l.place l.ahead;
  ahead : (files : List Told) → slice_get files l.place ≡ Some (told_in g.R.FileReader.bytes l.fn.input) → AreAhead files l.fn.ahead → AreAhead files l.ahead;
  input : l.input ≡ moved_to (reader_in l.input) l.fn.input;
  bytes : g.R.FileReader.bytes (reader_in l.input) ≡ g.R.FileReader.bytes (reader_in l.fn.input);
  size : g.R.FileReader.size (reader_in l.input) ≡ g.R.FileReader.size (reader_in l.fn.input);
  faults : g.R.FileReader.faults (reader_in l.input) ≡ g.R.FileReader.faults (reader_in l.fn.input);
}
