use Rattle.std.specs.Prelude.{None}
use Rattle.std.specs.List.{AllByRecursion}
use Rattle.mesa_schema.specs.Changes.{columns_of}
use Rattle.mesa_open_files.specs.Pins.{IsPinnedInput}
use Rattle.mesa_file_tests.proofs.query.beside.inputs_of.Given as goal

abbrev pub invariant-each_source : goal.invariant-each_source
invariant-each_source g l = AllByRecursion (IsPinnedInput g.R.FileReader.bytes (columns_of l.table.value) None) l.inputs.items
