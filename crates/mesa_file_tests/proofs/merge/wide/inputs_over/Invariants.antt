use Rattle.mesa_schema.specs.Changes.{columns_of}
use Rattle.mesa_merge.specs.Inputs.{AreInputs}
use Rattle.mesa_file_tests.proofs.merge.wide.inputs_over.Given as goal

abbrev pub invariant-readers : goal.invariant-readers
invariant-readers g l = AreInputs g.R.FileReader.bytes (columns_of l.table.value) l.inputs.items
