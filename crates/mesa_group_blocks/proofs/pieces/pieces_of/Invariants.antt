use Rattle.std.proofs.Common.{◌≡◌, List}
use Rattle.std.specs.List.{AllByRecursion}
use Rattle.mesa_open_files.specs.mesa_columns.declared.rows.Row.{Row}
use Rattle.mesa_open_files.specs.mesa_columns.Columns.{Columns}
use Rattle.mesa_merge.specs.Inputs.{AreTold, knowns_of}
use Rattle.mesa_open_files.specs.Pins.{IsPinnedInput}
use Rattle.mesa_group_blocks.specs.Moved.{inputs_in}
use Rattle.mesa_group_blocks.specs.Pieces.{IsPieceOf, rows_of_pieces}
use Rattle.mesa_group_blocks.proofs.Contents.{matching_first}
use Rattle.mesa_group_blocks.proofs.pieces.pieces_of.Given as goal

-- the blocks of the files so far are there
abbrev pub invariant-each_file : goal.invariant-each_file
invariant-each_file g l = record {
  pieces : AllByRecursion (IsPieceOf (knowns_of g.R.FileReader.bytes (inputs_in l.files))) l.pieces.items;
  rows : (s : Columns) → AllByRecursion (IsPinnedInput g.R.FileReader.bytes s l.fn.view) l.files → (contents : List (List Row)) → AreTold (knowns_of g.R.FileReader.bytes (inputs_in l.files)) contents
      → rows_of_pieces l.filter (knowns_of g.R.FileReader.bytes (inputs_in l.files)) contents l.pieces.items ≡ matching_first s l.filter.terms l.fn.view l.files contents l.i;
}
