use Rattle.std.proofs.Common.{◌≡◌, ◌++◌, List}
use Rattle.mesa_group_blocks.specs.declared.pieces.Piece.{Piece}
use Rattle.mesa_group_blocks.proofs.PieceRows.{AreFirst}
use Rattle.mesa_group_blocks.proofs.pieces.add_pieces.Given as goal

-- those of the blocks so far are added
abbrev pub invariant-each_block : goal.invariant-each_block
invariant-each_block g l = (more : List Piece) × (l.pieces.items ≡ l.fn.pieces.items ++ more) × AreFirst g.R.FileReader.bytes l.input l.filter l.place l.block more
