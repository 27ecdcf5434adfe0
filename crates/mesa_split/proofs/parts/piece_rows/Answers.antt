use Rattle.std.proofs.Common.{◌+◌, ◌<◌, length, arith}
use Rattle.mesa_split.proofs.Collected.{piece_cut, piece_none}
use Rattle.mesa_split.proofs.parts.piece_rows.Goals.{in_default-via-in-Some+else-at-cuts, in_default-via-in_default}
use Rattle.mesa_split.proofs.parts.piece_rows.Goals as goal

pub returns-in-Some : goal.returns-in-Some
returns-in-Some g c = piece_cut g.R.FileReader.bytes g.R.FileReader.faults g.R.FileReader.size c.args.schema.now c.args.cuts.now (c.args.first + c.args.behind) c.in-Some.at c.args.inputs.items c.rows_at.result.0.items c.rows_at.result.1 (omega (arith, c.in-Some.ensures)) (omega arith) c.rows_at.ensures

pub returns-in_default : goal.returns-in_default
returns-in_default g c =
    let behind : length c.args.cuts.now < c.args.first + c.args.behind = elim c.in_default.branch [ in_default-via-in-Some+else-at-cuts w ↦ omega (arith, w.in-Some.ensures) | in_default-via-in_default w ↦ omega (arith, w.in_default.ensures) ] in
    piece_none g.R.FileReader.bytes g.R.FileReader.faults g.R.FileReader.size c.args.schema.now c.args.cuts.now (c.args.first + c.args.behind) c.args.inputs.items c.new.result behind c.new.ensures c.requires.each
