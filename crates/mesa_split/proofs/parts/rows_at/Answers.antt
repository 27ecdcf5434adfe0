use Rattle.std.proofs.Common.{None}
use Rattle.std.specs.Prelude.{slice_get}
use Rattle.mesa_split.specs.Parts.{low_at}
use Rattle.mesa_split.proofs.Collected.{not_read}
use Rattle.mesa_split.proofs.parts.rows_at.Goals as goal

pub returns-in-Err : goal.returns-in-Err
returns-in-Err g c = not_read g.R.FileReader.bytes g.R.FileReader.faults g.R.FileReader.size c.args.schema.now (low_at None c.args.cuts.now c.args.place) (slice_get c.args.cuts.now c.args.place) c.args.inputs.items c.requires.each
