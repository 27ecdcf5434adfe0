use Rattle.mesa_merge.specs.Inputs.{AreInputs}
use Rattle.mesa_split.proofs.Rounding.{pieces_each, ready_at}
use Rattle.mesa_split.proofs.rounds.merge_next.Goals as goal

pub merge_pieces-requires-after_bounds : goal.merge_pieces-requires-after_bounds
merge_pieces-requires-after_bounds g c = λ _ _. ready_at (AreInputs g.R.FileReader.bytes c.args.schema.now) c.args.parts.now c.requires

pub returns : goal.returns
returns g c = pieces_each g.R.FileReader.bytes g.R.FileReader.faults g.R.FileReader.size c.args.schema.now c.args.cuts.now c.args.first c.args.parts.now c.merge_pieces.new.parts c.merge_pieces.auto.parts c.merge_pieces.ensures
