use Rattle.mesa_split.proofs.Alike.{one_file}
use Rattle.mesa_split.proofs.laws.one_spelling.Goals as goal

pub returns : goal.returns
returns g c = one_file g.M.Made.bytes g.M.Made.id_of
