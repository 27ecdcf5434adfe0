use Rattle.mesa_split.proofs.Alike.{one_delta}
use Rattle.mesa_split.proofs.laws.one_delta.Goals as goal

pub returns : goal.returns
returns g c = one_delta g.M.Made.bytes g.M.Made.id_of g.R.FileReader.bytes
