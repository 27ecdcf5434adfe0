use Rattle.mesa_key.proofs.Keys.{key_again, spelling_passes}
use Rattle.mesa_key.proofs.laws.reads_back.Goals as goal

pub returns : goal.returns
returns c = record { read = key_again; passes = spelling_passes }
