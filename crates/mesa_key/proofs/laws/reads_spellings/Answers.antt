use Rattle.mesa_key.proofs.Keys.{spelling_key, spelling_spelled}
use Rattle.mesa_key.proofs.laws.reads_spellings.Goals as goal

pub returns : goal.returns
returns c = record { key = spelling_key; spelled = spelling_spelled }
