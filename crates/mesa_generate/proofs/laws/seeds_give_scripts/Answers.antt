use Rattle.mesa_generate.proofs.SeedsRead.{seed_gives}
use Rattle.mesa_generate.proofs.laws.seeds_give_scripts.Goals as goal

pub returns : goal.returns
returns c = seed_gives
