use Rattle.std.proofs.Common.{refl}
use Rattle.mesa_engine.proofs.Still.{still_indexed}
use Rattle.mesa_engine.proofs.holders.Holders.reserve_place.Goals as goal

pub returns-clause-indexed : goal.returns-clause-indexed
returns-clause-indexed c = still_indexed refl refl c.reserve.ensures.items c.reserve.ensures.capacity c.requires
