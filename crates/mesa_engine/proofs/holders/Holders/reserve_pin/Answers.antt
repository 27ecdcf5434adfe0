use Rattle.std.proofs.Common.{refl, arith}
use Rattle.mesa_engine.proofs.Still.{still_indexed}
use Rattle.mesa_engine.proofs.holders.Holders.reserve_pin.Goals as goal

pub returns-clause-indexed : goal.returns-clause-indexed
returns-clause-indexed c = still_indexed {old = c.reserve_place.new.self} c.reserve.ensures.items refl refl (omega arith) c.reserve_place.ensures.indexed
