use Rattle.std.proofs.Common.{refl, arith}
use Rattle.mesa_engine.proofs.Still.{still_indexed}
use Rattle.mesa_engine.proofs.holders.Holders.add_query.Goals as goal

pub returns-in_err-reserve-clause-indexed : goal.returns-in_err-reserve-clause-indexed
returns-in_err-reserve-clause-indexed c = still_indexed {old = c.reserve_place.new.self} refl c.reserve.ensures.items refl (omega arith) c.reserve_place.ensures.indexed
