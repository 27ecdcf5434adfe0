-- Who holds files, where only room was made.
use Rattle.std.proofs.Common.{◌≡◌, ◌≤◌, ◌++◌, length, map, sym, ap, subst, arith}
use Rattle.std.specs.Prelude.{vec_capacity}
use Rattle.mesa_engine.specs.Recorded.{hold_of_pin, hold_of_query}
use Rattle.mesa_engine.specs.declared.holders.Holders.{Holders}
use Rattle.mesa_engine.specs.Index.{IsIndexOf}
use Rattle.mesa_engine.specs.Meaning.{AreIndexed, holds_by, pin_as, query_as}

-- the same holds are indexed as they were
pub still_indexed : {old new : Holders} → new.pins.items ≡ old.pins.items → new.queries.items ≡ old.queries.items → new.index.items ≡ old.index.items → vec_capacity old.index ≤ vec_capacity new.index → AreIndexed old → AreIndexed new
still_indexed {old = old} {new = new} pins queries index room is =
    let same : holds_by old ≡ holds_by new = λ i. map hold_of_pin (map pin_as (sym pins i)) ++ map hold_of_query (map query_as (sym queries i)) in
    let p = ap length pins in
    let q = ap length queries in
    let was = is.room in
    record {
      index = subst (λ hs. IsIndexOf hs new.index.items) same (subst (IsIndexOf (holds_by old)) (sym index) is.index);
      room = omega (arith, p, q, room, was);
    }
