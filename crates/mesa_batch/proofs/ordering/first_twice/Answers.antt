use Rattle.std.proofs.Common.{◌-◌, ◌<◌, length, map, sym, arith}
use Rattle.std.proofs.lemmas.List.{get_or-map, length-map}
use Rattle.mesa_batch.specs.Heads.{place_of}
use Rattle.mesa_batch.proofs.Twice.{twice_all, twice_next}
use Rattle.mesa_batch.proofs.ordering.first_twice.Goals as goal

pub places-preserved : goal.places-preserved
places-preserved c =
    let spots = c.args.order.now in
    let i = c.places.place in
    let within : i < length spots = c.places-test.true in
    rw c.earlier-found.ensures
    (twice_next c.args.rows.now (map place_of spots) i c.places.found _ c.places.auto.place (omega (arith, within, length-map spots place_of))
    (sym (get_or-map place_of spots (i - 1) _ 0 (omega (arith, within)))) (sym (get_or-map place_of spots i _ 0 within)) c.places.invariant)

pub returns : goal.returns
returns c = twice_all c.args.rows.now (map place_of c.args.order.now) c.places.place c.places.found (omega (arith, length-map c.args.order.now place_of)) c.places.invariant
