use Rattle.mesa_batch.proofs.Heads.{spots_more}
use Rattle.mesa_batch.proofs.spots.spots.Goals as goal

pub places-preserved : goal.places-preserved
places-preserved c =
    let more = spots_more c.args.rows.now c.places.spots.items c.push.new.self.items c.spot_of.result c.places.place c.in_ok-push.ensures.items c.spot_of.ensures.place c.spot_of.ensures.spot c.places.invariant.places c.places.invariant.spots in
    record { places = more.0; spots = more.1 }
