use Rattle.std.specs.Vec.Covariant.{in_vec}
use Rattle.mesa_query.specs.Cooled.{cooled_file}
use Rattle.mesa_query.proofs.CachedFiles.{readable_of}
use Rattle.mesa_query.proofs.CachedPins.{same_pin}
use Rattle.mesa_query.proofs.warm.Warm.new.Goals as goal

pub warm_all-requires-clause-pages : goal.warm_all-requires-clause-pages
warm_all-requires-clause-pages g c κs within = c.requires.pages

pub warm_all-requires-clause-readable : goal.warm_all-requires-clause-readable
warm_all-requires-clause-readable g c κs within = readable_of g.R.FileReader.bytes c.requires.pinned.0 c.args.pinned.view c.args.pinned.inputs.items c.requires.pinned.1.inputs

pub invariant_of-result : goal.invariant_of-result
invariant_of-result g c =
    let s = c.requires.pinned.0 in
    let same = same_pin g.R.FileReader.bytes c.args.pinned (in_vec cooled_file c.in-Ok.inputs) c.in-Ok.ensures.same c.in-Ok.ensures.readable in
    record { pinned = (s, same.pinned s c.requires.pinned.1); empty = c.in-Ok.ensures.empty; fits = c.in-Ok.ensures.fits }

pub returns-in-Ok-clause-same : goal.returns-in-Ok-clause-same
returns-in-Ok-clause-same g c = same_pin g.R.FileReader.bytes c.args.pinned (in_vec cooled_file c.in-Ok.inputs) c.in-Ok.ensures.same c.in-Ok.ensures.readable

pub returns-in-Err-clause-given_back : goal.returns-in-Err-clause-given_back
returns-in-Err-clause-given_back g c = same_pin g.R.FileReader.bytes c.args.pinned c.in-Err.inputs c.in-Err.ensures.given_back c.in-Err.ensures.readable_again
