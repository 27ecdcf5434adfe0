use Rattle.std.proofs.Common.{◌++◌, arith, map}
use Rattle.std.specs.Prelude.{reverse}
use Rattle.mesa_query.specs.Cooled.{cooled_file}
use Rattle.mesa_query.proofs.CachedFiles.{same_again, same_on}
use Rattle.mesa_query.proofs.CachedPins.{no_items}
use Rattle.mesa_query.proofs.Taking.{all_warmed, none_warmed, one_back, one_warmed, readable_first}
use Rattle.mesa_query.proofs.caching.warm_all.Goals as goal

pub returns-in-Err-clause-given_back : goal.returns-in-Err-clause-given_back
returns-in-Err-clause-given_back g c = same_again g.R.FileReader.bytes c.args.files.items

pub returns-in-Err-clause-readable_again : goal.returns-in-Err-clause-readable_again
returns-in-Err-clause-readable_again g c = c.requires.readable

pub each_file-init : goal.each_file-init
each_file-init g c = (
  omega (arith, c.in-Ok.ensures.len, c.in-Ok.ensures.capacity, c.reverse.ensures.len, c.len.ensures),
  omega (arith, c.in-Ok.ensures.len, c.reverse.new.self.ok.1),
  none_warmed g.R.FileReader.bytes c.args.files.items c.in-Ok.warm.items c.reverse.new.self.items c.in-Ok.ensures.items c.reverse.ensures.items c.requires.readable,
)

pub warm_one-requires-clause-pages : goal.warm_one-requires-clause-pages
warm_one-requires-clause-pages g c κs within = c.requires.pages

pub warm_one-requires-clause-readable : goal.warm_one-requires-clause-readable
warm_one-requires-clause-readable g c κs within =
    readable_first g.R.FileReader.bytes c.args.files.items c.each_file.warm.items c.each_file.files.items c.pop.new.self.items c.in-Some.file c.in-Some.ensures.items c.each_file.invariant.2

pub push_reserved-requires : goal.push_reserved-requires
push_reserved-requires g c = omega (arith, c.each_file.invariant.0, c.in-Some.ensures.cases)

pub each_file-smaller : goal.each_file-smaller
each_file-smaller g c = omega (arith, c.in-Some.ensures.cases)

pub each_file-preserved : goal.each_file-preserved
each_file-preserved g c = (
  omega (arith, c.each_file.invariant.0, c.in-Some.ensures.cases, c.push_reserved.ensures.len, c.push_reserved.ensures.capacity),
  omega (arith, c.each_file.invariant.1, c.in-Some.ensures.cases, c.in-Some.ensures.capacity, c.push_reserved.ensures.len),
  one_warmed g.R.FileReader.bytes c.args.files.items c.each_file.warm.items c.push_reserved.new.self.items c.each_file.files.items c.pop.new.self.items c.in-Some.file c.in-Ok-warm_one.file
      c.in-Some.ensures.items c.push_reserved.ensures.items c.in-Ok-warm_one.ensures.same c.in-Ok-warm_one.ensures.readable c.each_file.invariant.2,
)

pub push_reserved-requires-in-Err-warm_one : goal.push_reserved-requires-in-Err-warm_one
push_reserved-requires-in-Err-warm_one g c = omega (arith, c.each_file.invariant.1, c.in-Some.ensures.cases, c.in-Some.ensures.capacity)

pub cool_all-requires-clause-room : goal.cool_all-requires-clause-room
cool_all-requires-clause-room g c κs within =
    omega (arith, c.each_file.invariant.1, c.in-Some.ensures.cases, c.in-Some.ensures.capacity, c.push_reserved-in-Err-warm_one.ensures.len, c.push_reserved-in-Err-warm_one.ensures.capacity)

pub cool_all-requires-clause-readable : goal.cool_all-requires-clause-readable
cool_all-requires-clause-readable g c κs within =
    (one_back g.R.FileReader.bytes c.args.files.items c.each_file.warm.items c.each_file.files.items c.pop.new.self.items c.push_reserved-in-Err-warm_one.new.self.items c.in-Some.file c.in-Err-warm_one.file
    c.in-Some.ensures.items c.push_reserved-in-Err-warm_one.ensures.items c.in-Err-warm_one.ensures.given_back c.in-Err-warm_one.ensures.readable_again c.each_file.invariant.2).0

pub returns-in-Err-warm_one-clause-given_back : goal.returns-in-Err-warm_one-clause-given_back
returns-in-Err-warm_one-clause-given_back g c =
    let still = one_back g.R.FileReader.bytes c.args.files.items c.each_file.warm.items c.each_file.files.items c.pop.new.self.items c.push_reserved-in-Err-warm_one.new.self.items c.in-Some.file c.in-Err-warm_one.file
    c.in-Some.ensures.items c.push_reserved-in-Err-warm_one.ensures.items c.in-Err-warm_one.ensures.given_back c.in-Err-warm_one.ensures.readable_again c.each_file.invariant.2 in
    same_on g.R.FileReader.bytes c.args.files.items (map cooled_file c.each_file.warm.items ++ reverse c.push_reserved-in-Err-warm_one.new.self.items) c.cool_all.result.items still.1 c.cool_all.ensures.same

pub returns-in-Err-warm_one-clause-readable_again : goal.returns-in-Err-warm_one-clause-readable_again
returns-in-Err-warm_one-clause-readable_again g c = c.cool_all.ensures.readable

pub returns-clause-same : goal.returns-clause-same
returns-clause-same g c = (all_warmed g.R.FileReader.bytes c.args.files.items c.each_file.warm.items c.each_file.files.items (no_items c.each_file.files c.in_default.ensures.cases.0) c.each_file.invariant.2).1

pub returns-clause-readable : goal.returns-clause-readable
returns-clause-readable g c = (all_warmed g.R.FileReader.bytes c.args.files.items c.each_file.warm.items c.each_file.files.items (no_items c.each_file.files c.in_default.ensures.cases.0) c.each_file.invariant.2).0

pub returns-clause-empty : goal.returns-clause-empty
returns-clause-empty g c = c.in_default.ensures.cases.1

pub returns-clause-fits : goal.returns-clause-fits
returns-clause-fits g c = omega (arith, c.each_file.invariant.1, c.in_default.ensures.capacity)
