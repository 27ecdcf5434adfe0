use Rattle.std.proofs.Common.{◌++◌, map, arith}
use Rattle.std.specs.Prelude.{reverse}
use Rattle.mesa_query.specs.Cooled.{cooled_file}
use Rattle.mesa_query.proofs.CachedFiles.{same_again}
use Rattle.mesa_query.proofs.CachedPins.{no_items}
use Rattle.mesa_query.proofs.Taking.{all_cooled, one_cooled, readable_last}
use Rattle.mesa_query.proofs.caching.cool_all.Goals as goal

pub each_file-init : goal.each_file-init
each_file-init g c = (c.requires.room, (c.requires.readable, same_again g.R.FileReader.bytes (map cooled_file c.args.warm.items ++ reverse c.args.files.items)))

pub cool_one-requires-after_bounds : goal.cool_one-requires-after_bounds
cool_one-requires-after_bounds g c κs within =
    readable_last g.R.FileReader.bytes (map cooled_file c.args.warm.items ++ reverse c.args.files.items) c.each_file.warm.items c.pop.new.self.items c.in-Some.file c.each_file.files.items c.in-Some.ensures.items c.each_file.invariant.1

pub push_reserved-requires : goal.push_reserved-requires
push_reserved-requires g c = omega (arith, c.each_file.invariant.0, c.in-Some.ensures.cases)

pub each_file-smaller : goal.each_file-smaller
each_file-smaller g c = omega (arith, c.in-Some.ensures.cases)

pub each_file-preserved : goal.each_file-preserved
each_file-preserved g c = (
  omega (arith, c.each_file.invariant.0, c.in-Some.ensures.cases, c.push_reserved.ensures.len, c.push_reserved.ensures.capacity),
  one_cooled g.R.FileReader.bytes (map cooled_file c.args.warm.items ++ reverse c.args.files.items) c.each_file.warm.items c.pop.new.self.items c.in-Some.file c.each_file.files.items c.push_reserved.new.self.items c.cool_one.result
      c.in-Some.ensures.items c.push_reserved.ensures.items c.cool_one.ensures.same c.cool_one.ensures.readable c.each_file.invariant.1,
)

pub destroy_empty-requires : goal.destroy_empty-requires
destroy_empty-requires g c = c.in_default.ensures.cases.1

pub returns-clause-same : goal.returns-clause-same
returns-clause-same g c =
    (all_cooled g.R.FileReader.bytes (map cooled_file c.args.warm.items ++ reverse c.args.files.items) c.each_file.warm.items c.each_file.files.items c.reverse.new.self.items (no_items c.each_file.warm c.in_default.ensures.cases.0) c.reverse.ensures.items c.each_file.invariant.1).1

pub returns-clause-readable : goal.returns-clause-readable
returns-clause-readable g c =
    (all_cooled g.R.FileReader.bytes (map cooled_file c.args.warm.items ++ reverse c.args.files.items) c.each_file.warm.items c.each_file.files.items c.reverse.new.self.items (no_items c.each_file.warm c.in_default.ensures.cases.0) c.reverse.ensures.items c.each_file.invariant.1).0
