use Rattle.std.proofs.Common.{arith, ◌≡◌, ◌+◌, ◌-◌}
use Rattle.std.proofs.lemmas.Grind.{common_steps}
use Rattle.std.proofs.lemmas.List.FromFn.{map-range_with_len_more}
use Rattle.mesa_span.proofs.Least.{single}
use Rattle.mesa_span.proofs.plans.push_singletons.Goals as goal

pub loop-version-preserved : goal.loop-version-preserved
loop-version-preserved c =
    let more : c.loop-version.version + 1 - c.args.from ≡ c.loop-version.version - c.args.from + 1 = omega arith in
    let next : c.args.from + (c.loop-version.version - c.args.from) ≡ c.loop-version.version = omega arith in
    rw more (grind (arith, common_steps, map-range_with_len_more single c.args.from (c.loop-version.version - c.args.from) c.loop-version.version next))

pub returns : goal.returns
returns c =
    let same : c.loop-version.version - c.args.from ≡ c.args.to + 1 - c.args.from = omega arith in
    rw same at c.loop-version.invariant
