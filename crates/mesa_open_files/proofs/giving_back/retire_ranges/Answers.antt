use Rattle.std.proofs.Common.{flat_map, refl, subst}
use Rattle.mesa_open_files.specs.Recasts.{own}
use Rattle.mesa_open_files.proofs.Counts.{unmoved_more}
use Rattle.mesa_open_files.proofs.Retired.{HaveGiven, given_next}
use Rattle.mesa_open_files.proofs.giving_back.retire_ranges.Goals as goal

pub each-preserved : goal.each-preserved
each-preserved g c =
    let faults = g.D.Reader.FileReader.faults in
    let first = g.D.Disk.story c.args.disk.now in
    let before = g.D.Disk.story c.each.disk in
    let after = g.D.Disk.story c.retire_range.new.disk in (
      unmoved_more first before after c.each.invariant.0 c.retire_range.ensures.unmoved,
      given_next faults (flat_map own) c.args.ranges.items c.pop.new.self.items c.in-Some.range (own c.in-Some.range) first before after (λ xs. refl)
          (subst (λ left. HaveGiven (flat_map own) faults c.args.ranges.items left first before) c.in-Some.ensures.items c.each.invariant.1) c.retire_range.ensures.given,
    )
