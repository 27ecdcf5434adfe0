use Rattle.std.proofs.Common.{flat_map, refl, subst}
use Rattle.mesa_open_files.specs.GivingBack.{spare_inputs}
use Rattle.mesa_open_files.proofs.Counts.{unmoved_more}
use Rattle.mesa_open_files.proofs.Retired.{HaveGiven, given_next}
use Rattle.mesa_open_files.proofs.giving_back.retire_spares.Goals as goal

pub spares-preserved : goal.spares-preserved
spares-preserved g c =
    let faults = g.D.Reader.FileReader.faults in
    let first = g.D.Disk.story c.args.disk.now in
    let before = g.D.Disk.story c.spares.disk in
    let after = g.D.Disk.story c.retire_spare.new.disk in (
      unmoved_more first before after c.spares.invariant.0 c.retire_spare.ensures.unmoved,
      given_next faults (flat_map spare_inputs) c.args.spares.items c.pop.new.self.items c.in-Some.spare (spare_inputs c.in-Some.spare) first before after (λ xs. refl)
          (subst (λ left. HaveGiven (flat_map spare_inputs) faults c.args.spares.items left first before) c.in-Some.ensures.items c.spares.invariant.1) c.retire_spare.ensures.given,
    )
