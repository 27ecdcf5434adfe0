use Rattle.std.proofs.Common.{[], ◌∷◌, map, refl, subst}
use Rattle.mesa_open_files.proofs.Counts.{unmoved_more}
use Rattle.mesa_open_files.proofs.Retired.{HaveGiven, given_next}
use Rattle.mesa_open_files.proofs.giving_back.retire_pinned.Goals as goal

pub inputs-preserved : goal.inputs-preserved
inputs-preserved g c =
    let faults = g.D.Reader.FileReader.faults in
    let first = g.D.Disk.story c.args.disk.now in
    let before = g.D.Disk.story c.inputs.disk in
    let after = g.D.Disk.story c.retire_input.new.disk in (
      unmoved_more first before after c.inputs.invariant.0 c.retire_input.ensures.unmoved,
      given_next faults (map (λ i. i.input)) c.args.pinned.inputs.items c.pop.new.self.items c.in-Some.one (c.in-Some.one.input ∷ []) first before after (λ xs. refl)
          (subst (λ left. HaveGiven (map (λ i. i.input)) faults c.args.pinned.inputs.items left first before) c.in-Some.ensures.items c.inputs.invariant.1) c.retire_input.ensures.given,
    )
