use Rattle.std.proofs.Common.{◌∙◌, List, subst, sym}
use Rattle.mesa_open_files.specs.Batches.{shares}
use Rattle.mesa_open_files.specs.Made.{Content}
use Rattle.mesa_file.specs.Serials.{AreNext}
use Rattle.mesa_load.specs.Plans.{HaveFiles}
use Rattle.mesa_load.proofs.Prepared.{prepared}
use Rattle.mesa_load.proofs.preparing.build_parts.Goals as goal

pub build-requires-after_bounds : goal.build-requires-after_bounds
build-requires-after_bounds g c κs within = (c.in_ok-plan.ensures c.requires.0 c.requires.1).fit

pub returns-clause-parts : goal.returns-clause-parts
returns-clause-parts g c =
    λ rows batched.
    prepared g.M.Made.bytes g.M.Made.id_of c.args.glance.now rows c.in_ok-plan.plan c.in_ok-files.files.items c.in_ok-filed_parts.field-0.items (c.in_ok-plan.ensures rows batched) c.in_ok-files.ensures.made (λ over ss planned there. (c.in_ok-filed_parts.ensures over ss planned there).0)

pub returns-clause-numbered : goal.returns-clause-numbered
returns-clause-numbered g c =
    let rows = c.requires.0 in
    let plan = c.in_ok-plan.ensures rows c.requires.1 in
    let its = subst (λ (cs : List Content). HaveFiles g.M.Made.bytes g.M.Made.id_of c.in_ok-plan.plan.over cs c.in_ok-files.files.items) plan.contents c.in_ok-files.ensures.made in
    let filed = c.in_ok-filed_parts.ensures c.in_ok-plan.plan.over (shares c.args.glance.now rows) plan.parts its in
    subst (AreNext c.args.ids.now c.build.new.ids) (sym filed.1) c.in_ok-files.ensures.numbered

pub returns-clause-undrawn : goal.returns-clause-undrawn
returns-clause-undrawn g c = λ rows batched passes. c.build.ensures.undrawn ((c.in_ok-plan.ensures rows batched).over ∙ passes)
