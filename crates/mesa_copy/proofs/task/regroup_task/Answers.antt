use Rattle.std.proofs.Common.{◌≡◌, ◌++◌, ◌∙◌, List, ap, refl, sym, subst}
use Rattle.mesa_open_files.specs.Recasts.{recast_ids}
use Rattle.mesa_file.specs.Serials.{AreNext}
use Rattle.mesa_open_files.specs.declared.recasting.RecastedRange.{RecastedRange}
use Rattle.mesa_compact.proofs.Causing.{caused_ok, caused_on}
use Rattle.mesa_copy.proofs.task.regroup_task.Goals as goal

pub returns-in-Ok-clause-numbered : goal.returns-in-Ok-clause-numbered
returns-in-Ok-clause-numbered g c =
    let more = c.in-Ok.ensures.more in
    let made : c.regroup_more.new.made.ranges.items ≡ more.0 = more.1 ∙ ap (λ (ys : List (RecastedRange g.row.M.Denot)). ys ++ more.0) c.new.ensures.items in
    subst (λ (ys : List (RecastedRange g.row.M.Denot)). AreNext c.args.ids.now c.regroup_more.new.ids (recast_ids g.M.Made.id_of ys)) (sym made) more.2

pub returns-in-Ok-clause-causes : goal.returns-in-Ok-clause-causes
returns-in-Ok-clause-causes g c = caused_ok _ _ _ _ _ _ c.in-Ok.ensures.causes.drafts.quiet c.in-Ok.ensures.causes.reads.quiet

pub returns-in-Err-clause-causes : goal.returns-in-Err-clause-causes
returns-in-Err-clause-causes g c = caused_on _ _ _ _ _ _ _ _ _ _ refl refl c.in-Err.ensures.causes refl (λ d told. told)
