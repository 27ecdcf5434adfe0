use Rattle.mesa_session_turns.proofs.Damaged.{recast_differs}
use Rattle.mesa_session_turns.proofs.Merging.{merged_owes}
use Rattle.mesa_session_turns.proofs.Rewriting.{recast_known, regroup_closes, stays_so}
use Rattle.mesa_session_turns.proofs.outside.regrouped.Goals as goal

pub returns-clause-known : goal.returns-clause-known
returns-clause-known g c = recast_known g.R.FileReader.bytes c.args.task.now c.regroup_task.new.task c.regroup_task.ensures.same

pub returns-clause-task : goal.returns-clause-task
returns-clause-task g c = stays_so g.R.FileReader.bytes c.args.task.now c.regroup_task.new.task c.regroup_task.ensures.same c.regroup_task.ensures.kept c.requires.damage

pub returns-clause-made : goal.returns-clause-made
returns-clause-made g c =
    let read = g.R.FileReader.bytes in
    let old = c.args.task.now in
    let e = c.regroup_task.ensures in
    regroup_closes read g.R.FileReader.faults old c.regroup_task.new.task e.same _ (λ d. recast_differs read g.R.FileReader.size old c.regroup_task.new.task d c.requires.damage) _ _ g.M.Made.bytes g.M.Made.id_of c.regroup_task.result e.rewritten e.causes e.accepts

pub returns-clause-owes : goal.returns-clause-owes
returns-clause-owes g c = merged_owes _ _ c.regroup_task.result c.regroup_task.ensures.causes.drafts
