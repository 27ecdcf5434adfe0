use Rattle.mesa_session_turns.proofs.Damaged.{task_differs}
use Rattle.mesa_session_turns.proofs.Merging.{closes, known_stays, merged_owes}
use Rattle.mesa_session_turns.proofs.outside.merged.Goals as goal

pub returns-then-is_empty-clause-known : goal.returns-then-is_empty-clause-known
returns-then-is_empty-clause-known g c = known_stays g.R.FileReader.bytes c.args.task.now c.merge_task.new.task c.merge_task.ensures.same

pub returns-then-is_empty-clause-merged : goal.returns-then-is_empty-clause-merged
returns-then-is_empty-clause-merged g c =
    let task = c.requires.task in
    (task.0, c.merge_task.ensures.kept task.0 task.1, closes g.R.FileReader.bytes g.M.Made.bytes g.M.Made.id_of g.R.FileReader.faults task.0 c.args.task.now c.merge_task.new.task _ _ c.merge_task.result _ (λ d. task_differs g.R.FileReader.bytes g.R.FileReader.size c.args.task.now c.merge_task.new.task d c.requires.damage) c.merge_task.ensures.same task.1 c.merge_task.ensures.merged c.merge_task.ensures.causes c.merge_task.ensures.accepts)

pub returns-then-is_empty-clause-owes : goal.returns-then-is_empty-clause-owes
returns-then-is_empty-clause-owes g c = merged_owes _ _ c.merge_task.result c.merge_task.ensures.causes.drafts
