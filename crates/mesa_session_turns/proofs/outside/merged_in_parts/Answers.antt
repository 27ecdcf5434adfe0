use Rattle.mesa_session_turns.proofs.Damaged.{split_differs}
use Rattle.mesa_session_turns.proofs.Merging.{closes, known_stays, merged_owes}
use Rattle.mesa_session_turns.proofs.outside.merged_in_parts.Goals as goal

pub returns-in-Ok-clause-known : goal.returns-in-Ok-clause-known
returns-in-Ok-clause-known g c = known_stays g.R.FileReader.bytes c.args.task.now c.merge_split.new.task c.merge_split.ensures.same

pub returns-in-Ok-clause-merged : goal.returns-in-Ok-clause-merged
returns-in-Ok-clause-merged g c =
    let task = c.requires.task in
    (task.0, c.merge_split.ensures.kept task.0 task.1, closes g.R.FileReader.bytes g.M.Made.bytes g.M.Made.id_of g.R.FileReader.faults task.0 c.args.task.now c.merge_split.new.task _ _ c.merge_split.result _ (λ d. split_differs g.R.FileReader.bytes g.R.FileReader.size c.args.task.now c.merge_split.new.task d c.requires.damage) c.merge_split.ensures.same task.1 c.merge_split.ensures.merged c.merge_split.ensures.causes c.merge_split.ensures.accepts)

pub returns-in-Ok-clause-owes : goal.returns-in-Ok-clause-owes
returns-in-Ok-clause-owes g c = merged_owes _ _ c.merge_split.result c.merge_split.ensures.causes.drafts
