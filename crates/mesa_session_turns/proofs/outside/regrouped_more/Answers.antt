use Rattle.std.proofs.Common.{◌≡◌, ◌∙◌, Result, Ok, Err}
use Rattle.mesa_compact.specs.Writing.{damaged_by}
use Rattle.mesa_open_files.specs.declared.merging.CompactError.{CompactError}
use Rattle.mesa_session_turns.proofs.Damaged.{recast_differs}
use Rattle.mesa_session_turns.proofs.Merging.{merged_owes}
use Rattle.mesa_session_turns.proofs.Rewriting.{none_met, recast_known, stays_so, unmade_closes}
use Rattle.mesa_session_turns.proofs.outside.regrouped_more.Goals as goal

pub returns-in-Ok-clause-known : goal.returns-in-Ok-clause-known
returns-in-Ok-clause-known g c = recast_known g.R.FileReader.bytes c.args.task.now c.regroup_more.new.task c.regroup_more.ensures.same

pub returns-in-Err-clause-known : goal.returns-in-Err-clause-known
returns-in-Err-clause-known g c = recast_known g.R.FileReader.bytes c.args.task.now c.regroup_more.new.task c.regroup_more.ensures.same

pub returns-in-Ok-clause-task : goal.returns-in-Ok-clause-task
returns-in-Ok-clause-task g c = stays_so g.R.FileReader.bytes c.args.task.now c.regroup_more.new.task c.regroup_more.ensures.same c.regroup_more.ensures.kept c.requires.task.damage

pub returns-in-Err-clause-task : goal.returns-in-Err-clause-task
returns-in-Err-clause-task g c = stays_so g.R.FileReader.bytes c.args.task.now c.regroup_more.new.task c.regroup_more.ensures.same c.regroup_more.ensures.kept c.requires.task.damage

pub returns-in-Ok-clause-made : goal.returns-in-Ok-clause-made
returns-in-Ok-clause-made g c = c.in-Ok.ensures.rewritten

pub returns-in-Err-clause-made : goal.returns-in-Err-clause-made
returns-in-Err-clause-made g c =
    let read = g.R.FileReader.bytes in
    let old = c.args.task.now in
    unmade_closes read g.R.FileReader.faults old c.regroup_more.new.task c.regroup_more.ensures.same _ (λ d. recast_differs read g.R.FileReader.size old c.regroup_more.new.task d c.requires.task.damage) _ _ (Unit {0}) c.in-Err.error c.in-Err.ensures.causes c.in-Err.ensures.accepts

pub returns-in-Ok-clause-whole : goal.returns-in-Ok-clause-whole
returns-in-Ok-clause-whole g c =
    c.regroup_more.ensures.same.damage
    ∙ none_met c.args.task.now.damage (λ d is. let never : ◌≡◌ {A = Result (Unit {0}) CompactError} (Ok tt) (Err (damaged_by d)) = (c.in-Ok.ensures.damage d is).0 in cc)

pub returns-in-Ok-clause-owes : goal.returns-in-Ok-clause-owes
returns-in-Ok-clause-owes g c = merged_owes _ _ (Ok tt) c.in-Ok.ensures.causes.drafts

pub returns-in-Err-clause-owes : goal.returns-in-Err-clause-owes
returns-in-Err-clause-owes g c = merged_owes _ _ (Err c.in-Err.error) c.in-Err.ensures.causes.drafts
