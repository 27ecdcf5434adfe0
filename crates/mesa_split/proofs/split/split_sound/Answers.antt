use Rattle.std.proofs.Common.{◌≡◌, ◌<◌, length, refl, sym, ap, subst, ◌∙◌}
use Rattle.std.specs.Prelude.{◌==◌}
use Rattle.mesa_schema.specs.Changes.{Lineage}
use Rattle.mesa_delta.specs.declared.input.Input.{Input}
use Rattle.mesa_open_files.specs.Tasks.{IsTask}
use Rattle.mesa_compact.proofs.Tasking.{first_table, some_of}
use Rattle.mesa_split.proofs.Splits.{none_of, split_empty, split_memory}
use Rattle.mesa_split.proofs.split.split_sound.Goals as goal

pub returns-then-is_empty : goal.returns-then-is_empty
returns-then-is_empty g c =
    let items = c.args.task.now.inputs.items in
    split_empty g.M.Made.bytes g.M.Made.id_of g.R.FileReader.bytes g.R.FileReader.faults g.R.FileReader.size c.args.task.now _ _
    (none_of items c.is_empty.result (c.is_empty.ensures ∙ ap (λ n. n == 0) c.args.task.now.inputs.ok.0) c.if-is_empty.true) c.requires.spare

pub returns-in_default : goal.returns-in_default
returns-in_default g c = split_memory g.M.Made.bytes g.M.Made.id_of g.R.FileReader.bytes g.R.FileReader.faults g.R.FileReader.size c.args.task.now _ _ _ 0 refl c.requires.spare

pub returns-in_default-piece_cuts : goal.returns-in_default-piece_cuts
returns-in_default-piece_cuts g c = split_memory g.M.Made.bytes g.M.Made.id_of g.R.FileReader.bytes g.R.FileReader.faults g.R.FileReader.size c.args.task.now _ _ _ 0 refl c.requires.spare

pub split_files-requires-clause-some : goal.split_files-requires-clause-some
split_files-requires-clause-some g c = λ _ _. some_of c.args.task.now.inputs.items c.is_empty.result (c.is_empty.ensures ∙ ap (λ n. n == 0) c.args.task.now.inputs.ok.0) c.if-is_empty.false

pub split_files-requires-clause-task : goal.split_files-requires-clause-task
split_files-requires-clause-task g c = λ _ _.
    let bytes = g.R.FileReader.bytes in
    let items = c.args.task.now.inputs.items in
    let some : 0 < length items = some_of items c.is_empty.result (c.is_empty.ensures ∙ ap (λ n. n == 0) c.args.task.now.inputs.ok.0) c.if-is_empty.false in
    let l = c.requires.task.0 in
    let t = c.requires.task.1 in
    let same : c.deref-2.result.now ≡ l = c.deref-2.ensures ∙ c.in-Ok.ensures.cases ∙ ap (λ (i : Input g.row.R.Denot). i.evolving.value) c.index.ensures ∙ first_table bytes l items c.index.result.now t.inputs some in
    subst (λ (o : Lineage). IsTask bytes o c.args.task.now) (sym same) t
