use Rattle.std.proofs.Common.{◌≡◌, ◌<◌, length, refl, sym, ◌∙◌, ap, subst}
use Rattle.std.specs.Prelude.{◌==◌}
use Rattle.mesa_delta.specs.declared.input.Input.{Input}
use Rattle.mesa_schema.specs.Changes.{Lineage, columns_of}
use Rattle.mesa_merge.specs.Inputs.{knowns_of}
use Rattle.mesa_open_files.specs.Inputs.{AreInputsOf}
use Rattle.mesa_compact.specs.Bounded.{AreBounded}
use Rattle.mesa_compact.proofs.Causing.{caused_memory, caused_ok, caused_on}
use Rattle.mesa_compact.proofs.Tasking.{files_merged, first_table, some_of}
use Rattle.mesa_compact.proofs.task.merge_sound.Goals as goal

pub returns-then-is_empty-clause-causes : goal.returns-then-is_empty-clause-causes
returns-then-is_empty-clause-causes g c = caused_ok _ _ _ _ _ _ refl refl

pub returns-in_default-clause-causes : goal.returns-in_default-clause-causes
returns-in_default-clause-causes g c = caused_memory _ _ _ _ _ refl refl

pub returns-in-Ok-merge_files-clause-merged : goal.returns-in-Ok-merge_files-clause-merged
returns-in-Ok-merge_files-clause-merged g c = λ l t.
    let items = c.args.task.now.inputs.items in
    let some : 0 < length items = some_of items c.is_empty.result (c.is_empty.ensures ∙ ap (λ n. n == 0) c.args.task.now.inputs.ok.0) c.if-is_empty.false in
    let same : c.deref.result.now ≡ l = c.deref.ensures ∙ c.in-Ok.ensures.cases ∙ ap (λ (i : Input g.row.R.Denot). i.evolving.value) c.index.ensures ∙ first_table g.R.FileReader.bytes l items c.index.result.now t.inputs some in
    files_merged g.M.Made.bytes g.M.Made.id_of g.R.FileReader.bytes l c.deref.result.now c.args.task.now c.in-Ok-merge_files.files same c.in-Ok-merge_files.ensures.made

pub returns-in-Ok-merge_files-clause-kept : goal.returns-in-Ok-merge_files-clause-kept
returns-in-Ok-merge_files-clause-kept g c = λ l t.
    let items = c.args.task.now.inputs.items in
    let some : 0 < length items = some_of items c.is_empty.result (c.is_empty.ensures ∙ ap (λ n. n == 0) c.args.task.now.inputs.ok.0) c.if-is_empty.false in
    let same : c.deref.result.now ≡ l = c.deref.ensures ∙ c.in-Ok.ensures.cases ∙ ap (λ (i : Input g.row.R.Denot). i.evolving.value) c.index.ensures ∙ first_table g.R.FileReader.bytes l items c.index.result.now t.inputs some in
    record { epoch = t.epoch; inputs = subst (λ (o : Lineage). AreInputsOf g.R.FileReader.bytes o c.merge_files.new.inputs.items) same c.in-Ok-merge_files.ensures.inputs_kept }

pub returns-clause-causes : goal.returns-clause-causes
returns-clause-causes g c = caused_on _ _ _ _ _ _ _ _ _ _ refl refl c.in-Err.ensures.causes refl (λ d told. told)

pub returns-clause-accepts : goal.returns-clause-accepts
returns-clause-accepts g c = λ d e l t b.
    let items = c.args.task.now.inputs.items in
    let some : 0 < length items = some_of items c.is_empty.result (c.is_empty.ensures ∙ ap (λ n. n == 0) c.args.task.now.inputs.ok.0) c.if-is_empty.false in
    let same : c.deref.result.now ≡ l = c.deref.ensures ∙ c.in-Ok.ensures.cases ∙ ap (λ (i : Input g.row.R.Denot). i.evolving.value) c.index.ensures ∙ first_table g.R.FileReader.bytes l items c.index.result.now t.inputs some in
    c.in-Err.ensures.accepts d e (subst (λ (o : Lineage). AreBounded (columns_of o) (knowns_of g.R.FileReader.bytes items)) (sym same) b)
