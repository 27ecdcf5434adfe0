use Rattle.std.proofs.Common.{Global, Vec, ◌≡◌, List, [], refl, sym, ◌∙◌, ap, subst}
use Rattle.mesa_open_files.specs.mesa_columns.declared.rows.Row.{Row}
use Rattle.mesa_open_files.specs.mesa_columns.Columns.{aggs_of}
use Rattle.mesa_open_files.specs.mesa_fold.Folded.{folded, rows_of}
use Rattle.mesa_file.specs.declared.damage.Damage.{Damage}
use Rattle.mesa_delta.specs.declared.input.Input.{Input}
use Rattle.mesa_merge.specs.Faults.{faults_of}
use Rattle.mesa_batch.specs.Bound.{KeepsBound}
use Rattle.mesa_open_files.specs.Inputs.{IsMergeOf}
use Rattle.mesa_open_files.specs.Made.{IsMadeFile}
use Rattle.mesa_merge.specs.Inputs.{AreAll, AreTold, knowns_of, lifted_parts}
use Rattle.mesa_merge.specs.Merged.{HasMerged, inputs_of, nothing_given}
use Rattle.mesa_answer.specs.Answering.{KeepsSums}
use Rattle.mesa_compact.specs.Bounded.{AreBounded}
use Rattle.mesa_compact.specs.Grouping.{HavePut}
use Rattle.mesa_compact.specs.Writing.{damaged_by}
use Rattle.mesa_compact.proofs.Causing.{caused_memory}
use Rattle.mesa_compact.proofs.Whole.{if_err_map, if_ok_map, merge_of}
use Rattle.mesa_compact.proofs.files.merge_into.Goals as goal

pub file_of-made-requires-clause-merging : goal.file_of-made-requires-clause-merging
file_of-made-requires-clause-merging g c = λ _ _. (nothing_given c.args.inputs.items, c.in-Ok.ensures.merged c.args.schema.now c.requires.inputs, c.in-Ok.ensures.nothing (aggs_of c.args.schema.now))

pub returns-in-Ok-clause-made : goal.returns-in-Ok-clause-made
returns-in-Ok-clause-made g c =
    let bytes = g.R.FileReader.bytes in
    let s = c.args.schema.now in
    let known : knowns_of bytes (inputs_of c.file_of-made.new.merge) ≡ knowns_of bytes c.args.inputs.items = c.file_of-made.ensures.known ∙ ap (knowns_of bytes) c.in-Ok.ensures.inputs in
    if_ok_map c.file_of-made.result
    (λ made. (x : List (List Row)) × AreAll (knowns_of bytes (inputs_of c.file_of-made.new.merge)) x × IsMadeFile g.M.Made.bytes g.M.Made.id_of (record { columns = s; rows = folded (aggs_of s) x }) made × HavePut c.file_of-made.new.groups (folded (aggs_of s) x) × (AreBounded s (knowns_of bytes (inputs_of c.file_of-made.new.merge)) → KeepsSums s (folded (aggs_of s) x)))
    (λ made. (x : List Row) × IsMergeOf bytes s c.args.inputs.items x × IsMadeFile g.M.Made.bytes g.M.Made.id_of (record { columns = s; rows = x }) made × HavePut c.file_of-made.new.groups x × (AreBounded s (knowns_of bytes c.args.inputs.items) → KeepsSums s x))
    (λ made all. (folded (aggs_of s) all.0, merge_of bytes s c.args.inputs.items all.0 (subst (λ ks. AreAll ks all.0) known all.1), all.2, all.3, subst (λ ks. AreBounded s ks → KeepsSums s (folded (aggs_of s) all.0)) known all.4))
    c.file_of-made.ensures.made

pub returns-in-Err-clause-causes : goal.returns-in-Err-clause-causes
returns-in-Err-clause-causes g c = caused_memory _ _ _ _ _ refl (ap (λ (v : Vec (Input g.row.R.Denot) Global). faults_of g.R.FileReader.faults v.items) c.in-Err.ensures.given_back)

pub returns-in-Ok-clause-accepts : goal.returns-in-Ok-clause-accepts
returns-in-Ok-clause-accepts g c =
    let bytes = g.R.FileReader.bytes in
    let s = c.args.schema.now in
    let same : inputs_of c.in-Ok.merge ≡ c.args.inputs.items = c.in-Ok.ensures.inputs in
    if_err_map c.file_of-made.result
    (λ e. (d : Damage) → e ≡ damaged_by d → (givens : List (List Row)) → HasMerged bytes s c.in-Ok.merge givens → folded (aggs_of s) givens ≡ []
    → (contents : List (List Row)) → AreTold (knowns_of bytes (inputs_of c.in-Ok.merge)) contents → KeepsBound (aggs_of s) [] (rows_of (lifted_parts (knowns_of bytes (inputs_of c.in-Ok.merge)) contents)) → ⊥)
    (λ e. (d : Damage) → e ≡ damaged_by d → (contents : List (List Row)) → AreTold (knowns_of bytes c.args.inputs.items) contents
    → KeepsBound (aggs_of s) [] (rows_of (lifted_parts (knowns_of bytes c.args.inputs.items) contents)) → ⊥)
    (λ e no d is contents told bound. no d is (nothing_given c.args.inputs.items) (c.in-Ok.ensures.merged s c.requires.inputs) (c.in-Ok.ensures.nothing (aggs_of s)) contents
    (subst (λ is. AreTold (knowns_of bytes is) contents) (sym same) told)
    (subst (λ is. KeepsBound (aggs_of s) [] (rows_of (lifted_parts (knowns_of bytes is) contents))) (sym same) bound))
    c.file_of-made.ensures.accepts
