use Rattle.std.proofs.Common.{Global, Vec, ◌≡◌, ◌<◌, List, length, refl, sym, ◌∙◌, ap, subst}
use Rattle.mesa_open_files.specs.mesa_columns.declared.rows.Row.{Row}
use Rattle.mesa_open_files.specs.mesa_columns.Columns.{aggs_of}
use Rattle.mesa_open_files.specs.mesa_fold.Folded.{folded, grouped}
use Rattle.mesa_open_files.specs.mesa_columns.Rows.{AreRowsOf}
use Rattle.mesa_file.specs.declared.damage.Damage.{Damage}
use Rattle.mesa_delta.specs.declared.input.Input.{Input}
use Rattle.mesa_merge.specs.Faults.{faults_of}
use Rattle.mesa_merge.specs.Inputs.{AreAll, knowns_of}
use Rattle.mesa_merge.specs.Merged.{inputs_of, nothing_given}
use Rattle.mesa_answer.specs.Answering.{KeepsSums}
use Rattle.mesa_compact.specs.Bounded.{AreBounded}
use Rattle.mesa_compact.specs.Damaged.{IsMergeDamage}
use Rattle.mesa_compact.specs.Writing.{HasCauses, damaged_by}
use Rattle.mesa_compact.proofs.Causing.{caused_memory}
use Rattle.mesa_compact.proofs.Whole.{if_err_map, if_ok_map}
use Rattle.mesa_compact.proofs.regrouping.regrouped.Goals as goal

pub groups_in-rows-requires-clause-merging : goal.groups_in-rows-requires-clause-merging
groups_in-rows-requires-clause-merging g c = λ _ _. (nothing_given c.args.inputs.items, c.in-Ok.ensures.merged c.args.schema.now c.requires.inputs, c.in-Ok.ensures.nothing (aggs_of c.args.schema.now))

pub returns-in-Ok-clause-rows : goal.returns-in-Ok-clause-rows
returns-in-Ok-clause-rows g c =
    let bytes = g.R.FileReader.bytes in
    let s = c.args.schema.now in
    let known : knowns_of bytes (inputs_of c.groups_in-rows.new.merge) ≡ knowns_of bytes c.args.inputs.items = c.groups_in-rows.ensures.known ∙ ap (knowns_of bytes) c.in-Ok.ensures.inputs in
    if_ok_map c.groups_in-rows.result
    (λ its. (after : List (List Row)) × AreAll (knowns_of bytes (inputs_of c.groups_in-rows.new.merge)) after × (its ≡ grouped s c.args.columns.now c.args.values.now (folded (aggs_of s) after))
    × (0 < length (folded (aggs_of s) after)) × AreRowsOf s (folded (aggs_of s) after) × (AreBounded s (knowns_of bytes (inputs_of c.groups_in-rows.new.merge)) → KeepsSums s (folded (aggs_of s) after)))
    (λ its. (after : List (List Row)) × AreAll (knowns_of bytes c.args.inputs.items) after × (its ≡ grouped s c.args.columns.now c.args.values.now (folded (aggs_of s) after))
    × (0 < length (folded (aggs_of s) after)) × AreRowsOf s (folded (aggs_of s) after) × (AreBounded s (knowns_of bytes c.args.inputs.items) → KeepsSums s (folded (aggs_of s) after)))
    (λ its all. (all.0, subst (λ ks. AreAll ks all.0) known all.1, all.2, all.3, all.4, subst (λ ks. AreBounded s ks → KeepsSums s (folded (aggs_of s) all.0)) known all.5))
    c.groups_in-rows.ensures.rows

pub returns-in-Err-clause-causes : goal.returns-in-Err-clause-causes
returns-in-Err-clause-causes g c = λ drafts. caused_memory _ _ _ _ _ refl (ap (λ (v : Vec (Input g.row.R.Denot) Global). faults_of g.R.FileReader.faults v.items) c.in-Err.ensures.given_back)

pub returns-in-Ok-clause-accepts : goal.returns-in-Ok-clause-accepts
returns-in-Ok-clause-accepts g c =
    let bytes = g.R.FileReader.bytes in
    let s = c.args.schema.now in
    let same : inputs_of c.in-Ok.merge ≡ c.args.inputs.items = c.in-Ok.ensures.inputs in
    if_err_map c.groups_in-rows.result
    (λ e. (d : Damage) → e ≡ damaged_by d → AreBounded s (knowns_of bytes (inputs_of c.in-Ok.merge)) → ⊥)
    (λ e. (d : Damage) → e ≡ damaged_by d → AreBounded s (knowns_of bytes c.args.inputs.items) → ⊥)
    (λ e no d is b. no d is (subst (λ is. AreBounded s (knowns_of bytes is)) (sym same) b))
    c.groups_in-rows.ensures.accepts

pub returns-in-Ok-clause-causes : goal.returns-in-Ok-clause-causes
returns-in-Ok-clause-causes g c = λ drafts.
    let bytes = g.R.FileReader.bytes in
    let faults = g.R.FileReader.faults in
    let size = g.R.FileReader.size in
    let before : inputs_of c.in-Ok.merge ≡ c.args.inputs.items = c.in-Ok.ensures.inputs in
    let after : c.into_inputs.result.items ≡ inputs_of c.groups_in-rows.new.merge = c.into_inputs.ensures in
    subst (λ is. HasCauses drafts drafts (faults_of faults is) (faults_of faults c.into_inputs.result.items) (IsMergeDamage bytes size c.into_inputs.result.items) c.groups_in-rows.result) before
    (subst (λ is. HasCauses drafts drafts (faults_of faults (inputs_of c.in-Ok.merge)) (faults_of faults is) (IsMergeDamage bytes size is) c.groups_in-rows.result) (sym after) (c.groups_in-rows.ensures.causes drafts))
