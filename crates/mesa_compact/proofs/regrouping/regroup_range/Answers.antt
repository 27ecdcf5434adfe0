use Rattle.std.proofs.Common.{inl, inr, ◌≡◌, ◌⊎◌, ◌<◌, ◌+◌, ℕ, List, [], ◌++◌, length, map, refl, sym, ◌∙◌, ap, arith, subst, length-append, true}
use Rattle.std.proofs.lemmas.List.{length-map}
use Rattle.mesa_open_files.specs.mesa_columns.declared.rows.Row.{Row}
use Rattle.mesa_open_files.specs.mesa_columns.Columns.{Columns, aggs_of, chosen}
use Rattle.mesa_open_files.specs.mesa_fold.Folded.{folded, grouped, regrouped}
use Rattle.mesa_open_files.specs.mesa_columns.Rows.{AreRowsOf, keys_rise}
use Rattle.mesa_batch.specs.Totals.{abs_totals}
use Rattle.mesa_answer.specs.Answering.{KeepsSums, grouped_columns}
use Rattle.mesa_answer.proofs.Bounds.{sums_grouped}
use Rattle.mesa_merge.specs.Faults.{faults_of}
use Rattle.mesa_merge.specs.Inputs.{AreTold, Known, knowns_of, lifted_parts}
use Rattle.mesa_merge.proofs.Ending.{all_told}
use Rattle.mesa_open_files.specs.Inputs.{IsMergeOf}
use Rattle.mesa_open_files.specs.Made.{IsMadeFile}
use Rattle.mesa_compact.specs.Damaged.{IsNewestOf, LeavesAmong, TotalLeaves}
use Rattle.mesa_compact.specs.Regrouped.{IsRegroupedTotal, PassesBound}
use Rattle.mesa_compact.proofs.Causing.{caused_on, same_end}
use Rattle.mesa_compact.proofs.Whole.{both_map, if_err_map, merge_of, some_folded}
use Rattle.mesa_compact.proofs.regrouping.regroup_range.Goals as goal

-- a total of these rows leaves its type where they are written, or passes the bound
abbrev Leaves : Columns → List Row → Type 0
Leaves s rows = LeavesAmong (TotalLeaves s) rows ⊎ PassesBound s rows

some_grouped : (s : Columns) (columns values : List ℕ) (rows : List Row) → 0 < length rows → 0 < length (grouped s columns values rows)
some_grouped s columns values rows some =
    let f = λ (row : Row). regrouped s columns values row in
    let count : length (map f rows ++ []) ≡ length (map f rows) + 0 = length-append (map f rows) [] in
    some_folded (chosen values (aggs_of s)) (map f rows ++ []) (omega (arith, some, count, length-map rows f))

pub groups_file-made-requires-clause-some : goal.groups_file-made-requires-clause-some
groups_file-made-requires-clause-some g c = λ _ _.
    let all = rw c.in-Ok.is at c.regrouped-back.ensures.rows in
    subst (λ (rows : List Row). 0 < length rows) (sym (c.as_slice.ensures ∙ all.2)) (some_grouped c.args.present.now c.args.columns.now c.args.values.now (folded (aggs_of c.args.present.now) all.0) all.3)

pub groups_file-made-requires-clause-form : goal.groups_file-made-requires-clause-form
groups_file-made-requires-clause-form g c = λ _ _.
    let s : Columns = c.args.present.now in
    let all = rw c.in-Ok.is at c.regrouped-back.ensures.rows in
    let form : AreRowsOf (grouped_columns s c.args.columns.now c.args.values.now) (grouped s c.args.columns.now c.args.values.now (folded (aggs_of s) all.0)) = c.groups_rise.ensures.form s c.args.columns.now c.args.values.now (folded (aggs_of s) all.0) all.4 in
    subst (λ (t : Columns). AreRowsOf t c.as_slice.result.now) (sym c.requires.renewed) (subst (AreRowsOf (grouped_columns s c.args.columns.now c.args.values.now)) (sym (c.as_slice.ensures ∙ all.2)) form)

pub groups_file-made-requires-clause-rise : goal.groups_file-made-requires-clause-rise
groups_file-made-requires-clause-rise g c = λ _ _.
    let all = rw c.in-Ok.is at c.regrouped-back.ensures.rows in
    subst (λ (rows : List Row). keys_rise rows ≡ true) (sym (c.as_slice.ensures ∙ all.2)) (c.groups_rise.ensures.rise c.args.present.now c.args.columns.now c.args.values.now (folded (aggs_of c.args.present.now) all.0))

pub returns-in-Ok-clause-made : goal.returns-in-Ok-clause-made
returns-in-Ok-clause-made g c =
    let bytes = g.M.Made.bytes in
    let id_of = g.M.Made.id_of in
    let s : Columns = c.args.present.now in
    let t : Columns = c.args.renewed.now in
    let all = rw c.in-Ok.is at c.regrouped-back.ensures.rows in
    let rows : List Row = folded (aggs_of s) all.0 in
    let its : List Row = grouped s c.args.columns.now c.args.values.now rows in
    let same : c.as_slice.result.now ≡ its = c.as_slice.ensures ∙ all.2 in
    let merge : IsMergeOf g.R.FileReader.bytes s c.args.inputs.items rows = merge_of g.R.FileReader.bytes s c.args.inputs.items all.0 all.1 in
    both_map c.groups_file-made.result
    (λ made. IsMadeFile bytes id_of (record { columns = t; rows = c.as_slice.result.now }) made.0)
    (λ made. made.1 ≡ abs_totals t c.as_slice.result.now)
    (λ made. (rows : List Row) × IsMergeOf g.R.FileReader.bytes s c.args.inputs.items rows × IsMadeFile bytes id_of (record { columns = t; rows = grouped s c.args.columns.now c.args.values.now rows }) made.0
    × (made.1 ≡ abs_totals t (grouped s c.args.columns.now c.args.values.now rows)))
    (λ made file totals. (rows, merge, subst (λ (rs : List Row). IsMadeFile bytes id_of (record { columns = t; rows = rs }) made.0) same file, totals ∙ ap (abs_totals t) same))
    c.groups_file-made.ensures.made c.groups_file-made.ensures.totals

pub returns-in-Ok-clause-causes : goal.returns-in-Ok-clause-causes
returns-in-Ok-clause-causes g c =
    let bytes = g.R.FileReader.bytes in
    let faults = g.R.FileReader.faults in
    let s : Columns = c.args.present.now in
    let back = c.regrouped-back.result.0.items in
    let one = rw c.in-Ok.is at (c.regrouped-back.ensures.causes 0) in
    let all = rw c.in-Ok.is at c.regrouped-back.ensures.rows in
    let known : knowns_of bytes back ≡ knowns_of bytes c.args.inputs.items = c.regrouped-back.ensures.known in
    let newest = subst (λ (ks : List Known). IsNewestOf ks c.newest_of-newest.result) (ap (knowns_of bytes) c.deref.ensures.value ∙ sym known) c.newest_of-newest.ensures in
    caused_on _ _ _ _ _ _ _ _ c.groups_file-made.result c.groups_file-made.result refl one.reads.quiet (c.groups_file-made.ensures.causes (faults_of faults back)) (same_end c.groups_file-made.result)
    (λ d told.
    let total : IsRegroupedTotal s c.args.columns.now c.args.values.now (knowns_of bytes back) d = record {
      newest = c.newest_of-newest.result;
      last = newest;
      rows = folded (aggs_of s) all.0;
      merged = λ contents here. ap (folded (aggs_of s)) (subst (λ (ks : List Known). all.0 ≡ lifted_parts ks contents) (sym known) (all_told (knowns_of bytes c.args.inputs.items) all.0 contents all.1 (subst (λ (ks : List Known). AreTold ks contents) known here)));
      leaves = subst (Leaves (grouped_columns s c.args.columns.now c.args.values.now)) (c.as_slice.ensures ∙ all.2) (subst (λ (t : Columns). Leaves t c.as_slice.result.now) c.requires.renewed told.1);
      told = told.0;
    } in
    inr total)

pub returns-in-Ok-clause-accepts : goal.returns-in-Ok-clause-accepts
returns-in-Ok-clause-accepts g c = if_err_map c.groups_file-made.result _ _ (λ e none d is b.
    let all = rw c.in-Ok.is at c.regrouped-back.ensures.rows in
    let s : Columns = c.args.present.now in
    let rows : List Row = folded (aggs_of s) all.0 in
    let keeps : KeepsSums (grouped_columns s c.args.columns.now c.args.values.now) (grouped s c.args.columns.now c.args.values.now rows) =
    sums_grouped s c.args.columns.now c.args.values.now rows c.requires.values_there all.4 (all.5 b) in
    none d is (subst (λ (t : Columns). KeepsSums t c.as_slice.result.now) (sym c.requires.renewed)
    (subst (KeepsSums (grouped_columns s c.args.columns.now c.args.values.now)) (sym (c.as_slice.ensures ∙ all.2)) keeps))) c.groups_file-made.ensures.accepts

pub returns-in-Err-clause-causes : goal.returns-in-Err-clause-causes
returns-in-Err-clause-causes g c =
    let one = rw c.in-Err.is at (c.regrouped-back.ensures.causes (g.B.Bench.faults c.args.bench.now)) in
    caused_on _ _ _ _ _ _ _ _ _ _ refl refl one refl (λ d told. inl told)
