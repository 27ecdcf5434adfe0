use Rattle.std.proofs.Common.{◌≡◌, ◌<◌, List, [], length, refl, sym, ◌∙◌, ap, subst}
use Rattle.std.specs.List.{AllByRecursion}
use Rattle.mesa_open_files.specs.mesa_columns.declared.rows.Row.{Row}
use Rattle.mesa_open_files.specs.mesa_columns.Columns.{Columns, aggs_of}
use Rattle.mesa_open_files.specs.mesa_fold.Folded.{folded, rows_of}
use Rattle.mesa_batch.specs.Bound.{KeepsBound}
use Rattle.mesa_delta.specs.Writing.{HasTaken, columns_of}
use Rattle.mesa_open_files.specs.Made.{IsMadeFile}
use Rattle.mesa_merge.specs.Faults.{faults_of}
use Rattle.mesa_merge.specs.Inputs.{AreAll, knowns_of, lifted_parts}
use Rattle.mesa_merge.specs.Merged.{HasMerged, inputs_of}
use Rattle.mesa_answer.specs.Answering.{KeepsSums}
use Rattle.mesa_compact.specs.Bounded.{AreBounded}
use Rattle.mesa_compact.specs.Grouping.{HavePut, TakesRows}
use Rattle.mesa_compact.proofs.Causing.{caused_bench, caused_on, same_end}
use Rattle.mesa_compact.proofs.Whole.{if_err_map, if_ok_map, some_all, some_known}
use Rattle.mesa_compact.proofs.files.file_of.Goals as goal

pub pour-requires-clause-pouring : goal.pour-requires-clause-pouring
pour-requires-clause-pouring g c = λ _ _.
    let start = c.requires.merging in
    let cols : columns_of c.in-Ok.writer ≡ c.args.schema.now = c.in-Ok.ensures.columns in
    let none : folded (aggs_of (columns_of c.in-Ok.writer)) start.0 ≡ [] = ap (λ (t : Columns). folded (aggs_of t) start.0) cols ∙ start.2 in (
      start.0,
      subst (λ (t : Columns). HasMerged g.R.FileReader.bytes t c.args.merge.now start.0) (sym cols) start.1,
      subst (HasTaken g.B.Draft.Draft.bytes c.in-Ok.writer) (sym none) c.in-Ok.ensures.taken,
      subst (HavePut c.args.groups.now) (sym none) c.requires.none,
    )

pub pour-requires-clause-takes : goal.pour-requires-clause-takes
pour-requires-clause-takes g c = λ _ _.
    let cols : columns_of c.in-Ok.writer ≡ c.args.schema.now = c.in-Ok.ensures.columns in
    subst (λ (t : Columns). AllByRecursion (TakesRows t) c.args.groups.now) (sym cols) c.requires.takes

pub end_file-requires-clause-taken : goal.end_file-requires-clause-taken
end_file-requires-clause-taken g c = λ _ _.
    let start = c.requires.merging in
    let s : Columns = columns_of c.in-Ok.writer in
    let cols : s ≡ c.args.schema.now = c.in-Ok.ensures.columns in
    let none : folded (aggs_of s) start.0 ≡ [] = ap (λ (t : Columns). folded (aggs_of t) start.0) cols ∙ start.2 in
    let after = c.in-Ok-pour.ensures.taken start.0 (subst (λ (t : Columns). HasMerged g.R.FileReader.bytes t c.args.merge.now start.0) (sym cols) start.1) (subst (HasTaken g.B.Draft.Draft.bytes c.in-Ok.writer) (sym none) c.in-Ok.ensures.taken) (subst (HavePut c.args.groups.now) (sym none) c.requires.none) in
    (folded (aggs_of s) after.0, some_all (aggs_of s) _ after.0 after.1 (some_known g.R.FileReader.bytes _ _ c.in-Ok-pour.ensures.known c.requires.some), after.2)

pub end_file-requires-clause-own : goal.end_file-requires-clause-own
end_file-requires-clause-own g c = λ _ _. c.in-Ok-pour.ensures.draft ∙ c.in-Ok.ensures.own ∙ sym c.in-Ok-pour.ensures.id

pub end_file-requires-clause-fresh : goal.end_file-requires-clause-fresh
end_file-requires-clause-fresh g c = λ _ _. c.in-Ok-pour.ensures.causes.drafts.quiet ∙ c.in-Ok.ensures.fresh

pub returns-in-Err-clause-causes : goal.returns-in-Err-clause-causes
returns-in-Err-clause-causes g c =
    let reads = faults_of g.R.FileReader.faults (inputs_of c.args.merge.now) in
    caused_on (λ d. ⊥) _ _ _ _ reads reads reads _ _ refl refl (c.in-Err.ensures.causes reads) refl (λ d (h : ⊥). absurd h)

pub returns-in-Err-clause-accepts : goal.returns-in-Err-clause-accepts
returns-in-Err-clause-accepts g c = λ d e givens h none contents told bound. (c.in-Err.ensures.causes []).damaged d e

pub returns-in-Ok-pour-clause-made : goal.returns-in-Ok-pour-clause-made
returns-in-Ok-pour-clause-made g c =
    let start = c.requires.merging in
    let writer = c.in-Ok.writer in
    let s : Columns = columns_of writer in
    let cols : s ≡ c.args.schema.now = c.in-Ok.ensures.columns in
    let none : folded (aggs_of s) start.0 ≡ [] = ap (λ (t : Columns). folded (aggs_of t) start.0) cols ∙ start.2 in
    let after = c.in-Ok-pour.ensures.taken start.0 (subst (λ (t : Columns). HasMerged g.R.FileReader.bytes t c.args.merge.now start.0) (sym cols) start.1) (subst (HasTaken g.B.Draft.Draft.bytes writer) (sym none) c.in-Ok.ensures.taken) (subst (HavePut c.args.groups.now) (sym none) c.requires.none) in
    let some = some_all (aggs_of s) _ after.0 after.1 (some_known g.R.FileReader.bytes _ _ c.in-Ok-pour.ensures.known c.requires.some) in
    let now : columns_of c.pour.new.writer ≡ s = c.in-Ok-pour.ensures.columns in
    if_ok_map c.end_file.result
    (λ made. (rows : List Row) → 0 < length rows → HasTaken g.B.Draft.Draft.bytes c.pour.new.writer rows → IsMadeFile g.M.Made.bytes g.M.Made.id_of (record { columns = columns_of c.pour.new.writer; rows = rows }) made)
    (λ made. (x : List (List Row)) × AreAll (knowns_of g.R.FileReader.bytes (inputs_of c.pour.new.merge)) x × IsMadeFile g.M.Made.bytes g.M.Made.id_of (record { columns = c.args.schema.now; rows = folded (aggs_of c.args.schema.now) x }) made × HavePut c.pour.new.groups (folded (aggs_of c.args.schema.now) x) × (AreBounded c.args.schema.now (knowns_of g.R.FileReader.bytes (inputs_of c.pour.new.merge)) → KeepsSums c.args.schema.now (folded (aggs_of c.args.schema.now) x)))
    (λ made file. (
      after.0,
      after.1,
      subst (λ (t : Columns). IsMadeFile g.M.Made.bytes g.M.Made.id_of (record { columns = t; rows = folded (aggs_of t) after.0 }) made) cols
          (subst (λ (t : Columns). IsMadeFile g.M.Made.bytes g.M.Made.id_of (record { columns = t; rows = folded (aggs_of s) after.0 }) made) now (file (folded (aggs_of s) after.0) some after.2)),
      subst (λ (t : Columns). HavePut c.pour.new.groups (folded (aggs_of t) after.0)) cols after.3,
      subst (λ (t : Columns). AreBounded t (knowns_of g.R.FileReader.bytes (inputs_of c.pour.new.merge)) → KeepsSums t (folded (aggs_of t) after.0)) cols after.4,
    ))
    c.end_file.ensures.made

pub returns-in-Ok-pour-clause-id : goal.returns-in-Ok-pour-clause-id
returns-in-Ok-pour-clause-id g c =
    if_ok_map c.end_file.result (λ made. g.M.Made.id_of made.made ≡ _) (λ made. g.M.Made.id_of made.made ≡ c.args.id) (λ made is. is ∙ c.in-Ok-pour.ensures.id ∙ c.in-Ok.ensures.id) c.end_file.ensures.id

pub returns-in-Ok-pour-clause-causes : goal.returns-in-Ok-pour-clause-causes
returns-in-Ok-pour-clause-causes g c =
    let faults = g.R.FileReader.faults in
    let now = faults_of faults (inputs_of c.pour.new.merge) in
    caused_on (λ d. ⊥) _ _ _ _ _ now now c.end_file.result c.end_file.result (c.in-Ok.ensures.causes []).drafts.quiet c.in-Ok-pour.ensures.causes.reads.quiet (c.end_file.ensures.causes now) (same_end c.end_file.result) (λ d (h : ⊥). absurd h)

pub returns-in-Ok-pour-clause-accepts : goal.returns-in-Ok-pour-clause-accepts
returns-in-Ok-pour-clause-accepts g c = if_err_map c.end_file.result _ _ (λ e none d is givens h empty contents told bound. none d is) (c.end_file.ensures.causes []).damaged

pub returns-in-Err-pour-clause-causes : goal.returns-in-Err-pour-clause-causes
returns-in-Err-pour-clause-causes g c =
    caused_bench _ _ _ _ _ _ _ _ _ c.in-Err-pour.error (c.in-Ok.ensures.causes []).drafts.quiet c.in-Ok.ensures.fresh c.in-Err-pour.ensures.causes c.give_up.ensures.counted c.give_up.ensures.quiet c.give_up.ensures.later (λ d told. told)

pub returns-in-Err-pour-clause-accepts : goal.returns-in-Err-pour-clause-accepts
returns-in-Err-pour-clause-accepts g c = λ d e givens h none contents told bound.
    let cols : columns_of c.in-Ok.writer ≡ c.args.schema.now = c.in-Ok.ensures.columns in
    let empty : folded (aggs_of (columns_of c.in-Ok.writer)) givens ≡ [] = ap (λ (t : Columns). folded (aggs_of t) givens) cols ∙ none in
    c.in-Err-pour.ensures.accepts d e givens (subst (λ (t : Columns). HasMerged g.R.FileReader.bytes t c.args.merge.now givens) (sym cols) h) (subst (HasTaken g.B.Draft.Draft.bytes c.in-Ok.writer) (sym empty) c.in-Ok.ensures.taken) (subst (HavePut c.args.groups.now) (sym empty) c.requires.none) contents told
    (subst (λ (t : Columns). KeepsBound (aggs_of t) [] (rows_of (lifted_parts (knowns_of g.R.FileReader.bytes (inputs_of c.args.merge.now)) contents))) (sym cols) bound)
