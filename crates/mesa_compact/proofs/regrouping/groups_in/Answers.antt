use Rattle.std.proofs.Common.{◌≡◌, ◌<◌, ◌-◌, ◌^◌, List, length, refl, sym, ◌∙◌, arith, subst}
use Rattle.mesa_open_files.specs.mesa_columns.declared.rows.Row.{Row}
use Rattle.mesa_open_files.specs.mesa_columns.Columns.{Columns, aggs_of}
use Rattle.mesa_open_files.specs.mesa_fold.Folded.{folded, grouped}
use Rattle.mesa_open_files.specs.mesa_columns.Rows.{AreRowsOf}
use Rattle.mesa_answer.specs.Answering.{KeepsSums}
use Rattle.mesa_answer.specs.Gathered.{HasPut, wanted_of}
use Rattle.mesa_answer.specs.Gathering.{Wanted}
use Rattle.mesa_answer.proofs.Steps.{all_groups}
use Rattle.mesa_merge.specs.Inputs.{knowns_of}
use Rattle.mesa_merge.specs.Merged.{HasMerged, inputs_of}
use Rattle.mesa_compact.specs.Bounded.{AreBounded}
use Rattle.mesa_compact.proofs.Causing.{caused_memory, caused_ok, caused_on}
use Rattle.mesa_compact.proofs.Whole.{some_all, some_known}
use Rattle.mesa_compact.proofs.regrouping.groups_in.Goals as goal

pub pour_groups-requires-clause-pouring : goal.pour_groups-requires-clause-pouring
pour_groups-requires-clause-pouring g c = λ _ _.
    let start = c.requires.merging in
    let w : wanted_of c.in-Ok.groups ≡ _ = c.in-Ok.ensures.wanted in (
      start.0,
      subst (λ (w : Wanted). HasMerged g.R.FileReader.bytes w.schema c.args.merge.now start.0) (sym w) start.1,
      subst (λ (w : Wanted). HasPut c.in-Ok.groups (folded (aggs_of w.schema) start.0)) (sym w) (subst (HasPut c.in-Ok.groups) (sym start.2) c.in-Ok.ensures.none),
    )

pub returns-in_default-clause-causes : goal.returns-in_default-clause-causes
returns-in_default-clause-causes g c = λ drafts. caused_memory _ _ _ _ _ refl refl

pub returns-in-Err-clause-causes : goal.returns-in-Err-clause-causes
returns-in-Err-clause-causes g c = λ drafts. caused_on _ _ _ _ _ _ _ _ _ _ refl refl (c.in-Err.ensures.causes drafts) refl (λ d told. told)

pub returns-in-Ok-into_rows-clause-causes : goal.returns-in-Ok-into_rows-clause-causes
returns-in-Ok-into_rows-clause-causes g c = λ drafts. caused_ok _ _ _ _ _ _ refl (c.in-Ok-pour_groups.ensures.causes drafts).reads.quiet

pub returns-in-Err-into_rows-clause-causes : goal.returns-in-Err-into_rows-clause-causes
returns-in-Err-into_rows-clause-causes g c = λ drafts. caused_memory _ _ _ _ _ refl (c.in-Ok-pour_groups.ensures.causes drafts).reads.quiet

pub returns-in-Ok-into_rows-clause-rows : goal.returns-in-Ok-into_rows-clause-rows
returns-in-Ok-into_rows-clause-rows g c =
    let bytes = g.R.FileReader.bytes in
    let s : Columns = c.args.schema.now in
    let start = c.requires.merging in
    let w = c.in-Ok.ensures.wanted in
    let merged = subst (λ (w : Wanted). HasMerged bytes w.schema c.args.merge.now start.0) (sym w) start.1 in
    let none = subst (λ (w : Wanted). HasPut c.in-Ok.groups (folded (aggs_of w.schema) start.0)) (sym w) (subst (HasPut c.in-Ok.groups) (sym start.2) c.in-Ok.ensures.none) in
    let raw = c.in-Ok-pour_groups.ensures.put start.0 merged none in
    let after = raw.0 in
    let put : HasPut c.pour_groups.new.groups (folded (aggs_of s) after) = subst (λ (w : Wanted). HasPut c.pour_groups.new.groups (folded (aggs_of w.schema) after)) w raw.2 in
    let keeps : AreBounded s (knowns_of bytes (inputs_of c.pour_groups.new.merge)) → KeepsSums s (folded (aggs_of s) after) =
    subst (λ (w : Wanted). AreBounded w.schema (knowns_of bytes (inputs_of c.pour_groups.new.merge)) → KeepsSums w.schema (folded (aggs_of w.schema) after)) w raw.3 in
    let rows : List Row = folded (aggs_of s) after in
    let wanted = c.in-Ok-pour_groups.ensures.wanted ∙ w in
    let is : c.in-Ok-into_rows.rows ≡ grouped s c.args.columns.now c.args.values.now rows =
    all_groups s c.args.columns.now c.args.values.now (2 ^ 64 - 1) _ rows c.in-Ok-into_rows.rows wanted (c.in-Ok-into_rows.ensures.rows rows put) (omega (arith, c.in-Ok-into_rows.ensures.few)) in
    let some : 0 < length rows = some_all (aggs_of s) _ after raw.1 (some_known bytes _ _ c.in-Ok-pour_groups.ensures.known c.requires.some) in
    (after, raw.1, is, some, subst (λ (w : Wanted). AreRowsOf w.schema rows) wanted put.form, keeps)
