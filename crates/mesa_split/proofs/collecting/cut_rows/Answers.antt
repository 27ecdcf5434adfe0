use Rattle.std.proofs.Common.{Global, Vec, ◌≡◌, [], List, sym, ap, ◌∙◌, subst}
use Rattle.std.specs.Prelude.{IfErr}
use Rattle.std.specs.List.{AllByRecursion}
use Rattle.mesa_file.specs.declared.damage.Damage.{Damage}
use Rattle.mesa_compact.specs.mesa_columns.declared.rows.Row.{Row}
use Rattle.mesa_compact.specs.mesa_columns.Columns.{aggs_of}
use Rattle.mesa_open_files.specs.mesa_fold.Folded.{rows_of}
use Rattle.mesa_batch.specs.Bound.{KeepsBound}
use Rattle.mesa_delta.specs.declared.error.FileError.{FileError}
use Rattle.mesa_delta.specs.declared.error.FileError.TheVariants.{Damaged, Read}
use Rattle.mesa_delta.specs.declared.input.Input.{Input}
use Rattle.mesa_compact.specs.mesa_scan.Cursors.{IsInput}
use Rattle.mesa_merge.specs.Damaged.{IsDamageOf}
use Rattle.mesa_merge.specs.Faults.{HaveFaultCause, faults_of}
use Rattle.mesa_merge.specs.Inputs.{AreTold, knowns_of, lifted_parts}
use Rattle.mesa_merge.specs.Merged.{inputs_of, nothing_given}
use Rattle.mesa_compact.proofs.Whole.{if_err_map, if_ok_map}
use Rattle.mesa_split.specs.Parts.{IsPartOf}
use Rattle.mesa_split.proofs.Collected.{memory_caused}
use Rattle.mesa_split.proofs.collecting.cut_rows.Goals as goal

pub collect-rows-requires-after_bounds : goal.collect-rows-requires-after_bounds
collect-rows-requires-after_bounds g c = λ _ _. (c.args.low, c.args.high, c.args.schema.now, nothing_given c.args.inputs.items, c.in-Ok.ensures.merged c.args.schema.now c.requires, c.in-Ok.ensures.nothing (aggs_of c.args.schema.now))

pub returns-in-Ok : goal.returns-in-Ok
returns-in-Ok g c =
    let bytes = g.R.FileReader.bytes in
    let faults = g.R.FileReader.faults in
    let s = c.args.schema.now in
    let same : inputs_of c.in-Ok.merge ≡ c.args.inputs.items = c.in-Ok.ensures.inputs in
    let back : c.into_inputs.result.items ≡ inputs_of c.collect-rows.new.merge = c.into_inputs.ensures in
    let merged = c.in-Ok.ensures.merged s c.requires in
    let none = c.in-Ok.ensures.nothing (aggs_of s) in
    record {
      rows = if_ok_map c.collect-rows.result _ (IsPartOf s c.args.low c.args.high (knowns_of bytes c.args.inputs.items))
          (λ rows p. subst (λ is. IsPartOf s c.args.low c.args.high (knowns_of bytes is) rows) same (p c.args.low c.args.high s (nothing_given c.args.inputs.items) merged none)) c.collect-rows.ensures.rows;
      known = ap (knowns_of bytes) back ∙ c.collect-rows.ensures.known ∙ ap (knowns_of bytes) same;
      inputs = subst (AllByRecursion (IsInput bytes)) (sym back) (c.collect-rows.ensures.inputs (subst (AllByRecursion (IsInput bytes)) (sym same) c.requires.each));
      cause = subst (λ is. HaveFaultCause {T = List Row} {E = FileError} (λ e. e ≡ Read) (faults_of faults is) (faults_of faults c.into_inputs.result.items) c.collect-rows.result) same
          (subst (λ js. HaveFaultCause {T = List Row} {E = FileError} (λ e. e ≡ Read) (faults_of faults (inputs_of c.in-Ok.merge)) (faults_of faults js) c.collect-rows.result) (sym back) c.collect-rows.ensures.cause);
      damaged = subst (λ js. IfErr c.collect-rows.result (λ e. (d : Damage) → e ≡ Damaged d → IsDamageOf bytes g.R.FileReader.size js d)) (sym back) c.collect-rows.ensures.damaged;
      accepts = if_err_map c.collect-rows.result _ _
          (λ e p d is contents told bound. p d is c.args.low c.args.high s (nothing_given c.args.inputs.items) merged none contents (subst (λ js. AreTold (knowns_of bytes js) contents) (sym same) told)
          (subst (λ js. KeepsBound (aggs_of s) [] (rows_of (lifted_parts (knowns_of bytes js) contents))) (sym same) bound)) c.collect-rows.ensures.accepts;
    }

pub returns-in-Err : goal.returns-in-Err
returns-in-Err g c =
    let bytes = g.R.FileReader.bytes in
    let same : c.in-Err.inputs.items ≡ c.args.inputs.items = ap (λ (v : Vec (Input g.row.R.Denot) Global). v.items) c.in-Err.ensures.given_back in
    record {
      rows = tt;
      known = ap (knowns_of bytes) same;
      inputs = subst (AllByRecursion (IsInput bytes)) (sym same) c.requires.each;
      cause = memory_caused _ _ (ap (faults_of g.R.FileReader.faults) same);
      damaged = λ d (is : _ ≡ Damaged d). cc;
      accepts = λ d (is : _ ≡ Damaged d). cc;
    }
