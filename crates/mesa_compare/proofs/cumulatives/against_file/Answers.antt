use Rattle.std.proofs.Common.{◌≡◌, [], List, sym, subst, ◌∙◌}
use Rattle.mesa_schema.specs.mesa_columns.declared.rows.Row.{Row}
use Rattle.mesa_schema.specs.Changes.{Lineage, columns_of}
use Rattle.mesa_schema.specs.mesa_columns.Columns.{aggs_of}
use Rattle.mesa_schema.specs.mesa_fold.Folded.{folded, rows_of}
use Rattle.mesa_examine.specs.mesa_batch.Bound.{KeepsBound}
use Rattle.mesa_merge.specs.Inputs.{knowns_of, lifted_parts}
use Rattle.mesa_merge.specs.Merged.{HasMerged, inputs_of}
use Rattle.mesa_compare.specs.Difference.{first_difference}
use Rattle.mesa_view.proofs.mesa_answer.Results.{if_ok}
use Rattle.mesa_examine.proofs.mesa_open_files.Counts.{counted_more, counted_then, unmoved_more}
use Rattle.mesa_compare.proofs.GivenBack.{same_fresh}
use Rattle.mesa_compare.proofs.Openings.{not_damaged, one_told, rows_same}
use Rattle.mesa_compare.proofs.cumulatives.against_file.Goals as goal

-- ---- the file is opened

pub against_input-requires-clause-merge : goal.against_input-requires-clause-merge
against_input-requires-clause-merge g c κs within =
    let start = c.requires.merge in
    let lineage = sym c.in-Input.ensures.met.lineage in (
      start.0,
      subst (λ (l : Lineage). HasMerged g.D.Reader.FileReader.bytes (columns_of l) c.args.merge start.0) lineage start.1,
      subst (λ (l : Lineage). folded (aggs_of (columns_of l)) start.0 ≡ []) lineage start.2,
    )

pub against_input-requires-clause-fresh : goal.against_input-requires-clause-fresh
against_input-requires-clause-fresh g c κs within = (c.in-Input.ensures.met.fresh, c.requires.fresh)

pub returns-in-Input-clause-difference : goal.returns-in-Input-clause-difference
returns-in-Input-clause-difference g c = if_ok c.against_input.result _ _ (λ o first i contents all is told has keeps.
    let bytes = g.D.Reader.FileReader.bytes in
    let met = c.in-Input.ensures.met in
    let parts : List (List Row) = lifted_parts (knowns_of bytes (inputs_of c.args.merge)) contents in
    let read = one_told bytes g.D.Reader.FileReader.faults (g.D.Disk.story c.args.disk.now).told i is c.args.own.now c.in-Input.input all met has in
    let rows = rows_same bytes g.D.Reader.FileReader.faults (g.D.Disk.story c.args.disk.now).told c.args.own.now c.in-Input.input all met in
    first contents read.0 all told read.1 read.2 (subst (λ (l : Lineage). KeepsBound (aggs_of (columns_of l)) [] (rows_of parts)) (sym met.lineage) keeps)
    ∙ (λ k. first_difference (folded (aggs_of (columns_of (met.lineage k))) parts) (rows k))) c.against_input.ensures.difference

pub returns-in-Input-clause-unmoved : goal.returns-in-Input-clause-unmoved
returns-in-Input-clause-unmoved g c = unmoved_more _ _ _ c.open_one.ensures.unmoved c.against_input.ensures.unmoved

pub returns-in-Input-clause-counted : goal.returns-in-Input-clause-counted
returns-in-Input-clause-counted g c = counted_more _ _ _ _ c.in-Input.ensures.counted c.against_input.ensures.counted

-- ---- it isn't

pub returns-in-Damaged-clause-difference : goal.returns-in-Damaged-clause-difference
returns-in-Damaged-clause-difference g c = λ i contents all is told has keeps.
    absurd (not_damaged g.D.Reader.FileReader.bytes g.D.Reader.FileReader.faults (g.D.Disk.story c.args.disk.now).told i is c.args.own.now all c.in-Damaged.field-0 c.in-Damaged.ensures.met has)

pub returns-in-Damaged-clause-unmoved : goal.returns-in-Damaged-clause-unmoved
returns-in-Damaged-clause-unmoved g c = unmoved_more _ _ _ c.in-Damaged.ensures.unmoved c.retire_all.ensures.unmoved

pub returns-in-Damaged-clause-counted : goal.returns-in-Damaged-clause-counted
returns-in-Damaged-clause-counted g c =
    let given = c.retire_all.ensures.given in
    counted_then _ _ _ _ c.in-Damaged.ensures.counted given.calls (given.quiet (same_fresh g.D.Reader.FileReader.faults _ _ (sym c.into_inputs.ensures) c.requires.fresh))

pub returns-in-Fault-clause-unmoved : goal.returns-in-Fault-clause-unmoved
returns-in-Fault-clause-unmoved g c = unmoved_more _ _ _ c.in-Fault.ensures.unmoved c.retire_all-in-Fault.ensures.unmoved

pub returns-in-Fault-clause-counted : goal.returns-in-Fault-clause-counted
returns-in-Fault-clause-counted g c =
    let given = c.retire_all-in-Fault.ensures.given in
    counted_then _ _ _ _ c.in-Fault.ensures.counted given.calls (given.quiet (same_fresh g.D.Reader.FileReader.faults _ _ (sym c.into_inputs-in-Fault.ensures) c.requires.fresh))

pub returns-in-Memory-clause-unmoved : goal.returns-in-Memory-clause-unmoved
returns-in-Memory-clause-unmoved g c = unmoved_more _ _ _ c.in-Memory.ensures.unmoved c.retire_all-in-Memory.ensures.unmoved

pub returns-in-Memory-clause-counted : goal.returns-in-Memory-clause-counted
returns-in-Memory-clause-counted g c =
    let given = c.retire_all-in-Memory.ensures.given in
    counted_then _ _ _ _ c.in-Memory.ensures.counted given.calls (given.quiet (same_fresh g.D.Reader.FileReader.faults _ _ (sym c.into_inputs-in-Memory.ensures) c.requires.fresh))
