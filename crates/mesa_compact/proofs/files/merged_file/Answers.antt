use Rattle.std.proofs.Common.{Global, Vec, ◌≡◌, List, [], subst}
use Rattle.std.specs.Prelude.{IfErr}
use Rattle.mesa_open_files.specs.mesa_columns.declared.rows.Row.{Row}
use Rattle.mesa_open_files.specs.mesa_columns.Columns.{aggs_of}
use Rattle.mesa_open_files.specs.mesa_fold.Folded.{rows_of}
use Rattle.mesa_batch.specs.Bound.{KeepsBound}
use Rattle.mesa_file.specs.declared.damage.Damage.{Damage}
use Rattle.mesa_delta.specs.declared.input.Input.{Input}
use Rattle.mesa_merge.specs.Inputs.{AreTold, knowns_of, lifted_parts}
use Rattle.mesa_compact.specs.Writing.{damaged_by}
use Rattle.mesa_compact.proofs.files.merged_file.Goals as goal

pub returns-clause-accepts : goal.returns-clause-accepts
returns-clause-accepts g c =
    let bytes = g.R.FileReader.bytes in
    subst (λ (v : Vec (Input g.row.R.Denot) Global). IfErr c.merge_into-back.result.1 (λ e. (d : Damage) → e ≡ damaged_by d → (contents : List (List Row)) → AreTold (knowns_of bytes v.items) contents
    → KeepsBound (aggs_of c.args.schema.now) [] (rows_of (lifted_parts (knowns_of bytes v.items) contents)) → ⊥)) c.replace-taken.ensures.value c.merge_into-back.ensures.accepts
