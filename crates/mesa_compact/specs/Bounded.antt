-- Inputs whose sums stay in their type.
use Rattle.std.specs.Prelude.{ℕ, List, [], Option}
use Rattle.mesa_open_files.specs.mesa_columns.declared.rows.Row.{Row}
use Rattle.mesa_schema.specs.Changes.{Lineage, columns_of}
use Rattle.mesa_open_files.specs.mesa_columns.Columns.{Columns, aggs_of}
use Rattle.mesa_open_files.specs.mesa_fold.Folded.{rows_of}
use Rattle.mesa_batch.specs.Bound.{KeepsBound}
use Rattle.mesa_merge.specs.Inputs.{AreTold, Known, knowns_of, lifted_parts}
use Rattle.mesa_open_files.specs.declared.merging.Task.{Task}

-- The bytes of inputs are told, each is the file of its index, and in each sum column the absolute values of all their rows, lifted to these columns, add up to at most 2^127 - 1.
pub record AreBounded (s : Columns) (knowns : List Known) : Type 0 where
  pub contents : List (List Row)
  pub told : AreTold knowns contents
  pub bound : KeepsBound (aggs_of s) [] (rows_of (lifted_parts knowns contents))

-- A task's inputs are.
abbrev pub IsBounded : {R : Type 0} → (R → Option (List ℕ)) → Lineage → Task R → Type 0
IsBounded bytes l t = AreBounded (columns_of l) (knowns_of bytes t.inputs.items)
