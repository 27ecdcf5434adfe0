-- Tables that are to be recast, and what comes of their ranges.
use Rattle.std.specs.Prelude.{◌≡◌, ◌<◌, ℕ, List, [], ◌∷◌, flat_map, length, take, option_to_list, Option, Some, None, Ok, ⊤}
use Rattle.std.specs.List.{AllByRecursion}
use Rattle.mesa_history_spec.specs.mesa_columns.declared.rows.Row.{Row}
use Rattle.mesa_schema.specs.Changes.{Lineage, columns_of, epoch_of}
use Rattle.mesa_history_spec.specs.mesa_columns.Columns.{Columns}
use Rattle.mesa_schema.specs.Recasts.{recast_checked, recast_columns, recast_rows}
use Rattle.mesa_schema.specs.Recasts.{Recast as Asked}
use Rattle.mesa_batch.specs.Totals.{abs_totals, sum_bound}
use Rattle.mesa_delta.specs.declared.input.Input.{Input}
use Rattle.mesa_history_spec.specs.Machine.{Claim, Recasts}
use Rattle.mesa_open_files.specs.Batches.{made_ids}
use Rattle.mesa_open_files.specs.Inputs.{AreInputsTo, IsMergeOf}
use Rattle.mesa_open_files.specs.Made.{Content, IsMadeFile}
use Rattle.mesa_open_files.specs.declared.made.MadeFile.{MadeFile}
use Rattle.mesa_open_files.specs.declared.recasting.Recast.{Recast}
use Rattle.mesa_open_files.specs.declared.recasting.RecastRange.{RecastRange}
use Rattle.mesa_open_files.specs.declared.recasting.Recasted.{Recasted}
use Rattle.mesa_open_files.specs.declared.recasting.RecastedRange.{RecastedRange}

-- ---- what is asked for

-- the columns that a recast asks for
abbrev pub recast_in : {R : Type 0} → Recast R → Asked
recast_in t = record { keys = t.keys; values = t.values }

-- the table as it was granted
abbrev pub recast_table : {R : Type 0} → Recast R → Lineage
recast_table t = t.evolving.value

-- the claim that it was granted for
abbrev pub claim_of_recast : {R : Type 0} → Recast R → Claim
claim_of_recast t = record { table = t.table; lease = t.lease; errand = Recasts t.epoch (recast_in t) }

-- a range's input, if it has one
abbrev pub own : {R : Type 0} → RecastRange R → List (Input R)
own x = option_to_list x.input

-- all inputs of a recast
abbrev pub recast_inputs : {R : Type 0} → Recast R → List (Input R)
recast_inputs t = flat_map own t.ranges.items

-- Ranges of a table: each input is lifted to its columns. Views may have come between the opening of two of them.
abbrev pub AreRangesOf : {R : Type 0} → (R → Option (List ℕ)) → Lineage → List (RecastRange R) → Type 0
AreRangesOf {R = R} bytes l ranges = AllByRecursion (λ (x : RecastRange R). AreInputsTo bytes (columns_of l) (own x)) ranges

-- A recast of a table that allows it.
pub record IsRecastTask {R : Type 0} (bytes : R → Option (List ℕ)) (t : Recast R) : Type 0 where
  pub epoch : t.epoch ≡ epoch_of (recast_table t)
  pub allowed : recast_checked (recast_table t) (recast_in t) ≡ Ok tt
  pub ranges : AreRangesOf bytes (recast_table t) t.ranges.items

-- ---- what comes of it

-- rows of a table with the columns of its recast, grouped by them
abbrev pub recast_content : Columns → Asked → List Row → Content
recast_content s r rows = record { columns = recast_columns s r; rows = recast_rows s r rows }

-- A range has a file exactly where it has an input: that of this content.
abbrev pub HasRangeFile : {M R : Type 0} → (M → Option (List ℕ)) → (M → ℕ) → Content → Option (Input R) → Option (MadeFile M) → Type 0
HasRangeFile bytes id_of content None None = ⊤
HasRangeFile bytes id_of content None (Some made) = ⊥
HasRangeFile bytes id_of content (Some i) None = ⊥
HasRangeFile bytes id_of content (Some i) (Some made) = IsMadeFile bytes id_of content made

-- A range is rewritten: its file has the rows of its input at present, grouped by the recast's columns, and its totals are those of these groups, each at most 2^127 - 1.
pub record IsRangeRewritten {M R : Type 0} (bytes : M → Option (List ℕ)) (id_of : M → ℕ) (read : R → Option (List ℕ)) (s : Columns) (r : Asked) (x : RecastRange R) (y : RecastedRange M) : Type 0 where
  pub from : y.from ≡ x.from
  pub to : y.to ≡ x.to
  pub rows : List Row
  pub merge : IsMergeOf read s (own x) rows
  pub file : HasRangeFile bytes id_of (recast_content s r rows) x.input y.file
  pub totals : y.totals ≡ abs_totals (recast_columns s r) (recast_rows s r rows)
  pub small : AllByRecursion (λ n. n < sum_bound) y.totals

-- each of them, in their order
abbrev pub AreRewritten : {M R : Type 0} → (M → Option (List ℕ)) → (M → ℕ) → (R → Option (List ℕ)) → Columns → Asked → List (RecastRange R) → List (RecastedRange M) → Type 0
AreRewritten bytes id_of read s r [] [] = ⊤
AreRewritten bytes id_of read s r [] (y ∷ ys) = ⊥
AreRewritten bytes id_of read s r (x ∷ xs) [] = ⊥
AreRewritten bytes id_of read s r (x ∷ xs) (y ∷ ys) = IsRangeRewritten bytes id_of read s r x y × AreRewritten bytes id_of read s r xs ys

-- All ranges of a recast are rewritten.
abbrev pub IsRecasted : {M R : Type 0} → (M → Option (List ℕ)) → (M → ℕ) → (R → Option (List ℕ)) → Recast R → Recasted M → Type 0
IsRecasted bytes id_of read t made = AreRewritten bytes id_of read (columns_of (recast_table t)) (recast_in t) t.ranges.items made.ranges.items

-- The first of them are, as many as there are.
abbrev pub IsRecastedSoFar : {M R : Type 0} → (M → Option (List ℕ)) → (M → ℕ) → (R → Option (List ℕ)) → Recast R → Recasted M → Type 0
IsRecastedSoFar bytes id_of read t made = AreRewritten bytes id_of read (columns_of (recast_table t)) (recast_in t) (take (length made.ranges.items) t.ranges.items) made.ranges.items

-- the file of a rewritten range, if it has one
abbrev pub range_file : {M : Type 0} → RecastedRange M → List (MadeFile M)
range_file y = option_to_list y.file

-- the ids of the files of rewritten ranges, in their order
abbrev pub recast_ids : {M : Type 0} → (M → ℕ) → List (RecastedRange M) → List ℕ
recast_ids id_of ranges = made_ids id_of (flat_map range_file ranges)
