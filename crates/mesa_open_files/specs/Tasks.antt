-- Ranges that are to be merged, and what comes of them.
use Rattle.std.specs.Prelude.{◌≡◌, ℕ, List, [], Option, Some, None}
use Rattle.mesa_history_spec.specs.mesa_columns.declared.rows.Row.{Row}
use Rattle.mesa_schema.specs.Changes.{Lineage, columns_of, epoch_of}
use Rattle.mesa_history_spec.specs.Machine.{Claim, Merges}
use Rattle.mesa_open_files.specs.Inputs.{AreInputsOf, IsMergeOf}
use Rattle.mesa_open_files.specs.Made.{AreMadeFiles}
use Rattle.mesa_open_files.specs.declared.made.MadeFiles.{MadeFiles}
use Rattle.mesa_open_files.specs.declared.merging.NewDelta.{NewDelta}
use Rattle.mesa_open_files.specs.declared.merging.Task.{Task}

-- the claim that a task was granted for
abbrev pub claim_in : {R : Type 0} → Task R → Claim
claim_in t = record { table = t.table; lease = t.lease; errand = Merges t.work }

-- A task of a table with these columns and views.
pub record IsTask {R : Type 0} (bytes : R → Option (List ℕ)) (l : Lineage) (t : Task R) : Type 0 where
  pub epoch : t.epoch ≡ epoch_of l
  pub inputs : AreInputsOf bytes l t.inputs.items

-- the files of a merged range with these rows: none where there are no rows
abbrev pub HaveMerged : {M : Type 0} → (M → Option (List ℕ)) → (M → ℕ) → Lineage → List Row → Option (MadeFiles M) → Type 0
HaveMerged bytes id_of l rows None = rows ≡ []
HaveMerged bytes id_of l rows (Some made) = AreMadeFiles bytes id_of (columns_of l) l.views rows made

-- A task of a table with these columns and views is merged: the files have the merge of its inputs, and each view's these rows, grouped.
pub record IsMerged {M R : Type 0} (bytes : M → Option (List ℕ)) (id_of : M → ℕ) (read : R → Option (List ℕ)) (l : Lineage) (t : Task R) (d : NewDelta M) : Type 0 where
  pub rows : List Row
  pub merge : IsMergeOf read (columns_of l) t.inputs.items rows
  pub files : HaveMerged bytes id_of l rows d.files
