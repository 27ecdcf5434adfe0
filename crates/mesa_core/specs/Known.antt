-- What is known of granted tasks.
use Rattle.std.specs.Prelude.{◌≡◌, ℕ, List, Option}
use Rattle.std.specs.List.{AllByRecursion}
use Rattle.mesa_recast_turns.specs.mesa_schema.Changes.{Lineage, epoch_of}
use Rattle.mesa_recast_turns.specs.mesa_merge.Inputs.{Known}
use Rattle.mesa_recast_turns.specs.mesa_copy.Copying.{IsRecastBounded}
use Rattle.mesa_core.specs.Recasts.{KnownRecast, known_recast}
use Rattle.mesa_model.specs.Warehouse.{Store, table_at}
use Rattle.mesa_core.specs.Works.{KnownTask, known_task}
use Rattle.mesa_recast_turns.specs.mesa_file_records.Finished.{HasRange}
use Rattle.mesa_recast_turns.specs.mesa_file_records.Recasts.{HasItsRanges}
use Rattle.mesa_recast_turns.specs.mesa_history_spec.Sources.{Written}
use Rattle.mesa_open_files.specs.declared.recasting.Recast.{Recast}
use Rattle.mesa_open_files.specs.declared.merging.Task.{Task}

-- the columns and views of the table of a number
abbrev pub lineage_in : Store → ℕ → Lineage
lineage_in s number = (table_at s number).lineage

-- Each task of which this is known has its range.
abbrev pub AllHaveRange : {R : Type 0} → (R → Option (List ℕ)) → Lineage → KnownTask → List Written → Type 0
AllHaveRange {R = R} read was k written = (t : Task R) → known_task read t ≡ k → HasRange read was t written

-- A task is one of a table with these columns and views: each file is the table's.
pub record IsKnownOf (was : Lineage) (k : KnownTask) : Type 0 where
  pub epoch : k.epoch ≡ epoch_of was
  pub files : AllByRecursion (λ (f : Known). f.table ≡ was) k.files

-- ---- recasts

-- Each recast of which this is known has its ranges,
abbrev pub AllHaveRanges : {R : Type 0} → (R → Option (List ℕ)) → KnownRecast → List Written → Type 0
AllHaveRanges {R = R} read k written = (t : Recast R) → known_recast read t ≡ k → HasItsRanges read t written

-- and no sum over one of them leaves its type.
abbrev pub AllAreBounded : {R : Type 0} → (R → Option (List ℕ)) → KnownRecast → Type 0
AllAreBounded {R = R} read k = (t : Recast R) → known_recast read t ≡ k → IsRecastBounded read t
