-- The rows of a sound table's deltas have the form of its present columns.
use Rattle.std.proofs.Common.{ℕ, ◌+◌, ◌-◌, ◌≤◌, List, [], ◌∷◌, ◌++◌, map, Option, Some, None}
use Rattle.std.specs.List.{AllByRecursion}
use Rattle.mesa_history_spec.specs.mesa_columns.declared.rows.Row.{Row}
use Rattle.mesa_history_spec.specs.mesa_schema.Changes.{Lineage, columns_at, columns_of, epoch_of, lifted}
use Rattle.mesa_history_spec.specs.mesa_fold.Folded.{rows_of}
use Rattle.mesa_history_spec.specs.mesa_schema.Lineages.{IsLineage}
use Rattle.mesa_history_spec.specs.mesa_columns.Rows.{AreRowsOf, IsRowOf}
use Rattle.mesa_history_spec.proofs.mesa_columns.Lists.{all_append, all_map, all_so}
use Rattle.mesa_history_spec.proofs.mesa_schema.PresentRows.{present_form}
use Rattle.mesa_delta_format.specs.mesa_block.Rows.{IsRow}
use Rattle.mesa_history_spec.specs.mesa_file.declared.file_ref.FileRef.{FileRef}
use Rattle.mesa_delta_format.specs.Summary.{file_layout}
use Rattle.mesa_record.specs.declared.record.Files.{Files}
use Rattle.mesa_store_spec.specs.Catalog.{Delta, TableMeta, start_in}
use Rattle.mesa_store_spec.specs.Fitting.{base_deltas, delta_in, deltas_of, delta_live}
use Rattle.mesa_store_spec.specs.Contents.{Rows, present, deltas_to}
use Rattle.mesa_store_spec.specs.Sound.{IsTold}
use Rattle.mesa_store_spec.proofs.Lists.{all_front, all_back, all_take}

-- deltas whose rows have the form of the present columns
abbrev pub AreFormed : Rows → Lineage → List Delta → Type 0
AreFormed rows l ds = AllByRecursion (λ (d : Delta). AreRowsOf (columns_of l) (present rows l d)) ds

-- deltas of epochs up to this one
abbrev pub AreOfEpochs : ℕ → List Delta → Type 0
AreOfEpochs epoch ds = AllByRecursion (λ (d : Delta). d.epoch ≤ epoch) ds

-- what holds of all deltas holds of those up to a version
pub up_to : (P : Delta → Type 0) (t : TableMeta) (version : ℕ) → AllByRecursion P (deltas_of t) → AllByRecursion P (deltas_to t version)
up_to P t version all =
    let rest = all_back P (base_deltas t.base) (map delta_in t.cumulatives ++ t.singles) all in
    all_append P (base_deltas t.base) _ (all_front P (base_deltas t.base) (map delta_in t.cumulatives ++ t.singles) all)
    (all_take P (version + 1 - start_in t) t.singles (all_back P (map delta_in t.cumulatives) t.singles rest))

-- and of the base and all singletons
pub without_merged : (P : Delta → Type 0) (t : TableMeta) → AllByRecursion P (deltas_of t) → AllByRecursion P (base_deltas t.base ++ t.singles)
without_merged P t all =
    let rest = all_back P (base_deltas t.base) (map delta_in t.cumulatives ++ t.singles) all in
    all_append P (base_deltas t.base) t.singles (all_front P (base_deltas t.base) (map delta_in t.cumulatives ++ t.singles) all) (all_back P (map delta_in t.cumulatives) t.singles rest)

pub rows_formed : (rows : Rows) (l : Lineage) (ds : List Delta) → AreFormed rows l ds → AreRowsOf (columns_of l) (rows_of (map (present rows l) ds))
rows_formed rows l [] all = tt
rows_formed rows l (d ∷ ds) all = all_append (IsRowOf (columns_of l)) (present rows l d) (rows_of (map (present rows l) ds)) all.0 (rows_formed rows l ds all.1)

lifts_forms : (l : Lineage) (epoch : ℕ) (f : FileRef) (rows : List Row) → IsLineage l → AllByRecursion (IsRow (file_layout (columns_at l epoch) f)) rows → AreRowsOf (columns_of l) (map (lifted l epoch (epoch_of l)) rows)
lifts_forms l epoch f rows is all =
    all_map (IsRowOf (columns_of l)) (lifted l epoch (epoch_of l)) rows
    (all_so (IsRow (file_layout (columns_at l epoch) f)) (λ row. IsRowOf (columns_of l) (lifted l epoch (epoch_of l) row)) rows (λ row good. present_form l epoch row is good.form) all)

delta_formed : (rows : Rows) (l : Lineage) (d : Delta) → IsLineage l → AllByRecursion (IsTold rows) (delta_live l d) → AreRowsOf (columns_of l) (present rows l d)
delta_formed rows l d is told = by d.files d.epoch d.totals told
  where
    by : (files : Option Files) (epoch : ℕ) (totals : Option (List ℕ)) → AllByRecursion (IsTold rows) (delta_live l (record { epoch = epoch; files = files; totals = totals }))
        → AreRowsOf (columns_of l) (present rows l (record { epoch = epoch; files = files; totals = totals }))
    by None epoch totals told = tt
    by (Some f) epoch totals told = lifts_forms l epoch f.file (rows f.file.id) is told.0.file.good

-- The deltas whose files are told have rows of the present form.
pub all_formed : (rows : Rows) (l : Lineage) (ds : List Delta) → IsLineage l → AllByRecursion (λ (d : Delta). AllByRecursion (IsTold rows) (delta_live l d)) ds → AreFormed rows l ds
all_formed rows l ds is told = all_so (λ (d : Delta). AllByRecursion (IsTold rows) (delta_live l d)) (λ (d : Delta). AreRowsOf (columns_of l) (present rows l d)) ds (λ d its. delta_formed rows l d is its) told
