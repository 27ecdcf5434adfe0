-- What is asked of the rows that a record brings, so that the catalogue after it stands for the next state.
use Rattle.std.specs.Prelude.{◌≡◌, ℕ, ◌+◌, ◌-◌, List, [], ◌∷◌, map, take, Option, Some, None, IfSome, Bool, true, false, ⊤}
use Rattle.std.specs.List.{AllByRecursion}
use Rattle.mesa_history_spec.specs.mesa_columns.declared.rows.Row.{Row}
use Rattle.mesa_history_spec.specs.mesa_columns.Columns.{aggs_of}
use Rattle.mesa_history_spec.specs.mesa_schema.Changes.{Lineage, columns_of, epoch_of}
use Rattle.mesa_history_spec.specs.mesa_fold.Folded.{folded}
use Rattle.mesa_history_spec.specs.mesa_schema.Recasts.{Recast, recast_columns, recast_rows}
use Rattle.mesa_history_spec.specs.mesa_batch.Batch.{Placed, rows_for}
use Rattle.mesa_history_spec.specs.mesa_batch.Totals.{abs_totals}
use Rattle.mesa_record.specs.declared.record.Part.{Part}
use Rattle.mesa_record.specs.declared.record.Record.{Record}
use Rattle.mesa_record.specs.declared.recasting.Recasting.{Recasting}
use Rattle.mesa_store_spec.specs.Catalog.{Catalog, Delta, Ending, TableMeta, base_told, empty_delta, part_delta, part_of, recast_in, singles_told, start_in}
use Rattle.mesa_store_spec.specs.Fitting.{LiveFile, brought}
use Rattle.mesa_store_spec.specs.Contents.{Rows, deltas_to, present, rows_in}
use Rattle.mesa_store_spec.specs.Sound.{AreGrouped, IsTold}

-- ---- a batch

-- A part brings rows of a load to a table: its file has them by their keys, its totals are theirs, in either order, and its view files have the file's rows, grouped.
pub record Brings (rows : Rows) (t : TableMeta) (p : Part) (load : List Row) : Type 0 where
  pub epoch : p.epoch ≡ epoch_of t.lineage
  pub by_key : rows p.files.file.id ≡ folded (aggs_of (columns_of t.lineage)) (load ∷ [])
  pub totals : p.totals ≡ abs_totals (columns_of t.lineage) load
  pub same_totals : p.totals ≡ abs_totals (columns_of t.lineage) (rows p.files.file.id)
  pub grouped : AreGrouped rows t.lineage (part_delta p)

-- No part brings no rows.
abbrev pub BringsIfAny : Rows → TableMeta → Option Part → List Row → Type 0
BringsIfAny rows t None load = load ≡ []
BringsIfAny rows t (Some p) load = Brings rows t p load

-- the delta of a version, by what a batch brings to it
abbrev pub loaded_delta : Option Part → Delta
loaded_delta None = empty_delta
loaded_delta (Some p) = part_delta p

-- The parts bring a batch to the tables from a number on: to each table its rows.
abbrev pub BringsAll : Rows → List Part → List Placed → ℕ → List TableMeta → Type 0
BringsAll rows parts batch number [] = ⊤
BringsAll rows parts batch number (t ∷ tables) = BringsIfAny rows t (part_of number parts) (rows_for number batch) × BringsAll rows parts batch (number + 1) tables

-- ---- a merged range

-- The rows of a delta, lifted to the present epoch, are the fold of those of others, each lifted to it: it may take their place.
abbrev pub Replaces : Rows → Lineage → Delta → List Delta → Type 0
Replaces rows l d olds = present rows l d ≡ folded (aggs_of (columns_of l)) (map (present rows l) olds)

-- the deltas whose place a merged range takes, or beside which it stands: the base and the singletons to its end, or the singletons alone
abbrev pub merged_of : TableMeta → Bool → ℕ → List Delta
merged_of t true to = deltas_to t to
merged_of t false to = take (to + 1 - start_in t) t.singles

-- A delta merges a table's range: its rows are those of the range, and its view files have its rows, grouped.
pub record Merges (rows : Rows) (t : TableMeta) (base : Bool) (to : ℕ) (d : Delta) : Type 0 where
  pub replaces : Replaces rows t.lineage d (merged_of t base to)
  pub grouped : AreGrouped rows t.lineage d

-- ---- a recast

-- A delta has the rows of another, at present, regrouped, and if totals are recorded for it, they are those of its rows.
pub record IsRegrouped (rows : Rows) (l : Lineage) (r : Recast) (old new : Delta) : Type 0 where
  pub rows_are : rows_in rows new ≡ recast_rows (columns_of l) r (present rows l old)
  pub totals : IfSome new.totals (λ totals. totals ≡ abs_totals (recast_columns (columns_of l) r) (rows_in rows new))

-- one of each
abbrev pub AreRegrouped : Rows → Lineage → Recast → List Delta → List Delta → Type 0
AreRegrouped rows l r [] [] = ⊤
AreRegrouped rows l r [] (new ∷ news) = ⊥
AreRegrouped rows l r (old ∷ olds) [] = ⊥
AreRegrouped rows l r (old ∷ olds) (new ∷ news) = IsRegrouped rows l r old new × AreRegrouped rows l r olds news

-- a base of a base
abbrev pub IsBaseRegrouped : Rows → Lineage → Recast → Option Ending → Option Ending → Type 0
IsBaseRegrouped rows l r None None = ⊤
IsBaseRegrouped rows l r None (Some new) = ⊥
IsBaseRegrouped rows l r (Some old) None = ⊥
IsBaseRegrouped rows l r (Some old) (Some new) = IsRegrouped rows l r old.delta new.delta

-- A recast brings to a table, of so many versions, its rows as they are at present, regrouped range by range.
pub record BringsRecast (rows : Rows) (next : ℕ) (t : TableMeta) (k : Recasting) : Type 0 where
  pub base : IsBaseRegrouped rows t.lineage (recast_in k) t.base (base_told k)
  pub singles : AreRegrouped rows t.lineage (recast_in k) t.singles (singles_told next t k)

-- ---- files

-- Each file that a record brings has its rows and a true reference.
abbrev pub AreTold : Rows → Catalog → Record → Type 0
AreTold rows c r = AllByRecursion (IsTold rows) (brought c r)

-- These files have the same rows by the one and by the other.
abbrev pub Agree : Rows → Rows → List LiveFile → Type 0
Agree old new files = AllByRecursion (λ (x : LiveFile). new x.file.id ≡ old x.file.id) files
