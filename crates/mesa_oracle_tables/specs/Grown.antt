-- What a batch makes of tables.
use Rattle.std.specs.Prelude.{◌≡◌, ℕ, List, [], ◌∷◌, length, slice_get, Some, None}
use Rattle.mesa_value.specs.declared.Agg.{Agg}
use Rattle.mesa_answer.specs.mesa_columns.Columns.{Columns, aggs_of}
use Rattle.mesa_schema.specs.Changes.{columns_of}
use Rattle.mesa_answer.specs.mesa_fold.Folded.{folded}
use Rattle.mesa_answer.specs.mesa_columns.Rows.{AreRowsOf}
use Rattle.mesa_batch.specs.Batch.{Placed, rows_for}
use Rattle.mesa_batch.specs.Gathered.{Batched, columns_for, rows_at}
use Rattle.mesa_batch.specs.Glance.{Known}
use Rattle.mesa_batch.specs.Totals.{abs_totals, over_bound, totals_with}
use Rattle.mesa_batch.specs.Bound.{KeepsBound}
use Rattle.mesa_batch.specs.Put.{IsFold}
use Rattle.mesa_model.specs.Load.{newest_content}
use Rattle.mesa_model.specs.Warehouse.{Table}
use Rattle.mesa_oracle_tables.specs.Kept.{Contents, content_in, contents_in, totals_in}

-- A batch has rows of the forms of these tables, in the order of their keys, and the tables' columns where a table has rows.
pub record IsBatchOf (tables : List Known) (batch : Batched) : Type 0 where
  pub forms : (number : ℕ) (known : Known) → slice_get tables number ≡ Some known → AreRowsOf (columns_of known.lineage) (rows_at number batch)
  pub fold : (number : ℕ) (aggs : List Agg) → IsFold aggs (rows_at number batch)
  pub columns : (number : ℕ) (known : Known) → slice_get tables number ≡ Some known → (rows_at number batch ≡ [] → ⊥) → columns_for number batch ≡ columns_of known.lineage

-- A batch has these rows of a load: each table's, in the order of their keys.
pub record HasRows (placed : List Placed) (batch : Batched) : Type 0 where
  pub rows : (number : ℕ) (aggs : List Agg) → rows_at number batch ≡ folded aggs (rows_for number placed ∷ [])
  pub totals : (number : ℕ) (s : Columns) → abs_totals s (rows_at number batch) ≡ abs_totals s (rows_for number placed)
  pub count : batch.count ≡ length placed

-- These totals are the tables' totals with those of their rows of the batch, none above 2^127 - 1.
pub record AreTotalsWith (tables : List Known) (totals : List (List ℕ)) (batch : Batched) (after : List (List ℕ)) : Type 0 where
  pub count : length after ≡ length tables
  pub more : (number : ℕ) (known : Known) → slice_get tables number ≡ Some known → totals_in number after ≡ totals_with (totals_in number totals) (abs_totals (columns_of known.lineage) (rows_at number batch))
  pub bound : (number : ℕ) (known : Known) → slice_get tables number ≡ Some known → over_bound (totals_in number totals) (abs_totals (columns_of known.lineage) (rows_at number batch)) ≡ None

-- The tables' newest contents and their rows of the batch are folds of the tables' forms, and no sum of them leaves its type.
pub record CanTake (tables : List Known) (versions : List Contents) (batch : Batched) : Type 0 where
  pub forms : (number : ℕ) (known : Known) → slice_get tables number ≡ Some known → AreRowsOf (columns_of known.lineage) (newest_content (contents_in number versions))
  pub fold : (number : ℕ) (known : Known) → slice_get tables number ≡ Some known → IsFold (aggs_of (columns_of known.lineage)) (newest_content (contents_in number versions))
  pub bounded : (number : ℕ) (known : Known) → slice_get tables number ≡ Some known → KeepsBound (aggs_of (columns_of known.lineage)) (newest_content (contents_in number versions)) (rows_at number batch)

-- a table without contents
abbrev pub with_totals : Known → List ℕ → Table
with_totals known totals = record { name = known.name; lineage = known.lineage; totals = totals; oldest = 0; contents = [] }

-- These contents are the folds of the tables' newest contents and of their rows of the batch.
pub record AreContentsWith (tables : List Known) (versions : List Contents) (batch : Batched) (after : Contents) : Type 0 where
  pub count : length after ≡ length tables
  pub folds : (number : ℕ) (known : Known) → slice_get tables number ≡ Some known → content_in number after ≡ folded (aggs_of (columns_of known.lineage)) (newest_content (contents_in number versions) ∷ rows_at number batch ∷ [])
