-- Rows of blocks, and those rows lifted.
use Rattle.std.proofs.Common.{◌≡◌, ℕ, List, [], ◌∷◌, ◌++◌, refl, ◌∙◌, ap}
use Rattle.std.proofs.lemmas.List.{append-nil}
use Rattle.std.specs.Prelude.{map}
use Rattle.std.specs.List.{AllByRecursion}
use Rattle.mesa_block.specs.Rows.{AreRows, IsRow}
use Rattle.mesa_delta.specs.mesa_columns.declared.rows.Row.{Row}
use Rattle.mesa_delta.specs.mesa_columns.declared.lifting.Lift.{Lift}
use Rattle.mesa_schema.specs.Changes.{Lineage, columns_at, epoch_of, lifted}
use Rattle.mesa_delta.specs.mesa_columns.Columns.{Columns}
use Rattle.mesa_block.specs.Layout.{Layout}
use Rattle.mesa_delta.specs.mesa_fold.Folded.{rows_of}
use Rattle.mesa_delta.specs.mesa_columns.Lifting.{lifted_with}
use Rattle.mesa_schema.specs.Lifting.{Lifts}
use Rattle.mesa_delta.specs.mesa_columns.Rows.{AreRowsOf}
use Rattle.mesa_filter.proofs.mesa_fold.Folds.{rows_of-append}

-- rows of an epoch are lifted as the table lifts them
pub lifts_all : (lift : Lift) (l : Lineage) (epoch : ℕ) (rows : List Row) → Lifts lift l epoch → AreRowsOf (columns_at l epoch) rows → map (lifted_with lift) rows ≡ map (lifted l epoch (epoch_of l)) rows
lifts_all lift l epoch [] lifts all = refl
lifts_all lift l epoch (row ∷ rows) lifts all = λ i. lifts row all.0.values i ∷ lifts_all lift l epoch rows lifts all.1 i

pub row_forms : (s : Layout) (rows : List Row) → AllByRecursion (IsRow s) rows → AreRowsOf s.columns rows
row_forms s [] all = tt
row_forms s (row ∷ rows) all = (all.0.form, row_forms s rows all.1)

forms_append : (s : Columns) (xs ys : List Row) → AreRowsOf s xs → AreRowsOf s ys → AreRowsOf s (xs ++ ys)
forms_append s [] ys p q = q
forms_append s (x ∷ xs) ys p q = (p.0, forms_append s xs ys p.1 q)

-- the rows of a block have the form of its columns
pub block_forms : (s : Layout) (rows : List Row) → AreRows s rows → AreRowsOf s.columns rows
block_forms s rows block = row_forms s rows block.good

-- and those of many blocks
pub all_forms : (s : Layout) (parts : List (List Row)) → AllByRecursion (AreRows s) parts → AreRowsOf s.columns (rows_of parts)
all_forms s [] all = tt
all_forms s (part ∷ parts) all = forms_append s.columns part (rows_of parts) (block_forms s part all.0) (all_forms s parts all.1)

-- the rows of one block more
pub rows_push : (parts : List (List Row)) (part : List Row) → rows_of (parts ++ part ∷ []) ≡ rows_of parts ++ part
rows_push parts part = rows_of-append parts (part ∷ []) ∙ ap (λ rows. rows_of parts ++ rows) (append-nil part)
