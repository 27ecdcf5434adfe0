-- A row more among folded rows.
use Rattle.std.specs.Prelude.{List, [], ◌∷◌}
use Rattle.std.specs.FinMap.Entries.{by_order}
use Rattle.mesa_columns.specs.mesa_value.declared.Agg.{Agg}
use Rattle.mesa_columns.specs.mesa_key.Order.{byte_cmp}
use Rattle.mesa_columns.specs.declared.rows.Row.{Row}
use Rattle.mesa_fold.specs.Folded.{row_combined}

-- the rows with one more at its key's place, which is combined with the row of its key
abbrev pub put_row : List Agg → Row → List Row → List Row
put_row aggs row [] = row ∷ []
put_row aggs row (x ∷ xs) = by_order (byte_cmp row.key x.key) (row ∷ x ∷ xs) (record x { values = row_combined aggs x.values row.values } ∷ xs) (x ∷ put_row aggs row xs)

-- the rows with these, put one after another
abbrev pub put_rows : List Agg → List Row → List Row → List Row
put_rows aggs folded [] = folded
put_rows aggs folded (row ∷ rows) = put_rows aggs (put_row aggs row folded) rows
