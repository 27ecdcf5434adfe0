-- Folding rows by key, and grouping them.
use Rattle.std.specs.Prelude.{ℕ, ℤ, List, [], ◌∷◌, map, filter, flat_map, ⊤}
use Rattle.std.specs.List.{concat}
use Rattle.std.specs.FinMap.Entries.{by_order}
use Rattle.mesa_columns.specs.mesa_value.declared.Agg.{Agg}
use Rattle.mesa_columns.specs.mesa_value.Agg.{Combines, combined}
use Rattle.mesa_columns.specs.mesa_key.Order.{byte_cmp}
use Rattle.mesa_columns.specs.mesa_key.Spelling.{columns_of}
use Rattle.mesa_columns.specs.declared.rows.Row.{Row}
use Rattle.mesa_columns.specs.mesa_list.Bytes.{same_bytes}
use Rattle.mesa_columns.specs.Columns.{Columns, chosen, kinds_of, aggs_of}

-- the keys in order, and this one among them
abbrev pub with_key : List ℕ → List (List ℕ) → List (List ℕ)
with_key k [] = k ∷ []
with_key k (x ∷ xs) = by_order (byte_cmp k x) (k ∷ x ∷ xs) (x ∷ xs) (x ∷ with_key k xs)

-- the keys that occur, in order, each once
abbrev pub keys_of : List Row → List (List ℕ)
keys_of [] = []
keys_of (row ∷ rows) = with_key row.key (keys_of rows)

-- the values of the rows with this key, in their order
abbrev pub values_at : List ℕ → List Row → List (List ℤ)
values_at key rows = map (λ row. row.values) (filter (λ row. same_bytes key row.key) rows)

-- column by column, an older and a newer row's values
abbrev pub row_combined : List Agg → List ℤ → List ℤ → List ℤ
row_combined [] old new = []
row_combined (agg ∷ aggs) [] new = []
row_combined (agg ∷ aggs) (a ∷ old) [] = []
row_combined (agg ∷ aggs) (a ∷ old) (b ∷ new) = combined agg a b ∷ row_combined aggs old new

-- column by column, an older and a newer row's values have one together
abbrev pub AllCombine : List Agg → List ℤ → List ℤ → Type 0
AllCombine [] old new = ⊤
AllCombine (agg ∷ aggs) [] new = ⊤
AllCombine (agg ∷ aggs) (a ∷ old) [] = ⊤
AllCombine (agg ∷ aggs) (a ∷ old) (b ∷ new) = Combines agg a b × AllCombine aggs old new

-- values and then these, one after another
abbrev pub combined_from : List Agg → List ℤ → List (List ℤ) → List ℤ
combined_from aggs first [] = first
combined_from aggs first (next ∷ rest) = combined_from aggs (row_combined aggs first next) rest

-- all of these, starting from the first
abbrev pub all_combined : List Agg → List (List ℤ) → List ℤ
all_combined aggs [] = []
all_combined aggs (first ∷ rest) = combined_from aggs first rest

-- the rows of all parts, in their order
abbrev pub rows_of : List (List Row) → List Row
rows_of parts = flat_map (λ part. part) parts

abbrev pub folded_at : List Agg → List Row → List ℕ → Row
folded_at aggs rows key = record { key = key; values = all_combined aggs (values_at key rows) }

-- The fold of parts: the keys that occur in any part, in order, and at each its values over the parts, in their order, combined from the first on.
abbrev pub folded : List Agg → List (List Row) → List Row
folded aggs parts = map (folded_at aggs (rows_of parts)) (keys_of (rows_of parts))

-- a row under its group key, with the chosen values: places of key columns and of value columns
abbrev pub regrouped : Columns → List ℕ → List ℕ → Row → Row
regrouped s columns values row = record { key = concat (chosen columns (columns_of (kinds_of s) row.key)); values = chosen values row.values }

-- The grouping of rows: a row for each group key that occurs, in order, with its rows' chosen values combined in their order.
abbrev pub grouped : Columns → List ℕ → List ℕ → List Row → List Row
grouped s columns values rows = folded (chosen values (aggs_of s)) (map (regrouped s columns values) rows ∷ [])
