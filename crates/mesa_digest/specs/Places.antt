-- A row's columns by their places: the key columns have the first ones, and the value columns those behind.
use Rattle.std.specs.Prelude.{◌≡◌, ℕ, suc, ◌+◌, ◌<◌, List, [], ◌∷◌, ◌++◌, map, length, slice_index_or, if◌then◌else◌}
use Rattle.std.specs.List.{AllByRecursion}
use Rattle.std.specs.Ordering.{is_le}
use Rattle.mesa_columns.specs.Columns.{Columns}
use Rattle.mesa_columns.specs.Rows.{IsRowOf}
use Rattle.mesa_columns.specs.declared.rows.Row.{Row}
use Rattle.mesa_digest.specs.Digests.{Cell, Label, cells, in_order, key_label, label_cmp, value_label}

-- what the columns go by
abbrev pub labels : Columns → List Label
labels s = map key_label s.keys ++ map value_label s.values

abbrev pub no_label : Label
no_label = record { name = []; rank = 0 }

abbrev pub label_at : Columns → ℕ → Label
label_at s place = slice_index_or (labels s) place no_label

abbrev pub cell_at : Columns → Row → ℕ → Cell
cell_at s row place = slice_index_or (cells s row) place (record { label = no_label; bytes = [] })

abbrev pub count_of : Columns → ℕ
count_of s = length s.keys + length s.values

-- how many of these labels, which rise, come before another one
abbrev pub place_among : Label → List Label → ℕ
place_among l [] = 0
place_among l (x ∷ xs) = if is_le (label_cmp l x) then 0 else suc (place_among l xs)

-- These are the places of the columns in the order of their labels: of any row they give the columns in their order.
pub record IsOrder (s : Columns) (order : List ℕ) : Type 0 where
  pub within : AllByRecursion (λ place. place < count_of s) order
  pub columns : (row : Row) → IsRowOf s row → map (cell_at s row) order ≡ in_order (cells s row)
