-- Laws of folding and grouping.
use Rattle.std.specs.Prelude.{◌≡◌, ℕ, ◌<◌, List, [], ◌∷◌, ◌++◌, map, filter, length, Bool, ◌==◌, nat_lt, IsTrue}
use Rattle.std.specs.List.{AllByRecursion, list_all, list_any}
use Rattle.std.specs.declared.cmp.Ordering.TheVariants.{Less}
use Rattle.mesa_columns.specs.mesa_value.declared.Agg.{Agg}
use Rattle.mesa_columns.specs.mesa_value.Agg.{IsOrderless}
use Rattle.mesa_columns.specs.mesa_key.Order.{byte_cmp}
use Rattle.mesa_columns.specs.declared.rows.Row.{Row}
use Rattle.mesa_columns.specs.Columns.{Columns, aggs_of, chosen}
use Rattle.mesa_columns.specs.Rows.{AreRowsOf, IsRowOf, keys_rise}
use Rattle.mesa_fold.specs.Folded.{folded, grouped, regrouped, row_combined, rows_of, values_at}
use Rattle.mesa_fold.specs.Put.{put_row}

-- each row has a value for each column
abbrev pub AreFull : List Agg → List Row → Type 0
AreFull aggs rows = AllByRecursion (λ (row : Row). length row.values ≡ length aggs) rows

-- Parts that stand one after the other may be folded first.
abbrev pub Refolds : Type 0
Refolds = (aggs : List Agg) (before parts after : List (List Row)) → folded aggs (before ++ folded aggs parts ∷ after) ≡ folded aggs (before ++ parts ++ after)

-- A fold of rows of one form has that form.
abbrev pub FoldsForm : Type 0
FoldsForm = (s : Columns) (parts : List (List Row)) → AreRowsOf s (rows_of parts) → AreRowsOf s (folded (aggs_of s) parts)

-- Rows may be folded before grouping or after it, where none of the chosen value columns is a replace column.
abbrev pub GroupsFolds : Type 0
GroupsFolds = (s : Columns) (columns values : List ℕ) (parts : List (List Row)) → AllByRecursion IsOrderless (chosen values (aggs_of s)) → AreRowsOf s (rows_of parts)
    → grouped s columns values (folded (aggs_of s) parts) ≡ folded (chosen values (aggs_of s)) (map (grouped s columns values) parts)

-- ---- folds

-- Parts that have the same values at each key fold to the same.
abbrev pub SameFolds : Type 0
SameFolds = (aggs : List Agg) (xs ys : List (List Row)) → ((key : List ℕ) → values_at key (rows_of xs) ≡ values_at key (rows_of ys)) → folded aggs xs ≡ folded aggs ys

-- The keys of folded rows rise.
abbrev pub FoldsRise : Type 0
FoldsRise = (aggs : List Agg) (parts : List (List Row)) → IsTrue (keys_rise (folded aggs parts))

-- A fold of rows that have a value for each column has such rows.
abbrev pub FoldsFull : Type 0
FoldsFull = (aggs : List Agg) (parts : List (List Row)) → AreFull aggs (rows_of parts) → AreFull aggs (folded aggs parts)

-- Rows may be filtered by their keys before folding or after it.
abbrev pub FiltersFold : Type 0
FiltersFold = (passes : List ℕ → Bool) (aggs : List Agg) (parts : List (List Row)) → filter (λ (row : Row). passes row.key) (folded aggs parts) ≡ folded aggs (map (filter (λ (row : Row). passes row.key)) parts)

-- One row more is put among the folded rows.
abbrev pub PutsOne : Type 0
PutsOne = (aggs : List Agg) (rows : List Row) (row : Row) → folded aggs ((rows ++ row ∷ []) ∷ []) ≡ put_row aggs row (folded aggs (rows ∷ []))

-- each row's key is below this one
abbrev pub AreUnder : List ℕ → List Row → Type 0
AreUnder key rows = AllByRecursion (λ (row : Row). byte_cmp row.key key ≡ Less) rows

-- A part gets a row more, whose key is above all: it is the last of the fold.
-- Or its key is the last one, which no later part has: it is combined with the last row.
pub record PutsGiven : Type 0 where
  pub next : (aggs : List Agg) (before after : List (List Row)) (part : List Row) (row : Row) → AreUnder row.key (rows_of (before ++ part ∷ after))
      → folded aggs (before ++ (part ++ row ∷ []) ∷ after) ≡ folded aggs (before ++ part ∷ after) ++ row ∷ []
  pub same : (aggs : List Agg) (before after : List (List Row)) (part front : List Row) (last row : Row) → AreUnder row.key (rows_of after)
      → folded aggs (before ++ part ∷ after) ≡ front ++ last ∷ [] → last.key ≡ row.key → AreUnder row.key front
      → folded aggs (before ++ (part ++ row ∷ []) ∷ after) ≡ front ++ record last { values = row_combined aggs last.values row.values } ∷ []
  pub under : (aggs : List Agg) (parts : List (List Row)) (key : List ℕ) → AreUnder key (rows_of parts) → AreUnder key (folded aggs parts)

-- ---- groups

-- These are places of key columns, and every key column's is among them.
pub record AreAllKeys (s : Columns) (columns : List ℕ) : Type 0 where
  pub places : IsTrue (list_all (λ place. nat_lt place (length s.keys)) columns)
  pub each : (place : ℕ) → place < length s.keys → IsTrue (list_any (λ c. c == place) columns)

-- Where all key columns are group columns, rows of one group have one key.
abbrev pub GroupsWhole : Type 0
GroupsWhole = (s : Columns) (columns : List ℕ) (a b : Row) → AreAllKeys s columns → IsRowOf s a → IsRowOf s b → (regrouped s columns [] a).key ≡ (regrouped s columns [] b).key → a.key ≡ b.key

-- Then rows may be folded before grouping or after it, replace columns included.
abbrev pub GroupsWholeFolds : Type 0
GroupsWholeFolds = (s : Columns) (columns values : List ℕ) (parts : List (List Row)) → AreAllKeys s columns → AreRowsOf s (rows_of parts)
    → grouped s columns values (folded (aggs_of s) parts) ≡ grouped s columns values (rows_of parts)

-- The keys of grouped rows rise.
abbrev pub GroupsRise : Type 0
GroupsRise = (s : Columns) (columns values : List ℕ) (rows : List Row) → IsTrue (keys_rise (grouped s columns values rows))

-- Grouped rows have the form of the group columns and the chosen value columns.
abbrev pub GroupsForm : Type 0
GroupsForm = (s : Columns) (columns values : List ℕ) (rows : List Row) → AreRowsOf s rows
    → AreRowsOf (record { keys = chosen columns s.keys; values = chosen values s.values }) (grouped s columns values rows)
