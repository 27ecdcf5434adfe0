-- Linked changes: what they do to columns and rows.
use Rattle.std.specs.Prelude.{ℕ, ◌+◌, ◌-◌, ℤ, List, [], ◌∷◌, ◌++◌, take, drop, length, unwrap_or, ◌==◌, Bool, true, false, nat_abs}
use Rattle.mesa_key.specs.mesa_value.declared.Agg.{Agg}
use Rattle.mesa_key.specs.mesa_value.declared.Agg.TheVariants as agg
use Rattle.mesa_key.specs.declared.KeyType.{KeyType}
use Rattle.mesa_key.specs.declared.KeyType.TheVariants as kind
use Rattle.mesa_key.specs.declared.KeyValue.{KeyValue}
use Rattle.mesa_key.specs.declared.KeyValue.TheVariants as value
use Rattle.mesa_key.specs.Spelling.{value_spelling}
use Rattle.mesa_columns.specs.declared.rows.Row.{Row}
use Rattle.mesa_columns.specs.declared.changes.Change.{Change}
use Rattle.mesa_columns.specs.declared.changes.Change.TheVariants.{AddValue, DropValue, AddKey}
use Rattle.mesa_columns.specs.Columns.{Columns, value_names, place_of}

-- the list without the element at a place; past the end, the list
abbrev pub without : {X : Type 0} → ℕ → List X → List X
without i xs = take i xs ++ drop (i + 1) xs

-- The columns after a change: one is appended, or a value column goes.
abbrev pub changed : Columns → Change → Columns
changed s (AddValue column default) = record s { values = s.values ++ column ∷ [] }
changed s (DropValue name) = record s { values = without (unwrap_or (place_of name (value_names s)) (length s.values)) s.values }
changed s (AddKey column default) = record s { keys = s.keys ++ column ∷ [] }

-- A row of these columns after one change of them: a default is appended, a value dropped, or a key default appended.
abbrev pub lifted_once : Columns → Change → Row → Row
lifted_once s (AddValue column default) row = record row { values = row.values ++ default ∷ [] }
lifted_once s (DropValue name) row = record row { values = without (unwrap_or (place_of name (value_names s)) (length s.values)) row.values }
lifted_once s (AddKey column default) row = record row { key = row.key ++ value_spelling default }

-- whether a change adds a key column
abbrev pub adds_key : Change → Bool
adds_key (AddValue column default) = false
adds_key (DropValue name) = false
adds_key (AddKey column default) = true

-- the columns after changes, in order
abbrev pub columns_after : Columns → List Change → Columns
columns_after s [] = s
columns_after s (change ∷ changes) = columns_after (changed s change) changes

-- a row of these columns after changes, in order
abbrev pub lifted_by : Columns → List Change → Row → Row
lifted_by s [] row = row
lifted_by s (change ∷ changes) row = lifted_by (changed s change) changes (lifted_once s change row)

-- ---- defaults

-- a sum's default is 0
abbrev pub is_default : Agg → ℤ → Bool
is_default agg.Sum z = nat_abs z == 0
is_default agg.Min z = true
is_default agg.Max z = true
is_default agg.Replace z = true

-- a key column's default has its type
abbrev pub is_of_kind : KeyType → KeyValue → Bool
is_of_kind kind.Int (value.Int z) = true
is_of_kind kind.Int (value.Text bytes) = false
is_of_kind kind.Text (value.Int z) = false
is_of_kind kind.Text (value.Text bytes) = true
