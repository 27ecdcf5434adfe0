-- The columns of a table or a view, and their places.
use Rattle.std.specs.Prelude.{ℕ, List, map, Bool, false, true, Option, slice_get, position, filter_map}
use Rattle.mesa_key.specs.mesa_list.Bytes.{same_bytes}
use Rattle.mesa_key.specs.mesa_value.declared.Agg.{Agg}
use Rattle.mesa_key.specs.mesa_value.declared.Agg.TheVariants as agg
use Rattle.mesa_key.specs.declared.KeyType.{KeyType}
use Rattle.mesa_columns.specs.declared.columns.KeyColumn.{KeyColumn}
use Rattle.mesa_columns.specs.declared.columns.ValueColumn.{ValueColumn}

-- The key columns and the value columns of a table or a view.
pub record Columns : Type 0 where
  pub keys : List KeyColumn
  pub values : List ValueColumn

abbrev pub key_names : Columns → List (List ℕ)
key_names s = map (λ (c : KeyColumn). c.name) s.keys

abbrev pub value_names : Columns → List (List ℕ)
value_names s = map (λ (c : ValueColumn). c.name) s.values

abbrev pub kinds_of : Columns → List KeyType
kinds_of s = map (λ (c : KeyColumn). c.kind) s.keys

abbrev pub aggs_of : Columns → List Agg
aggs_of s = map (λ (c : ValueColumn). c.agg) s.values

-- whether the newest of the values of a key counts
abbrev pub is_replace : ValueColumn → Bool
is_replace column = elim (column.agg) [ agg.Sum ↦ false | agg.Min ↦ false | agg.Max ↦ false | agg.Replace ↦ true ]

-- the place of a name among names
abbrev pub place_of : List ℕ → List (List ℕ) → Option ℕ
place_of name names = position (same_bytes name) names

-- the places of these names among the others, for those that are there
abbrev pub places_in : List (List ℕ) → List (List ℕ) → List ℕ
places_in names asked = filter_map (λ name. place_of name names) asked

-- the elements at these places
abbrev pub chosen : {X : Type 0} → List ℕ → List X → List X
chosen places xs = filter_map (slice_get xs) places
