-- What a query asks of a relation, and its checks.
use Rattle.std.specs.Prelude.{ℕ, List, [], ◌∷◌, map, Bool, ◌==◌, if◌then◌else◌, Option, Some, None, Result, Ok, Err, find}
use Rattle.std.specs.List.{list_all, list_any, enumerate_from}
use Rattle.std.specs.Option.{ok_or}
use Rattle.mesa_list.specs.Checks.{◌>>=◌, ◌>>◌, refused_as, each_of}
use Rattle.mesa_list.specs.Split.{entries_of}
use Rattle.mesa_list.specs.Bytes.{same_bytes}
use Rattle.mesa_fold.specs.mesa_columns.declared.columns.ValueColumn.{ValueColumn}
use Rattle.mesa_fold.specs.mesa_columns.Columns.{Columns, chosen, is_replace, key_names, place_of, value_names}
use Rattle.mesa_filter.specs.declared.words.QueryWords.{QueryWords}
use Rattle.mesa_filter.specs.declared.terms.Term.{Term}
use Rattle.mesa_filter.specs.declared.terms.FilterError.{FilterError}
use Rattle.mesa_filter.specs.declared.terms.FilterError.TheVariants as fault
use Rattle.mesa_filter.specs.declared.words.QueryError.{QueryError}
use Rattle.mesa_filter.specs.declared.words.QueryError.TheVariants.{NoColumn, ReplaceGroup, BadFilter, Memory}
use Rattle.mesa_filter.specs.Filter.{filter_of}

-- the places of the group columns and of the value columns, and the filter
pub record Asked : Type 0 where
  pub columns : List ℕ
  pub values : List ℕ
  pub terms : List Term

-- the numbers below n
abbrev pub places_below : {X : Type 0} → List X → List ℕ
places_below xs = map (λ p. p.0) (enumerate_from 0 xs)

-- the places of the names, or no_column
abbrev pub places_of : List (List ℕ) → List (List ℕ) → Result (List ℕ) QueryError
places_of names words = each_of (λ word. ok_or (place_of word names) NoColumn) words

-- no words ask for all key columns, and `-` for none
abbrev pub group_columns : Columns → List ℕ → Result (List ℕ) QueryError
group_columns s [] = Ok (places_below s.keys)
group_columns s (b ∷ words) = if same_bytes (b ∷ words) (45 ∷ []) then Ok [] else places_of (key_names s) (entries_of (b ∷ words))

-- no words ask for all value columns
abbrev pub value_columns : Columns → List ℕ → Result (List ℕ) QueryError
value_columns s [] = Ok (places_below s.values)
value_columns s (b ∷ words) = places_of (value_names s) (entries_of (b ∷ words))

-- whether every key column stands among these
abbrev pub lists_all_keys : Columns → List ℕ → Bool
lists_all_keys s columns = list_all (λ place. list_any (λ c. c == place) columns) (places_below s.keys)

-- the first replace column that is asked without every key column
abbrev pub replace_asked : Columns → List ℕ → List ℕ → Option ValueColumn
replace_asked s columns values = if lists_all_keys s columns then None else find is_replace (chosen values s.values)

abbrev pub refuse_replace : Option ValueColumn → Result (Unit {0}) QueryError
refuse_replace None = Ok tt
refuse_replace (Some column) = Err (ReplaceGroup column.name)

abbrev pub filter_refusal : FilterError → QueryError
filter_refusal (fault.NoColumn term) = NoColumn
filter_refusal (fault.BadLiteral term) = BadFilter term
filter_refusal (fault.BadForm term) = BadFilter term
filter_refusal fault.Memory = Memory

-- What a query asks of a relation of the schema, or its first refusal: the group columns, the value columns, replace columns, and the filter.
abbrev pub asked_of : Columns → QueryWords → Result Asked QueryError
asked_of s words = do
  columns ← group_columns s words.group
  values ← value_columns s words.values
  refuse_replace (replace_asked s columns values)
  terms ← refused_as filter_refusal (filter_of s words.filter)
  Ok (record { columns = columns; values = values; terms = terms })
