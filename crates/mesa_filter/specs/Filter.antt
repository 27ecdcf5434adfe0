-- The grammar of filters, and the rows that meet one.
use Rattle.std.specs.Prelude.{ℕ, ◌+◌, List, [], ◌∷◌, filter, length, drop, Bool, false, ◌||◌, ◌==◌, nat_lt, if◌then◌else◌, Option, Some, None, option_map, Result, Ok, slice_get, take_while}
use Rattle.std.specs.List.{list_all, list_any}
use Rattle.std.specs.Option.{ok_or}
use Rattle.std.specs.Ordering.{is_eq, is_le, is_ge, is_lt, is_gt}
use Rattle.std.specs.declared.cmp.Ordering.{Ordering}
use Rattle.mesa_list.specs.Checks.{◌>>=◌, ◌>>◌, refuse_if}
use Rattle.mesa_list.specs.Split.{split_at}
use Rattle.mesa_fold.specs.mesa_key.declared.KeyType.{KeyType}
use Rattle.mesa_fold.specs.mesa_key.declared.KeyValue.{KeyValue}
use Rattle.mesa_fold.specs.mesa_key.Order.{value_cmp}
use Rattle.mesa_fold.specs.mesa_key.Spelling.{key_of}
use Rattle.mesa_fold.specs.mesa_columns.declared.rows.Row.{Row}
use Rattle.mesa_fold.specs.mesa_columns.Columns.{Columns, place_of, key_names, kinds_of}
use Rattle.mesa_fold.specs.mesa_columns.Names.{is_name_byte}
use Rattle.mesa_fold.specs.mesa_columns.Numbers.{key_value_of}
use Rattle.mesa_filter.specs.declared.terms.Comparison.{Comparison}
use Rattle.mesa_filter.specs.declared.terms.Comparison.TheVariants as op
use Rattle.mesa_filter.specs.declared.terms.Term.{Term}
use Rattle.mesa_filter.specs.declared.terms.FilterError.{FilterError}
use Rattle.mesa_filter.specs.declared.terms.FilterError.TheVariants.{NoColumn, BadLiteral, BadForm}
use Rattle.mesa_filter.specs.Hex.{hex_value, with_byte}

-- how many terms a filter may have
abbrev pub max_terms : ℕ
max_terms = 64

-- how many literals a term may have
abbrev pub max_literals : ℕ
max_literals = 64

-- a comparison that may end in `=`, and what follows it
abbrev pub or_equal : Comparison → Comparison → List ℕ → Comparison × List ℕ
or_equal with_it alone [] = (alone, [])
or_equal with_it alone (b ∷ rest) = if b == 61 then (with_it, rest) else (alone, b ∷ rest)

-- the longest operator at the front of these bytes, and what follows it
abbrev pub operator_of : List ℕ → Option (Comparison × List ℕ)
operator_of [] = None
operator_of (b ∷ rest) =
    if b == 61 then Some (op.Equal, rest)
    else if b == 60 then Some (or_equal op.AtMost op.Less rest)
    else if b == 62 then Some (or_equal op.AtLeast op.Greater rest)
    else None

-- the bytes of a literal: `%` and two lower case hexadecimal digits stand for one byte
abbrev pub unescaped : List ℕ → Option (List ℕ)
unescaped [] = Some []
unescaped (a ∷ []) = if a == 37 then None else Some (a ∷ [])
unescaped (a ∷ b ∷ []) = if (a == 37) || (b == 37) then None else Some (a ∷ b ∷ [])
unescaped (a ∷ b ∷ c ∷ rest) =
    if a == 37 then with_byte (hex_value b) (hex_value c) (unescaped rest)
    else option_map (λ bytes. a ∷ bytes) (unescaped (b ∷ c ∷ rest))

-- the literals' bytes: with `=` there may be several, separated by `|`
abbrev pub literal_parts : Comparison → List ℕ → List (List ℕ)
literal_parts op.Equal bytes = split_at 124 bytes
literal_parts op.AtMost bytes = bytes ∷ []
literal_parts op.AtLeast bytes = bytes ∷ []
literal_parts op.Less bytes = bytes ∷ []
literal_parts op.Greater bytes = bytes ∷ []

-- each in turn, or none
abbrev pub each_some : {A B : Type 0} → (A → Option B) → List A → Option (List B)
each_some f [] = Some []
each_some f (x ∷ xs) = elim (f x) [ None ↦ None | Some y ↦ option_map (λ ys. y ∷ ys) (each_some f xs) ]

-- a term as its bytes spell it: its name, comparison and literals' bytes
abbrev pub Spelled : Type 0
Spelled = List ℕ × Comparison × List (List ℕ)

-- what stands behind a name of at least one byte
abbrev pub spelled_after : List ℕ → Option (Comparison × List ℕ) → Option Spelled
spelled_after name None = None
spelled_after [] (Some p) = None
spelled_after (b ∷ name) (Some p) =
    if nat_lt max_literals (length (literal_parts p.0 p.1)) then None
    else option_map (λ literals. (b ∷ name, p.0, literals)) (each_some unescaped (literal_parts p.0 p.1))

abbrev pub spelled_of : List ℕ → Option Spelled
spelled_of bytes = let name = take_while is_name_byte bytes in spelled_after name (operator_of (drop (length name) bytes))

-- term number n: its form, its column, its literals
abbrev pub term_of : Columns → ℕ → List ℕ → Result Term FilterError
term_of s n bytes = do
  refuse_if (nat_lt max_terms n) (BadForm n)
  spelled ← ok_or (spelled_of bytes) (BadForm n)
  column ← ok_or (place_of spelled.0 (key_names s)) (NoColumn n)
  kind ← ok_or (slice_get (kinds_of s) column) (NoColumn n)
  literals ← ok_or (each_some (key_value_of kind) spelled.2) (BadLiteral n)
  Ok (record { column = column; comparison = spelled.1; literals = literals })

-- the terms from number n on
abbrev pub terms_from : Columns → ℕ → List (List ℕ) → Result (List Term) FilterError
terms_from s n [] = Ok []
terms_from s n (bytes ∷ rest) = term_of s n bytes >>= (λ term. terms_from s (n + 1) rest >>= (λ terms. Ok (term ∷ terms)))

-- the filter that a text spells, or the first fault from the left
abbrev pub filter_of : Columns → List ℕ → Result (List Term) FilterError
filter_of s [] = Ok []
filter_of s (b ∷ text) = terms_from s 1 (split_at 38 (b ∷ text))

-- whether a comparison allows this order of a value and a literal
abbrev pub passes_as : Comparison → Ordering → Bool
passes_as op.Equal o = is_eq o
passes_as op.AtMost o = is_le o
passes_as op.AtLeast o = is_ge o
passes_as op.Less o = is_lt o
passes_as op.Greater o = is_gt o

-- whether a column's value meets a term
abbrev pub value_meets : Option KeyValue → Term → Bool
value_meets None term = false
value_meets (Some value) term = list_any (λ literal. passes_as term.comparison (value_cmp value literal)) term.literals

-- whether a key meets a term: its column compares so with one of the literals
abbrev pub meets_term : List KeyValue → Term → Bool
meets_term key term = value_meets (slice_get key term.column) term

-- A filter of keys of these types: its terms.
pub record KeyFilter : Type 0 where
  pub kinds : List KeyType
  pub terms : List Term

-- each term's column is one of the key's
abbrev pub are_within : List KeyType → List Term → Bool
are_within kinds terms = list_all (λ (term : Term). nat_lt term.column (length kinds)) terms

-- a key meets the filter where it meets every term
abbrev pub meets : List KeyValue → List Term → Bool
meets key terms = list_all (meets_term key) terms

-- Filtered: the rows whose key meets the filter, in their order.
abbrev pub filtered : Columns → List Term → List Row → List Row
filtered s terms rows = filter (λ row. meets (key_of (kinds_of s) row.key) terms) rows
