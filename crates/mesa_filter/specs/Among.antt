-- What is asked of a relation whose columns are some of another's, in an order of its own.
use Rattle.std.specs.Prelude.{ℕ, zero, suc, List, [], ◌∷◌, map, ◌==◌, if◌then◌else◌, IsTrue}
use Rattle.std.specs.List.{list_any}
use Rattle.mesa_fold.specs.mesa_columns.Columns.{chosen}
use Rattle.mesa_filter.specs.declared.terms.Term.{Term}
use Rattle.mesa_filter.specs.Asked.{Asked}
use Rattle.mesa_filter.specs.Query.{BuiltQuery}

-- a place is among these
abbrev pub Holds : List ℕ → ℕ → Type 0
Holds places place = IsTrue (list_any (λ p. p == place) places)

-- where it stands among them
abbrev pub place_among : List ℕ → ℕ → ℕ
place_among [] place = zero
place_among (p ∷ places) place = if p == place then zero else suc (place_among places place)

-- a term, by its column's place among these
abbrev pub term_among : List ℕ → Term → Term
term_among places term = record { column = place_among places term.column; comparison = term.comparison; literals = term.literals }

-- The same columns, values and terms, by their places among these key columns and value columns.
abbrev pub asked_among : List ℕ → List ℕ → Asked → Asked
asked_among keys values asked = record {
  columns = map (place_among keys) asked.columns;
  values = map (place_among values) asked.values;
  terms = map (term_among keys) asked.terms;
}

-- The same query of a relation with these columns of its own. Its version and its page stay, and so do its resume keys.
abbrev pub query_among : List ℕ → List ℕ → BuiltQuery → BuiltQuery
query_among keys values q = record q { kinds = chosen keys q.kinds; asked = asked_among keys values q.asked }
