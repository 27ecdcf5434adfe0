-- Rows that are a fold, or stand in the order of their keys.
use Rattle.std.specs.Prelude.{◌≡◌, ℕ, List, [], ◌∷◌, map, T}
use Rattle.std.specs.FinMap.Entries.{is_sorted}
use Rattle.mesa_schema.specs.mesa_value.declared.Agg.{Agg}
use Rattle.mesa_schema.specs.mesa_key.Order.{byte_cmp}
use Rattle.mesa_schema.specs.mesa_columns.declared.rows.Row.{Row}
use Rattle.mesa_schema.specs.mesa_fold.Folded.{folded}

-- rows in the order of their keys, each key once: folding them changes nothing
abbrev pub IsFold : List Agg → List Row → Type 0
IsFold aggs rows = folded aggs (rows ∷ []) ≡ rows

-- keys as entries that have nothing beside them
abbrev keyed : List (List ℕ) → List (List ℕ × Unit {0})
keyed keys = map (λ k. (k, tt)) keys

-- the keys of rows rise, each above those before it
abbrev pub AreRising : List Row → Type 0
AreRising rows = T (is_sorted byte_cmp (keyed (map (λ (row : Row). row.key) rows)))
