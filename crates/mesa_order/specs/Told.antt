-- The values that are asked where what is told is in which order a query is answered.
use Rattle.std.specs.Prelude.{ℕ, List, map, filter, not}
use Rattle.std.specs.List.{enumerate_from}
use Rattle.mesa_model.specs.mesa_columns.declared.columns.ValueColumn.{ValueColumn}
use Rattle.mesa_model.specs.mesa_columns.Columns.{is_replace}

-- the places, counted from one on, of the columns that aren't replace columns
abbrev pub kept_places : ℕ → List ValueColumn → List ℕ
kept_places n columns = map (λ (p : ℕ × ValueColumn). p.0) (filter (λ (p : ℕ × ValueColumn). not (is_replace p.1)) (enumerate_from n columns))
