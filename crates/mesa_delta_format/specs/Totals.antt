-- Aggregates with one row more.
use Rattle.std.specs.Prelude.{ℤ, List, [], ◌∷◌}
use Rattle.mesa_block.specs.mesa_value.declared.Agg.{Agg}
use Rattle.mesa_block.specs.mesa_value.Agg.{combined}
use Rattle.mesa_delta_format.specs.Summary.{noted}

-- each column's aggregate with the row's value; without a value it stays
abbrev pub added : List Agg → List ℤ → List ℤ → List ℤ
added [] totals values = totals
added (agg ∷ aggs) [] values = []
added (agg ∷ aggs) (total ∷ totals) [] = total ∷ totals
added (agg ∷ aggs) (total ∷ totals) (value ∷ values) = noted agg (combined agg total value) ∷ added aggs totals values
