-- What holds of filtered rows.
use Rattle.std.specs.Prelude.{◌≡◌, List, map}
use Rattle.mesa_fold.specs.mesa_value.declared.Agg.{Agg}
use Rattle.mesa_fold.specs.mesa_columns.declared.rows.Row.{Row}
use Rattle.mesa_fold.specs.mesa_columns.Columns.{Columns}
use Rattle.mesa_fold.specs.Folded.{folded}
use Rattle.mesa_filter.specs.declared.terms.Term.{Term}
use Rattle.mesa_filter.specs.Filter.{filtered}

-- Rows may be filtered by their keys before folding or after it.
abbrev pub FiltersFolds : Type 0
FiltersFolds = (s : Columns) (terms : List Term) (aggs : List Agg) (parts : List (List Row)) → filtered s terms (folded aggs parts) ≡ folded aggs (map (filtered s terms) parts)
