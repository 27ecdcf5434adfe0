-- Laws of cut rows.
use Rattle.std.specs.Prelude.{◌≡◌, ℕ, List, Option, None, IsTrue}
use Rattle.mesa_delta.specs.mesa_value.declared.Agg.{Agg}
use Rattle.mesa_delta.specs.mesa_columns.declared.rows.Row.{Row}
use Rattle.mesa_delta.specs.mesa_fold.Folded.{folded, rows_of}
use Rattle.mesa_delta.specs.mesa_columns.Rows.{keys_rise}
use Rattle.mesa_scan.specs.Cut.{CutsRise, cut, cut_each, cuts_from, folds_from}

-- Rows may be cut before folding or after it.
abbrev pub CutsFold : Type 0
CutsFold = (aggs : List Agg) (low high : Option (List ℕ)) (parts : List (List Row)) → cut low high (folded aggs parts) ≡ folded aggs (cut_each low high parts)

-- Rows whose keys rise are their parts at rising cuts, one after the other.
abbrev pub CutsWhole : Type 0
CutsWhole = (low : Option (List ℕ)) (cuts : List (List ℕ)) (rows : List Row) → CutsRise low cuts → IsTrue (keys_rise rows) → rows_of (cuts_from low cuts rows) ≡ cut low None rows

-- Cut to no end, rows stay.
abbrev pub CutsNone : Type 0
CutsNone = (rows : List Row) → cut None None rows ≡ rows

-- The folds of the parts, one after the other, are the fold of all, for every rising list of cuts.
abbrev pub FoldsJoin : Type 0
FoldsJoin = (aggs : List Agg) (cuts : List (List ℕ)) (parts : List (List Row)) → CutsRise None cuts → rows_of (folds_from aggs None cuts parts) ≡ folded aggs parts
