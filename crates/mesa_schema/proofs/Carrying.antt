-- The law of folding with carrying.
use Rattle.std.proofs.Common.{◌≡◌, List, [], ◌∷◌, ◌++◌, map, sym, ◌∙◌, ap}
use Rattle.std.proofs.lemmas.List.{map-id}
use Rattle.std.proofs.lemmas.Simd.{map-map}
use Rattle.mesa_columns.specs.declared.rows.Row.{Row}
use Rattle.mesa_columns.specs.Columns.{Columns, aggs_of}
use Rattle.mesa_fold.specs.Folded.{folded, rows_of}
use Rattle.mesa_columns.specs.Rows.{AreRowsOf, IsRowOf}
use Rattle.mesa_schema.proofs.Forms.{lifts_folded}
use Rattle.mesa_columns.proofs.Lists.{all_append}
use Rattle.mesa_schema.proofs.PresentRows.{forms_more}
use Rattle.mesa_schema.specs.Carried.{AreTurnsOf, Changed, IsTurnOf, Recasted, Turn, carried, carried_once, columns_then, columns_through}
use Rattle.mesa_schema.proofs.Recasting.{recast_folds, recast_form}

-- ---- one turn

pub once_form : (s : Columns) (turn : Turn) (rows : List Row) → IsTurnOf s turn → AreRowsOf s rows → AreRowsOf (columns_then s turn) (carried_once s turn rows)
once_form s (Changed change) rows is all = forms_more s change rows is all
once_form s (Recasted r) rows is all = recast_form s r rows all

once_folds : (s : Columns) (turn : Turn) (parts : List (List Row)) → IsTurnOf s turn → AreRowsOf s (rows_of parts)
    → carried_once s turn (folded (aggs_of s) parts) ≡ folded (aggs_of (columns_then s turn)) (map (carried_once s turn) parts)
once_folds s (Changed change) parts is all = lifts_folded s (change ∷ []) parts (is, tt) all
once_folds s (Recasted r) parts is all = recast_folds s r parts is all

-- the rows of parts
all_back : (s : Columns) (xs ys : List Row) → AreRowsOf s (xs ++ ys) → AreRowsOf s ys
all_back s [] ys all = all
all_back s (x ∷ xs) ys all = all_back s xs ys all.1

all_front : (s : Columns) (xs ys : List Row) → AreRowsOf s (xs ++ ys) → AreRowsOf s xs
all_front s [] ys all = tt
all_front s (x ∷ xs) ys all = (all.0, all_front s xs ys all.1)

parts_form : (s : Columns) (turn : Turn) (parts : List (List Row)) → IsTurnOf s turn → AreRowsOf s (rows_of parts) → AreRowsOf (columns_then s turn) (rows_of (map (carried_once s turn) parts))
parts_form s turn [] is all = tt
parts_form s turn (part ∷ parts) is all =
    all_append (IsRowOf (columns_then s turn)) (carried_once s turn part) (rows_of (map (carried_once s turn) parts)) (once_form s turn part is (all_front s part (rows_of parts) all)) (parts_form s turn parts is (all_back s part (rows_of parts) all))

-- ---- all turns

pub carries_form : (s : Columns) (turns : List Turn) (rows : List Row) → AreTurnsOf s turns → AreRowsOf s rows → AreRowsOf (columns_through s turns) (carried s turns rows)
carries_form s [] rows are all = all
carries_form s (turn ∷ turns) rows are all = carries_form (columns_then s turn) turns (carried_once s turn rows) are.1 (once_form s turn rows are.0 all)

pub carries_folds : (s : Columns) (turns : List Turn) (parts : List (List Row)) → AreTurnsOf s turns → AreRowsOf s (rows_of parts)
    → carried s turns (folded (aggs_of s) parts) ≡ folded (aggs_of (columns_through s turns)) (map (carried s turns) parts)
carries_folds s [] parts are all = ap (folded (aggs_of s)) (sym (map-id parts))
carries_folds s (turn ∷ turns) parts are all =
    ap (carried (columns_then s turn) turns) (once_folds s turn parts are.0 all)
    ∙ carries_folds (columns_then s turn) turns (map (carried_once s turn) parts) are.1 (parts_form s turn parts are.0 all)
    ∙ ap (folded (aggs_of (columns_through (columns_then s turn) turns))) (map-map (carried (columns_then s turn) turns) (carried_once s turn) parts)
