-- An input from which the row at hand was taken.
use Rattle.std.proofs.Common.{◌≡◌, ℕ, List, [], ◌∷◌, ◌++◌, refl, ◌∙◌, ap, subst, drop}
use Rattle.std.specs.Prelude.{Option}
use Rattle.mesa_scan.specs.mesa_columns.declared.rows.Row.{Row}
use Rattle.mesa_scan.specs.mesa_columns.Columns.{Columns}
use Rattle.mesa_scan.specs.mesa_columns.Rows.{AreRowsOf, IsRowOf}
use Rattle.mesa_delta.specs.declared.input.Input.{Input}
use Rattle.mesa_scan.specs.declared.cursor.Cursor.{Cursor}
use Rattle.mesa_scan.specs.Cursors.{HasGivenFrom, IsStill, at_hand}
use Rattle.mesa_scan.proofs.Taken.{not_taken, stepped, taken}

-- what is given where the row at hand, if there is one, is given
pub stepped_given : {R : Type 0} (bytes : R → Option (List ℕ)) (low : Option (List ℕ)) (i : Input R) (old new : Cursor) (given : List Row) → HasGivenFrom bytes low i old given → at_hand new ≡ drop 1 (at_hand old) → IsStill old new → (after : List Row) × HasGivenFrom bytes low i new after
stepped_given bytes low i old new given h is still = by_hand (at_hand old) refl where
  by_hand : (hand : List Row) → at_hand old ≡ hand → (after : List Row) × HasGivenFrom bytes low i new after
  by_hand [] e = (given, not_taken bytes low i old new given h e (is ∙ ap (drop 1) e) still)
  by_hand (row ∷ rows) e = (given ++ row ∷ [], taken bytes low i old new given row h (stepped (at_hand old) (at_hand new) rows row e is) still)

form_behind : (s : Columns) (given : List Row) (row : Row) (rows : List Row) → AreRowsOf s (given ++ (row ∷ rows)) → IsRowOf s row
form_behind s [] row rows all = all.0
form_behind s (x ∷ xs) row rows all = form_behind s xs row rows all.1

-- the row at hand has the form
pub hand_form : (s : Columns) (given hand : List Row) (row : Row) (rows : List Row) → AreRowsOf s (given ++ hand) → hand ≡ row ∷ rows → IsRowOf s row
hand_form s given hand row rows all e = form_behind s given row rows (subst (λ xs. AreRowsOf s (given ++ xs)) e all)
