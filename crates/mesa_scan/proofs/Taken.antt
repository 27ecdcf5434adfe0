-- A row at hand that is given.
use Rattle.std.proofs.Common.{◌≡◌, ℕ, List, [], ◌∷◌, ◌++◌, sym, ◌∙◌, ap, subst, length, drop, arith, append_assoc}
use Rattle.std.specs.Prelude.{Option}
use Rattle.mesa_delta.specs.mesa_columns.declared.rows.Row.{Row}
use Rattle.mesa_delta.specs.mesa_columns.declared.lifting.Lift.{Lift}
use Rattle.mesa_schema.specs.Lifting.{Lifts}
use Rattle.mesa_delta.specs.declared.input.Input.{Input}
use Rattle.mesa_scan.specs.declared.cursor.Cursor.{Cursor}
use Rattle.mesa_scan.specs.Cursors.{HasGivenFrom, IsStill, at_hand}

-- what is at hand without its first row
pub stepped : (old new rows : List Row) (row : Row) → old ≡ row ∷ rows → new ≡ drop 1 old → old ≡ row ∷ new
stepped old new rows row e is = e ∙ ap (λ rs. row ∷ rs) (sym (is ∙ ap (drop 1) e))

-- the row at hand is given
pub taken : {R : Type 0} (bytes : R → Option (List ℕ)) (low : Option (List ℕ)) (i : Input R) (old new : Cursor) (given : List Row) (row : Row) → HasGivenFrom bytes low i old given → at_hand old ≡ row ∷ at_hand new → IsStill old new
    → HasGivenFrom bytes low i new (given ++ row ∷ [])
taken bytes low i old new given row h hand still = record {
  start = h.start;
  parts = h.parts;
  input = h.input;
  lineage = h.lineage;
  lifts = subst (λ (l : Lift). Lifts l i.evolving.value i.epoch) (sym still.lift) h.lifts;
  key = still.low ∙ h.key;
  none = h.none;
  next = still.next ∙ h.next;
  within = omega (arith, still.next, h.within);
  few = omega (arith, h.few, ap length hand);
  blocks = h.blocks;
  rise = h.rise;
  last = still.block ∙ h.last;
  rows = append_assoc given (row ∷ []) (at_hand new) ∙ ap (λ rows. given ++ rows) (sym hand) ∙ h.rows;
  read = h.read;
  whole = h.whole;
  before = h.before;
  again = h.again;
}

-- none was at hand
pub not_taken : {R : Type 0} (bytes : R → Option (List ℕ)) (low : Option (List ℕ)) (i : Input R) (old new : Cursor) (given : List Row) → HasGivenFrom bytes low i old given → at_hand old ≡ [] → at_hand new ≡ [] → IsStill old new
    → HasGivenFrom bytes low i new given
not_taken bytes low i old new given h was now still = record {
  start = h.start;
  parts = h.parts;
  input = h.input;
  lineage = h.lineage;
  lifts = subst (λ (l : Lift). Lifts l i.evolving.value i.epoch) (sym still.lift) h.lifts;
  key = still.low ∙ h.key;
  none = h.none;
  next = still.next ∙ h.next;
  within = omega (arith, still.next, h.within);
  few = omega (arith, ap length now);
  blocks = h.blocks;
  rise = h.rise;
  last = still.block ∙ h.last;
  rows = ap (λ rows. given ++ rows) (now ∙ sym was) ∙ h.rows;
  read = h.read;
  whole = h.whole;
  before = h.before;
  again = h.again;
}
