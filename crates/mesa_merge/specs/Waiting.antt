-- Blocks of inputs that were read ahead.
use Rattle.std.specs.Prelude.{◌≡◌, ℕ, List, Option}
use Rattle.std.specs.List.{AllByRecursion}
use Rattle.mesa_scan.specs.mesa_columns.declared.rows.Row.{Row}
use Rattle.mesa_delta.specs.Ahead.{AreAhead, Untested}
use Rattle.mesa_delta.specs.declared.input.Input.{Input}
use Rattle.mesa_scan.specs.declared.cursor.Cursor.{Cursor}
use Rattle.mesa_scan.specs.Cursors.{IsInput}
use Rattle.mesa_merge.specs.Inputs.{knowns_of, tolds_of}
use Rattle.mesa_merge.specs.Merging.{AreReady, HasGivens}

-- Blocks of inputs were read ahead: what waits is of them, and all else is as it was. So nothing was given.
pub record AreWaiting {R : Type 0} (bytes : R → Option (List ℕ)) (cursors : List Cursor) (old new : List (Input R)) (was waiting : List Untested) : Type 0 where
  pub ahead : AreAhead (tolds_of (knowns_of bytes old)) was → AreAhead (tolds_of (knowns_of bytes old)) waiting
  pub given : (low : Option (List ℕ)) (givens : List (List Row)) → HasGivens bytes low old cursors givens → HasGivens bytes low new cursors givens
  pub ready : (n : ℕ) → AreReady n old cursors → AreReady n new cursors
  pub known : knowns_of bytes new ≡ knowns_of bytes old
  pub inputs : AllByRecursion (IsInput bytes) old → AllByRecursion (IsInput bytes) new
