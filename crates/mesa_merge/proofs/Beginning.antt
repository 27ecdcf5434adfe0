-- Inputs whose first blocks are read.
use Rattle.std.proofs.Common.{◌≡◌, ℕ, List, [], sym, subst, length, get_or}
use Rattle.std.specs.Prelude.{Option}
use Rattle.mesa_scan.specs.mesa_columns.declared.rows.Row.{Row}
use Rattle.mesa_scan.specs.mesa_columns.Columns.{Columns}
use Rattle.mesa_scan.specs.mesa_fold.Laws.{AreUnder}
use Rattle.mesa_scan.specs.mesa_columns.Rows.{AreRowsOf}
use Rattle.mesa_delta.specs.declared.input.Input.{Input}
use Rattle.mesa_scan.specs.declared.cursor.Cursor.{Cursor}
use Rattle.mesa_merge.specs.Inputs.{AreAlike, knowns_of}
use Rattle.mesa_merge.specs.Merging.{AreReady, HasGivens, IsMerging}

pub begun_merging : {R : Type 0} (bytes : R → Option (List ℕ)) (low : Option (List ℕ)) (s : Columns) (inputs : List (Input R)) (cursors : List Cursor) (givens : List (List Row)) → AreAlike s (knowns_of bytes inputs) → HasGivens bytes low inputs cursors givens → ((j : ℕ) → get_or givens j [] ≡ [])
    → AreReady (length inputs) inputs cursors → IsMerging bytes low s inputs cursors givens
begun_merging bytes low s inputs cursors givens alike given none ready = record {
  alike = alike;
  given = given;
  ready = ready;
  formed = λ j. subst (AreRowsOf s) (sym (none j)) tt;
  rising = λ j row rows hand k. subst (AreUnder row.key) (sym (none k)) tt;
}
