use Rattle.std.proofs.Common.{◌≡◌, ◌≤◌, ℕ, [], List, length, get_or}
use Rattle.std.specs.Prelude.{Option}
use Rattle.std.specs.List.{AllByRecursion}
use Rattle.mesa_scan.specs.mesa_columns.declared.rows.Row.{Row}
use Rattle.mesa_delta.specs.Ahead.{AreAhead}
use Rattle.mesa_scan.specs.Cursors.{IsInput}
use Rattle.mesa_merge.specs.Faults.{faults_of}
use Rattle.mesa_merge.specs.Hands.{hands_of}
use Rattle.mesa_merge.specs.Inputs.{knowns_of, tolds_of}
use Rattle.mesa_merge.specs.Matches.{IsTree}
use Rattle.mesa_merge.specs.Merging.{AreReady, HasGivens}
use Rattle.mesa_merge.proofs.next.begin.Given as goal

abbrev pub invariant-inputs : goal.invariant-inputs
invariant-inputs g l = record {
  count : length l.cursors ≡ length l.inputs;
  tree : IsTree (hands_of l.cursors) l.tree;
  none : (j : ℕ) → l.i ≤ j → get_or (hands_of l.cursors) j [] ≡ [];
  given : (low : Option (List ℕ)) (givens : List (List Row)) → HasGivens g.R.FileReader.bytes low l.fn.inputs l.fn.cursors givens → HasGivens g.R.FileReader.bytes low l.inputs l.cursors givens;
  ready : AreReady l.i l.inputs l.cursors;
  known : knowns_of g.R.FileReader.bytes l.inputs ≡ knowns_of g.R.FileReader.bytes l.fn.inputs;
  kept : AllByRecursion (IsInput g.R.FileReader.bytes) l.fn.inputs → AllByRecursion (IsInput g.R.FileReader.bytes) l.inputs;
  ahead : AreAhead (tolds_of (knowns_of g.R.FileReader.bytes l.fn.inputs)) l.ahead;
  faults : faults_of g.R.FileReader.faults l.inputs ≡ faults_of g.R.FileReader.faults l.fn.inputs;
}
