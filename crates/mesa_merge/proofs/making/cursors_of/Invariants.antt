use Rattle.std.proofs.Common.{◌≡◌, ℕ, [], get_or, take}
use Rattle.mesa_merge.specs.Hands.{hands_of}
use Rattle.mesa_merge.specs.Merged.{nothing_given}
use Rattle.mesa_merge.specs.Merging.{HasGivens}
use Rattle.mesa_merge.proofs.making.cursors_of.Given as goal

abbrev pub invariant-inputs : goal.invariant-inputs
invariant-inputs g l = record {
  given : HasGivens g.R.FileReader.bytes l.low (take l.i l.inputs) l.cursors.items (nothing_given (take l.i l.inputs));
  none : (j : ℕ) → get_or (hands_of l.cursors.items) j [] ≡ [];
}
