use Rattle.std.proofs.Common.{◌≤◌, drop}
use Rattle.mesa_delta_format.specs.Places.{Follow}
use Rattle.mesa_delta_format.proofs.place.follow.Given as goal

abbrev pub invariant-loop-entry : goal.invariant-loop-entry
invariant-loop-entry l = record {
  within : l.at ≤ l.place;
  onto : Follow l.at (drop l.entry-index l.entries) l.place → Follow 0 l.entries l.place;
  from : Follow 0 l.entries l.place → Follow l.at (drop l.entry-index l.entries) l.place;
}
