use Rattle.std.proofs.Common.{◌-◌, drop}
use Rattle.mesa_delta_format.specs.Places.{shorts_of}
use Rattle.mesa_delta_format.specs.Seeking.{NeverFall}
use Rattle.mesa_delta_format.proofs.place.never_fall.Given as goal

abbrev pub invariant-loop-i : goal.invariant-loop-i
invariant-loop-i l = record {
  onto : NeverFall (shorts_of (drop (l.i - 1) l.entries)) → NeverFall (shorts_of l.entries);
  from : NeverFall (shorts_of l.entries) → NeverFall (shorts_of (drop (l.i - 1) l.entries));
}
