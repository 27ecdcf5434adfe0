use Rattle.std.proofs.Common.{◌≡◌, ◌-◌, ◌≤◌, None}
use Rattle.mesa_compact.specs.mesa_delta_format.Places.{shorts_of}
use Rattle.mesa_split.specs.Sampling.{risen}
use Rattle.mesa_split.proofs.Cuts.{spread_to}
use Rattle.mesa_split.proofs.sampling.sample_index.Given as goal

abbrev pub invariant-parts : goal.invariant-parts
invariant-parts l = record {
  from : 1 ≤ l.part;
  to : l.part - 1 ≤ l.parts - 1;
  cuts : l.cuts ≡ risen None (spread_to l.parts (shorts_of l.index.entries) l.part);
}
