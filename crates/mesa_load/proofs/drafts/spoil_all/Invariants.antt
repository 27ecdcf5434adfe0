use Rattle.std.proofs.Common.{◌≡◌, vec_len}
use Rattle.std.specs.List.{AllByRecursion}
use Rattle.mesa_load.specs.Collected.{IsBegun}
use Rattle.mesa_load.proofs.drafts.spoil_all.Given as goal

abbrev pub invariant-files : goal.invariant-files
invariant-files g l = record {
  begun : AllByRecursion (IsBegun g.B.Draft.Draft.bytes g.B.Draft.Draft.id_of g.B.Draft.Draft.faults) l.files.items;
  quiet : g.B.Bench.faults l.bench ≡ g.B.Bench.faults l.initial.bench;
}

abbrev pub decreases-files : goal.decreases-files
decreases-files g l = vec_len l.files
