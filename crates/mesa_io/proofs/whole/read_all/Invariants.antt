use Rattle.std.proofs.Common.{◌≡◌, ◌≤◌, ◌+◌, ◌-◌, take, vec_len}
use Rattle.std.specs.Io.KnownBytes.{Consumes}
use Rattle.mesa_io.proofs.whole.read_all.Given as goal

abbrev pub invariant-pieces : goal.invariant-pieces
invariant-pieces g l = record {
  taken : Consumes (g.S.Source.left l.fn.src) (g.S.Source.left l.src) (take l.filled l.bytes.items);
  within : l.filled ≤ vec_len l.bytes;
  few : l.filled ≤ l.max;
  quiet : g.S.Source.faults l.src ≡ g.S.Source.faults l.fn.src;
}

abbrev pub decreases-pieces : goal.decreases-pieces
decreases-pieces g l = (l.max + 1) - l.filled
