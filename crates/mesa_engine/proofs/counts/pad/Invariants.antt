use Rattle.std.proofs.Common.{◌≡◌, ◌++◌, ◌+◌, ◌-◌, ◌≤◌, replicate, vec_len}
use Rattle.std.specs.Prelude.{vec_capacity}
use Rattle.mesa_engine.proofs.counts.pad.Given as goal

abbrev pub invariant-loop : goal.invariant-loop
invariant-loop l = record {
  items : l.given.items ≡ l.fn.given.items ++ replicate l.counter 0;
  room : vec_len l.given + (l.missing - l.counter) ≤ vec_capacity l.given;
}
