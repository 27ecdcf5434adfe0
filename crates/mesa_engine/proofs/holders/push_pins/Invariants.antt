use Rattle.std.proofs.Common.{◌≡◌, ◌++◌, ◌+◌, ◌-◌, ◌≤◌, length, map, take, vec_len}
use Rattle.std.specs.Prelude.{vec_capacity}
use Rattle.mesa_engine.specs.declared.holders.Pin.{Pin}
use Rattle.mesa_engine.proofs.holders.push_pins.Given as goal

abbrev pub invariant-loop-pin : goal.invariant-loop-pin
invariant-loop-pin l = record {
  items : l.index.items ≡ l.fn.index.items ++ map (λ (p : Pin). p.hold) (take l.pin-index l.pins);
  room : vec_len l.index + (length l.pins - l.pin-index) ≤ vec_capacity l.index;
  capacity : vec_capacity l.index ≡ vec_capacity l.fn.index;
}
