use Rattle.std.proofs.Common.{◌≡◌, ℕ, List, ◌++◌}
use Rattle.std.specs.Slice.Iter.{chunks_rest, chunks_size}
use Rattle.mesa_session.specs.mesa_filter.Hex.{hex_of}
use Rattle.mesa_print.specs.Printed.{Printed}
use Rattle.mesa_shell.proofs.verdict_line.put_key.Given as goal

-- the pieces so far are printed, and the rest of the key is left
abbrev pub invariant-pieces : goal.invariant-pieces
invariant-pieces g l = record {
  next : (goal.iterator-pieces g).can_next l.piece-iterator;
  ends : (goal.iterator-pieces g).is_finite l.piece-iterator;
  size : chunks_size l.piece-iterator ≡ 32;
  printed : (done : List ℕ) × Printed g.K.Sink.held g.K.Sink.faults l.fn.printer l.printer (hex_of done) × (done ++ chunks_rest l.piece-iterator ≡ l.key);
}
