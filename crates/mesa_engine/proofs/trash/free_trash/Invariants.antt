use Rattle.std.proofs.Common.{◌≡◌, ◌++◌, take}
use Rattle.mesa_commit.specs.Holding.{freed, ids_of}
use Rattle.mesa_engine.specs.Meaning.{holds_by}
use Rattle.mesa_engine.proofs.trash.free_trash.Given as goal

abbrev pub invariant-loop-dropped : goal.invariant-loop-dropped
invariant-loop-dropped l = l.ids.items ≡ l.fn.ids.items ++ ids_of (freed (holds_by l.holders) (take l.dropped-index l.trash))
