use Rattle.std.proofs.Common.{◌≡◌, ◌++◌, map, take}
use Rattle.mesa_commit.specs.Holding.{dropped_at, freed, ids_of}
use Rattle.mesa_engine.specs.Meaning.{holds_by}
use Rattle.mesa_engine.proofs.trash.free_gone.Given as goal

abbrev pub invariant-loop-id : goal.invariant-loop-id
invariant-loop-id l = l.ids.items ≡ l.fn.ids.items ++ ids_of (freed (holds_by l.holders) (map (dropped_at l.position) (take l.id-index l.gone)))
