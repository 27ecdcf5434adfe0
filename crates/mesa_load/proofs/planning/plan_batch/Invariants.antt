use Rattle.std.proofs.Common.{List, take}
use Rattle.mesa_batch.specs.Batch.{Placed}
use Rattle.mesa_load.specs.Plans.{IsBatched, IsPlan}
use Rattle.mesa_load.proofs.planning.plan_batch.Given as goal

abbrev pub invariant-tables : goal.invariant-tables
invariant-tables l = (rows : List Placed) → IsBatched l.glance rows l.batch → IsPlan rows (take l.table l.glance.tables) l.plan
