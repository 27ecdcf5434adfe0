use Rattle.std.proofs.Common.{◌-◌, arith}
use Rattle.mesa_batch.proofs.LoadedRows.{begins_at}
use Rattle.mesa_batch.proofs.flat.begin_of.Goals as goal

pub returns-else-place-eq0 : goal.returns-else-place-eq0
returns-else-place-eq0 c = begins_at c.args.ends.now c.args.place (c.args.place - 1) (omega arith) c.requires
