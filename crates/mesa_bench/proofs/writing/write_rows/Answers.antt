use Rattle.mesa_bench.specs.Made.{rows_below}
use Rattle.mesa_bench.proofs.Following.{some_rows}
use Rattle.mesa_bench.proofs.writing.write_rows.Goals as goal

pub finish-requires-after_bounds : goal.finish-requires-after_bounds
finish-requires-after_bounds c κs = (rows_below c.args.rows, some_rows c.args.rows c.requires.some, c.in-Ok-push_rows.ensures)
