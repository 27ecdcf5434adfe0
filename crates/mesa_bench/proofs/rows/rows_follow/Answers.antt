use Rattle.mesa_bench.proofs.Following.{may_follow}
use Rattle.mesa_bench.proofs.rows.rows_follow.Goals as goal

pub returns : goal.returns
returns c = may_follow c.orders_bytes_as_keys.ensures c.reads_back.ensures.read c.one_row_more.ensures.last c.one_row_more.ensures.rises c.one_row_more.ensures.combined
