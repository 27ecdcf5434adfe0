use Rattle.mesa_bench.proofs.Following.{is_row}
use Rattle.mesa_bench.proofs.rows.rows_have_form.Goals as goal

pub returns : goal.returns
returns c = is_row c.reads_back.ensures.read
