use Rattle.std.proofs.Common.{ap}
use Rattle.mesa_schema.specs.Changes.{columns_of}
use Rattle.mesa_file_tests.proofs.merge.recasting.range_over.Goals as goal

pub returns : goal.returns
returns g c = ((c.input_of.ensures.input, ap columns_of c.input_of.ensures.table), tt)
