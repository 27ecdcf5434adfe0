use Rattle.mesa_schema.specs.Changes.{columns_of}
use Rattle.mesa_file_tests.proofs.merge.recasting.range_of.Goals as goal

pub returns-in-None : goal.returns-in-None
returns-in-None g c = c.empty_range.ensures (columns_of c.args.table.now.value)
