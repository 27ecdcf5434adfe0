use Rattle.std.proofs.Common.{ap}
use Rattle.mesa_schema.specs.Changes.{Lineage, columns_of}
use Rattle.mesa_file_tests.proofs.query.inputs.own.Goals as goal

pub returns : goal.returns
returns g c = λ view. record { input = c.input_of-input.ensures.input; relation = ap (λ (k : Lineage). columns_of k) c.input_of-input.ensures.table }
