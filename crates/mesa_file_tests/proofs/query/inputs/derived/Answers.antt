use Rattle.std.proofs.Common.{sym, subst}
use Rattle.std.specs.Prelude.{Some}
use Rattle.mesa_schema.specs.Changes.{Lineage, columns_of}
use Rattle.mesa_open_files.specs.Pins.{HasViewOf, view_at}
use Rattle.mesa_file_tests.proofs.query.inputs.derived.Goals as goal

pub returns : goal.returns
returns g c = λ s has. record { input = c.input_of-input.ensures.input; relation = subst (λ (k : Lineage). HasViewOf s (columns_of k) (view_at k (Some 0))) (sym c.input_of-input.ensures.table) has }
