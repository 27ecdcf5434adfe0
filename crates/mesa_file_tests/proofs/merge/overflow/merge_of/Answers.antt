use Rattle.std.specs.Prelude.{None}
use Rattle.mesa_schema.specs.Changes.{columns_of}
use Rattle.mesa_merge.specs.Merged.{nothing_given}
use Rattle.mesa_file_tests.proofs.Tasks.{opened_inputs}
use Rattle.mesa_file_tests.proofs.merge.overflow.merge_of.Goals as goal

pub returns : goal.returns
returns g c =
    let l = c.expect-table.result.value in
    (None, None, columns_of l, nothing_given c.inputs_of-inputs.result.items, c.in-Ok.ensures.merged (columns_of l) (opened_inputs g.R.FileReader.bytes _ _ l c.inputs_of-inputs.result.items c.inputs_of-inputs.ensures))
