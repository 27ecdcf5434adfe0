use Rattle.std.specs.Prelude.{None}
use Rattle.mesa_schema.specs.Changes.{columns_of}
use Rattle.mesa_merge.specs.Merged.{nothing_given}
use Rattle.mesa_file_tests.proofs.merge.wide.merge_over.Goals as goal

pub returns : goal.returns
returns g c =
    let s = columns_of c.expect-table.result.value in
    (None, None, s, nothing_given c.inputs_over-inputs.result.items, c.in-Ok.ensures.merged s c.inputs_over-inputs.ensures)
