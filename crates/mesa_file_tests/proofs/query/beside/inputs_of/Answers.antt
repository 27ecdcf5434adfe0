use Rattle.std.proofs.Common.{◌∷◌, [], sym, subst}
use Rattle.std.specs.Prelude.{None}
use Rattle.std.specs.List.{AllByRecursion}
use Rattle.mesa_schema.specs.Changes.{columns_of}
use Rattle.mesa_open_files.proofs.Retired.{all_append}
use Rattle.mesa_open_files.specs.Pins.{IsPinnedInput}
use Rattle.mesa_open_files.specs.declared.querying.PinnedInput.{PinnedInput}
use Rattle.mesa_file_tests.proofs.query.beside.inputs_of.Goals as goal

pub each_source-preserved : goal.each_source-preserved
each_source-preserved g c =
    let s = columns_of c.args.table.now.value in
    subst (AllByRecursion (IsPinnedInput g.R.FileReader.bytes s None)) (sym c.more.ensures)
    (all_append (λ (i : PinnedInput g.row.R.Denot). IsPinnedInput g.R.FileReader.bytes s None i) c.each_source.inputs.items (c.own.result ∷ []) c.each_source.invariant (c.own.ensures None, tt))
