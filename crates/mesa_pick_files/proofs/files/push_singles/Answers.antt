use Rattle.std.proofs.Common.{◌++◌, ◌∙◌, ap, map}
use Rattle.mesa_catalog_table.proofs.Pushes.{pushed_all, pushed_more}
use Rattle.mesa_pick_files.specs.Files.{table_wanted, want_of}
use Rattle.mesa_pick_files.proofs.Filing.{single_wanted, singles_wanted}
use Rattle.mesa_pick_files.proofs.files.push_singles.Goals as goal

pub loop-single-preserved : goal.loop-single-preserved
loop-single-preserved c =
    let l = c.args.evolving.now.value in
    let more = c.in_ok-push_delta.ensures ∙ ap (λ d. map want_of c.loop-single.files.items ++ table_wanted l d) c.deref.ensures in
    pushed_more (single_wanted l) _ _ _ c.args.singles.now c.loop-single.single-index c.single-item.result c.loop-single-test.true c.single-item.is c.loop-single.invariant more

pub returns : goal.returns
returns c =
    let l = c.args.evolving.now.value in
    pushed_all (single_wanted l) _ _ c.args.singles.now c.loop-single.single-index c.loop-single-test.false c.loop-single.invariant
    ∙ ap (λ files. map want_of c.args.files.now.items ++ files) (singles_wanted l c.args.singles.now)
