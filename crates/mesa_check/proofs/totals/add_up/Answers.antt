use Rattle.std.proofs.Common.{◌∙◌, ap, take, List}
use Rattle.std.specs.Prelude.{flat_map}
use Rattle.std.proofs.lemmas.List.{take_all}
use Rattle.mesa_batch.specs.Totals.{abs_totals}
use Rattle.mesa_compare.specs.mesa_examine.Sums.{counted}
use Rattle.mesa_check.specs.Counted.{is_counted, rows_where}
use Rattle.mesa_check.specs.Held.{range_in}
use Rattle.mesa_check.specs.declared.testing.Test.{Test}
use Rattle.mesa_check.proofs.Lists.{all_item, flat_more}
use Rattle.mesa_check.proofs.totals.add_up.Goals as goal

pub loop-one-preserved : goal.loop-one-preserved
loop-one-preserved c = λ found n s all.
    let i = c.loop-one.one-index in
    let x = c.one-item.result in
    let tests = c.args.tests.now in
    let f = λ (t : Test). rows_where found n is_counted (range_in t.range) in
    c.in_ok-sums-2.ensures found n c.args.schema.now (flat_map f (take i tests)) (c.loop-one.invariant found n s all) (all_item _ tests i x c.loop-one-test.true c.one-item.is all)
    ∙ ap (λ rows. counted (abs_totals c.args.schema.now rows)) (flat_more f tests i x c.loop-one-test.true c.one-item.is)

pub returns : goal.returns
returns c = λ found n s all.
    c.loop-one.invariant found n s all
    ∙ ap (λ (ts : List Test). counted (abs_totals c.args.schema.now (flat_map (λ (t : Test). rows_where found n is_counted (range_in t.range)) ts))) (take_all c.loop-one.one-index c.args.tests.now c.loop-one-test.false)
