use Rattle.std.proofs.Common.{◌≡◌, ◌∙◌, ap, arith, length}
use Rattle.std.proofs.lemmas.List.FromFn.{length-map-range_with_len}
use Rattle.mesa_block.proofs.Small.{bad_text_small, order_small}
use Rattle.mesa_block.proofs.reading.checked_rows.Goals as goal

pub overflow_cast-result : goal.overflow_cast-result
overflow_cast-result c = omega (arith, c.requires.few, bad_text_small c.args.kinds.now _ c.args.r c.in-Some.row c.requires.cells c.in-Some.ensures)

pub overflow_cast-result-in-Some-disordered : goal.overflow_cast-result-in-Some-disordered
overflow_cast-result-in-Some-disordered c =
    let many : length c.in_ok-rows.rows ≡ c.args.r = ap length c.in_ok-rows.ensures ∙ length-map-range_with_len _ 0 c.args.r in
    omega (arith, c.requires.few, many, order_small c.in_ok-rows.rows 0 c.in-Some-disordered.row c.in-Some-disordered.ensures)
