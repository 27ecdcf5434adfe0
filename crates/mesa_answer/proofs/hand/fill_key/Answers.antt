use Rattle.std.proofs.Common.{◌≡◌, ◌∙◌, ◌≤◌, arith, ap, drop, get_or, sym}
use Rattle.std.specs.Prelude.{slice_get}
use Rattle.std.specs.Option.{option_copied}
use Rattle.mesa_key.specs.Columns.{ColumnsLeft}
use Rattle.mesa_key.specs.Spelling.{columns_of}
use Rattle.mesa_answer.proofs.ColumnsAt.{column_at, column_more, column_same, left_behind}
use Rattle.mesa_answer.proofs.hand.fill_key.Goals as goal
use Rattle.mesa_answer.proofs.hand.fill_key.Goals.{else-place-next, in-Some+in_ok-extend_from_slice, in_default, then-place-next}

pub loop-place-preserved : goal.loop-place-preserved
loop-place-preserved c =
    let places = c.args.places.now in
    let all = columns_of c.args.kinds.now c.args.key.now in
    let index = c.loop-place.place-index in
    let place = get_or places index 0 in
    let rest = c.if-place-next.rest in
    let passed = c.if-place-next.next in
    let left : (columns_of rest.kinds rest.bytes ≡ drop passed all) × (passed ≤ place) = elim c.if-place-next.branch [
      | then-place-next w ↦ (ap (λ (r : ColumnsLeft). columns_of r.kinds r.bytes) (w.rest-is ∙ w.of-rest-then-place-next.ensures) ∙ sym (ap (λ n. drop n all) w.next-is), omega (arith, w.next-is))
      | else-place-next w ↦ (ap (λ (r : ColumnsLeft). columns_of r.kinds r.bytes) w.rest-is ∙ c.loop-place.invariant.left ∙ sym (ap (λ n. drop n all) w.next-is), omega (arith, w.next-is, w.if-place-next.false))
    ] in
    let at : option_copied c.take_column.result ≡ slice_get all place = c.take_column.ensures.column ∙ column_at passed place all _ left.0 left.1 in
    record {
      all = elim c.match-take_column.branch [
        | in-Some+in_ok-extend_from_slice w ↦
            column_more places all c.loop-place.found.items c.match-take_column.found.items _ index w.in-Some.column.now c.loop-place-test.true (sym at ∙ ap option_copied w.in-Some.is) (ap (λ v. v.items) w.found-is ∙ w.in_ok-extend_from_slice.ensures.items) c.loop-place.invariant.all
        | in_default w ↦
            column_same places all c.loop-place.found.items c.match-take_column.found.items _ index c.loop-place-test.true (sym at ∙ ap option_copied w.in_default.is) (ap (λ v. v.items) w.found-is) c.loop-place.invariant.all
      ];
      left = c.take_column.ensures.rest ∙ left_behind passed place all _ left.0 left.1;
      spelled = c.take_column.ensures.spelled;
    }
