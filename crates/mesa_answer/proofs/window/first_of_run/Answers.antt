use Rattle.std.proofs.Common.{◌≡◌, ◌+◌, ◌∷◌, [], ◌++◌, ◌∙◌, arith, get_or, sym}
use Rattle.std.proofs.lemmas.List.{take_more}
use Rattle.mesa_answer.proofs.Windows.{run_more}
use Rattle.mesa_answer.proofs.window.first_of_run.Goals as goal

pub loop-place-preserved : goal.loop-place-preserved
loop-place-preserved c =
    let places = c.args.places.now in
    let i = c.loop-place.place-index in
    let first = c.if-places-lt1.first in
    let here : get_or places i 0 ≡ first + i = omega (arith, c.if-place-next.false, c.loop-place.invariant.next) in
    record {
      run = take_more places i 0 c.loop-place-test.true ∙ (λ j. c.loop-place.invariant.run j ++ here j ∷ []) ∙ sym (run_more first i);
      next = omega (arith, c.loop-place.invariant.next);
      small = omega (arith, c.if-place-next.false, c.type_inv.places i);
    }
