use Rattle.std.proofs.Common.{◌≡◌, ◌∙◌, ap, sym, length, arith, Some}
use Rattle.std.proofs.lemmas.Bool.{OnTrue_from, ltb-true}
use Rattle.std.proofs.lemmas.Bool.Decides.{nat_tests}
use Rattle.std.proofs.lemmas.Option.{slice_get-get_or}
use Rattle.mesa_pick_files.proofs.Ranging.{has_at}
use Rattle.mesa_pick_files.proofs.ranges.is_held.Goals.{then-range-from, else-range-from}
use Rattle.mesa_pick_files.proofs.ranges.is_held.Goals as goal

pub returns-then-range-to : goal.returns-then-range-to
returns-then-range-to g c =
    let xs = c.args.ranges.now in
    let place = c.args.place in
    let x = c.in-Some.range.now in
    let found = slice_get-get_or xs place x (ltb-true place (length xs) (sym c.in-Some.ensures.lookup.0)) ∙ ap Some (sym c.in-Some.ensures.lookup.1) in
    let first : x.from ≡ c.args.from = elim c.if-range-from.branch [ then-range-from w ↦ w.if-range-from.true | else-range-from w ↦ (let same = sym w.value-is ∙ c.if-range-to.true in grind (arith, nat_tests)) ] in
    let last : x.to ≡ c.args.to = elim c.if-range-from.branch [ then-range-from w ↦ (let same = sym w.value-is ∙ c.if-range-to.true in grind (arith, nat_tests)) | else-range-from w ↦ (let same = sym w.value-is ∙ c.if-range-to.true in grind (arith, nat_tests)) ] in
    OnTrue_from c.is_some.result _ (λ some. has_at xs place c.args.from c.args.to x found first last (sym c.is_some.ensures ∙ some))
