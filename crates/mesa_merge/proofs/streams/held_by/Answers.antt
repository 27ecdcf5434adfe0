use Rattle.std.proofs.Common.{◌+◌, ◌-◌, ◌^◌, length, min, take, sym, ◌∙◌, ap, add-one}
use Rattle.std.specs.Prelude.{sum_by}
use Rattle.std.proofs.lemmas.List.{take_all}
use Rattle.mesa_scan.specs.Cursors.{at_hand}
use Rattle.mesa_merge.specs.Hands.{hands_of}
use Rattle.mesa_merge.proofs.Held.{held_more}
use Rattle.mesa_merge.proofs.streams.held_by.Goals as goal

pub cursors-preserved : goal.cursors-preserved
cursors-preserved c =
    let cs = c.args.cursors.now in
    let n = c.cursors.cursor-index in
    c.saturating_add-held.ensures
    ∙ ap (λ k. min (c.cursors.held + k) (2 ^ 64 - 1)) (c.held.ensures ∙ ap (λ d. length (at_hand d)) c.cursor-item.is)
    ∙ held_more cs n c.cursors.held c.cursor-item.result c.cursors-test.true c.cursors.invariant
    ∙ ap (λ k. min (sum_by length (hands_of (take k cs))) (2 ^ 64 - 1)) (sym (add-one n))

pub returns : goal.returns
returns c = c.cursors.invariant ∙ ap (λ cs. min (sum_by length (hands_of cs)) (2 ^ 64 - 1)) (take_all c.cursors.cursor-index c.args.cursors.now c.cursors-test.false)
