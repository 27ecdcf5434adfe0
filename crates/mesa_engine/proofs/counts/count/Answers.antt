use Rattle.std.proofs.Common.{◌≡◌, ◌∙◌, ◌+◌, ◌++◌, ap, arith, replicate, set, slice_index_or}
use Rattle.mesa_engine.proofs.Padded.{got, padded}
use Rattle.mesa_engine.proofs.counts.count.Goals as goal

pub returns-clause-counted : goal.returns-clause-counted
returns-clause-counted c =
    let counts = c.args.given.now.items in
    let n = c.saturating_sub-missing.result in
    let now = c.index_mut.result.now in
    let items : c.pad.new.given.items ≡ counts ++ replicate n 0 = c.pad.ensures ∙ ap (λ xs. xs ++ replicate n 0) c.reserve.ensures.items in
    let len = c.args.given.now.ok.0 in
    let one : now + 1 ≡ _ = ap (λ v. v + 1) (got counts c.args.session n now (omega (arith, len, c.len.ensures, c.saturating_sub-missing.ensures)) (c.index_mut.ensures.value ∙ ap (λ xs. slice_index_or xs c.args.session now) items)) in
    ap (λ xs. set xs c.args.session (now + 1)) items ∙ padded counts c.args.session n (now + 1) (omega (arith, len, c.len.ensures, c.saturating_sub-missing.ensures)) (omega (arith, len, c.len.ensures, c.saturating_sub-missing.ensures)) one
