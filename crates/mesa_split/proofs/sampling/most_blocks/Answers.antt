use Rattle.std.proofs.Common.{◌≡◌, ◌+◌, ◌++◌, ◌∷◌, [], take, List, refl, sym, ap, subst, ◌∙◌}
use Rattle.mesa_compact.specs.mesa_delta_format.Indexed.{Indexed}
use Rattle.mesa_split.specs.Sampling.{HasMost, indexes_of}
use Rattle.mesa_split.proofs.Cuts.{index_more, most_step}
use Rattle.mesa_split.proofs.sampling.most_blocks.Goals as goal

pub inputs-init : goal.inputs-init
inputs-init g c = record { none = refl; some = tt }

pub inputs-preserved : goal.inputs-preserved
inputs-preserved g c =
    let inputs = c.args.inputs.now in
    let i = c.inputs.input-index in
    let y : Indexed = c.index.result.now in
    let r : Indexed = c.longer.result.now in
    let more : indexes_of (take i inputs) ++ y ∷ [] ≡ indexes_of (take (i + 1) inputs) =
    ap (λ (x : Indexed). indexes_of (take i inputs) ++ x ∷ []) c.index.ensures ∙ sym (index_more inputs i c.input-item.result c.inputs-test.true c.input-item.is) in
    record {
      none = tt;
      some = subst (λ (xs : List Indexed). HasMost xs r) more (most_step (indexes_of (take i inputs)) c.inputs.most y r c.inputs.invariant c.longer.ensures.alone c.longer.ensures.one c.longer.ensures.most);
    }
