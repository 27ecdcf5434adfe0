use Rattle.std.proofs.Common.{◌∙◌, None, ap}
use Rattle.std.proofs.lemmas.Result.{IfOk-weaker}
use Rattle.mesa_compact.specs.mesa_delta_format.Places.{shorts_of}
use Rattle.mesa_split.specs.Sampling.{indexes_of, risen, spread}
use Rattle.mesa_split.proofs.Cuts.{cuts_few, cuts_none, cuts_rise, cuts_some}
use Rattle.mesa_split.proofs.sampling.sample.Goals as goal

pub returns-in-Some-clause-cuts : goal.returns-in-Some-clause-cuts
returns-in-Some-clause-cuts g c =
    let shorts = shorts_of c.in-Some.index.now.entries in
    IfOk-weaker c.sample_index.result _ _ (λ cuts is. cuts_some (indexes_of c.args.inputs.now) c.in-Some.index.now c.args.parts cuts c.in-Some.ensures.most (is ∙ ap (λ n. risen None (spread n shorts)) c.from.ensures)) c.sample_index.ensures

pub returns-in-Some-clause-few : goal.returns-in-Some-clause-few
returns-in-Some-clause-few g c =
    let shorts = shorts_of c.in-Some.index.now.entries in
    IfOk-weaker c.sample_index.result _ _ (λ cuts is. cuts_few c.args.parts shorts cuts (is ∙ ap (λ n. risen None (spread n shorts)) c.from.ensures)) c.sample_index.ensures

pub returns-in-Some-clause-rise : goal.returns-in-Some-clause-rise
returns-in-Some-clause-rise g c = IfOk-weaker c.sample_index.result _ _ (λ cuts is. cuts_rise c.from.result (shorts_of c.in-Some.index.now.entries) cuts is) c.sample_index.ensures

pub returns-in-None-clause-cuts : goal.returns-in-None-clause-cuts
returns-in-None-clause-cuts g c = cuts_none (indexes_of c.args.inputs.now) c.args.parts _ c.in-None.ensures.none c.new.ensures
