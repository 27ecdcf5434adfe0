use Rattle.std.proofs.Common.{◌≡◌, ◌+◌, ◌<◌, ◌∙◌, ap, arith, length, min}
use Rattle.std.proofs.lemmas.Result.{IfOk-weaker}
use Rattle.mesa_compact.specs.mesa_delta_format.Places.{shorts_of}
use Rattle.mesa_split.specs.Sampling.{indexes_of}
use Rattle.mesa_split.proofs.Cuts.{cuts_finer, cuts_rise}
use Rattle.mesa_split.proofs.sampling.piece_cuts.Goals as goal

pub returns-in-Some-clause-finer : goal.returns-in-Some-clause-finer
returns-in-Some-clause-finer g c =
    let pieces = c.pieces_of-pieces.result in
    let fits : pieces < 4294967296 = omega arith in
    let parts : c.saturating_add.result ≡ min (length c.args.cuts.now + 1) 18446744073709551615 = c.saturating_add.ensures ∙ ap (λ n. min (n + 1) 18446744073709551615) c.len.ensures in
    IfOk-weaker c.sample_index.result _ _ (λ finer is. cuts_finer (indexes_of c.args.inputs.now) c.in-Some.index.now c.saturating_add.result pieces c.args.cuts.now finer c.pieces_of-pieces.ensures c.if-pieces-gt0.true fits parts c.in-Some.ensures.most is) c.sample_index.ensures

pub returns-in-Some-clause-rise : goal.returns-in-Some-clause-rise
returns-in-Some-clause-rise g c = IfOk-weaker c.sample_index.result _ _ (λ cuts is. cuts_rise c.pieces_of-pieces.result (shorts_of c.in-Some.index.now.entries) cuts is) c.sample_index.ensures
