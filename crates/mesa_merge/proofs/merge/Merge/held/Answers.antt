use Rattle.std.proofs.Common.{◌-◌, ◌^◌, length, min, ◌∙◌, ap, arith}
use Rattle.std.specs.Prelude.{sum_by}
use Rattle.mesa_merge.specs.Hands.{hands_of}
use Rattle.mesa_merge.proofs.Held.{held_few}
use Rattle.mesa_merge.proofs.merge.Merge.held.Goals as goal

pub returns-clause-held : goal.returns-clause-held
returns-clause-held g c = c.held_by.ensures ∙ ap (λ cs. min (sum_by length (hands_of cs)) (2 ^ 64 - 1)) c.deref.ensures.value

pub returns-clause-few : goal.returns-clause-few
returns-clause-few g c = λ low high s givens h.
    omega (arith, c.held_by.ensures, ap (λ cs. sum_by length (hands_of cs)) c.deref.ensures.value, held_few g.R.FileReader.bytes low c.args.self.now.inputs.items c.args.self.now.cursors.items givens h.given)
