use Rattle.std.proofs.Common.{◌∷◌, refl}
use Rattle.mesa_merge.specs.Merged.{inputs_of}
use Rattle.mesa_examine.proofs.mesa_open_files.Counts.{unmoved_more}
use Rattle.mesa_compare.proofs.GivenBack.{answered, counted_by, one_after, same_given}
use Rattle.mesa_compare.proofs.cumulatives.against_input.Goals as goal

pub returns-clause-difference : goal.returns-clause-difference
returns-clause-difference g c = rw c.answer.ensures (answered c.merged_difference-compared.result _ _ _ c.merged_difference-compared.ensures.difference c.merged_difference-compared.ensures.never
    (λ o first contents b all told read indexed keeps. first contents b all told read indexed)
    (λ d never contents b all told read indexed keeps. absurd (never d refl contents b all told read indexed keeps)))

pub returns-clause-unmoved : goal.returns-clause-unmoved
returns-clause-unmoved g c = unmoved_more _ _ _ c.retire_all.ensures.unmoved c.retire_input.ensures.unmoved

pub returns-clause-counted : goal.returns-clause-counted
returns-clause-counted g c =
    let faults = g.D.Reader.FileReader.faults in
    let a = g.D.Disk.story c.args.disk.now in
    let b = g.D.Disk.story c.retire_all.new.disk in
    let d = g.D.Disk.story c.retire_input.new.disk in
    let input = c.merged_difference-compared.new.input in
    let inputs = inputs_of c.merged_difference-compared.new.merge in
    rw c.answer.ensures (counted_by faults c.merged_difference-compared.result (c.args.input ∷ inputs_of c.args.merge) (input ∷ inputs) a d c.merged_difference-compared.ensures.cause c.requires.fresh
    (one_after faults input inputs a b d (same_given faults _ _ a b c.into_inputs.ensures c.retire_all.ensures.given) c.retire_input.ensures.given))
