use Rattle.std.proofs.Common.{refl}
use Rattle.mesa_merge.specs.Merged.{inputs_of}
use Rattle.mesa_compare.proofs.GivenBack.{answered, counted_by, same_given}
use Rattle.mesa_compare.proofs.cumulatives.against_none.Goals as goal

pub returns-clause-difference : goal.returns-clause-difference
returns-clause-difference g c = rw c.answer.ensures (answered c.first_key-compared.result _ _ _ c.first_key-compared.ensures.difference c.first_key-compared.ensures.never
    (λ o first s givens contents h nothing told keeps. first s givens contents h nothing told)
    (λ d never s givens contents h nothing told keeps. absurd (never d refl s givens contents h told keeps)))

pub returns-clause-counted : goal.returns-clause-counted
returns-clause-counted g c =
    let faults = g.D.Reader.FileReader.faults in
    let a = g.D.Disk.story c.args.disk.now in
    let b = g.D.Disk.story c.retire_all.new.disk in
    rw c.answer.ensures (counted_by faults c.first_key-compared.result (inputs_of c.args.merge) (inputs_of c.first_key-compared.new.merge) a b c.first_key-compared.ensures.cause c.requires.fresh
    (same_given faults _ _ a b c.into_inputs.ensures c.retire_all.ensures.given))
