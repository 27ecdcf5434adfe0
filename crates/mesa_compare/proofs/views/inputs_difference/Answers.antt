use Rattle.std.proofs.Common.{◌∷◌, [], refl}
use Rattle.mesa_examine.proofs.mesa_open_files.Counts.{unmoved_more}
use Rattle.mesa_compare.proofs.GivenBack.{answered, counted_by, one_after}
use Rattle.mesa_compare.proofs.views.inputs_difference.Goals as goal

pub returns-clause-difference : goal.returns-clause-difference
returns-clause-difference g c = rw c.answer.ensures (answered c.grouped_difference-compared.result _ _ _ c.grouped_difference-compared.ensures.difference c.grouped_difference-compared.ensures.never
    (λ o first b d all mine read indexed beside told keeps. first b d all mine read indexed beside told)
    (λ e never b d all mine read indexed beside told keeps. absurd (never e refl b d all mine read indexed beside told keeps)))

pub returns-clause-unmoved : goal.returns-clause-unmoved
returns-clause-unmoved g c = unmoved_more _ _ _ c.retire_input.ensures.unmoved c.retire_input-2.ensures.unmoved

pub returns-clause-counted : goal.returns-clause-counted
returns-clause-counted g c =
    let faults = g.D.Reader.FileReader.faults in
    let a = g.D.Disk.story c.args.disk.now in
    let b = g.D.Disk.story c.retire_input.new.disk in
    let d = g.D.Disk.story c.retire_input-2.new.disk in
    let table = c.grouped_difference-compared.new.table in
    let own = c.grouped_difference-compared.new.own in
    rw c.answer.ensures (counted_by faults c.grouped_difference-compared.result (c.args.table ∷ c.args.own ∷ []) (table ∷ own ∷ []) a d c.grouped_difference-compared.ensures.cause c.requires.fresh
    (one_after faults table (own ∷ []) a b d c.retire_input.ensures.given c.retire_input-2.ensures.given))
