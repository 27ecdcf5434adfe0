use Rattle.std.proofs.Common.{◌≡◌, [], List, sym, subst, ◌∙◌, false}
use Rattle.std.specs.Option.{option_copied}
use Rattle.std.specs.Prelude.{None}
use Rattle.mesa_schema.specs.mesa_columns.declared.rows.Row.{Row}
use Rattle.mesa_schema.specs.mesa_columns.Columns.{aggs_of}
use Rattle.mesa_schema.specs.mesa_fold.Folded.{folded, rows_of}
use Rattle.mesa_examine.specs.mesa_batch.Bound.{KeepsBound}
use Rattle.mesa_merge.specs.Inputs.{knowns_of, lifted_parts}
use Rattle.mesa_compare.specs.Difference.{first_difference}
use Rattle.mesa_view.proofs.mesa_answer.Results.{if_ok}
use Rattle.mesa_compare.specs.Compared.{present_if_any, present_parts}
use Rattle.mesa_examine.proofs.mesa_open_files.Counts.{counted_more, counted_then, unmoved_more}
use Rattle.mesa_compare.proofs.Openings.{all_told, none_damaged, opened_alike, opened_fresh, opened_inputs, parts_same}
use Rattle.mesa_compare.proofs.cumulatives.cumulative_difference.Goals as goal

-- ---- all files are opened

pub fold_difference-requires-clause-inputs : goal.fold_difference-requires-clause-inputs
fold_difference-requires-clause-inputs g c κs within =
    let bytes = g.D.Reader.FileReader.bytes in
    let faults = g.D.Reader.FileReader.faults in
    let told = (g.D.Disk.story c.args.disk.now).told in
    let alike = c.requires.alike in
    let have = rw c.in-None.is at c.in-Ok.ensures.opened in
    (alike.0, record { each = opened_inputs bytes faults told c.args.singles.now _ None have; alike = opened_alike bytes faults told alike.0 c.args.singles.now _ have alike.1 }, alike.2)

pub fold_difference-requires-clause-fresh : goal.fold_difference-requires-clause-fresh
fold_difference-requires-clause-fresh g c κs within =
    let have = rw c.in-None.is at c.in-Ok.ensures.opened in
    opened_fresh g.D.Reader.FileReader.bytes g.D.Reader.FileReader.faults (g.D.Disk.story c.args.disk.now).told c.args.singles.now _ None have

pub returns-in-None-clause-difference : goal.returns-in-None-clause-difference
returns-in-None-clause-difference g c = if_ok c.fold_difference.result _ _ (λ o first i s contents all is alike lifted has own keeps.
    let bytes = g.D.Reader.FileReader.bytes in
    let faults = g.D.Reader.FileReader.faults in
    let told = (g.D.Disk.story c.args.disk.now).told in
    let singles = c.args.singles.now in
    let inputs = c.in-Ok.field-0.inputs.items in
    let have = rw c.in-None.is at c.in-Ok.ensures.opened in
    let parts : lifted_parts (knowns_of bytes inputs) contents ≡ present_parts singles contents = parts_same bytes faults told singles inputs contents have in
    first i s contents all (c.in-Ok.ensures.unmoved.told ∙ is) (record { each = opened_inputs bytes faults told singles inputs None have; alike = opened_alike bytes faults told s singles inputs have alike }) lifted
    (all_told bytes faults told i is singles inputs contents have has) own (subst (λ (ps : List (List Row)). KeepsBound (aggs_of s) [] (rows_of ps)) (sym parts) keeps)
    ∙ (λ k. first_difference (folded (aggs_of s) (parts k)) (present_if_any (option_copied c.args.own) all))) c.fold_difference.ensures.difference

pub returns-in-None-clause-unmoved : goal.returns-in-None-clause-unmoved
returns-in-None-clause-unmoved g c = unmoved_more _ _ _ c.in-Ok.ensures.unmoved c.fold_difference.ensures.unmoved

pub returns-in-None-clause-counted : goal.returns-in-None-clause-counted
returns-in-None-clause-counted g c = counted_more _ _ _ _ c.in-Ok.ensures.counted c.fold_difference.ensures.counted

-- ---- one isn't the recorded one

pub returns-in-Some-clause-difference : goal.returns-in-Some-clause-difference
returns-in-Some-clause-difference g c = λ i s contents all is alike lifted has own keeps.
    let have = rw c.in-Some.is at c.in-Ok.ensures.opened in
    absurd (none_damaged g.D.Reader.FileReader.bytes g.D.Reader.FileReader.faults (g.D.Disk.story c.args.disk.now).told i is c.args.singles.now c.in-Ok.field-0.inputs.items contents c.in-Some.field-0 have has)

pub returns-in-Some-clause-unmoved : goal.returns-in-Some-clause-unmoved
returns-in-Some-clause-unmoved g c = unmoved_more _ _ _ c.in-Ok.ensures.unmoved c.retire_all.ensures.unmoved

pub returns-in-Some-clause-counted : goal.returns-in-Some-clause-counted
returns-in-Some-clause-counted g c =
    let fresh = opened_fresh g.D.Reader.FileReader.bytes g.D.Reader.FileReader.faults (g.D.Disk.story c.args.disk.now).told c.args.singles.now c.in-Ok.field-0.inputs.items c.in-Ok.field-0.damage c.in-Ok.ensures.opened in
    counted_then (g.D.Disk.story c.args.disk.now) (g.D.Disk.story c.open_all.new.disk) (g.D.Disk.story c.retire_all.new.disk) false c.in-Ok.ensures.counted c.retire_all.ensures.given.calls (c.retire_all.ensures.given.quiet fresh)
