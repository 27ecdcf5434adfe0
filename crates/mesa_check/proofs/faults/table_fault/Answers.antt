use Rattle.std.proofs.Common.{◌≡◌, ◌≤◌, ◌∙◌, ap, sym, subst, map, true, List}
use Rattle.std.specs.Prelude.{slice_get}
use Rattle.std.specs.List.{AllByRecursion}
use Rattle.std.proofs.lemmas.Result.{IfOk-weaker}
use Rattle.mesa_store_spec.specs.Shape.{IsWithinBound}
use Rattle.mesa_schema.specs.Changes.{epoch_of}
use Rattle.mesa_catalog_table.specs.Meaning.{meta_of}
use Rattle.mesa_check.specs.Ranges.{Range}
use Rattle.mesa_check.specs.Held.{delta_of, range_in}
use Rattle.mesa_check.specs.Shown.{is_found_in}
use Rattle.mesa_check.specs.Tested.{IsRead, range_of}
use Rattle.mesa_check.specs.declared.range.Held.{Held}
use Rattle.mesa_check.specs.declared.testing.Test.{Test}
use Rattle.mesa_check.proofs.Told.{all_have_rows, all_read, epochs_held, faults_held, faults_tested, ranges_all, tests_all, within_held}
use Rattle.mesa_check.proofs.faults.table_fault.Goals as goal

pub test_ranges-requires-clause-totals : goal.test_ranges-requires-clause-totals
test_ranges-requires-clause-totals g c = λ _ _.
    let t = c.args.table.now in
    let held = c.requires in
    subst (AllByRecursion (λ (r : Held). IsWithinBound (delta_of r))) (sym c.deref.ensures.value) (ranges_all (λ (r : Range). IsWithinBound r.delta) t c.in_ok-ranges.ranges.items c.in_ok-ranges.ensures (within_held held.0 t held.1))

pub test_ranges-requires-clause-epochs : goal.test_ranges-requires-clause-epochs
test_ranges-requires-clause-epochs g c = λ _ _.
    let t = c.args.table.now in
    let held = c.requires in
    subst (AllByRecursion (λ (r : Held). (delta_of r).epoch ≤ epoch_of t.evolving.value)) (sym c.deref.ensures.value) (ranges_all (λ (r : Range). r.delta.epoch ≤ epoch_of t.evolving.value) t c.in_ok-ranges.ranges.items c.in_ok-ranges.ensures (epochs_held held.0 t held.1))

pub first_fault-requires-clause-epochs : goal.first_fault-requires-clause-epochs
first_fault-requires-clause-epochs g c κs within =
    let t = c.args.table.now in
    let held = c.requires in
    let are = ap (λ (ts : List Test). map range_in (map range_of ts)) c.deref-3.ensures.value ∙ ap (map range_in) (c.in_ok-tests.ensures.ranges ∙ c.deref.ensures.value) ∙ c.in_ok-ranges.ensures in
    tests_all (λ (r : Range). r.delta.epoch ≤ epoch_of t.evolving.value) t c.deref-3.result.now are (epochs_held held.0 t held.1)

pub returns-clause-first : goal.returns-clause-first
returns-clause-first g c =
    IfOk-weaker c.first_fault.result _ _ (λ o first next i found held told are_found.
    let t = c.args.table.now in
    let u = meta_of next t in
    let tests = c.in_ok-tests.tests.items in
    let are = ap (map range_in) (c.in_ok-tests.ensures.ranges ∙ c.deref.ensures.value) ∙ c.in_ok-ranges.ensures in
    let read = all_read (g.D.Disk.story c.args.disk.now).told next t tests i found are c.in_ok-tests.ensures.tests told are_found in
    let P = AllByRecursion (IsRead i found t.evolving.value) in
    let exceeds = c.in_ok-exceeds.ensures next i found held (subst P (sym c.deref-2.ensures.value) read) in
    let mine = ap (λ (ts : List Test). map range_in (map range_of ts)) c.deref-3.ensures.value ∙ are in
    ap (λ fs. slice_get fs 0) (faults_held found next t held.table ∙ sym (faults_tested found u t c.deref-3.result.now mine))
    ∙ first next i found held (c.in_ok-tests.ensures.unmoved.told ∙ told) (subst P (sym c.deref-3.ensures.value) read) exceeds) c.first_fault.ensures.first

pub returns-clause-there : goal.returns-clause-there
returns-clause-there g c =
    IfOk-weaker c.first_fault.result _ _ (λ o there next i held told none.
    let t = c.args.table.now in
    let tests = c.in_ok-tests.tests.items in
    let are = ap (map range_in) (c.in_ok-tests.ensures.ranges ∙ c.deref.ensures.value) ∙ c.in_ok-ranges.ensures in
    all_have_rows (g.D.Disk.story c.args.disk.now).told next t tests i are c.in_ok-tests.ensures.tests told (subst (AllByRecursion (λ x. is_found_in x ≡ true)) c.deref-3.ensures.value (there none))) c.first_fault.ensures.there
