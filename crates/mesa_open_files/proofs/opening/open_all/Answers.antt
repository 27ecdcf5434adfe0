use Rattle.std.proofs.Common.{◌≡◌, ◌++◌, ◌∷◌, [], take, drop, ◌+◌, ap, sym, ◌∙◌, subst, false, true, None, Some}
use Rattle.std.proofs.lemmas.List.{take_more}
use Rattle.mesa_open_files.specs.declared.opening.Wanted.{Wanted}
use Rattle.mesa_open_files.specs.Opening.{HaveOpened, IsDamageOf, IsOpened, wanted_columns}
use Rattle.mesa_open_files.proofs.Counts.{unmoved_more, counted_more, counted_then}
use Rattle.mesa_open_files.proofs.Openings.{opened_fresh, opened_less, opened_more, taken_and_rest}
use Rattle.mesa_open_files.proofs.opening.open_all.Goals as goal

pub returns-in-Damaged-clause-unmoved : goal.returns-in-Damaged-clause-unmoved
returns-in-Damaged-clause-unmoved g c = unmoved_more _ _ _ c.files.invariant.unmoved c.open_one.ensures.unmoved

pub returns-in-Damaged-clause-counted : goal.returns-in-Damaged-clause-counted
returns-in-Damaged-clause-counted g c = counted_more _ _ _ false c.files.invariant.counted c.in-Damaged.ensures.counted

pub returns-in-Damaged-clause-opened : goal.returns-in-Damaged-clause-opened
returns-in-Damaged-clause-opened g c =
    let bytes = g.D.Reader.FileReader.bytes in
    let faults = g.D.Reader.FileReader.faults in
    let told = (g.D.Disk.story c.args.disk.now).told in
    let all = c.args.wanted.now in
    let i = c.files.one-index in
    let w = c.one-item.result in
    let front : take (i + 1) all ≡ take i all ++ w ∷ [] = take_more all i w c.files-test.true ∙ ap (λ (x : Wanted). take i all ++ x ∷ []) (sym c.one-item.is) in
    subst (λ ws. HaveOpened bytes faults told ws c.files.inputs.items (Some c.in-Damaged.damage)) (ap (λ ws. ws ++ drop (i + 1) all) (sym front) ∙ taken_and_rest (i + 1) all)
    (opened_less bytes faults told (take i all) c.files.inputs.items w (drop (i + 1) all) c.in-Damaged.damage c.files.invariant.opened
    (subst (λ t. IsDamageOf t (wanted_columns w) w.file.now c.in-Damaged.damage) c.files.invariant.unmoved.told c.in-Damaged.ensures.met))

pub files-preserved : goal.files-preserved
files-preserved g c =
    let bytes = g.D.Reader.FileReader.bytes in
    let faults = g.D.Reader.FileReader.faults in
    let told = (g.D.Disk.story c.args.disk.now).told in
    let all = c.args.wanted.now in
    let i = c.files.one-index in
    let w = c.one-item.result in
    let front : take (i + 1) all ≡ take i all ++ w ∷ [] = take_more all i w c.files-test.true ∙ ap (λ (x : Wanted). take i all ++ x ∷ []) (sym c.one-item.is) in
    record {
      unmoved = unmoved_more _ _ _ c.files.invariant.unmoved c.open_one.ensures.unmoved;
      counted = counted_more _ _ _ false c.files.invariant.counted c.in-Input.ensures.counted;
      opened = subst (λ ws. HaveOpened bytes faults told ws c.push_reserved.new.self.items None) (sym front)
          (subst (λ is. HaveOpened bytes faults told (take i all ++ w ∷ []) is None) (sym c.push_reserved.ensures.items)
          (opened_more bytes faults told (take i all) c.files.inputs.items w c.in-Input.input c.files.invariant.opened
          (subst (λ t. IsOpened bytes faults t w c.in-Input.input) c.files.invariant.unmoved.told c.in-Input.ensures.met)));
      len = c.push_reserved.ensures.len ∙ ap (λ n. n + 1) c.files.invariant.len;
      room = c.push_reserved.ensures.capacity ∙ c.files.invariant.room;
    }

pub returns-in-Fault-clause-unmoved : goal.returns-in-Fault-clause-unmoved
returns-in-Fault-clause-unmoved g c = unmoved_more _ _ _ (unmoved_more _ _ _ c.files.invariant.unmoved c.open_one.ensures.unmoved) c.retire_all.ensures.unmoved

pub returns-in-Fault-clause-counted : goal.returns-in-Fault-clause-counted
returns-in-Fault-clause-counted g c =
    counted_then (g.D.Disk.story c.args.disk.now) (g.D.Disk.story c.open_one.new.disk) (g.D.Disk.story c.retire_all.new.disk) true
    (counted_more _ _ _ true c.files.invariant.counted c.in-Fault.ensures.counted) c.retire_all.ensures.given.calls
    (c.retire_all.ensures.given.quiet (opened_fresh _ _ _ _ _ None c.files.invariant.opened))

pub returns-in-Memory-clause-unmoved : goal.returns-in-Memory-clause-unmoved
returns-in-Memory-clause-unmoved g c = unmoved_more _ _ _ (unmoved_more _ _ _ c.files.invariant.unmoved c.open_one.ensures.unmoved) c.retire_all-in-Memory.ensures.unmoved

pub returns-in-Memory-clause-counted : goal.returns-in-Memory-clause-counted
returns-in-Memory-clause-counted g c =
    counted_then (g.D.Disk.story c.args.disk.now) (g.D.Disk.story c.open_one.new.disk) (g.D.Disk.story c.retire_all-in-Memory.new.disk) false
    (counted_more _ _ _ false c.files.invariant.counted c.in-Memory.ensures.counted) c.retire_all-in-Memory.ensures.given.calls
    (c.retire_all-in-Memory.ensures.given.quiet (opened_fresh _ _ _ _ _ None c.files.invariant.opened))
