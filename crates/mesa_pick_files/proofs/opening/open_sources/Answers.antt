use Rattle.std.proofs.Common.{◌≡◌, List, map, false, sym, ap, ◌∙◌, subst, length, Some}
use Rattle.mesa_file.specs.declared.damage.Damage.{Damage}
use Rattle.mesa_open_files.specs.Opening.{HaveOpened}
use Rattle.mesa_open_files.specs.declared.opening.Wanted.{Wanted}
use Rattle.mesa_pick_files.proofs.Joined.{opened_differs}
use Rattle.mesa_pick_files.specs.Files.{want_of}
use Rattle.mesa_pick_files.specs.Read.{SomeUnsound}
use Rattle.mesa_open_files.proofs.Counts.{counted_then}
use Rattle.mesa_pick_files.proofs.Opened.{opened_fresh, opened_many}
use Rattle.mesa_pick_files.proofs.Unsound.{opened_unsound}
use Rattle.mesa_pick_files.proofs.opening.open_sources.Goals as goal

pub join-requires-clause-same : goal.join-requires-clause-same
join-requires-clause-same g c =
    opened_many g.D.Reader.FileReader.bytes g.D.Reader.FileReader.faults (g.D.Disk.story c.args.disk.now).told c.deref.result.now c.in-Ok-open_all.field-0.inputs.items
    (subst (HaveOpened g.D.Reader.FileReader.bytes g.D.Reader.FileReader.faults (g.D.Disk.story c.args.disk.now).told c.deref.result.now c.in-Ok-open_all.field-0.inputs.items) c.in-None.is c.in-Ok-open_all.ensures.opened)
    ∙ ap length c.deref.ensures.value ∙ c.requires.same ∙ sym (ap length c.deref-in-None.ensures.value)

pub returns-in-Some-clause-counted : goal.returns-in-Some-clause-counted
returns-in-Some-clause-counted g c =
    counted_then (g.D.Disk.story c.args.disk.now) (g.D.Disk.story c.open_all.new.disk) (g.D.Disk.story c.retire_all.new.disk) false c.in-Ok-open_all.ensures.counted c.retire_all.ensures.given.calls
    (c.retire_all.ensures.given.quiet (opened_fresh g.D.Reader.FileReader.bytes g.D.Reader.FileReader.faults (g.D.Disk.story c.args.disk.now).told c.deref.result.now c.in-Ok-open_all.field-0.inputs.items c.in-Ok-open_all.field-0.damage c.in-Ok-open_all.ensures.opened))

pub returns-in-Some-clause-damage : goal.returns-in-Some-clause-damage
returns-in-Some-clause-damage g c = λ d is.
    let met = opened_differs g.D.Reader.FileReader.bytes g.D.Reader.FileReader.faults (g.D.Disk.story c.args.disk.now).told c.deref.result.now c.in-Ok-open_all.field-0.inputs.items (Some c.in-Some.damage)
    (subst (HaveOpened g.D.Reader.FileReader.bytes g.D.Reader.FileReader.faults (g.D.Disk.story c.args.disk.now).told c.deref.result.now c.in-Ok-open_all.field-0.inputs.items) c.in-Some.is c.in-Ok-open_all.ensures.opened) in
    let same : c.in-Some.damage ≡ d = cc in
    subst (λ (x : Damage). x.want ≡ x.found → ⊥) same met

pub returns-in-Some-clause-unsound : goal.returns-in-Some-clause-unsound
returns-in-Some-clause-unsound g c = λ d is.
    let told = (g.D.Disk.story c.args.disk.now).told in
    subst (λ (ws : List Wanted). SomeUnsound told (map want_of ws)) c.deref.ensures.value
    (opened_unsound g.D.Reader.FileReader.bytes g.D.Reader.FileReader.faults told c.deref.result.now c.in-Ok-open_all.field-0.inputs.items c.in-Some.damage
    (subst (HaveOpened g.D.Reader.FileReader.bytes g.D.Reader.FileReader.faults told c.deref.result.now c.in-Ok-open_all.field-0.inputs.items) c.in-Some.is c.in-Ok-open_all.ensures.opened))
