use Rattle.std.proofs.Common.{◌+◌, ◌∷◌, [], length, subst}
use Rattle.mesa_disk.specs.Image.{InArea, AnyChange}
use Rattle.mesa_disk.specs.Story.{Steps, After, Spans}
use Rattle.mesa_disk.specs.declared.area.Area.{Area}
use Rattle.mesa_disk.proofs.Run.{told_twice}
use Rattle.mesa_journal.specs.Settled.{IsSettled, IsWithinAppend}
use Rattle.mesa_journal.specs.Areas.{Closes}
use Rattle.mesa_commit.proofs.Anew.{readied, restated, all_restated}
use Rattle.mesa_commit.proofs.restating.restate.Goals as goal

pub returns-in_err-make_ready-clause-images : goal.returns-in_err-make_ready-clause-images
returns-in_err-make_ready-clause-images g c bodies end files t =
    let s0 = g.D.Disk.story c.args.disk.now in
    let s1 = g.D.Disk.story c.make_ready.new.disk in
    readied c.args.live bodies end files c.args.framed.now s0 t s1 (subst (λ (a : Area). Spans (After (InArea a Closes) s0.may_leave) s0 s1) c.other_area-to.ensures (c.make_ready.ensures.images t.alone))

pub returns-in_err-end-clause-images : goal.returns-in_err-end-clause-images
returns-in_err-end-clause-images g c bodies end files t =
    let laws = g.met.D.Disk g.world.𝓛 g.world.𝓜 g.world.𝓡 ((λ s x. x), (λ x. x), (λ x. x), λ x. x) in
    let s0 = g.D.Disk.story c.args.disk.now in
    let s1 = g.D.Disk.story c.make_ready.new.disk in
    let s2 = g.D.Disk.story c.append.new.disk in
    let settled = c.in_ok-make_ready.ensures.settled t.alone in
    let first = subst (λ (a : Area). Spans (After (InArea a Closes) s0.may_leave) s0 s1) c.other_area-to.ensures (c.make_ready.ensures.images t.alone) in
    let second = subst (λ (a : Area). Spans (IsWithinAppend s1 a [] 0 c.args.framed.now) s1 s2) c.other_area-to.ensures (record { run = c.append.ensures.any_moment [] settled; left = c.append.ensures.left [] settled }) in
    restated c.args.live bodies end files c.args.framed.now s0 t s1 first (laws.read_is_left c.make_ready.new.disk) s2 second

pub returns-in_err-end-clause-told : goal.returns-in_err-end-clause-told
returns-in_err-end-clause-told g c =
    let story = g.D.Disk.story in
    subst (λ (a : Area). Steps (AnyChange a) (story c.args.disk.now).told (story c.append.new.disk).told) c.other_area-to.ensures
    (told_twice c.other_area-to.result (story c.args.disk.now).told (story c.make_ready.new.disk).told (story c.append.new.disk).told c.make_ready.ensures.told c.append.ensures.told)

pub returns-clause-images : goal.returns-clause-images
returns-clause-images g c bodies end files t =
    let laws = g.met.D.Disk g.world.𝓛 g.world.𝓜 g.world.𝓡 ((λ s x. x), (λ x. x), (λ x. x), λ x. x) in
    let s0 = g.D.Disk.story c.args.disk.now in
    let s1 = g.D.Disk.story c.make_ready.new.disk in
    let s2 = g.D.Disk.story c.append.new.disk in
    let settled = c.in_ok-make_ready.ensures.settled t.alone in
    let first = subst (λ (a : Area). Spans (After (InArea a Closes) s0.may_leave) s0 s1) c.other_area-to.ensures (c.make_ready.ensures.images t.alone) in
    let second = subst (λ (a : Area). Spans (IsWithinAppend s1 a [] 0 c.args.framed.now) s1 s2) c.other_area-to.ensures (record { run = c.append.ensures.any_moment [] settled; left = c.append.ensures.left [] settled }) in
    restated c.args.live bodies end files c.args.framed.now s0 t s1 first (laws.read_is_left c.make_ready.new.disk) s2 second

pub returns-clause-done : goal.returns-clause-done
returns-clause-done g c bodies end files t =
    let laws = g.met.D.Disk g.world.𝓛 g.world.𝓜 g.world.𝓡 ((λ s x. x), (λ x. x), (λ x. x), λ x. x) in
    let s0 = g.D.Disk.story c.args.disk.now in
    let s1 = g.D.Disk.story c.make_ready.new.disk in
    let s2 = g.D.Disk.story c.append.new.disk in
    let settled = c.in_ok-make_ready.ensures.settled t.alone in
    let first = subst (λ (a : Area). Spans (After (InArea a Closes) s0.may_leave) s0 s1) c.other_area-to.ensures (c.make_ready.ensures.images t.alone) in
    let told = subst (λ (a : Area). Steps (AnyChange a) s1.told s2.told) c.other_area-to.ensures c.append.ensures.told in
    let now = subst (λ (a : Area). IsSettled s2 a (c.args.framed.now ∷ []) (0 + length c.args.framed.now + 5)) c.other_area-to.ensures (c.in_ok-end.ensures.acknowledged [] settled) in
    all_restated c.args.live bodies end files c.args.framed.now s0 t s1 first (laws.read_is_left c.make_ready.new.disk) s2 told now c.in_ok-end.ensures.durable

pub returns-clause-told : goal.returns-clause-told
returns-clause-told g c =
    let story = g.D.Disk.story in
    subst (λ (a : Area). Steps (AnyChange a) (story c.args.disk.now).told (story c.append.new.disk).told) c.other_area-to.ensures
    (told_twice c.other_area-to.result (story c.args.disk.now).told (story c.make_ready.new.disk).told (story c.append.new.disk).told c.make_ready.ensures.told c.append.ensures.told)
