use Rattle.std.proofs.Common.{ℕ, List, Option, sym, subst}
use Rattle.mesa_journal.specs.Areas.{other_of}
use Rattle.mesa_store_spec.specs.Contents.{kept_of}
use Rattle.mesa_store_spec.specs.Sound.{StandsFor}
use Rattle.mesa_store_spec.specs.Held.{IsHeld}
use Rattle.mesa_store.specs.Store.{area_after, bodies_after, end_after}
use Rattle.mesa_store.proofs.Gates.{carried, files_stay, files_stay_twice, holds_still, restates}
use Rattle.mesa_store.proofs.carrying.carry_on.Goals as goal

pub returns-in_err-settle-clause-images : goal.returns-in_err-settle-clause-images
returns-in_err-settle-clause-images g c bodies k rows found states = c.settle.ensures.images bodies c.args.end k rows found

pub returns-in_default-clause-images : goal.returns-in_default-clause-images
returns-in_default-clause-images g c bodies k rows found states = c.settle.ensures.images bodies c.args.end k rows found

pub restate-requires-after_bounds : goal.restate-requires-after_bounds
restate-requires-after_bounds g c κs within = holds_still c.args.live c.args.holds (g.D.Disk.story c.args.disk.now).told (g.D.Disk.story c.settle.new.disk).told c.requires.holds c.settle.ensures.told

pub returns-in_err-end-clause-images : goal.returns-in_err-end-clause-images
returns-in_err-end-clause-images g c bodies k rows found states =
    let story = g.D.Disk.story in
    let s1 = story c.settle.new.disk in
    carried (λ x. StandsFor x (kept_of rows k)) (story c.args.disk.now) s1 (story c.restate.new.disk) (c.settle.ensures.images bodies c.args.end k rows found)
    (c.restate.ensures.images bodies c.args.end k rows
    (restates s1 c.args.live bodies c.args.end k rows c.args.checkpoint c.in-Some.framed c.in-Some.is (c.in_ok-settle.ensures.done bodies c.args.end k rows found) c.in_ok-settle.ensures.alone states))

pub returns-clause-images : goal.returns-clause-images
returns-clause-images g c bodies k rows found states =
    let story = g.D.Disk.story in
    let s1 = story c.settle.new.disk in
    carried (λ x. StandsFor x (kept_of rows k)) (story c.args.disk.now) s1 (story c.restate.new.disk) (c.settle.ensures.images bodies c.args.end k rows found)
    (c.restate.ensures.images bodies c.args.end k rows
    (restates s1 c.args.live bodies c.args.end k rows c.args.checkpoint c.in-Some.framed c.in-Some.is (c.in_ok-settle.ensures.done bodies c.args.end k rows found) c.in_ok-settle.ensures.alone states))

pub returns-clause-held : goal.returns-clause-held
returns-clause-held g c bodies k rows found states =
    let story = g.D.Disk.story in
    let s1 = story c.settle.new.disk in
    subst (λ (o : Option (List ℕ)). IsHeld (story c.restate.new.disk) (area_after c.args.live o) (bodies_after bodies o) (end_after c.args.end o) k rows) (sym c.in-Some.is)
    (c.in_ok-end.ensures.done bodies c.args.end k rows
    (restates s1 c.args.live bodies c.args.end k rows c.args.checkpoint c.in-Some.framed c.in-Some.is (c.in_ok-settle.ensures.done bodies c.args.end k rows found) c.in_ok-settle.ensures.alone states))

pub returns-in_err-settle-clause-stays : goal.returns-in_err-settle-clause-stays
returns-in_err-settle-clause-stays g c = files_stay c.args.live _ _ c.settle.ensures.told

pub returns-in_default-clause-stays : goal.returns-in_default-clause-stays
returns-in_default-clause-stays g c = files_stay c.args.live _ _ c.settle.ensures.told

pub returns-in_err-end-clause-stays : goal.returns-in_err-end-clause-stays
returns-in_err-end-clause-stays g c = files_stay_twice c.args.live (other_of c.args.live) _ _ _ c.settle.ensures.told c.restate.ensures.told

pub returns-clause-stays : goal.returns-clause-stays
returns-clause-stays g c = files_stay_twice c.args.live (other_of c.args.live) _ _ _ c.settle.ensures.told c.restate.ensures.told
