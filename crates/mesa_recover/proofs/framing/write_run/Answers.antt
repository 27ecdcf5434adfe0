use Rattle.std.proofs.Common.{ℕ, ◌++◌, ◌∷◌, [], ap, subst, sym}
use Rattle.mesa_disk.specs.Story.{Steps}
use Rattle.mesa_disk.specs.declared.area.Area.{Area}
use Rattle.mesa_store.specs.mesa_commit.Turn.{MovesOnly}
use Rattle.mesa_store_spec.specs.Catalog.{applied}
use Rattle.mesa_store_spec.specs.Held.{IsHeld}
use Rattle.mesa_disk.specs.Files.{files_of}
use Rattle.mesa_store.specs.Store.{area_after, bodies_after}
use Rattle.mesa_recover.specs.Opening.{run_record}
use Rattle.mesa_recover.proofs.Beginnings.{begun_images, writes_run}
use Rattle.mesa_recover.proofs.Unnamed.{named_in_the_end}
use Rattle.mesa_recover.proofs.framing.write_run.Goals as goal

pub returns-in_err-area-clause-images : goal.returns-in_err-area-clause-images
returns-in_err-area-clause-images g c bodies k rows number found states begins = c.carry_on.ensures.images bodies k rows found states

pub returns-in_err-end-clause-images : goal.returns-in_err-end-clause-images
returns-in_err-end-clause-images g c bodies k rows number found states begins =
    let story = g.D.Disk.story in
    let s1 = story c.carry_on.new.disk in
    let after = bodies_after bodies c.args.checkpoint in
    let held : IsHeld s1 c.in_ok-area.area after c.in_ok-area.end k rows =
    subst (λ (a : Area). IsHeld s1 a after c.in_ok-area.end k rows) (sym c.in_ok-area.ensures.area)
    (subst (λ (n : ℕ). IsHeld s1 (area_after c.args.live c.args.checkpoint) after n k rows) (sym c.in_ok-area.ensures.end) (c.in_ok-area.ensures.held bodies k rows found states)) in
    begun_images rows k number (story c.args.disk.now) s1 (story c.write_record.new.disk) (c.carry_on.ensures.images bodies k rows found states)
    (c.write_record.ensures.images after k rows (run_record number) (writes_run s1 c.in_ok-area.area after c.in_ok-area.end k rows number c.args.framed.now _ c.args.strays.now held begins (ap (files_of g.M.Made.bytes) c.new.ensures.items)))

pub returns-clause-images : goal.returns-clause-images
returns-clause-images g c bodies k rows number found states begins =
    let story = g.D.Disk.story in
    let s1 = story c.carry_on.new.disk in
    let after = bodies_after bodies c.args.checkpoint in
    let held : IsHeld s1 c.in_ok-area.area after c.in_ok-area.end k rows =
    subst (λ (a : Area). IsHeld s1 a after c.in_ok-area.end k rows) (sym c.in_ok-area.ensures.area)
    (subst (λ (n : ℕ). IsHeld s1 (area_after c.args.live c.args.checkpoint) after n k rows) (sym c.in_ok-area.ensures.end) (c.in_ok-area.ensures.held bodies k rows found states)) in
    begun_images rows k number (story c.args.disk.now) s1 (story c.write_record.new.disk) (c.carry_on.ensures.images bodies k rows found states)
    (c.write_record.ensures.images after k rows (run_record number) (writes_run s1 c.in_ok-area.area after c.in_ok-area.end k rows number c.args.framed.now _ c.args.strays.now held begins (ap (files_of g.M.Made.bytes) c.new.ensures.items)))

pub returns-clause-held : goal.returns-clause-held
returns-clause-held g c bodies k rows number found states begins =
    let story = g.D.Disk.story in
    let s1 = story c.carry_on.new.disk in
    let after = bodies_after bodies c.args.checkpoint in
    let body = c.args.framed.now in
    let held : IsHeld s1 c.in_ok-area.area after c.in_ok-area.end k rows =
    subst (λ (a : Area). IsHeld s1 a after c.in_ok-area.end k rows) (sym c.in_ok-area.ensures.area)
    (subst (λ (n : ℕ). IsHeld s1 (area_after c.args.live c.args.checkpoint) after n k rows) (sym c.in_ok-area.ensures.end) (c.in_ok-area.ensures.held bodies k rows found states)) in (
      after ++ body ∷ [],
      subst (λ n. IsHeld (story c.write_record.new.disk) c.in_ok-area.area (after ++ body ∷ []) n (applied k (run_record number)) rows) (sym c.in_ok-end.ensures.end)
          (c.in_ok-end.ensures.done after k rows (run_record number)
          (writes_run s1 c.in_ok-area.area after c.in_ok-area.end k rows number body _ c.args.strays.now held begins (ap (files_of g.M.Made.bytes) c.new.ensures.items))),
    )

pub returns-clause-named : goal.returns-clause-named
returns-clause-named g c k are =
    let story = g.D.Disk.story in
    let one = story c.carry_on.new.disk in
    let two = story c.write_record.new.disk in
    named_in_the_end k (story c.args.disk.now) one two c.args.strays.now are c.carry_on.ensures.stays
    (subst (λ fs. Steps (MovesOnly fs c.args.strays.now) one.told two.told) (ap (files_of g.M.Made.bytes) c.new.ensures.items) c.write_record.ensures.only) c.in_ok-end.ensures.gone

pub returns-in_err-area-clause-told : goal.returns-in_err-area-clause-told
returns-in_err-area-clause-told g c i told = let one = c.carry_on.ensures.stays.on i told in (one.0, one.1)

pub returns-in_err-end-clause-told : goal.returns-in_err-end-clause-told
returns-in_err-end-clause-told g c i told =
    let one = c.carry_on.ensures.stays.on i told in
    let two = c.write_record.ensures.only.on one.0 one.1 in
    (two.0, two.1)

pub returns-clause-told : goal.returns-clause-told
returns-clause-told g c i told =
    let one = c.carry_on.ensures.stays.on i told in
    let two = c.write_record.ensures.only.on one.0 one.1 in
    (two.0, two.1)
