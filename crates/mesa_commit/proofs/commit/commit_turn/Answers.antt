use Rattle.mesa_disk.specs.Files.{files_of}
use Rattle.mesa_commit.proofs.Files.{adopting_moves, appending_moves, removing_moves, made_there}
use Rattle.mesa_commit.proofs.Calls.{tried_adopting, tried_appending, tried_removing, all_done}
use Rattle.mesa_commit.proofs.commit.commit_turn.Goals as goal

pub returns-in_err-adopt_all-clause-images : goal.returns-in_err-adopt_all-clause-images
returns-in_err-adopt_all-clause-images g c bodies before brought after is turn =
    tried_adopting c.args.area bodies c.args.end c.args.framed.now before brought after c.args.dropped.now _ is (g.D.Disk.story c.args.disk.now) turn (g.D.Disk.story c.adopt_all.new.disk)
    (record { run = c.adopt_all.ensures.any_moment; left = c.adopt_all.ensures.left })

pub returns-in_err-end-clause-images : goal.returns-in_err-end-clause-images
returns-in_err-end-clause-images g c bodies before brought after is turn =
    tried_appending c.args.area bodies c.args.end c.args.framed.now before brought after c.args.dropped.now _ is (g.D.Disk.story c.args.disk.now) turn (g.D.Disk.story c.adopt_all.new.disk)
    (record { run = c.adopt_all.ensures.any_moment; left = c.adopt_all.ensures.left }) c.requires.distinct c.in_ok-adopt_all.ensures.adopted (g.D.Disk.story c.append.new.disk)
    (λ settled. record { run = c.append.ensures.any_moment bodies settled; left = c.append.ensures.left bodies settled })

pub returns-in_err-remove_all-clause-images : goal.returns-in_err-remove_all-clause-images
returns-in_err-remove_all-clause-images g c bodies before brought after is turn =
    tried_removing c.args.area bodies c.args.end c.args.framed.now before brought after c.args.dropped.now _ is (g.D.Disk.story c.args.disk.now) turn (g.D.Disk.story c.adopt_all.new.disk)
    (record { run = c.adopt_all.ensures.any_moment; left = c.adopt_all.ensures.left }) c.requires.distinct c.in_ok-adopt_all.ensures.adopted (g.D.Disk.story c.append.new.disk)
    (λ settled. record { run = c.append.ensures.any_moment bodies settled; left = c.append.ensures.left bodies settled }) (c.in_ok-end.ensures.acknowledged bodies) c.append.ensures.told c.in_ok-end.ensures.durable (g.D.Disk.story c.remove_all.new.disk)
    (record { run = c.remove_all.ensures.any_moment; left = c.remove_all.ensures.left })

pub returns-clause-images : goal.returns-clause-images
returns-clause-images g c bodies before brought after is turn =
    tried_removing c.args.area bodies c.args.end c.args.framed.now before brought after c.args.dropped.now _ is (g.D.Disk.story c.args.disk.now) turn (g.D.Disk.story c.adopt_all.new.disk)
    (record { run = c.adopt_all.ensures.any_moment; left = c.adopt_all.ensures.left }) c.requires.distinct c.in_ok-adopt_all.ensures.adopted (g.D.Disk.story c.append.new.disk)
    (λ settled. record { run = c.append.ensures.any_moment bodies settled; left = c.append.ensures.left bodies settled }) (c.in_ok-end.ensures.acknowledged bodies) c.append.ensures.told c.in_ok-end.ensures.durable (g.D.Disk.story c.remove_all.new.disk)
    (record { run = c.remove_all.ensures.any_moment; left = c.remove_all.ensures.left })

pub returns-clause-done : goal.returns-clause-done
returns-clause-done g c bodies before brought after is turn =
    all_done c.args.area bodies c.args.end c.args.framed.now before brought after c.args.dropped.now _ is (g.D.Disk.story c.args.disk.now) turn (g.D.Disk.story c.adopt_all.new.disk)
    (record { run = c.adopt_all.ensures.any_moment; left = c.adopt_all.ensures.left }) c.requires.distinct c.in_ok-adopt_all.ensures.adopted (g.D.Disk.story c.append.new.disk)
    (λ settled. record { run = c.append.ensures.any_moment bodies settled; left = c.append.ensures.left bodies settled }) (c.in_ok-end.ensures.acknowledged bodies) c.append.ensures.told c.in_ok-end.ensures.durable (g.D.Disk.story c.remove_all.new.disk)
    (record { run = c.remove_all.ensures.any_moment; left = c.remove_all.ensures.left }) c.remove_all.ensures.partly

pub returns-in_err-adopt_all-clause-only : goal.returns-in_err-adopt_all-clause-only
returns-in_err-adopt_all-clause-only g c = adopting_moves (files_of g.M.Made.bytes c.args.made.items) c.args.dropped.now c.args.area _ _ c.adopt_all.ensures.partly

pub returns-in_err-end-clause-only : goal.returns-in_err-end-clause-only
returns-in_err-end-clause-only g c = appending_moves (files_of g.M.Made.bytes c.args.made.items) c.args.dropped.now c.args.area _ _ _ c.adopt_all.ensures.partly c.append.ensures.told

pub returns-in_err-remove_all-clause-only : goal.returns-in_err-remove_all-clause-only
returns-in_err-remove_all-clause-only g c = removing_moves (files_of g.M.Made.bytes c.args.made.items) c.args.dropped.now c.args.area _ _ _ _ c.adopt_all.ensures.partly c.append.ensures.told c.remove_all.ensures.partly

pub returns-clause-only : goal.returns-clause-only
returns-clause-only g c = removing_moves (files_of g.M.Made.bytes c.args.made.items) c.args.dropped.now c.args.area _ _ _ _ c.adopt_all.ensures.partly c.append.ensures.told c.remove_all.ensures.partly

pub returns-clause-adopted : goal.returns-clause-adopted
returns-clause-adopted g c i e apart = made_there (files_of g.M.Made.bytes c.args.made.items) c.args.dropped.now c.args.area _ _ _ c.in_ok-adopt_all.ensures.all c.append.ensures.told c.remove_all.ensures.only apart i e
