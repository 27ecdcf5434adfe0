use Rattle.std.proofs.Common.{◌≡◌, ◌∙◌, Ok, true, ap, subst, sym}
use Rattle.std.proofs.lemmas.Result.{err_from_is_err_and}
use Rattle.mesa_store_spec.specs.Catalog.{applied}
use Rattle.mesa_store_spec.specs.Fitting.{fits}
use Rattle.mesa_recover.specs.Opening.{IsHeldAs}
use Rattle.mesa_recover.specs.Strays.{AreStrays}
use Rattle.mesa_recover.proofs.Beginnings.{begins_run, counts_err, found_unmoved, images_after}
use Rattle.mesa_recover.proofs.Restating.{moves, states_anew}
use Rattle.mesa_recover.proofs.beginning.append_run.Goals as goal

pub returns-in_err-checkpoint-clause-counts : goal.returns-in_err-checkpoint-clause-counts
returns-in_err-checkpoint-clause-counts g c =
    let p = err_from_is_err_and c.from_residual.result c.from_residual.ensures.1 in
    rw (p.1, p.2) (counts_err (g.D.Disk.story c.args.disk.now) (g.D.Disk.story c.ready_run.new.disk) _ c.in_err-checkpoint.ensures.counts)

pub returns-in_err-gone-clause-images : goal.returns-in_err-gone-clause-images
returns-in_err-gone-clause-images g c bodies rows numbered found =
    let s0 = g.D.Disk.story c.args.disk.now in
    let s1 = g.D.Disk.story c.ready_run.new.disk in
    let k = c.args.catalog.now.catalogue in
    let live = c.args.live in
    let number = c.requires.run.0 in
    let made = c.in_ok-checkpoint.ensures in
    let reads = made.body.0 ∙ ap (λ r. Ok r) c.requires.run.1 in
    let begins = begins_run s0 k number c.in_ok-checkpoint.framed c.deref.result.now made.body.1 reads (subst (λ r. fits k r ≡ true) c.requires.run.1 c.requires.fits) (subst (AreStrays s0 k) (sym c.deref.ensures.value) made.strays) in
    let here = found_unmoved s0 s1 live.area bodies live.end k rows c.ready_run.ensures.unmoved found in
    let states = states_anew s1 live.area bodies live.end live.number k rows c.in_ok-checkpoint.checkpoint numbered made.bytes here made.anew in
    images_after rows k s0 s1 (g.D.Disk.story c.write_run.new.disk) c.ready_run.ensures.unmoved found.left (c.write_run.ensures.images bodies k rows number here states begins)

pub returns-clause-images : goal.returns-clause-images
returns-clause-images g c bodies rows numbered found =
    let s0 = g.D.Disk.story c.args.disk.now in
    let s1 = g.D.Disk.story c.ready_run.new.disk in
    let k = c.args.catalog.now.catalogue in
    let live = c.args.live in
    let number = c.requires.run.0 in
    let made = c.in_ok-checkpoint.ensures in
    let reads = made.body.0 ∙ ap (λ r. Ok r) c.requires.run.1 in
    let begins = begins_run s0 k number c.in_ok-checkpoint.framed c.deref.result.now made.body.1 reads (subst (λ r. fits k r ≡ true) c.requires.run.1 c.requires.fits) (subst (AreStrays s0 k) (sym c.deref.ensures.value) made.strays) in
    let here = found_unmoved s0 s1 live.area bodies live.end k rows c.ready_run.ensures.unmoved found in
    let states = states_anew s1 live.area bodies live.end live.number k rows c.in_ok-checkpoint.checkpoint numbered made.bytes here made.anew in
    images_after rows k s0 s1 (g.D.Disk.story c.write_run.new.disk) c.ready_run.ensures.unmoved found.left (c.write_run.ensures.images bodies k rows number here states begins)

pub returns-clause-held : goal.returns-clause-held
returns-clause-held g c bodies rows numbered found =
    let s0 = g.D.Disk.story c.args.disk.now in
    let s1 = g.D.Disk.story c.ready_run.new.disk in
    let k = c.args.catalog.now.catalogue in
    let live = c.args.live in
    let number = c.requires.run.0 in
    let made = c.in_ok-checkpoint.ensures in
    let reads = made.body.0 ∙ ap (λ r. Ok r) c.requires.run.1 in
    let begins = begins_run s0 k number c.in_ok-checkpoint.framed c.deref.result.now made.body.1 reads (subst (λ r. fits k r ≡ true) c.requires.run.1 c.requires.fits) (subst (AreStrays s0 k) (sym c.deref.ensures.value) made.strays) in
    let here = found_unmoved s0 s1 live.area bodies live.end k rows c.ready_run.ensures.unmoved found in
    let states = states_anew s1 live.area bodies live.end live.number k rows c.in_ok-checkpoint.checkpoint numbered made.bytes here made.anew in
    subst (λ r. IsHeldAs (g.D.Disk.story c.write_run.new.disk) c.in_ok-gone.gone.0 c.in_ok-gone.gone.1 (applied k r) rows) (sym c.requires.run.1) (c.in_ok-gone.ensures.held bodies k rows number here states begins)

pub returns-clause-area : goal.returns-clause-area
returns-clause-area g c =
    let live = c.args.live in
    moves live.area c.in_ok-gone.gone.0 live.end live.number c.args.catalog.now.catalogue c.in_ok-checkpoint.checkpoint c.in_ok-gone.ensures.area c.in_ok-checkpoint.ensures.anew

pub returns-clause-named : goal.returns-clause-named
returns-clause-named g c =
    let s0 = g.D.Disk.story c.args.disk.now in
    let k = c.args.catalog.now.catalogue in
    let strays = subst (AreStrays s0 k) (sym c.deref.ensures.value) c.in_ok-checkpoint.ensures.strays in
    c.in_ok-gone.ensures.named k (record {
      files = strays.files;
      recorded = strays.recorded;
      among = record { ids = strays.among.ids; listed = λ i told. strays.among.listed i (sym c.ready_run.ensures.unmoved.told ∙ told); are = strays.among.are };
    })

pub returns-in_err-checkpoint-clause-told : goal.returns-in_err-checkpoint-clause-told
returns-in_err-checkpoint-clause-told g c i told = (i, c.ready_run.ensures.unmoved.told ∙ told)

pub returns-in_err-gone-clause-told : goal.returns-in_err-gone-clause-told
returns-in_err-gone-clause-told g c i told = c.write_run.ensures.told i (c.ready_run.ensures.unmoved.told ∙ told)

pub returns-clause-told : goal.returns-clause-told
returns-clause-told g c i told = c.write_run.ensures.told i (c.ready_run.ensures.unmoved.told ∙ told)
