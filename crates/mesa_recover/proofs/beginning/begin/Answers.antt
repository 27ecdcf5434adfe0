use Rattle.std.proofs.Common.{◌≡◌, ⊎_elim, ◌+◌, [], Some, Err, refl, sym, ◌∙◌, subst, arith}
use Rattle.std.specs.Prelude.{◌≢◌, ◌↔◌}
use Rattle.mesa_disk.specs.Image.{Image}
use Rattle.mesa_store.specs.mesa_commit.Filed.{FilesAdopted}
use Rattle.mesa_store_spec.specs.Ids.{named}
use Rattle.mesa_catalog.specs.declared.begun.Begun.{Begun}
use Rattle.mesa_recover.specs.declared.error.OpenError.TheVariants as open_error
use Rattle.mesa_recover.specs.Opening.{IsHeldAs, Keeps, first_id}
use Rattle.mesa_recover.proofs.Beginnings.{files_adopted, found_start, keeps_from, runs_few}
use Rattle.mesa_recover.specs.Anew.{IsStatedAnew}
use Rattle.mesa_recover.proofs.beginning.begin.Goals as goal

pub returns-then-opened-ge-MOST_RUNS-clause-reason : goal.returns-then-opened-ge-MOST_RUNS-clause-reason
returns-then-opened-ge-MOST_RUNS-clause-reason g c =
    let k = c.args.opened.catalog.catalogue in
    let o = c.args.opened in
    (k, (o.area, c.requires.bodies, o.end, c.requires.reads), (let few = runs_few o.area c.requires.bodies k c.requires.reads.bytes c.requires.reads.records in let run = c.requires.run in omega arith))

pub returns-in-Ok-clause-held : goal.returns-in-Ok-clause-held
returns-in-Ok-clause-held g c rows start =
    let o = c.args.opened in
    let found = found_start (g.D.Disk.story o.disk) o.catalog.catalogue o.last_run o.area o.number o.holds o.end o.since c.requires rows start in
    subst (λ (b : Begun _). IsHeldAs (g.D.Disk.story b.disk) b.area b.end b.catalog.catalogue rows) (sym c.into_begun.ensures)
    (subst (λ k. IsHeldAs (g.D.Disk.story c.begin_run.new.disk) c.in-Ok.area c.in-Ok.end k rows) (sym c.in-Ok.ensures.catalog) (c.in-Ok.ensures.held c.requires.bodies rows c.requires.numbered found))

pub returns-in-Ok-clause-area : goal.returns-in-Ok-clause-area
returns-in-Ok-clause-area g c =
    let o = c.args.opened in
    subst (λ (b : Begun _). (b.area ≢ o.area) ↔ IsStatedAnew o.end o.number o.catalog.catalogue) (sym c.into_begun.ensures) c.in-Ok.ensures.area

pub returns-in-Ok-clause-keeps : goal.returns-in-Ok-clause-keeps
returns-in-Ok-clause-keeps g c =
    let o = c.args.opened in
    let laws = g.met.D.Disk g.world.𝓛 g.world.𝓜 g.world.𝓡 ((λ s x. x), (λ x. x), (λ x. x), λ x. x) in
    subst (λ (b : Begun _). Keeps (g.D.Disk.story o.disk) (g.D.Disk.story b.disk)) (sym c.into_begun.ensures)
    (keeps_from (g.D.Disk.story o.disk) o.catalog.catalogue o.last_run o.area o.number o.holds o.end o.since c.requires (g.D.Disk.story c.begin_run.new.disk) (laws.earlier c.begin_run.new.disk) (laws.only_now o.disk) (λ rows. c.begin_run.ensures.images c.requires.bodies rows c.requires.numbered))

pub returns-in-Err-clause-keeps_err : goal.returns-in-Err-clause-keeps_err
returns-in-Err-clause-keeps_err g c =
    let o = c.args.opened in
    let laws = g.met.D.Disk g.world.𝓛 g.world.𝓜 g.world.𝓡 ((λ s x. x), (λ x. x), (λ x. x), λ x. x) in
    subst (λ d. Keeps (g.D.Disk.story o.disk) (g.D.Disk.story d)) (sym c.into_disk-in-Err.ensures)
    (keeps_from (g.D.Disk.story o.disk) o.catalog.catalogue o.last_run o.area o.number o.holds o.end o.since c.requires (g.D.Disk.story c.begin_run.new.disk) (laws.earlier c.begin_run.new.disk) (laws.only_now o.disk) (λ rows. c.begin_run.ensures.images c.requires.bodies rows c.requires.numbered))

pub returns-in-Ok-clause-filed : goal.returns-in-Ok-clause-filed
returns-in-Ok-clause-filed g c =
    let k = c.args.opened.catalog.catalogue in
    let told = (g.D.Disk.story c.begin_run.new.disk).told in
    let own = c.catalogs_own_ids.ensures.whole c.args.opened.area c.requires.bodies k c.requires.reads.bytes c.requires.reads.records in
    subst (λ (b : Begun _). FilesAdopted 0 (first_id b.run) (first_id (b.run + 1)) (named b.catalog.catalogue) [] [] (g.D.Disk.story b.disk).told) (sym c.into_begun.ensures)
    (subst (λ d. FilesAdopted 0 (first_id (c.args.opened.last_run + 1)) (first_id (c.args.opened.last_run + 1 + 1)) (named d) [] [] told) (sym c.in-Ok.ensures.catalog)
    (subst (λ n. FilesAdopted 0 (first_id (n + 1)) (first_id (n + 1 + 1)) (named k) [] [] told) (sym c.requires.run) (files_adopted k told own c.in-Ok.ensures.named)))

pub returns-then-opened-ge-MOST_RUNS-clause-keeps_err : goal.returns-then-opened-ge-MOST_RUNS-clause-keeps_err
returns-then-opened-ge-MOST_RUNS-clause-keeps_err g c =
    let o = c.args.opened in
    let story = g.D.Disk.story o.disk in
    let laws = g.met.D.Disk g.world.𝓛 g.world.𝓜 g.world.𝓡 ((λ s x. x), (λ x. x), (λ x. x), λ x. x) in
    subst (λ d. Keeps story (g.D.Disk.story d)) (sym c.into_disk.ensures) (λ k rows start below t x after before left.
    let now : t ≡ story.moment = omega arith in
    start.left x (laws.only_now o.disk x below (subst (λ m. story.may_have_left m x) now left)))

pub returns-in-Ok-clause-told : goal.returns-in-Ok-clause-told
returns-in-Ok-clause-told g c i told = subst (λ (b : Begun _). (j : Image) × ((g.D.Disk.story b.disk).told ≡ Some j)) (sym c.into_begun.ensures) (c.begin_run.ensures.told i told)

-- ---- where no run begins

pub returns-then-opened-ge-MOST_RUNS-clause-told_err : goal.returns-then-opened-ge-MOST_RUNS-clause-told_err
returns-then-opened-ge-MOST_RUNS-clause-told_err g c i told = subst (λ d. (j : Image) × ((g.D.Disk.story d).told ≡ Some j)) (sym c.into_disk.ensures) (i, told)

pub returns-in-Err-clause-told_err : goal.returns-in-Err-clause-told_err
returns-in-Err-clause-told_err g c i told = subst (λ d. (j : Image) × ((g.D.Disk.story d).told ≡ Some j)) (sym c.into_disk-in-Err.ensures) (c.begin_run.ensures.told i told)

pub returns-then-opened-ge-MOST_RUNS-clause-other : goal.returns-then-opened-ge-MOST_RUNS-clause-other
returns-then-opened-ge-MOST_RUNS-clause-other g c other =
    let old = g.D.Disk.story c.args.opened.disk in
    subst (λ d. ((g.D.Disk.story d).faults ≡ old.faults) × ((g.D.Disk.story d).read_faults ≡ old.read_faults)) (sym c.into_disk.ensures) (refl, refl)

pub returns-in-Err-clause-other : goal.returns-in-Err-clause-other
returns-in-Err-clause-other g c other =
    let old = g.D.Disk.story c.args.opened.disk in
    subst (λ d. ((g.D.Disk.story d).faults ≡ old.faults) × ((g.D.Disk.story d).read_faults ≡ old.read_faults)) (sym c.into_disk-in-Err.ensures)
    (c.begin_run.ensures.counts.quiet (λ failed. other (let same : Err c.in-Err.error ≡ Err open_error.Fault = sym c.in-Err.is ∙ failed in cc)))

pub returns-in-Err-clause-untouched : goal.returns-in-Err-clause-untouched
returns-in-Err-clause-untouched g c fault memory = absurd (⊎_elim fault memory c.in-Err.ensures.kind)
