use Rattle.std.proofs.Common.{◌≡◌, length, sym, ap, subst, ◌∙◌, arith}
use Rattle.std.specs.List.{AllByRecursion}
use Rattle.mesa_load.specs.Collected.{HasCause, IsBegun}
use Rattle.mesa_load.specs.FilesToWrite.{AreDone, HaveIds}
use Rattle.mesa_load.proofs.Written.{all_done, all_ids, done_causes, written_back}
use Rattle.mesa_load.proofs.building.write_all.Goals as goal

pub returns-clause-done : goal.returns-clause-done
returns-clause-done g c =
    let before : length c.deref_mut.result.now ≡ length c.args.jobs.now = ap length c.deref_mut.ensures.value ∙ c.requires.each in
    let done = all_done g.M.Made.bytes g.M.Made.id_of g.T.Draft.faults g.T.Draft.bytes g.T.Draft.id_of c.args.jobs.now c.deref_mut.result.now c.write_jobs.new.files before (omega (arith, c.write_jobs.auto.files, before)) (subst (AllByRecursion (IsBegun g.T.Draft.bytes g.T.Draft.id_of g.T.Draft.faults)) (sym c.deref_mut.ensures.value) c.requires.begun) c.write_jobs.ensures in
    subst (AreDone g.M.Made.bytes g.M.Made.id_of g.T.Draft.faults c.args.jobs.now) (sym (written_back _ c.write_jobs.new.files _ (omega (arith, c.write_jobs.auto.files, c.deref_mut.ensures.len)))) done

pub returns-clause-numbered : goal.returns-clause-numbered
returns-clause-numbered g c = λ ids was.
    let before : length c.deref_mut.result.now ≡ length c.args.jobs.now = ap length c.deref_mut.ensures.value ∙ c.requires.each in
    let all = all_ids g.M.Made.bytes g.M.Made.id_of g.T.Draft.faults c.args.jobs.now ids c.deref_mut.result.now c.write_jobs.new.files before (omega (arith, c.write_jobs.auto.files, before)) (subst (HaveIds g.M.Made.id_of ids) (sym c.deref_mut.ensures.value) was) c.write_jobs.ensures in
    subst (HaveIds g.M.Made.id_of ids) (sym (written_back _ c.write_jobs.new.files _ (omega (arith, c.write_jobs.auto.files, c.deref_mut.ensures.len)))) all

pub returns-clause-causes : goal.returns-clause-causes
returns-clause-causes g c =
    let before : length c.deref_mut.result.now ≡ length c.args.jobs.now = ap length c.deref_mut.ensures.value ∙ c.requires.each in
    let done = all_done g.M.Made.bytes g.M.Made.id_of g.T.Draft.faults g.T.Draft.bytes g.T.Draft.id_of c.args.jobs.now c.deref_mut.result.now c.write_jobs.new.files before (omega (arith, c.write_jobs.auto.files, before)) (subst (AllByRecursion (IsBegun g.T.Draft.bytes g.T.Draft.id_of g.T.Draft.faults)) (sym c.deref_mut.ensures.value) c.requires.begun) c.write_jobs.ensures in
    subst (AllByRecursion (HasCause g.T.Draft.faults)) (sym (written_back _ c.write_jobs.new.files _ (omega (arith, c.write_jobs.auto.files, c.deref_mut.ensures.len))))
    (done_causes g.M.Made.bytes g.M.Made.id_of g.T.Draft.faults c.args.jobs.now c.write_jobs.new.files done)
