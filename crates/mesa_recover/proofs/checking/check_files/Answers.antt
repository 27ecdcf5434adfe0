use Rattle.std.proofs.Common.{◌∙◌, sym, subst}
use Rattle.std.proofs.lemmas.Result.{err_from_is_err_and}
use Rattle.std.specs.List.{AllByRecursion}
use Rattle.mesa_recover.specs.Damages.{IsAsRecorded}
use Rattle.mesa_recover.proofs.Firsts.{first_damage, take_next, all_push, unmoved_twice}
use Rattle.mesa_recover.proofs.checking.check_files.Goals as goal

pub returns-in_err-check_file-clause-damaged : goal.returns-in_err-check_file-clause-damaged
returns-in_err-check_file-clause-damaged g c =
    let p = err_from_is_err_and c.from_residual.result c.from_residual.ensures.1 in
    rw (p.1, p.2) (λ d is i told. first_damage i c.args.files.now c.loop-file.file-index c.file-item.result d c.loop-file-test.true c.file-item.is (c.loop-file.invariant.good i told)
    (c.in_err-check_file.ensures.damaged d is i (c.loop-file.invariant.unmoved.told ∙ told)))

pub loop-file-preserved : goal.loop-file-preserved
loop-file-preserved g c =
    let story = g.D.Disk.story in
    let quiet = c.in_ok-check_file.ensures.counts.quiet (λ fault. cc) in
    record {
      good = λ i told. subst (AllByRecursion (IsAsRecorded i)) (sym (take_next c.args.files.now c.loop-file.file-index c.file-item.result c.loop-file-test.true c.file-item.is))
          (all_push (IsAsRecorded i) _ c.file-item.result (c.loop-file.invariant.good i told) (c.in_ok-check_file.ensures.good i (c.loop-file.invariant.unmoved.told ∙ told)));
      unmoved = unmoved_twice (story c.args.disk.now) (story c.loop-file.disk) (story c.check_file.new.disk) c.loop-file.invariant.unmoved c.check_file.ensures.unmoved;
      faults = quiet.0 ∙ c.loop-file.invariant.faults;
      read_faults = quiet.1 ∙ c.loop-file.invariant.read_faults;
    }
