use Rattle.std.proofs.Common.{◌∙◌, refl, arith, Bool, Err}
use Rattle.mesa_merge.proofs.Ahead.{more_waiting, none_waiting}
use Rattle.mesa_merge.proofs.Causing.{cause_on, cause_quiet}
use Rattle.mesa_merge.proofs.Inputs.{cause_at, faults_same}
use Rattle.mesa_merge.proofs.waiting.read_first.Goals as goal

pub first-init : goal.first-init
first-init g c = record { waiting = none_waiting g.R.FileReader.bytes c.args.cursors.now c.args.inputs.now c.args.ahead.now; faults = refl }

pub first-preserved : goal.first-preserved
first-preserved g c =
    let inv = c.first.invariant in
    let now = c.first.inputs in
    let new = c.wait_for.new.input in
    record {
      waiting = more_waiting g.R.FileReader.bytes c.args.cursors.now c.args.inputs.now now c.args.ahead.now c.first.ahead c.wait_for.new.ahead c.first.i c.index-inputs-i.result new inv.waiting (omega (arith, c.first-test.true))
          c.wait_for.ensures.input c.wait_for.ensures.bytes c.wait_for.ensures.ahead;
      faults = faults_same g.R.FileReader.faults now c.first.i new c.index-inputs-i.result (omega (arith, c.first-test.true)) c.in-Ok-true.ensures.cause.quiet ∙ inv.faults;
    }

pub returns-in-Ok-false-clause-waiting : goal.returns-in-Ok-false-clause-waiting
returns-in-Ok-false-clause-waiting g c =
    more_waiting g.R.FileReader.bytes c.args.cursors.now c.args.inputs.now c.first.inputs c.args.ahead.now c.first.ahead c.wait_for.new.ahead c.first.i c.index-inputs-i.result c.wait_for.new.input c.first.invariant.waiting (omega (arith, c.first-test.true))
    c.wait_for.ensures.input c.wait_for.ensures.bytes c.wait_for.ensures.ahead

pub returns-in-Err-clause-waiting : goal.returns-in-Err-clause-waiting
returns-in-Err-clause-waiting g c =
    more_waiting g.R.FileReader.bytes c.args.cursors.now c.args.inputs.now c.first.inputs c.args.ahead.now c.first.ahead c.wait_for.new.ahead c.first.i c.index-inputs-i.result c.wait_for.new.input c.first.invariant.waiting (omega (arith, c.first-test.true))
    c.wait_for.ensures.input c.wait_for.ensures.bytes c.wait_for.ensures.ahead

pub returns-clause-waiting : goal.returns-clause-waiting
returns-clause-waiting g c = c.first.invariant.waiting

pub returns-in-Ok-false-clause-cause : goal.returns-in-Ok-false-clause-cause
returns-in-Ok-false-clause-cause g c =
    cause_quiet _ _ _ (faults_same g.R.FileReader.faults c.first.inputs c.first.i c.wait_for.new.input c.index-inputs-i.result (omega (arith, c.first-test.true)) c.in-Ok-false.ensures.cause.quiet ∙ c.first.invariant.faults)

pub returns-in-Err-clause-cause : goal.returns-in-Err-clause-cause
returns-in-Err-clause-cause g c =
    cause_on {T = Unit {0}} {U = Unit {0}} _ _ _ (Err c.in-Err.error) (Err c.in-Err.error) c.first.invariant.faults
    (cause_at {T = Bool} {U = Unit {0}} g.R.FileReader.faults c.first.inputs c.first.i c.wait_for.new.input c.index-inputs-i.result (Err c.in-Err.error) (Err c.in-Err.error) (omega (arith, c.first-test.true)) c.in-Err.ensures.cause refl) refl

pub returns-clause-cause : goal.returns-clause-cause
returns-clause-cause g c = cause_quiet _ _ _ c.first.invariant.faults
