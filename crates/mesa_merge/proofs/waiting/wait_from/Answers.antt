use Rattle.std.proofs.Common.{refl, sym, subst}
use Rattle.mesa_merge.specs.Waiting.{AreWaiting}
use Rattle.mesa_merge.proofs.Ahead.{none_waiting}
use Rattle.mesa_merge.proofs.Causing.{cause_quiet}
use Rattle.mesa_merge.proofs.waiting.wait_from.Goals as goal

pub returns-then-not-is_empty-clause-waiting : goal.returns-then-not-is_empty-clause-waiting
returns-then-not-is_empty-clause-waiting g c = none_waiting g.R.FileReader.bytes c.args.cursors.now c.args.inputs.now c.args.ahead.now

pub returns-then-not-is_empty-clause-cause : goal.returns-then-not-is_empty-clause-cause
returns-then-not-is_empty-clause-cause g c = cause_quiet _ _ _ refl

pub returns-clause-waiting : goal.returns-clause-waiting
returns-clause-waiting g c =
    subst (AreWaiting g.R.FileReader.bytes c.args.cursors.now c.args.inputs.now c.read_first.new.inputs c.args.ahead.now) (sym c.digest.ensures) c.read_first.ensures.waiting
