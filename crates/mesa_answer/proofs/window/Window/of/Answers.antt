use Rattle.std.proofs.Common.{refl}
use Rattle.mesa_answer.proofs.Windows.{is_window}
use Rattle.mesa_answer.proofs.window.Window.of.Goals as goal

pub returns : goal.returns
returns c = is_window c.args.kinds.now c.args.columns.now c.args.values.now c.in_ok-first.first c.in_ok-first_of_run.field-0 _ c.in_ok-first.ensures.run c.in_ok-first_of_run.ensures.run (c.are_ints.ensures cc) refl
