use Rattle.std.proofs.Common.{subst}
use Rattle.std.specs.Prelude.{IsTrue}
use Rattle.mesa_batch.proofs.SharedColumns.{none_shared}
use Rattle.mesa_batch.proofs.builder.share.Goals as goal

pub returns-clause-none : goal.returns-clause-none
returns-clause-none c = λ _. c.requires.one_glance (λ e. let full = subst IsTrue c.if-is_empty.false (c.is_empty.ensures.1 (none_shared c.args.columns.now e)) in cc)
