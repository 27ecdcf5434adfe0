use Rattle.std.proofs.Common.{◌∙◌, sym}
use Rattle.mesa_filter.proofs.ResumeKeys.{other_prefix}
use Rattle.mesa_filter.proofs.resuming.resume_key.Goals as goal

pub returns-in_default-clause-refused : goal.returns-in_default-clause-refused
returns-in_default-clause-refused c _ = other_prefix c.args.kinds.now c.args.prefix.now c.args.words.now (sym c.is_empty.ensures ∙ c.if-is_empty.false) c.in_default.ensures.cases
