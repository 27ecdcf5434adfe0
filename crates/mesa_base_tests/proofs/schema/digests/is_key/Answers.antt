use Rattle.std.proofs.Common.{◌∙◌, sym, arith}
use Rattle.mesa_base_tests.proofs.schema.digests.is_key.Goals as goal

pub returns-clause-key : goal.returns-clause-key
returns-clause-key c = λ is. c.reads_spellings.ensures.key c.args.kinds.now c.args.key.now (λ i. let h = c.type_inv.key i in omega arith) (sym c.spells_key.ensures ∙ is)

pub returns-clause-spelled : goal.returns-clause-spelled
returns-clause-spelled c = λ is. c.reads_spellings.ensures.spelled c.args.kinds.now c.args.key.now (λ i. let h = c.type_inv.key i in omega arith) (sym c.spells_key.ensures ∙ is)
