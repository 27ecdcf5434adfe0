use Rattle.std.proofs.Common.{◌+◌, ap, ◌∙◌, arith}
use Rattle.mesa_turn.specs.History.{has}
use Rattle.mesa_turn.specs.Passes.{Known}
use Rattle.mesa_turn.proofs.Names.{has_without}
use Rattle.mesa_base_tests.proofs.turns.part_first.Goals as goal

pub split-requires-clause-another : goal.split-requires-clause-another
split-requires-clause-another c κs = (c.args.name + 1, c.requires.names (c.args.name + 1) (omega arith) (omega arith), λ same. omega arith)

pub returns-clause-rest : goal.returns-clause-rest
returns-clause-rest c = λ n behind below. ap (λ (p : Known). has p.names n) c.split.ensures.kept ∙ (has_without c.args.name c.args.pass.names n (λ same. omega arith) ∙ c.requires.names n (omega arith) below)
