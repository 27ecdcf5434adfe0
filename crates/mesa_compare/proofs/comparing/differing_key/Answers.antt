use Rattle.std.proofs.Common.{◌∙◌, ap}
use Rattle.std.specs.Prelude.{option_map}
use Rattle.std.proofs.lemmas.Option.{IfSome_then}
use Rattle.mesa_schema.specs.mesa_columns.Lent.{lent}
use Rattle.mesa_compare.proofs.Differences.{both_go_on, one_ends, other_ends}
use Rattle.mesa_compare.proofs.comparing.differing_key.Goals as goal

pub returns-in-Some-other-clause-first : goal.returns-in-Some-other-clause-first
returns-in-Some-other-clause-first c =
    IfSome_then c.differing_rows.result c.differing_rows.ensures.first (λ key shows front rows others here there rises rise.
    both_go_on front rows others (lent c.in-Some.row) (lent c.in-Some-other.beside) key.now (here ∙ ap (option_map lent) c.in-Some.is) (there ∙ ap (option_map lent) c.in-Some-other.is) rises rise shows)

pub returns-in-None-other-clause-first : goal.returns-in-None-other-clause-first
returns-in-None-other-clause-first c = λ front rows others here there rises rise.
    other_ends front rows others (lent c.in-Some.row) (here ∙ ap (option_map lent) c.in-Some.is) (there ∙ ap (option_map lent) c.in-None-other.is) rises rise

pub returns-in-Some-other-2-clause-first : goal.returns-in-Some-other-2-clause-first
returns-in-Some-other-2-clause-first c = λ front rows others here there rises rise.
    one_ends front rows others (lent c.in-Some-other-2.beside) (here ∙ ap (option_map lent) c.in-None.is) (there ∙ ap (option_map lent) c.in-Some-other-2.is) rises rise
