use Rattle.std.proofs.Common.{◌∙◌, sym, ap}
use Rattle.mesa_generate.specs.Lines.{behind_lines}
use Rattle.mesa_generate.proofs.Behind.{behind_all, behind_break, behind_end, behind_other}
use Rattle.mesa_generate.proofs.lines.behind_lines.Goals as goal

pub returns-in_default : goal.returns-in_default
returns-in_default c = behind_end c.bytes.left c.bytes.rest.now c.in_default.ensures.cases ∙ c.bytes.invariant

pub bytes-preserved-then-first-eq10 : goal.bytes-preserved-then-first-eq10
bytes-preserved-then-first-eq10 c =
    behind_break c.bytes.left c.in-Some.first.now c.in-Some.more.now c.bytes-test.true c.if-first-eq10.true ∙ ap (behind_lines c.bytes.left) (sym c.in-Some.ensures.cases.0) ∙ c.bytes.invariant

pub bytes-preserved : goal.bytes-preserved
bytes-preserved c =
    behind_other c.bytes.left c.in-Some.first.now c.in-Some.more.now c.bytes-test.true c.if-first-eq10.false ∙ ap (behind_lines c.bytes.left) (sym c.in-Some.ensures.cases.0) ∙ c.bytes.invariant

pub returns : goal.returns
returns c = behind_all c.bytes.left c.bytes.rest.now c.bytes-test.false ∙ c.bytes.invariant
