use Rattle.std.proofs.Common.{◌≡◌, take}
use Rattle.mesa_script.specs.Rows.{span_lines as lines_in}
use Rattle.mesa_read_turns.proofs.spans.span_lines.Given as goal

-- the lines of the ranges so far
abbrev pub invariant-spans : goal.invariant-spans
invariant-spans l = l.lines.items ≡ lines_in (take l.span-index l.spans)
