use Rattle.std.proofs.Common.{◌≡◌, length}
use Rattle.mesa_generate.specs.Lines as spec
use Rattle.mesa_generate.proofs.lines.behind_lines.Given as goal

-- what is left of the lines and of the text comes to the same
abbrev pub invariant-bytes : goal.invariant-bytes
invariant-bytes l = spec.behind_lines l.left l.rest ≡ spec.behind_lines l.lines l.text

abbrev pub decreases-bytes : goal.decreases-bytes
decreases-bytes l = length l.rest
