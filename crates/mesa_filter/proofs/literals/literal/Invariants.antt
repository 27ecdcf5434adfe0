use Rattle.std.proofs.Common.{◌≡◌, length}
use Rattle.mesa_filter.specs.Filter.{unescaped}
use Rattle.mesa_filter.proofs.Texts.{after}
use Rattle.mesa_filter.proofs.literals.literal.Given as goal

-- the bytes so far and those that are left are those of all
abbrev pub invariant-bytes : goal.invariant-bytes
invariant-bytes l = after l.text (unescaped l.rest) ≡ unescaped l.bytes

abbrev pub decreases-bytes : goal.decreases-bytes
decreases-bytes l = length l.rest
