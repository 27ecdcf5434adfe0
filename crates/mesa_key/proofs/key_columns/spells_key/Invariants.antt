use Rattle.std.proofs.Common.{◌≡◌, length}
use Rattle.mesa_key.specs.Spelling.{is_spelling}
use Rattle.mesa_key.proofs.key_columns.spells_key.Given as goal

-- the columns that are left decide
abbrev pub invariant-loop-column : goal.invariant-loop-column
invariant-loop-column l = is_spelling l.columns.kinds l.columns.bytes ≡ is_spelling l.kinds l.bytes

abbrev pub decreases-loop-column : goal.decreases-loop-column
decreases-loop-column l = length l.columns.kinds
