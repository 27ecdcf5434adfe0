use Rattle.std.proofs.Common.{◌≡◌, ℕ, ◌<◌, [], get_or, true}
use Rattle.mesa_columns.specs.mesa_key.Spelling.{is_key_text}
use Rattle.mesa_block.proofs.checking.bad_cell.Given as goal

-- the cells before are texts
abbrev pub invariant-loop-i : goal.invariant-loop-i
invariant-loop-i l = (k : ℕ) → k < l.i → is_key_text (get_or l.column k []) ≡ true
