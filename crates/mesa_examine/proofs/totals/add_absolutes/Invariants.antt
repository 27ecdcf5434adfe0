use Rattle.std.proofs.Common.{◌≡◌, ℕ, ◌+◌, ◌<◌, ◌≤◌, min, pos, length, get_or}
use Rattle.std.specs.Prelude.{nat_abs, slice_index_or}
use Rattle.mesa_examine.specs.Sums.{most}
use Rattle.mesa_examine.proofs.totals.add_absolutes.Given as goal

-- the columns so far have the value more, and the others stay
abbrev pub invariant-loop-i : goal.invariant-loop-i
invariant-loop-i l = record {
  len : length l.totals ≡ length l.initial.totals;
  done : (j : ℕ) → j < l.i → get_or l.totals j 0 ≡ min most (get_or l.initial.totals j 0 + nat_abs (slice_index_or l.values j (pos 0)));
  left : (j : ℕ) → l.i ≤ j → get_or l.totals j 0 ≡ get_or l.initial.totals j 0;
}
