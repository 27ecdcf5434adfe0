-- Aggregates of more than 128 bits.
use Rattle.std.specs.Prelude.{ℤ, pos, ◌+ℤ◌, ◌*ℤ◌, ◌^◌}

-- what is left beside 2^128, carried so often
abbrev pub carried : ℤ → ℤ → ℤ
carried left carries = left +ℤ (carries *ℤ pos (2 ^ 128))
