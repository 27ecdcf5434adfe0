-- Lists of bytes.
use Rattle.std.specs.Prelude.{ℕ, List, Bool, nat_eq}
use lib.Pointwise.{pointwise}

-- whether two lists of bytes are equal
abbrev pub same_bytes : List ℕ → List ℕ → Bool
same_bytes = pointwise nat_eq
