-- Entries read one after the other.
use Rattle.std.proofs.Common.{List, ◌++◌, Result, Ok}
use Rattle.mesa_list.specs.Checks.{◌>>=◌}

-- those that were read, and those to come
abbrev pub ahead : {A E : Type 0} → List A → Result (List A) E → Result (List A) E
ahead found more = more >>= (λ rest. Ok (found ++ rest))
