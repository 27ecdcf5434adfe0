-- Bytes that are taken and put piece by piece.
use Rattle.std.proofs.Common.{◌≡◌, ◌+◌, ◌-◌, ◌≤◌, ℕ, List, length, take, drop, arith}
use Rattle.std.specs.Prelude.{Option}
use Rattle.std.specs.Io.KnownBytes.{Appends, Consumes}
use Rattle.std.proofs.KnownBytes.{Appends-trans, Consumes-trans}
use Rattle.std.proofs.Math.Seq.{take-add}
use Rattle.std.proofs.lemmas.Grind.{common_steps}

-- a piece taken behind those that were taken
pub Consumes-behind : (old mid new : Option (List ℕ)) (i n : ℕ) (before after : List ℕ) → Consumes old mid (take i before) → take i after ≡ take i before → Consumes mid new (take n (drop i after))
    → Consumes old new (take (i + n) after)
Consumes-behind old mid new i n before after taken same more =
    let first : Consumes old mid (take i after) = rw same taken in
    rw (take-add i n after) (Consumes-trans old mid new (take i after) (take n (drop i after)) first more)

-- a piece put behind those that were put
pub Appends-behind : (old mid new : Option (List ℕ)) (i n : ℕ) (bytes : List ℕ) → i ≤ length bytes → Appends old mid (take i bytes) → Appends mid new (take n (take (length bytes - i) (drop i bytes)))
    → Appends old new (take (i + n) bytes)
Appends-behind old mid new i n bytes within put more =
    let rest : take (length bytes - i) (drop i bytes) ≡ drop i bytes = grind (arith, common_steps) in
    rw (take-add i n bytes) (Appends-trans old mid new (take i bytes) (take n (drop i bytes)) put (rw rest at more))
