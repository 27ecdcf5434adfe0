-- The order of a key's bytes, column by column.
use Rattle.std.proofs.Common.{◌≡◌, ℕ, ◌<◌, List, [], ◌∷◌, ◌++◌, refl, sym, ◌∙◌, ap, length, arith}
use Rattle.std.specs.Ordering.{nat_cmp, ordering_then}
use Rattle.std.specs.declared.cmp.Ordering.{Ordering}
use Rattle.std.specs.declared.cmp.Ordering.TheVariants.{Less, Equal, Greater}
use Rattle.std.specs.Cmp.{nat_cmp_is}
use Rattle.mesa_key.specs.Order.{byte_cmp}

pub then_assoc : (a b c : Ordering) → ordering_then a (ordering_then b c) ≡ ordering_then (ordering_then a b) c
then_assoc Less b c = refl
then_assoc Equal b c = refl
then_assoc Greater b c = refl

-- columns of one length decide before what follows them
pub byte_cmp-long : (u v s t : List ℕ) → length u ≡ length v → byte_cmp (u ++ s) (v ++ t) ≡ ordering_then (byte_cmp u v) (byte_cmp s t)
byte_cmp-long [] [] s t e = refl
byte_cmp-long [] (y ∷ v) s t e = absurd (omega arith)
byte_cmp-long (x ∷ u) [] s t e = absurd (omega arith)
byte_cmp-long (x ∷ u) (y ∷ v) s t e = ap (ordering_then (nat_cmp x y)) (byte_cmp-long u v s t (omega arith)) ∙ then_assoc (nat_cmp x y) _ _

-- no byte is zero
abbrev pub NoZero : List ℕ → Type 0
NoZero [] = Unit {0}
NoZero (b ∷ bytes) = (0 < b) × NoZero bytes

zero_first : (y : ℕ) → 0 < y → nat_cmp 0 y ≡ Less
zero_first y h = sym (nat_cmp_is 0 y Less h)

zero_last : (x : ℕ) → 0 < x → nat_cmp x 0 ≡ Greater
zero_last x h = sym (nat_cmp_is x 0 Greater h)

-- texts that end in a zero byte decide before what follows them
pub byte_cmp-texts : (u v s t : List ℕ) → NoZero u → NoZero v → byte_cmp (u ++ 0 ∷ s) (v ++ 0 ∷ t) ≡ ordering_then (byte_cmp u v) (byte_cmp s t)
byte_cmp-texts [] [] s t p q = refl
byte_cmp-texts [] (y ∷ v) s t p q = ap (λ o. ordering_then o (byte_cmp s (v ++ 0 ∷ t))) (zero_first y q.0)
byte_cmp-texts (x ∷ u) [] s t p q = ap (λ o. ordering_then o (byte_cmp (u ++ 0 ∷ s) t)) (zero_last x p.0)
byte_cmp-texts (x ∷ u) (y ∷ v) s t p q = ap (ordering_then (nat_cmp x y)) (byte_cmp-texts u v s t p.1 q.1) ∙ then_assoc (nat_cmp x y) _ _
