-- Eight bytes are ordered as the number that they spell.
use Rattle.std.proofs.Common.{◌≡◌, ℕ, zero, suc, ◌<◌, ◌≤◌, ◌-◌, ◌^◌, ◌%◌, List, [], ◌∷◌, ◌++◌, length, take, drop, get_or, refl, sym, ◌∙◌, ap, arith}
use Rattle.std.specs.Int.{bytes_high_first, from_be_bytes, w64}
use Rattle.std.specs.Ordering.{nat_cmp, ordering_then}
use Rattle.std.specs.declared.cmp.Ordering.{Ordering}
use Rattle.std.specs.declared.cmp.Ordering.TheVariants.{Less, Equal, Greater}
use Rattle.std.proofs.lemmas.List.{length-drop, take_all}
use Rattle.std.proofs.lemmas.Nat.{be_bytes_8}
use Rattle.mesa_key.specs.Order.{byte_cmp}
use Rattle.mesa_key.proofs.IntOrder.{bytes_order}
use Rattle.mesa_key.proofs.KeyOrder.{byte_cmp-long}

abbrev Small : List ℕ → Type 0
Small bytes = (i : ℕ) → get_or bytes i 0 < 256

-- eight bytes, read one by one
pub first_bytes : (key : List ℕ) → 8 ≤ length key
    → get_or key 0 0 ∷ get_or key 1 0 ∷ get_or key 2 0 ∷ get_or key 3 0 ∷ get_or key 4 0 ∷ get_or key 5 0 ∷ get_or key 6 0 ∷ get_or key 7 0 ∷ [] ≡ take 8 key
first_bytes [] h = absurd (omega (arith, h))
first_bytes (x0 ∷ []) h = absurd (omega (arith, h))
first_bytes (x0 ∷ x1 ∷ []) h = absurd (omega (arith, h))
first_bytes (x0 ∷ x1 ∷ x2 ∷ []) h = absurd (omega (arith, h))
first_bytes (x0 ∷ x1 ∷ x2 ∷ x3 ∷ []) h = absurd (omega (arith, h))
first_bytes (x0 ∷ x1 ∷ x2 ∷ x3 ∷ x4 ∷ []) h = absurd (omega (arith, h))
first_bytes (x0 ∷ x1 ∷ x2 ∷ x3 ∷ x4 ∷ x5 ∷ []) h = absurd (omega (arith, h))
first_bytes (x0 ∷ x1 ∷ x2 ∷ x3 ∷ x4 ∷ x5 ∷ x6 ∷ []) h = absurd (omega (arith, h))
first_bytes (x0 ∷ x1 ∷ x2 ∷ x3 ∷ x4 ∷ x5 ∷ x6 ∷ x7 ∷ key) h = refl

take_small : (n : ℕ) (key : List ℕ) → Small key → Small (take n key)
take_small zero key small i = omega arith
take_small (suc n) [] small i = omega arith
take_small (suc n) (x ∷ key) small zero = small 0
take_small (suc n) (x ∷ key) small (suc i) = take_small n key (λ j. small (suc j)) i

take_length : (n : ℕ) (key : List ℕ) → n ≤ length key → length (take n key) ≡ n
take_length zero key h = refl
take_length (suc n) [] h = absurd (omega (arith, h))
take_length (suc n) (x ∷ key) h = ap suc (take_length n key (omega (arith, h)))

take_then : (n : ℕ) (key : List ℕ) → take n key ++ drop n key ≡ key
take_then zero key = refl
take_then (suc n) [] = refl
take_then (suc n) (x ∷ key) = ap (λ l. x ∷ l) (take_then n key)

-- the number of the first eight bytes
abbrev eight : List ℕ → ℕ
eight key = from_be_bytes w64 (take 8 key)

eight_bytes : (key : List ℕ) → 8 ≤ length key → Small key → bytes_high_first 8 (eight key) ≡ take 8 key
eight_bytes key long small = be_bytes_8 (take 8 key) (eight key) (take_length 8 key long) (take_small 8 key small) refl

fits_64 : (bytes : List ℕ) → Small bytes → from_be_bytes w64 bytes < 2 ^ 64
fits_64 bytes small = omega (arith, small 0, small 1, small 2, small 3, small 4, small 5, small 6, small 7)

mod_64 : (n : ℕ) → n < 2 ^ 64 → n ≡ n % 2 ^ 64
mod_64 n below = omega (arith, below)

eight_mod : (key : List ℕ) → Small key → eight key ≡ eight key % 2 ^ 64
eight_mod key small = mod_64 (eight key) (fits_64 (take 8 key) (take_small 8 key small))

eights_order : (u v : List ℕ) → 8 ≤ length u → 8 ≤ length v → Small u → Small v → nat_cmp (eight u) (eight v) ≡ byte_cmp (take 8 u) (take 8 v)
eights_order u v lu lv su sv =
    (λ i. nat_cmp (eight_mod u su i) (eight_mod v sv i))
    ∙ sym (bytes_order 8 (eight u) (eight v))
    ∙ (λ i. byte_cmp (eight_bytes u lu su i) (eight_bytes v lv sv i))

-- the first eight bytes decide before those behind them
eights_first : (u v : List ℕ) → 8 ≤ length u → 8 ≤ length v → Small u → Small v → ordering_then (nat_cmp (eight u) (eight v)) (byte_cmp (drop 8 u) (drop 8 v)) ≡ byte_cmp u v
eights_first u v lu lv su sv =
    ap (λ o. ordering_then o (byte_cmp (drop 8 u) (drop 8 v))) (eights_order u v lu lv su sv)
    ∙ sym (byte_cmp-long (take 8 u) (take 8 v) (drop 8 u) (drop 8 v) (take_length 8 u lu ∙ sym (take_length 8 v lv)))
    ∙ (λ i. byte_cmp (take_then 8 u i) (take_then 8 v i))

-- so do their numbers
pub eights_decide : (u v : List ℕ) (x y : ℕ) (o : Ordering) → 8 ≤ length u → 8 ≤ length v → Small u → Small v → x ≡ from_be_bytes w64 (take 8 u) → y ≡ from_be_bytes w64 (take 8 v)
    → o ≡ nat_cmp x y → ordering_then o (byte_cmp (drop 8 u) (drop 8 v)) ≡ byte_cmp u v
eights_decide u v x y o lu lv su sv p q is = ap (λ r. ordering_then r (byte_cmp (drop 8 u) (drop 8 v))) (is ∙ (λ i. nat_cmp (p i) (q i))) ∙ eights_first u v lu lv su sv

rest_of : (u : List ℕ) → take (length u - 8) (drop 8 u) ≡ drop 8 u
rest_of u = take_all (length u - 8) (drop 8 u) (omega (arith, length-drop 8 u))

-- where they are the same, what is behind them decides
pub eights_same : (u v whole_u whole_v : List ℕ) (o : Ordering) → ordering_then o (byte_cmp (drop 8 u) (drop 8 v)) ≡ byte_cmp u v → o ≡ Equal → byte_cmp u v ≡ byte_cmp whole_u whole_v
    → byte_cmp (take (length u - 8) (drop 8 u)) (take (length v - 8) (drop 8 v)) ≡ byte_cmp whole_u whole_v
eights_same u v whole_u whole_v o is same before =
    (λ i. byte_cmp (rest_of u i) (rest_of v i)) ∙ ap (λ r. ordering_then r (byte_cmp (drop 8 u) (drop 8 v))) (sym same) ∙ is ∙ before

decides : (o rest : Ordering) → (o ≡ Equal → ⊥) → ordering_then o rest ≡ o
decides Less rest other = refl
decides Equal rest other = absurd (other refl)
decides Greater rest other = refl

-- where they are not, they decide
pub eights_apart : (u v whole_u whole_v : List ℕ) (o : Ordering) → ordering_then o (byte_cmp (drop 8 u) (drop 8 v)) ≡ byte_cmp u v → (o ≡ Equal → ⊥) → byte_cmp u v ≡ byte_cmp whole_u whole_v → o ≡ byte_cmp whole_u whole_v
eights_apart u v whole_u whole_v o is other before = sym (decides o (byte_cmp (drop 8 u) (drop 8 v)) other) ∙ is ∙ before
