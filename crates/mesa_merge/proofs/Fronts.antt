-- Fronts tell keys apart.
use Rattle.std.proofs.Common.{◌≡◌, ℕ, zero, suc, ◌+◌, ◌*◌, ◌^◌, ◌<◌, ◌-◌, ◌≤◌, ◌≢◌, inl, inr, List, [], ◌∷◌, ◌++◌, length, take, get_or, set, get_or-set_other, get_or-set_same, refl, sym, ◌∙◌, ap, subst, arith, true, lit<, length-append}
use Rattle.std.specs.Prelude.{replicate}
use Rattle.std.specs.Int.{w128, from_be_bytes}
use Rattle.std.specs.Ordering.{is_le, nat_cmp, ordering_then}
use Rattle.std.specs.declared.cmp.Ordering.TheVariants.{Less, Equal, Greater}
use Rattle.std.specs.Cmp.{nat_cmp_is, ranked}
use Rattle.std.proofs.Math.Nat.{mul-le-mul_right, pow-succ'}
use Rattle.std.proofs.lemmas.List.{get_or-replicate, length-replicate, length-set, length-take-le}
use Rattle.mesa_key.specs.Order.{byte_cmp, short_key}
use Rattle.mesa_key.specs.Spelling.{AreBytes}
use Rattle.mesa_delta.proofs.mesa_delta_format.Shorts.{short_le}
use Rattle.mesa_batch.proofs.Place.{flipped}
use Rattle.mesa_scan.specs.mesa_columns.declared.rows.Row.{Row}
use Rattle.mesa_merge.specs.Fronts.{AreFronts, HasFront, IsFront}
use Rattle.mesa_merge.specs.Hands.{ComesBefore}
use Rattle.mesa_merge.proofs.Trees.{same_or_not}

-- what bytes spell, the first the highest
spelled : List ℕ → ℕ
spelled [] = 0
spelled (x ∷ xs) = x * 256 ^ length xs + spelled xs

below : (xs : List ℕ) → AreBytes xs → spelled xs < 256 ^ length xs
unfolding spelled
below [] small = lit< tt
below (x ∷ xs) small =
    let rest : spelled xs < 256 ^ length xs = below xs (λ i. small (suc i)) in
    let first : suc x ≤ 256 = small 0 in
    let most : suc x * 256 ^ length xs ≤ 256 * 256 ^ length xs = mul-le-mul_right (256 ^ length xs) first in
    subst (λ n. x * 256 ^ length xs + spelled xs < n) (sym (pow-succ' 256 (length xs))) (omega (arith, rest, most))

lex_rest : (x r s : ℕ) → nat_cmp r s ≡ nat_cmp (x + r) (x + s)
lex_rest x r s = elim (nat_cmp r s) as (λ o. o ≡ nat_cmp r s → o ≡ nat_cmp (x + r) (x + s)) [
  | Less ↦ λ e. let h : r < s = ranked r s Less e in nat_cmp_is (x + r) (x + s) Less (omega arith)
  | Equal ↦ λ e. let h : r ≡ s = ranked r s Equal e in nat_cmp_is (x + r) (x + s) Equal (omega arith)
  | Greater ↦ λ e. let h : s < r = ranked r s Greater e in nat_cmp_is (x + r) (x + s) Greater (omega arith)
] refl

-- a digit before what follows it
lex : (a b r s c : ℕ) → r < c → s < c → ordering_then (nat_cmp a b) (nat_cmp r s) ≡ nat_cmp (a * c + r) (b * c + s)
lex a b r s c p q = elim (nat_cmp a b) as (λ o. o ≡ nat_cmp a b → ordering_then o (nat_cmp r s) ≡ nat_cmp (a * c + r) (b * c + s)) [
  | Less ↦ λ e. let h : suc a ≤ b = ranked a b Less e in nat_cmp_is (a * c + r) (b * c + s) Less (omega (arith, mul-le-mul_right c h))
  | Equal ↦ λ e. let h : a ≡ b = ranked a b Equal e in lex_rest (a * c) r s ∙ ap (λ n. nat_cmp (a * c + r) (n * c + s)) h
  | Greater ↦ λ e. let h : suc b ≤ a = ranked a b Greater e in nat_cmp_is (a * c + r) (b * c + s) Greater (omega (arith, mul-le-mul_right c h))
] refl

-- the order of as many bytes is that of the numbers that they spell
spelled_order : (xs ys : List ℕ) → length xs ≡ length ys → AreBytes xs → AreBytes ys → byte_cmp xs ys ≡ nat_cmp (spelled xs) (spelled ys)
unfolding spelled
spelled_order [] [] e p q = nat_cmp_is 0 0 Equal refl
spelled_order [] (y ∷ ys) e p q = absurd (omega (arith, e))
spelled_order (x ∷ xs) [] e p q = absurd (omega (arith, e))
spelled_order (x ∷ xs) (y ∷ ys) e p q =
    let same : length xs ≡ length ys = omega (arith, e) in
    ap (ordering_then (nat_cmp x y)) (spelled_order xs ys same (λ i. p (suc i)) (λ i. q (suc i)))
    ∙ lex x y (spelled xs) (spelled ys) (256 ^ length xs) (below xs (λ i. p (suc i))) (subst (λ n. spelled ys < 256 ^ n) (sym same) (below ys (λ i. q (suc i))))
    ∙ ap (λ n. nat_cmp (x * 256 ^ length xs + spelled xs) (y * 256 ^ n + spelled ys)) same

-- sixteen bytes spell the number that is read from them
sixteen : (xs : List ℕ) → length xs ≡ 16 → from_be_bytes w128 xs ≡ spelled xs
unfolding spelled
sixteen [] long = absurd (omega (arith, long))
sixteen (a ∷ []) long = absurd (omega (arith, long))
sixteen (a ∷ b ∷ []) long = absurd (omega (arith, long))
sixteen (a ∷ b ∷ c ∷ []) long = absurd (omega (arith, long))
sixteen (a ∷ b ∷ c ∷ d ∷ []) long = absurd (omega (arith, long))
sixteen (a ∷ b ∷ c ∷ d ∷ e ∷ []) long = absurd (omega (arith, long))
sixteen (a ∷ b ∷ c ∷ d ∷ e ∷ f ∷ []) long = absurd (omega (arith, long))
sixteen (a ∷ b ∷ c ∷ d ∷ e ∷ f ∷ g ∷ []) long = absurd (omega (arith, long))
sixteen (a ∷ b ∷ c ∷ d ∷ e ∷ f ∷ g ∷ h ∷ []) long = absurd (omega (arith, long))
sixteen (a ∷ b ∷ c ∷ d ∷ e ∷ f ∷ g ∷ h ∷ i ∷ []) long = absurd (omega (arith, long))
sixteen (a ∷ b ∷ c ∷ d ∷ e ∷ f ∷ g ∷ h ∷ i ∷ j ∷ []) long = absurd (omega (arith, long))
sixteen (a ∷ b ∷ c ∷ d ∷ e ∷ f ∷ g ∷ h ∷ i ∷ j ∷ k ∷ []) long = absurd (omega (arith, long))
sixteen (a ∷ b ∷ c ∷ d ∷ e ∷ f ∷ g ∷ h ∷ i ∷ j ∷ k ∷ l ∷ []) long = absurd (omega (arith, long))
sixteen (a ∷ b ∷ c ∷ d ∷ e ∷ f ∷ g ∷ h ∷ i ∷ j ∷ k ∷ l ∷ m ∷ []) long = absurd (omega (arith, long))
sixteen (a ∷ b ∷ c ∷ d ∷ e ∷ f ∷ g ∷ h ∷ i ∷ j ∷ k ∷ l ∷ m ∷ n ∷ []) long = absurd (omega (arith, long))
sixteen (a ∷ b ∷ c ∷ d ∷ e ∷ f ∷ g ∷ h ∷ i ∷ j ∷ k ∷ l ∷ m ∷ n ∷ o ∷ []) long = absurd (omega (arith, long))
sixteen (a ∷ b ∷ c ∷ d ∷ e ∷ f ∷ g ∷ h ∷ i ∷ j ∷ k ∷ l ∷ m ∷ n ∷ o ∷ p ∷ []) long = omega arith
sixteen (a ∷ b ∷ c ∷ d ∷ e ∷ f ∷ g ∷ h ∷ i ∷ j ∷ k ∷ l ∷ m ∷ n ∷ o ∷ p ∷ x ∷ xs) long = absurd (omega (arith, long))

zeros_bytes : (n m : ℕ) → AreBytes (take n (replicate m 0))
zeros_bytes zero m i = lit< tt
zeros_bytes (suc n) zero i = lit< tt
zeros_bytes (suc n) (suc m) zero = lit< tt
zeros_bytes (suc n) (suc m) (suc i) = zeros_bytes n m i

cut_bytes : (n m : ℕ) (key : List ℕ) → AreBytes key → AreBytes (take n (key ++ replicate m 0))
cut_bytes n m [] small i = zeros_bytes n m i
cut_bytes zero m (x ∷ xs) small i = lit< tt
cut_bytes (suc n) m (x ∷ xs) small zero = small 0
cut_bytes (suc n) m (x ∷ xs) small (suc i) = cut_bytes n m xs (λ j. small (suc j)) i

-- a key's short key is of bytes
pub short_bytes : (key : List ℕ) → AreBytes key → AreBytes (short_key key)
short_bytes key small = cut_bytes 16 16 key small

short_long : (key : List ℕ) → length (short_key key) ≡ 16
short_long key = length-take-le 16 (key ++ replicate 16 0) (omega (arith, length-append key (replicate 16 0), length-replicate {A = ℕ} 16 0))

number : (front : ℕ) (key : List ℕ) → IsFront front key → front ≡ spelled (short_key key)
number front key is = is.is ∙ sixteen (short_key key) (short_long key)

-- a lesser front is that of a lesser key
pub less_by_fronts : (f g : ℕ) (a b : List ℕ) → IsFront f a → IsFront g b → f < g → byte_cmp a b ≡ Less
less_by_fronts f g a b p q lt =
    let fewer : spelled (short_key a) < spelled (short_key b) = omega (arith, lt, number f a p, number g b q) in
    let shorts : byte_cmp (short_key a) (short_key b) ≡ Less =
    spelled_order (short_key a) (short_key b) (short_long a ∙ sym (short_long b)) p.bytes q.bytes ∙ sym (nat_cmp_is (spelled (short_key a)) (spelled (short_key b)) Less fewer) in
    let never : is_le (byte_cmp b a) ≡ true → ⊥ = λ le. let no : is_le Greater ≡ true = subst (λ o. is_le o ≡ true) (flipped (short_key b) (short_key a) Less shorts) (short_le b a le) in cc in
    elim (byte_cmp a b) as (λ o. byte_cmp a b ≡ o → o ≡ Less) [
      | Less ↦ λ e. refl
      | Equal ↦ λ e. absurd (never (ap is_le (flipped b a Equal e)))
      | Greater ↦ λ e. absurd (never (ap is_le (flipped b a Greater e)))
    ] refl

-- ---- fronts of inputs

-- a lesser front is that of an input that comes before the other
pub front_before : (f g a b : ℕ) (xs ys : List Row) → HasFront f xs → HasFront g ys → g < 2 ^ 128 → f < g → ComesBefore a xs b ys
front_before f g a b xs [] p q fits lt = tt
front_before f g a b [] (y ∷ ys) p q fits lt = absurd (omega (arith, p, fits, lt))
front_before f g a b (x ∷ xs) (y ∷ ys) p q fits lt = inl (less_by_fronts f g x.key y.key p q lt)

-- where none has a row at hand
pub no_fronts : (hands : List (List Row)) (fronts : List ℕ) → fronts ≡ replicate (length hands) (2 ^ 128 - 1) → ((j : ℕ) → get_or hands j [] ≡ []) → AreFronts hands fronts
no_fronts hands fronts is none = record {
  count = ap length is ∙ length-replicate (length hands) (2 ^ 128 - 1);
  each = λ j lt. subst (HasFront (get_or fronts j 0)) (sym (none j)) (ap (λ fs. get_or fs j 0) is ∙ get_or-replicate (length hands) j (2 ^ 128 - 1) 0 lt);
}

-- one of them has changed
pub front_set : (i f : ℕ) (hands : List (List Row)) (fronts : List ℕ) → length fronts ≡ length hands → i < length hands → ((j : ℕ) → j < length hands → j ≢ i → HasFront (get_or fronts j 0) (get_or hands j []))
    → HasFront f (get_or hands i []) → AreFronts hands (set fronts i f)
front_set i f hands fronts count within others here = record {
  count = length-set fronts i f ∙ count;
  each = λ j lt. elim (same_or_not j i) [
    | inl same ↦ subst (λ k. HasFront (get_or (set fronts i f) k 0) (get_or hands k [])) (sym same) (subst (λ n. HasFront n (get_or hands i [])) (sym (get_or-set_same fronts i f 0 (omega (arith, count, within)))) here)
    | inr ne ↦ subst (λ n. HasFront n (get_or hands j [])) (sym (get_or-set_other fronts i j f 0 ne)) (others j lt ne)
  ];
}
