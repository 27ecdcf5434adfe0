-- The order of an int's bytes is that of the numbers.
use Rattle.std.proofs.Common.{◌≡◌, ℕ, zero, suc, ◌+◌, ◌*◌, ◌/◌, ◌%◌, ◌^◌, ◌<◌, ◌≤◌, refl, sym, ◌∙◌, ap, subst, arith}
use Rattle.std.specs.Ordering.{nat_cmp, ordering_then}
use Rattle.std.specs.declared.cmp.Ordering.TheVariants.{Less, Equal, Greater}
use Rattle.std.specs.Cmp.{nat_cmp_is, ranked}
use Rattle.std.specs.Int.{bytes_high_first, byte_at}
use Rattle.std.proofs.Math.Nat.{mul-le-mul_right}
use Rattle.std.proofs.Math.Arith.{mod-mul}
use Rattle.std.proofs.Math.Nat.{mod-lt, pow-succ', div-one, mod-one}
use Rattle.std.proofs.Common.{lit<}
use Rattle.mesa_key.specs.Order.{byte_cmp}

-- digits before what follows them
lex_rest : (x r s : ℕ) → nat_cmp r s ≡ nat_cmp (x + r) (x + s)
lex_rest x r s = elim (nat_cmp r s) as (λ o. o ≡ nat_cmp r s → o ≡ nat_cmp (x + r) (x + s)) [
  | Less ↦ λ e. let h : r < s = ranked r s Less e in nat_cmp_is (x + r) (x + s) Less (omega arith)
  | Equal ↦ λ e. let h : r ≡ s = ranked r s Equal e in nat_cmp_is (x + r) (x + s) Equal (omega arith)
  | Greater ↦ λ e. let h : s < r = ranked r s Greater e in nat_cmp_is (x + r) (x + s) Greater (omega arith)
] refl

lex : (a b r s c : ℕ) → r < c → s < c → ordering_then (nat_cmp a b) (nat_cmp r s) ≡ nat_cmp (a * c + r) (b * c + s)
lex a b r s c p q = elim (nat_cmp a b) as (λ o. o ≡ nat_cmp a b → ordering_then o (nat_cmp r s) ≡ nat_cmp (a * c + r) (b * c + s)) [
  | Less ↦ λ e. let h : suc a ≤ b = ranked a b Less e in nat_cmp_is (a * c + r) (b * c + s) Less (omega (arith, mul-le-mul_right c h))
  | Equal ↦ λ e. let h : a ≡ b = ranked a b Equal e in lex_rest (a * c) r s ∙ ap (λ n. nat_cmp (a * c + r) (n * c + s)) h
  | Greater ↦ λ e. let h : suc b ≤ a = ranked a b Greater e in nat_cmp_is (a * c + r) (b * c + s) Greater (omega (arith, mul-le-mul_right c h))
] refl

pos_power : (k : ℕ) → 0 < 256 ^ k
pos_power zero = lit< tt
pos_power (suc k) = let h : 0 < 256 ^ k = pos_power k in let g : 0 < 256 * 256 ^ k = omega arith in subst (λ n. 0 < n) (sym (pow-succ' 256 k)) g

byte_at_is : (k n : ℕ) → byte_at k n ≡ n / 256 ^ k % 256
byte_at_is zero n = ap (λ m. m % 256) (sym (div-one n))
byte_at_is (suc k) n = refl

-- the lowest k + 1 bytes are the byte k and the lowest k
low_bytes : (k n : ℕ) → n % 256 ^ suc k ≡ byte_at k n * 256 ^ k + n % 256 ^ k
low_bytes k n = ap (λ m. n % m) (pow-succ' 256 k) ∙ mod-mul n (lit< tt) (pos_power k) ∙ ap (λ b. b * 256 ^ k + n % 256 ^ k) (sym (byte_at_is k n))

pub bytes_order : (k m n : ℕ) → byte_cmp (bytes_high_first k m) (bytes_high_first k n) ≡ nat_cmp (m % 256 ^ k) (n % 256 ^ k)
bytes_order zero m n = nat_cmp_is (m % 256 ^ zero) (n % 256 ^ zero) Equal (mod-one m ∙ sym (mod-one n))
bytes_order (suc k) m n =
    ap (ordering_then (nat_cmp (byte_at k m) (byte_at k n))) (bytes_order k m n)
    ∙ lex (byte_at k m) (byte_at k n) (m % 256 ^ k) (n % 256 ^ k) (256 ^ k) (mod-lt m (pos_power k)) (mod-lt n (pos_power k))
    ∙ (λ i. nat_cmp (sym (low_bytes k m) i) (sym (low_bytes k n) i))
