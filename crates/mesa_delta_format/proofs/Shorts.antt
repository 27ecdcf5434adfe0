-- Short keys never fall where keys don't.
use Rattle.std.proofs.Common.{◌≡◌, ℕ, zero, suc, ◌≤◌, List, [], ◌∷◌, ◌++◌, take, refl, sym, ap, arith, true}
use Rattle.std.specs.Prelude.{replicate}
use Rattle.std.specs.declared.cmp.Ordering.{Ordering}
use Rattle.std.specs.declared.cmp.Ordering.TheVariants.{Less, Equal, Greater}
use Rattle.std.specs.Ordering.{is_le, nat_cmp, ordering_then}
use Rattle.std.specs.Cmp.{nat_cmp_is}
use Rattle.mesa_block.specs.mesa_key.Order.{byte_cmp, short_key}

then_both : (o q : Ordering) → is_le o ≡ true → is_le q ≡ true → is_le (ordering_then o q) ≡ true
then_both Less q ho hq = refl
then_both Equal q ho hq = hq
then_both Greater q ho hq = absurd cc

then_more : (o p q : Ordering) → is_le (ordering_then o p) ≡ true → (is_le p ≡ true → is_le q ≡ true) → is_le (ordering_then o q) ≡ true
then_more Less p q h f = refl
then_more Equal p q h f = f h
then_more Greater p q h f = absurd cc

zero_least : (y : ℕ) → is_le (nat_cmp 0 y) ≡ true
zero_least zero = ap is_le (sym (nat_cmp_is 0 0 Equal refl))
zero_least (suc y) = ap is_le (sym (nat_cmp_is 0 (suc y) Less (omega arith)))

zeros_least : (n p q : ℕ) (b : List ℕ) → n ≤ p → n ≤ q → is_le (byte_cmp (take n (replicate p 0)) (take n (b ++ replicate q 0))) ≡ true
zeros_least zero p q b hp hq = refl
zeros_least (suc n) zero q b hp hq = absurd (omega arith)
zeros_least (suc n) (suc p) zero [] hp hq = absurd (omega arith)
zeros_least (suc n) (suc p) (suc q) [] hp hq = then_both (nat_cmp 0 0) (byte_cmp (take n (replicate p 0)) (take n (replicate q 0))) (zero_least 0) (zeros_least n p q [] (omega arith) (omega arith))
zeros_least (suc n) (suc p) q (y ∷ b) hp hq = then_both (nat_cmp 0 y) (byte_cmp (take n (replicate p 0)) (take n (b ++ replicate q 0))) (zero_least y) (zeros_least n p q b (omega arith) (omega arith))

cut_le : (n p q : ℕ) (a b : List ℕ) → n ≤ p → n ≤ q → is_le (byte_cmp a b) ≡ true → is_le (byte_cmp (take n (a ++ replicate p 0)) (take n (b ++ replicate q 0))) ≡ true
cut_le zero p q a b hp hq h = refl
cut_le (suc n) p q [] b hp hq h = zeros_least (suc n) p q b hp hq
cut_le (suc n) p q (x ∷ a) [] hp hq h = absurd cc
cut_le (suc n) p q (x ∷ a) (y ∷ b) hp hq h = then_more (nat_cmp x y) (byte_cmp a b) (byte_cmp (take n (a ++ replicate p 0)) (take n (b ++ replicate q 0))) h (cut_le n p q a b (omega arith) (omega arith))

pub short_le : (a b : List ℕ) → is_le (byte_cmp a b) ≡ true → is_le (byte_cmp (short_key a) (short_key b)) ≡ true
short_le a b h = cut_le 16 16 16 a b (omega arith) (omega arith) h
