-- The first part of a list of bytes, and those behind it.
use Rattle.std.proofs.Common.{◌≡◌, ℕ, zero, suc, ◌+◌, ◌<◌, ◌≤◌, List, [], ◌∷◌, length, take, drop, get_or, Bool, true, false, cond, refl, ap, arith, Option, Some, None}
use Rattle.std.specs.Prelude.{◌==◌, position}
use Rattle.std.specs.List.{position_or_len}
use Rattle.std.proofs.lemmas.Bool.{ltb-false}
use Rattle.std.proofs.lemmas.List.Quantifiers.{position-Some}
use Rattle.std.proofs.lemmas.List.Sums.{fails_before_first}
use Rattle.mesa_list.specs.Split.{split_at}

split_first : (c : ℕ) (bytes : List ℕ) (i : ℕ) → i < length bytes → (get_or bytes i 0 == c) ≡ true → ((k : ℕ) → k < i → (get_or bytes k 0 == c) ≡ false)
    → split_at c bytes ≡ take i bytes ∷ split_at c (drop (i + 1) bytes)
split_first c [] i l h f = absurd (omega arith)
split_first c (b ∷ bytes) zero l h f = rw h refl
split_first c (b ∷ bytes) (suc i) l h f =
    let first : (b == c) ≡ false = f 0 (omega arith) in
    let others = split_first c bytes i (omega arith) h (λ k below. f (suc k) (omega arith)) in
    let next : suc i + 1 ≡ suc (i + 1) = omega arith in
    rw (first, others, next) refl

-- Where the separator stands at i, the first part ends there.
pub split_found : (c : ℕ) (bytes : List ℕ) (i : ℕ) → position (λ b. b == c) bytes ≡ Some i → split_at c bytes ≡ take i bytes ∷ split_at c (drop (i + 1) bytes)
split_found c bytes i e = let at = position-Some (λ b. b == c) bytes i 0 e in split_first c bytes i at.0 at.1 at.2

whole : (c : ℕ) (bytes : List ℕ) → ((k : ℕ) → k < length bytes → (get_or bytes k 0 == c) ≡ false) → split_at c bytes ≡ bytes ∷ []
whole c [] f = refl
whole c (b ∷ bytes) f =
    let first : (b == c) ≡ false = f 0 (omega arith) in
    rw (first, whole c bytes (λ k below. f (suc k) (omega arith))) refl

-- a test that gave nothing failed
pub untrue : (t : Bool) (n : ℕ) → cond t (Some n) None ≡ None → t ≡ false
untrue true n e = cc
untrue false n e = refl

-- Where no separator stands, there is one part.
pub split_whole : (c : ℕ) (bytes : List ℕ) → position (λ b. b == c) bytes ≡ None → split_at c bytes ≡ bytes ∷ []
split_whole c bytes e =
    let past : length bytes ≤ position_or_len (λ b. b == c) bytes = ltb-false _ _ (untrue _ _ e) in
    whole c bytes (λ k below. fails_before_first (λ b. b == c) bytes k 0 (omega arith))

-- There is a part at least.
counted : (c : ℕ) (bytes : List ℕ) (o : Option ℕ) → position (λ b. b == c) bytes ≡ o → 1 ≤ length (split_at c bytes)
counted c bytes None e = omega (arith, ap length (split_whole c bytes e))
counted c bytes (Some i) e = omega (arith, ap length (split_found c bytes i e))

pub some_part : (c : ℕ) (bytes : List ℕ) → 1 ≤ length (split_at c bytes)
some_part c bytes = counted c bytes (position (λ b. b == c) bytes) refl
