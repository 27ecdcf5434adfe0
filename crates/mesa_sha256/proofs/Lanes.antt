-- Words of one message among those of four.
use Rattle.std.proofs.Common.{◌≡◌, ℕ, zero, suc, ◌<◌, List, [], ◌∷◌, length, slice_index, slice_index_or, slice_set, take, drop, refl, ap, arith}
use Rattle.std.proofs.Common.{◌^◌, Fits, w32}
use Rattle.std.proofs.lemmas.Simd.{Each1-get_or}
use Rattle.mesa_sha256.specs.Lanes.{lane, one_of}
use lib.Lanes.{Each1}

pub lane_at : (l i : ℕ) (vectors : List (List ℕ)) → i < length vectors → slice_index (lane l vectors) i ≡ slice_index (slice_index_or vectors i []) l
lane_at l i [] lt = absurd (omega (arith, lt))
lane_at l zero (x ∷ vectors) lt = refl
lane_at l (suc i) (x ∷ vectors) lt = lane_at l i vectors (omega (arith, lt))

pub lane_set : (l i : ℕ) (vectors : List (List ℕ)) (x : List ℕ) → lane l (slice_set vectors i x) ≡ slice_set (lane l vectors) i (slice_index x l)
lane_set l i [] x = refl
lane_set l zero (y ∷ vectors) x = refl
lane_set l (suc i) (y ∷ vectors) x = ap (λ (ws : List ℕ). slice_index y l ∷ ws) (lane_set l i vectors x)

pub lane_count : (l : ℕ) (vectors : List (List ℕ)) → length (lane l vectors) ≡ length vectors
lane_count l [] = refl
lane_count l (x ∷ vectors) = ap suc (lane_count l vectors)

-- a word is below 2 ^ 32
pub word_fits : (x : List ℕ) (l : ℕ) → (length x ≡ 4) × Each1 (Fits w32) x → l < 4 → slice_index x l < 2 ^ 32
word_fits x l fits lt = (Each1-get_or (Fits w32) x l 0 (omega (arith, lt, fits.0)) fits.1).fits

-- what holds of each of four
pub of_each : (P : ℕ → Type 0) → P 0 → P 1 → P 2 → P 3 → (l : ℕ) → l < 4 → P l
of_each P a b c d zero lt = a
of_each P a b c d (suc zero) lt = b
of_each P a b c d (suc (suc zero)) lt = c
of_each P a b c d (suc (suc (suc zero))) lt = d
of_each P a b c d (suc (suc (suc (suc l)))) lt = absurd (omega (arith, lt))

-- the block of one message is the block of its bytes
pub block_of : (a b c d p q r s : List ℕ) (n : ℕ) → p ≡ take 64 (drop n a) → q ≡ take 64 (drop n b) → r ≡ take 64 (drop n c) → s ≡ take 64 (drop n d) → (l : ℕ) → l < 4 → one_of l p q r s ≡ take 64 (drop n (one_of l a b c d))
block_of a b c d p q r s n e f g h = of_each (λ l. one_of l p q r s ≡ take 64 (drop n (one_of l a b c d))) e f g h

pub same_block : (p : List ℕ) (l : ℕ) → l < 4 → one_of l p p p p ≡ p
same_block p = of_each (λ l. one_of l p p p p ≡ p) refl refl refl refl
