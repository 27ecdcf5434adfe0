-- Counts of pins, one of which is more.
use Rattle.std.proofs.Common.{◌≡◌, ◌≤◌, ◌<◌, ◌+◌, ◌-◌, ℕ, slice_index_or, zero, suc, List, [], ◌∷◌, ◌++◌, length, set, replicate, ap, ◌∙◌, arith}
use Rattle.std.proofs.lemmas.List.{append-nil}
use Rattle.mesa_model.specs.Pins.{count_at, counted_at}

-- the counts, with zeros behind them as far as a place, and one more at it
pub padded : (counts : List ℕ) (place n v : ℕ) → place + 1 ≤ length counts + n → n ≤ place + 1 - length counts → v ≡ count_at counts place + 1 → set (counts ++ replicate n 0) place v ≡ counted_at counts place
padded [] zero zero v a b e = absurd (omega arith)
padded [] zero (suc zero) v a b e = ap (λ w. w ∷ []) e
padded [] zero (suc (suc n)) v a b e = absurd (omega arith)
padded [] (suc place) zero v a b e = absurd (omega arith)
padded [] (suc place) (suc n) v a b e = ap (λ ws. 0 ∷ ws) (padded [] place n v (omega arith) (omega arith) e)
padded (c ∷ counts) zero n v a b e =
    let none : n ≡ zero = omega arith in
    λ j. e j ∷ (ap (λ m. counts ++ replicate m 0) none ∙ append-nil counts) j
padded (c ∷ counts) (suc place) n v a b e = ap (λ ws. c ∷ ws) (padded counts place n v (omega arith) (omega arith) e)

-- what stands at a place of them
pub got : (counts : List ℕ) (place n v : ℕ) → place < length counts + n → v ≡ slice_index_or (counts ++ replicate n 0) place v → v ≡ count_at counts place
got [] zero zero v lt e = absurd (omega arith)
got [] zero (suc n) v lt e = e
got [] (suc place) zero v lt e = absurd (omega arith)
got [] (suc place) (suc n) v lt e = got [] place n v (omega arith) e
got (c ∷ counts) zero n v lt e = e
got (c ∷ counts) (suc place) n v lt e = got counts place n v (omega arith) e
