-- The row at hand of a block.
use Rattle.std.proofs.Common.{◌≡◌, ℕ, zero, suc, ◌+◌, ◌<◌, ◌≤◌, List, [], ◌∷◌, length, drop, refl, ◌∙◌, ap, arith, length-drop}
use Rattle.std.specs.Prelude.{Some, slice_get}
use Rattle.mesa_delta.specs.mesa_columns.declared.rows.Row.{Row}

-- the row at a place stands before those behind it
pub from_place : (rows : List Row) (at : ℕ) (row : Row) → slice_get rows at ≡ Some row → drop at rows ≡ row ∷ drop (at + 1) rows
from_place [] at row e = absurd cc
from_place (x ∷ rows) zero row e = let same : x ≡ row = cc in ap (λ r. r ∷ rows) same
from_place (x ∷ rows) (suc at) row e =
    let next : suc (at + 1) ≡ suc at + 1 = omega arith in
    from_place rows at row e ∙ ap (λ n. row ∷ drop n (x ∷ rows)) next

-- past the last one there are none
pub past_end : (rows : List Row) (at : ℕ) → length rows ≤ at → drop at rows ≡ []
past_end [] zero le = refl
past_end [] (suc at) le = refl
past_end (x ∷ rows) zero le = absurd (omega (arith, le))
past_end (x ∷ rows) (suc at) le = past_end rows at (omega (arith, le))

-- before that there is one at least
pub some_left : (rows : List Row) (at : ℕ) → at < length rows → drop at rows ≡ [] → ⊥
some_left rows at lt none = omega (arith, lt, length-drop at rows, ap (λ (l : List Row). length l) none)

-- all but the first
pub one_behind : (rows : List Row) (at : ℕ) → drop (at + 1) rows ≡ drop 1 (drop at rows)
one_behind [] zero = refl
one_behind [] (suc at) =
    let next : suc at + 1 ≡ suc (at + 1) = omega arith in
    ap (λ (n : ℕ). drop {A = Row} n []) next
one_behind (x ∷ rows) zero = refl
one_behind (x ∷ rows) (suc at) =
    let next : suc at + 1 ≡ suc (at + 1) = omega arith in
    ap (λ n. drop n (x ∷ rows)) next ∙ one_behind rows at
