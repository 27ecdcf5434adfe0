-- Pieces of one size that are cut out of bytes all at once.
use Rattle.std.proofs.Common.{◌≡◌, inl, inr, ℕ, zero, suc, ◌+◌, ◌*◌, ◌<◌, ◌≤◌, List, [], ◌∷◌, length, take, drop, get_or, Ok, Err, refl, sym, ap, ◌∙◌, arith, Bool, true, false, cond, ltb}
use Rattle.std.specs.Prelude.{replicate}
use Rattle.std.proofs.lemmas.List.{drop-drop, drop-take, take-take, length-drop}
use Rattle.std.proofs.lemmas.Bool.{ltb-false, le-ltb, ltb-true}
use Rattle.mesa_block.specs.declared.error.BlockError.{BlockError}
use Rattle.mesa_block.specs.declared.error.BlockError.TheVariants as fault
use Rattle.mesa_block.specs.Cells.{pieces}
use Rattle.mesa_block.specs.Reading.{many, piece_at}
use Rattle.mesa_block.proofs.Found.{either}
use Rattle.mesa_block.proofs.Takes.{guard_ok}

size_more : (s n : ℕ) → s * suc n ≡ s + s * n
size_more s n = omega arith

size_none : (s : ℕ) → s * 0 ≡ 0
size_none s = omega arith

-- nothing behind them is looked at
pub pieces_take : (s n : ℕ) (bytes : List ℕ) → pieces s n (take (s * n) bytes) ≡ pieces s n bytes
pieces_take s zero bytes = refl
pieces_take s (suc n) bytes =
    let front : take s (take (s * suc n) bytes) ≡ take s bytes = take-take s (s * suc n) bytes (omega arith) in
    let back : drop s (take (s * suc n) bytes) ≡ take (s * n) (drop s bytes) = ap (λ (m : ℕ). drop s (take m bytes)) (size_more s n) ∙ drop-take s (s * n) bytes in
    ap (λ (x : List ℕ). x ∷ pieces s n (drop s (take (s * suc n) bytes))) front
    ∙ ap (λ (x : List ℕ). take s bytes ∷ pieces s n x) back
    ∙ ap (λ (xs : List (List ℕ)). take s bytes ∷ xs) (pieces_take s n (drop s bytes))

pub pieces_count : (s n : ℕ) (bytes : List ℕ) → length (pieces s n bytes) ≡ n
pieces_count s zero bytes = refl
pieces_count s (suc n) bytes = ap suc (pieces_count s n (drop s bytes))

pub piece_there : (s n i : ℕ) (bytes : List ℕ) → i < n → get_or (pieces s n bytes) i [] ≡ take s (drop (s * i) bytes)
piece_there s zero i bytes lt = absurd (omega (arith, lt))
piece_there s (suc n) zero bytes lt = ap (λ (m : ℕ). take s (drop m bytes)) (sym (size_none s))
piece_there s (suc n) (suc i) bytes lt = piece_there s n i (drop s bytes) (omega (arith, lt)) ∙ ap (take s) (drop-drop (s * i) s bytes ∙ ap (λ (m : ℕ). drop m bytes) (sym (size_more s i)))

pub beyond_pieces : (s n i : ℕ) (bytes : List ℕ) → n ≤ i → get_or (pieces s n bytes) i [] ≡ []
beyond_pieces s zero i bytes le = refl
beyond_pieces s (suc n) zero bytes le = absurd (omega (arith, le))
beyond_pieces s (suc n) (suc i) bytes le = beyond_pieces s n i (drop s bytes) (omega (arith, le))

-- so many pieces of so many bytes, one after the other
read_all : (s n : ℕ) (bytes : List ℕ) → s * n ≤ length bytes → many piece_at (replicate n s) bytes ≡ Ok (pieces s n bytes, drop (s * n) bytes)
unfolding many
read_all s zero bytes le = ap (λ (m : ℕ). Ok ([], drop m bytes)) (sym (size_none s))
read_all s (suc n) bytes le =
    let long : ltb (length bytes) s ≡ false = le-ltb (length bytes) s (omega (arith, le)) in
    let others = read_all s n (drop s bytes) (omega (arith, le, length-drop s bytes)) in
    let rest : drop (s * n) (drop s bytes) ≡ drop (s * suc n) bytes = drop-drop (s * n) s bytes ∙ ap (λ (m : ℕ). drop m bytes) (sym (size_more s n)) in
    rw (long, others, rest) refl

read_none : (s n : ℕ) (bytes : List ℕ) → length bytes < s * n → many piece_at (replicate n s) bytes ≡ Err fault.Truncated
unfolding many
read_none s zero bytes lt = absurd (omega (arith, lt))
read_none s (suc n) bytes lt = elim (either (ltb (length bytes) s)) [
  | inl short ↦ rw short refl
  | inr long ↦ rw (long, read_none s n (drop s bytes) (omega (arith, lt, length-drop s bytes, ltb-false _ _ long))) refl
]

-- what was cut off at once
pub cells_read : (s n : ℕ) (bytes cells rest : List ℕ) → piece_at (s * n) bytes ≡ Ok (cells, rest) → many piece_at (replicate n s) bytes ≡ Ok (pieces s n cells, rest)
cells_read s n bytes cells rest e =
    let g = guard_ok (ltb (length bytes) (s * n)) fault.Truncated (take (s * n) bytes, drop (s * n) bytes) (cells, rest) e in
    let front : take (s * n) bytes ≡ cells = ap (λ (x : List ℕ × List ℕ). x.0) g.1 in
    let back : drop (s * n) bytes ≡ rest = ap (λ (x : List ℕ × List ℕ). x.1) g.1 in
    read_all s n bytes (ltb-false _ _ g.0) ∙ ap (λ (x : List ℕ). Ok (pieces s n bytes, x)) back ∙ ap (λ (xs : List (List ℕ)). Ok (xs, rest)) (sym (pieces_take s n bytes) ∙ ap (pieces s n) front)

guard_err : {A : Type 0} (b : Bool) (d e : BlockError) (x : A) → cond b (Err d) (Ok x) ≡ Err e → (b ≡ true) × (d ≡ e)
guard_err true d e x h = (refl, cc)
guard_err false d e x h = absurd cc

pub cells_fault : (s n : ℕ) (bytes : List ℕ) (e : BlockError) → piece_at (s * n) bytes ≡ Err e → many piece_at (replicate n s) bytes ≡ Err e
cells_fault s n bytes e h =
    let g = guard_err (ltb (length bytes) (s * n)) fault.Truncated e (take (s * n) bytes, drop (s * n) bytes) h in
    read_none s n bytes (ltb-true _ _ g.0) ∙ ap (λ (x : BlockError). Err x) g.1
