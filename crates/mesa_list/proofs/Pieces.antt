-- Pieces that stand one behind the other.
use Rattle.std.proofs.Common.{◌≡◌, ℕ, zero, suc, ◌+◌, ◌-◌, ◌<◌, ◌≤◌, List, [], ◌∷◌, ◌++◌, length, take, drop, get_or, refl, ap, sym, ◌∙◌, arith, Some, None}
use Rattle.std.specs.Prelude.{slice_range, slice_get, IsTrue, ◌↔◌, ◌==◌}
use Rattle.std.proofs.lemmas.List.{take-append-le, drop_at, take_all, take-take}
use Rattle.std.proofs.lemmas.Slice.{between_is}
use Rattle.mesa_list.specs.Pieces.{Rise, last_end, pieces}

pub count_of_pieces : {X : Type 0} (items : List X) (start : ℕ) (ends : List ℕ) → length (pieces items start ends) ≡ length ends
count_of_pieces items start [] = refl
count_of_pieces items start (end ∷ ends) = omega (arith, count_of_pieces items end ends)

-- pieces that rise go on from where the first one begins
pub rise_to : (start : ℕ) (ends : List ℕ) → Rise start ends → start ≤ last_end start ends
rise_to start [] r = omega arith
rise_to start (end ∷ ends) r = omega (arith, r.0, rise_to end ends r.1)

piece_before : {X : Type 0} (items more : List X) (start end : ℕ) → end ≤ length items → slice_range (items ++ more) start end ≡ slice_range items start end
piece_before items more start end h =
    between_is (items ++ more) start end ∙ ap (drop start) (take-append-le end items more h) ∙ sym (between_is items start end)

-- a piece more behind the last one
pub pieces_push : {X : Type 0} (items field : List X) (start : ℕ) (ends : List ℕ) (end : ℕ) → Rise start ends → last_end start ends ≡ length items → end ≡ length items + length field
    → pieces (items ++ field) start (ends ++ end ∷ []) ≡ pieces items start ends ++ field ∷ []
pieces_push items field start [] end r l e =
    let behind : drop start (items ++ field) ≡ field = drop_at items field start (sym l) in
    ap (λ piece. piece ∷ []) (ap (take (end - start)) behind ∙ take_all (end - start) field (omega arith))
pieces_push items field start (x ∷ ends) end r l e =
    let reach : x ≤ length items = omega (arith, rise_to x ends r.1) in
    rw (piece_before items field start x reach, pieces_push items field x ends end r.1 l e) refl

pub rise_push : (start : ℕ) (ends : List ℕ) (end : ℕ) → Rise start ends → last_end start ends ≤ end → Rise start (ends ++ end ∷ [])
rise_push start [] end r l = (l, tt)
rise_push start (x ∷ ends) end r l = (r.0, rise_push x ends end r.1 l)

pub last_end_push : (start : ℕ) (ends : List ℕ) (end : ℕ) → last_end start (ends ++ end ∷ []) ≡ end
last_end_push start [] end = refl
last_end_push start (x ∷ ends) end = last_end_push x ends end

-- the first pieces, and those behind them
pub pieces_take : {X : Type 0} (items : List X) (start : ℕ) (ends : List ℕ) (n : ℕ) → pieces items start (take n ends) ≡ take n (pieces items start ends)
pieces_take items start ends zero = refl
pieces_take items start [] (suc n) = refl
pieces_take items start (x ∷ ends) (suc n) = ap (λ rest. slice_range items start x ∷ rest) (pieces_take items x ends n)

pub pieces_drop : {X : Type 0} (items : List X) (start : ℕ) (ends : List ℕ) (n : ℕ) → pieces items (last_end start (take n ends)) (drop n ends) ≡ drop n (pieces items start ends)
pieces_drop items start ends zero = refl
pieces_drop items start [] (suc n) = refl
pieces_drop items start (x ∷ ends) (suc n) = pieces_drop items x ends n

pub rise_take : (start : ℕ) (ends : List ℕ) (n : ℕ) → Rise start ends → Rise start (take n ends) × (last_end start (take n ends) ≤ last_end start ends)
rise_take start ends zero r = (tt, rise_to start ends r)
rise_take start [] (suc n) r = (tt, omega arith)
rise_take start (x ∷ ends) (suc n) r = let rest = rise_take x ends n r.1 in ((r.0, rest.0), rest.1)

pub rise_drop : (start : ℕ) (ends : List ℕ) (n : ℕ) → Rise start ends → Rise (last_end start (take n ends)) (drop n ends) × (last_end (last_end start (take n ends)) (drop n ends) ≡ last_end start ends)
rise_drop start ends zero r = (r, refl)
rise_drop start [] (suc n) r = (tt, refl)
rise_drop start (x ∷ ends) (suc n) r = rise_drop x ends n r.1

-- pieces are those of the items up to where they end
pub pieces_cut : {X : Type 0} (items : List X) (start : ℕ) (ends : List ℕ) (n : ℕ) → Rise start ends → last_end start ends ≤ n → pieces (take n items) start ends ≡ pieces items start ends
pieces_cut items start [] n r l = refl
pieces_cut items start (x ∷ ends) n r l =
    let here : slice_range (take n items) start x ≡ slice_range items start x =
    between_is (take n items) start x ∙ ap (drop start) (take-take x n items (omega (arith, rise_to x ends r.1))) ∙ sym (between_is items start x) in
    rw (here, pieces_cut items x ends n r.1 l) refl

-- the piece at a place
pub piece_at : {X : Type 0} (items : List X) (start : ℕ) (ends : List ℕ) (i : ℕ) → i < length ends
    → Some (slice_range items (last_end start (take i ends)) (get_or ends i 0)) ≡ slice_get (pieces items start ends) i
piece_at items start [] i h = absurd (omega arith)
piece_at items start (x ∷ ends) zero h = refl
piece_at items start (x ∷ ends) (suc i) h = piece_at items x ends i (omega arith)

pub place_rises : (start : ℕ) (ends : List ℕ) (i : ℕ) → Rise start ends → i < length ends
    → (last_end start (take i ends) ≤ get_or ends i 0) × (get_or ends i 0 ≤ last_end start ends)
place_rises start [] i r h = absurd (omega arith)
place_rises start (x ∷ ends) zero r h = (r.0, rise_to x ends r.1)
place_rises start (x ∷ ends) (suc i) r h = place_rises x ends i r.1 (omega arith)

pub last_of_front : (start : ℕ) (ends : List ℕ) (i d : ℕ) → i < length ends → last_end start (take (i + 1) ends) ≡ get_or ends i d
last_of_front start [] i d h = absurd (omega arith)
last_of_front start (x ∷ ends) zero d h = refl
last_of_front start (x ∷ ends) (suc i) d h =
    let next : suc i + 1 ≡ suc (i + 1) = omega arith in
    rw next (last_of_front x ends i d (omega arith))

-- no pieces, and no place where one ends
pub no_pieces : {X : Type 0} (items : List X) (start : ℕ) (ends : List ℕ) → IsTrue (length ends == 0) ↔ (pieces items start ends ≡ [])
no_pieces items start [] = (λ _. refl, λ _. refl)
no_pieces items start (end ∷ ends) = grind arith

pub no_piece_at : {X : Type 0} (items : List X) (start : ℕ) (ends : List ℕ) (i : ℕ) → length ends ≤ i → slice_get (pieces items start ends) i ≡ None
no_piece_at items start [] i h = refl
no_piece_at items start (x ∷ ends) zero h = absurd (omega arith)
no_piece_at items start (x ∷ ends) (suc i) h = no_piece_at items x ends i (omega arith)

-- the pieces from a place to another one
pub pieces_between : {X : Type 0} (items : List X) (start : ℕ) (ends : List ℕ) (from to : ℕ)
    → pieces items (last_end start (take from ends)) (slice_range ends from to) ≡ slice_range (pieces items start ends) from to
pieces_between items start ends from to =
    pieces_take items (last_end start (take from ends)) (drop from ends) (to - from) ∙ ap (take (to - from)) (pieces_drop items start ends from)

pub rise_between : (start : ℕ) (ends : List ℕ) (from to : ℕ) → Rise start ends
    → Rise (last_end start (take from ends)) (slice_range ends from to) × (last_end (last_end start (take from ends)) (slice_range ends from to) ≤ last_end start ends)
rise_between start ends from to r =
    let behind = rise_drop start ends from r in
    let front = rise_take (last_end start (take from ends)) (drop from ends) (to - from) behind.0 in
    (front.0, omega (arith, front.1, behind.1))
