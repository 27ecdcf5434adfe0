-- Rows of a load, one behind the other.
use Rattle.std.proofs.Common.{◌≡◌, ℕ, zero, suc, ◌+◌, ◌<◌, ◌≤◌, List, [], ◌∷◌, ◌++◌, length, map, take, get_or, refl, sym, ◌∙◌, ap, arith, Some, None}
use Rattle.std.specs.Prelude.{slice_get, slice_range, option_map, IsTrue, ◌↔◌, ◌==◌}
use Rattle.std.proofs.lemmas.List.{length-map, map-append}
use Rattle.std.proofs.lemmas.Option.{slice_get-map}
use Rattle.mesa_list.specs.Pieces.{Rise, last_end, pieces}
use Rattle.mesa_list.proofs.Pieces.{count_of_pieces, last_of_front, no_pieces, piece_at, pieces_push}
use Rattle.mesa_batch.specs.Load.{row_from, rows_in}

-- there are as many rows as places where one ends
pub row_count : (words : List (List ℕ)) (ends : List ℕ) → length (rows_in words ends) ≡ length ends
row_count words ends = length-map (pieces words 0 ends) row_from ∙ count_of_pieces words 0 ends

unmapped : (parts : List (List (List ℕ))) → map row_from parts ≡ [] → parts ≡ []
unmapped [] h = refl
unmapped (part ∷ parts) h = cc

pub no_rows : (words : List (List ℕ)) (ends : List ℕ) → IsTrue (length ends == 0) ↔ (rows_in words ends ≡ [])
no_rows words ends = let both = no_pieces words 0 ends in (λ h. ap (map row_from) (both.0 h), λ h. both.1 (unmapped (pieces words 0 ends) h))

-- the row at a place
pub row_at : (words : List (List ℕ)) (ends : List ℕ) (i : ℕ) → i < length ends
    → slice_get (rows_in words ends) i ≡ Some (row_from (slice_range words (last_end 0 (take i ends)) (get_or ends i 0)))
row_at words ends i h = slice_get-map row_from (pieces words 0 ends) i ∙ ap (option_map row_from) (sym (piece_at words 0 ends i h))

-- a row more
pub row_pushed : (words more : List (List ℕ)) (ends : List ℕ) (end : ℕ) → Rise 0 ends → last_end 0 ends ≡ length words → end ≡ length words + length more
    → rows_in (words ++ more) (ends ++ end ∷ []) ≡ rows_in words ends ++ row_from more ∷ []
row_pushed words more ends end r l e = ap (map row_from) (pieces_push words more 0 ends end r l e) ∙ map-append row_from (pieces words 0 ends) (more ∷ [])

-- what an option tells of a place in a list
pub none_at : {X : Type 0} (xs : List X) (i : ℕ) → None ≡ slice_get xs i → length xs ≤ i
none_at [] i e = omega arith
none_at (x ∷ xs) zero e = cc
none_at (x ∷ xs) (suc i) e = omega (arith, none_at xs i e)

pub some_at : {X : Type 0} (xs : List X) (i : ℕ) (x : X) → Some x ≡ slice_get xs i → (i < length xs) × (x ≡ get_or xs i x)
some_at [] i x e = cc
some_at (y ∷ ys) zero x e = let same : x ≡ y = cc in (omega arith, same)
some_at (y ∷ ys) (suc i) x e = let rest = some_at ys i x e in (omega (arith, rest.0), rest.1)

-- where a row begins
pub begins_at : (ends : List ℕ) (i j : ℕ) → i ≡ j + 1 → i ≤ length ends → get_or ends j 0 ≡ last_end 0 (take i ends)
begins_at ends i j e h = sym (ap (λ n. last_end 0 (take n ends)) e ∙ last_of_front 0 ends j 0 (omega (arith, e, h)))
