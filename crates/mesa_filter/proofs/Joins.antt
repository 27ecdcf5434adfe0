-- Names that are joined by `;`, one after the other.
use Rattle.std.proofs.Common.{◌≡◌, ℕ, zero, suc, ◌+◌, ◌<◌, ◌≤◌, List, [], ◌∷◌, ◌++◌, sym, ◌∙◌, ap, append_assoc, append-nil, add-one, arith}
use Rattle.std.specs.List.{join_with_byte}

-- names behind another one, each with its `;`
abbrev pub behind : List (List ℕ) → List ℕ
behind [] = []
behind (name ∷ names) = 59 ∷ (name ++ behind names)

join-first : (name : List ℕ) (names : List (List ℕ)) → join_with_byte 59 (name ∷ names) ≡ name ++ behind names
join-first name [] = sym (append-nil name)
join-first name (next ∷ names) = ap (λ xs. name ++ (59 ∷ xs)) (join-first next names)

-- the names from the one at a place on
abbrev pub rest_from : ℕ → List (List ℕ) → List ℕ
rest_from zero names = join_with_byte 59 names
rest_from (suc i) names = behind names

-- The first name,
first_name : (text name : List ℕ) (names : List (List ℕ)) → (text ++ name) ++ rest_from (0 + 1) names ≡ text ++ rest_from 0 (name ∷ names)
first_name text name names = append_assoc text name (behind names) ∙ ap (λ xs. text ++ xs) (sym (join-first name names))

-- and a later one.
later_name : (i : ℕ) (text name : List ℕ) (names : List (List ℕ)) → 0 < i → ((text ++ 59 ∷ []) ++ name) ++ rest_from (i + 1) names ≡ text ++ rest_from i (name ∷ names)
later_name zero text name names l = absurd (omega arith)
later_name (suc i) text name names l =
    ap (λ k. ((text ++ 59 ∷ []) ++ name) ++ rest_from k names) (add-one (suc i))
    ∙ append_assoc (text ++ 59 ∷ []) name (behind names) ∙ append_assoc text (59 ∷ []) (name ++ behind names)

-- A name more of those that are joined: the first,
pub first_joined : (i : ℕ) (text new name : List ℕ) (from next : List (List ℕ)) (all : List ℕ) → i ≤ 0 → from ≡ name ∷ next → new ≡ text ++ name → text ++ rest_from i from ≡ all → new ++ rest_from (i + 1) next ≡ all
first_joined zero text new name from next all l e n before = ap (λ xs. xs ++ rest_from (0 + 1) next) n ∙ first_name text name next ∙ ap (λ names. text ++ rest_from 0 names) (sym e) ∙ before
first_joined (suc i) text new name from next all l e n before = absurd (omega arith)

-- or a later one.
pub later_joined : (i : ℕ) (text mid new name : List ℕ) (from next : List (List ℕ)) (all : List ℕ) → 0 < i → from ≡ name ∷ next → mid ≡ text ++ 59 ∷ [] → new ≡ mid ++ name → text ++ rest_from i from ≡ all → new ++ rest_from (i + 1) next ≡ all
later_joined i text mid new name from next all l e m n before =
    ap (λ xs. xs ++ rest_from (i + 1) next) (n ∙ ap (λ xs. xs ++ name) m) ∙ later_name i text name next l ∙ ap (λ names. text ++ rest_from i names) (sym e) ∙ before
