-- Entries that are still to come.
use Rattle.std.proofs.Common.{◌≡◌, ℕ, ◌+◌, ◌<◌, List, [], ◌∷◌, ◌++◌, length, drop, get_or, sym, ap, ◌∙◌, append_assoc}
use Rattle.std.proofs.lemmas.List.{append-nil, drop_more}
use Rattle.std.proofs.lemmas.Grind.{flat_map-append}
use Rattle.mesa_delta.specs.Pending.{Appended, entries_of, own_entry}

pending_more : (before : List Appended) (b : Appended) → entries_of (before ++ b ∷ []) ≡ entries_of before ++ own_entry b
pending_more before b = flat_map-append own_entry before (b ∷ []) ∙ ap (λ (l : List ℕ). entries_of before ++ l) (append-nil (own_entry b))

-- what was put and what is pending, with one block more
pub one_more_pending : (put all : List ℕ) (room pending : List Appended) (b : Appended) → put ++ entries_of room ≡ all → pending ≡ room ++ b ∷ [] → put ++ entries_of pending ≡ all ++ own_entry b
one_more_pending put all room pending b before is =
    ap (λ (l : List Appended). put ++ entries_of l) is ∙ ap (λ (l : List ℕ). put ++ l) (pending_more room b)
    ∙ sym (append_assoc put (entries_of room) (own_entry b)) ∙ ap (λ (l : List ℕ). l ++ own_entry b) before

-- the loop's step: the i-th entry is put
pub put_step : (put all new : List ℕ) (blocks : List Appended) (i : ℕ) (b : Appended) → i < length blocks → b ≡ get_or blocks i b → new ≡ put ++ own_entry b
    → put ++ entries_of (drop i blocks) ≡ all → new ++ entries_of (drop (i + 1) blocks) ≡ all
put_step put all new blocks i b lt at is before =
    ap (λ (l : List ℕ). l ++ entries_of (drop (i + 1) blocks)) is ∙ append_assoc put (own_entry b) (entries_of (drop (i + 1) blocks))
    ∙ ap (λ (x : Appended). put ++ (own_entry x ++ entries_of (drop (i + 1) blocks))) at
    ∙ ap (λ (l : List Appended). put ++ entries_of l) (sym (drop_more blocks i b lt)) ∙ before
