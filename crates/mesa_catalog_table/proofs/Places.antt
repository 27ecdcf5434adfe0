-- The place of the first that passes, from a place on.
use Rattle.std.proofs.Common.{◌≡◌, ℕ, ◌+◌, ◌≤◌, ◌<◌, List, length, drop, get_or, ◌∙◌, ap, Bool, true, false, cond}
use Rattle.std.specs.Prelude.{Some, None}
use Rattle.std.specs.List.{position_from}
use Rattle.std.proofs.lemmas.List.{at_drop_more, at_drop_all}

pub place_here : {X : Type 0} (p : X → Bool) (xs : List X) (i : ℕ) (d : X) → i < length xs → p (get_or xs i d) ≡ true → position_from p i (drop i xs) ≡ Some i
place_here p xs i d h e = at_drop_more (position_from p i) xs i d h ∙ ap (λ b. cond b (Some i) (position_from p (i + 1) (drop (i + 1) xs))) e

pub place_later : {X : Type 0} (p : X → Bool) (xs : List X) (i : ℕ) (d : X) → i < length xs → p (get_or xs i d) ≡ false → position_from p i (drop i xs) ≡ position_from p (i + 1) (drop (i + 1) xs)
place_later p xs i d h e = at_drop_more (position_from p i) xs i d h ∙ ap (λ b. cond b (Some i) (position_from p (i + 1) (drop (i + 1) xs))) e

pub place_nowhere : {X : Type 0} (p : X → Bool) (xs : List X) (i : ℕ) → length xs ≤ i → position_from p i (drop i xs) ≡ None
place_nowhere p xs i h = at_drop_all (position_from p i) xs i h
