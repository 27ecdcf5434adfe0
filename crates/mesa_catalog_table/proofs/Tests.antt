-- Tests that hold together.
use Rattle.std.proofs.Common.{◌≡◌, refl, Bool, true, false, List, [], ◌∷◌, ℕ, zero, suc, ◌<◌, length, get_or, arith}
use Rattle.std.specs.Prelude.{◌&&◌, ◌||◌, Result, Ok, Err, IfOk}
use Rattle.std.specs.List.{list_all}

pub both : (a b : Bool) → (a && b) ≡ true → (a ≡ true) × (b ≡ true)
both true b e = (refl, e)
both false b e = absurd (cc)

pub passes_at : {X : Type 0} (p : X → Bool) (xs : List X) (i : ℕ) (d : X) → list_all p xs ≡ true → i < length xs → p (get_or xs i d) ≡ true
passes_at p [] i d all h = absurd (omega arith)
passes_at p (x ∷ xs) zero d all h = (both (p x) (list_all p xs) all).0
passes_at p (x ∷ xs) (suc i) d all h = passes_at p xs i d (both (p x) (list_all p xs) all).1 (omega arith)

-- what follows from an outcome's promise
pub if_ok : {A E : Type 0} (r : Result A E) (P Q : A → Type 0) → ((x : A) → P x → Q x) → IfOk r P → IfOk r Q
if_ok (Ok x) P Q f p = f x p
if_ok (Err e) P Q f p = tt

pub if_ok_both : {A E : Type 0} (r : Result A E) (P Q R : A → Type 0) → ((x : A) → P x → Q x → R x) → IfOk r P → IfOk r Q → IfOk r R
if_ok_both (Ok x) P Q R f p q = f x p q
if_ok_both (Err e) P Q R f p q = tt

-- a test of three, whose first two came out
pub either_then : (v a b r : Bool) → v ≡ true → v ≡ (a || b) → v ≡ (a || (b || r))
either_then v true b r is e = is
either_then v false true r is e = is
either_then v false false r is e = absurd (cc)

pub either_else : (v a b r x : Bool) → v ≡ false → v ≡ (a || b) → x ≡ r → x ≡ (a || (b || r))
either_else v true b r x is e h = absurd (cc)
either_else v false true r x is e h = absurd (cc)
either_else v false false r x is e h = h
