-- Checks one after another, each with its refusal: the first that applies is the answer.
use Rattle.std.specs.Prelude.{Bool, true, false, Result, Ok, Err, ⊤, List, [], ◌∷◌}

infixl 10 ◌>>=◌
infixl 10 ◌>>◌
-- an outcome's value handed on, or its refusal
abbrev pub ◌>>=◌ : {A B E : Type 0} → Result A E → (A → Result B E) → Result B E
(Ok x) >>= f = f x
(Err e) >>= f = Err e

-- a check passed, and what comes after it
abbrev pub ◌>>◌ : {A B E : Type 0} → Result A E → Result B E → Result B E
(Ok x) >> next = next
(Err e) >> next = Err e

-- refused with e where the test holds
abbrev pub refuse_if : {E : Type 0} → Bool → E → Result ⊤ E
refuse_if true e = Err e
refuse_if false e = Ok tt

-- refused with e unless the test holds
abbrev pub refuse_unless : {E : Type 0} → Bool → E → Result ⊤ E
refuse_unless true e = Ok tt
refuse_unless false e = Err e

-- the refusal as another layer says it
abbrev pub refused_as : {A D E : Type 0} → (D → E) → Result A D → Result A E
refused_as f (Ok x) = Ok x
refused_as f (Err d) = Err (f d)

-- each in turn, or the first refusal
abbrev pub each_of : {A B E : Type 0} → (A → Result B E) → List A → Result (List B) E
each_of f [] = Ok []
each_of f (x ∷ xs) = f x >>= (λ y. each_of f xs >>= (λ ys. Ok (y ∷ ys)))
