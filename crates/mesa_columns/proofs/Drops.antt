-- A list without an element.
use Rattle.std.proofs.Common.{◌≡◌, ℕ, zero, suc, ◌+◌, List, [], ◌∷◌, ◌++◌, refl, sym, ◌∙◌, ap, length, take, drop, arith, map, add-one}
use Rattle.mesa_columns.specs.Changes.{without}

-- without what stands at a place behind the first
pub without-suc : {A : Type 0} (i : ℕ) (x : A) (xs : List A) → without (suc i) (x ∷ xs) ≡ x ∷ without i xs
without-suc i x xs = let next : suc i + 1 ≡ suc (i + 1) = omega arith in ap (λ n. x ∷ (take i xs ++ drop n (x ∷ xs))) next

without-zero : {A : Type 0} (x : A) (xs : List A) → without zero (x ∷ xs) ≡ xs
without-zero x xs = refl

pub without-nil : {A : Type 0} (i : ℕ) → without {X = A} i [] ≡ []
without-nil zero = refl
without-nil (suc i) = ap (λ (n : ℕ). drop n []) (add-one (suc i))

pub without-map : {A B : Type 0} (f : A → B) (i : ℕ) (xs : List A) → map f (without i xs) ≡ without i (map f xs)
without-map f i [] = ap (map f) (without-nil i) ∙ sym (without-nil i)
without-map f zero (x ∷ xs) = refl
without-map f (suc i) (x ∷ xs) = ap (map f) (without-suc i x xs) ∙ ap (λ ys. f x ∷ ys) (without-map f i xs) ∙ sym (without-suc i (f x) (map f xs))

-- lists of one length have one length without a place
pub without-length : {A B : Type 0} (i : ℕ) (xs : List A) (ys : List B) → length xs ≡ length ys → length (without i xs) ≡ length (without i ys)
without-length i [] [] e = ap length (without-nil i) ∙ sym (ap length (without-nil i))
without-length i [] (y ∷ ys) e = absurd (omega arith)
without-length i (x ∷ xs) [] e = absurd (omega arith)
without-length zero (x ∷ xs) (y ∷ ys) e = omega arith
without-length (suc i) (x ∷ xs) (y ∷ ys) e = ap length (without-suc i x xs) ∙ ap suc (without-length i xs ys (omega arith)) ∙ sym (ap length (without-suc i y ys))
