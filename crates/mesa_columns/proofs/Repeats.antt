-- The first name that stands twice.
use Rattle.std.proofs.Common.{◌≡◌, ℕ, suc, ◌+◌, ◌<◌, List, [], ◌∷◌, ◌++◌, length, map, reverse, take, drop, get_or, Bool, true, false, cond, refl, sym, ◌∙◌, ap, arith, Some, drop-cons, add-one}
use Rattle.std.specs.Prelude.{◌||◌, is_some, slice_get}
use Rattle.std.specs.List.{list_any}
use Rattle.std.proofs.lemmas.List.{length-map, reverse-append, take-map, take_more}
use Rattle.std.proofs.lemmas.List.Folds.{list_any-append}
use Rattle.std.proofs.Math.ListN.{get_or-map}
use Rattle.std.proofs.lemmas.Option.{slice_get-get_or}
use Rattle.std.proofs.Math.Bool.{or_comm}
use Rattle.mesa_columns.specs.Names.{has_name, repeated, repeated_after}

reverse-cons : {A : Type 0} (x : A) (xs : List A) → reverse (x ∷ xs) ≡ reverse xs ++ x ∷ []
reverse-cons x xs = reverse-append (x ∷ []) xs

list_any-reverse : {A : Type 0} (p : A → Bool) (xs : List A) → list_any p (reverse xs) ≡ list_any p xs
list_any-reverse p [] = refl
list_any-reverse p (x ∷ xs) = ap (list_any p) (reverse-cons x xs) ∙ list_any-append p (reverse xs) (x ∷ [])
    ∙ or_comm (list_any p (reverse xs)) (p x || false) ∙ ap (λ t. t || list_any p (reverse xs)) (or_comm (p x) false) ∙ ap (λ t. p x || t) (list_any-reverse p xs)

-- one name more before
before : (names : List (List ℕ)) (i : ℕ) (d : List ℕ) → i < length names → reverse (take (i + 1) names) ≡ get_or names i d ∷ reverse (take i names)
before names i d h = ap reverse (take_more names i d h) ∙ reverse-append (take i names) (get_or names i d ∷ [])

-- the name at i decides, and else the names behind it
step : (names : List (List ℕ)) (i : ℕ) (d : List ℕ) → i < length names
    → repeated_after (reverse (take i names)) (drop i names) ≡ cond (has_name (get_or names i d) (take i names)) (Some (get_or names i d)) (repeated_after (reverse (take (i + 1) names)) (drop (i + 1) names))
step names i d h =
    ap (repeated_after (reverse (take i names))) (drop-cons names i d h)
    ∙ ap (λ t. cond t (Some (get_or names i d)) (repeated_after (get_or names i d ∷ reverse (take i names)) (drop (suc i) names))) (list_any-reverse _ (take i names))
    ∙ ap (λ seen. cond (has_name (get_or names i d) (take i names)) (Some (get_or names i d)) (repeated_after seen (drop (suc i) names))) (sym (before names i d h))
    ∙ ap (λ n. cond (has_name (get_or names i d) (take i names)) (Some (get_or names i d)) (repeated_after (reverse (take (i + 1) names)) (drop n names))) (sym (add-one i))

-- what stands at i, by its name
named_at : {A : Type 0} (f : A → List ℕ) (xs : List A) (i : ℕ) (one : A) (name : List ℕ) → one ≡ get_or xs i one → name ≡ f one → get_or (map f xs) i (f one) ≡ name
named_at f xs i one name e n = get_or-map f xs i one ∙ ap f (sym e) ∙ sym n

-- A name that stood before is the first that is repeated.
pub repeats : {A : Type 0} (f : A → List ℕ) (xs : List A) (i : ℕ) (one : A) (name : List ℕ) → i < length xs → one ≡ get_or xs i one → name ≡ f one
    → has_name name (map f (take i xs)) ≡ true → repeated_after (reverse (take i (map f xs))) (drop i (map f xs)) ≡ repeated (map f xs)
    → slice_get (map f xs) i ≡ repeated (map f xs)
repeats f xs i one name h e n t r =
    let within : i < length (map f xs) = omega (arith, length-map xs f) in
    let at = named_at f xs i one name e n in
    let stood : has_name (get_or (map f xs) i (f one)) (take i (map f xs)) ≡ true = ap (λ x. has_name x (take i (map f xs))) at ∙ ap (has_name name) (take-map f i xs) ∙ t in
    slice_get-get_or (map f xs) i (f one) within
    ∙ ap (λ b. cond b (Some (get_or (map f xs) i (f one))) (repeated_after (reverse (take (i + 1) (map f xs))) (drop (i + 1) (map f xs)))) (sym stood)
    ∙ sym (step (map f xs) i (f one) within) ∙ r

-- So one is repeated.
pub one_repeats : {A : Type 0} (f : A → List ℕ) (xs : List A) (i : ℕ) (one : A) (name : List ℕ) → i < length xs → one ≡ get_or xs i one → name ≡ f one
    → has_name name (map f (take i xs)) ≡ true → repeated_after (reverse (take i (map f xs))) (drop i (map f xs)) ≡ repeated (map f xs)
    → true ≡ is_some (repeated (map f xs))
one_repeats f xs i one name h e n t r =
    ap is_some (sym (slice_get-get_or (map f xs) i (f one) (omega (arith, length-map xs f))) ∙ repeats f xs i one name h e n t r)

-- After a name that didn't, the others decide.
pub goes_on : {A : Type 0} (f : A → List ℕ) (xs : List A) (i : ℕ) (one : A) (name : List ℕ) → i < length xs → one ≡ get_or xs i one → name ≡ f one
    → has_name name (map f (take i xs)) ≡ false → repeated_after (reverse (take i (map f xs))) (drop i (map f xs)) ≡ repeated (map f xs)
    → repeated_after (reverse (take (i + 1) (map f xs))) (drop (i + 1) (map f xs)) ≡ repeated (map f xs)
goes_on f xs i one name h e n t r =
    let within : i < length (map f xs) = omega (arith, length-map xs f) in
    let at = named_at f xs i one name e n in
    let new : has_name (get_or (map f xs) i (f one)) (take i (map f xs)) ≡ false = ap (λ x. has_name x (take i (map f xs))) at ∙ ap (has_name name) (take-map f i xs) ∙ t in
    ap (λ b. cond b (Some (get_or (map f xs) i (f one))) (repeated_after (reverse (take (i + 1) (map f xs))) (drop (i + 1) (map f xs)))) (sym new)
    ∙ sym (step (map f xs) i (f one) within) ∙ r
