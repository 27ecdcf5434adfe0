-- Checks of two kinds side by side, and lists of which each element loses its rows.
use Rattle.std.proofs.Common.{◌≡◌, ℕ, zero, suc, List, [], ◌∷◌, ◌++◌, map, length, Bool, true, false, refl, sym, ◌∙◌, ap, Option, Some, None, option_map, Result, Ok, Err, ok_or, set, get_or, filter, find, cond, is_some}
use Rattle.mesa_script.specs.mesa_list.Checks.{◌>>=◌, ◌>>◌}
use Rattle.mesa_script.specs.mesa_model.declared.replies.Refusal.{Refusal}
use Rattle.mesa_history_spec.specs.Bare.{bare_result}

module _ {B C E : Type 0} (F : Result B E → C) where
  checks : {A : Type 0} (q : Result A E) (m n : Result B E) → F m ≡ F n → F (q >> m) ≡ F (q >> n)
  checks (Ok x) m n same = same
  checks (Err e) m n same = refl

  -- a check that is the same in both
  pub same_check : {A : Type 0} (q r : Result A E) (m n : Result B E) → q ≡ r → F m ≡ F n → F (q >> m) ≡ F (r >> n)
  same_check q r m n is same = checks q m n same ∙ ap (λ x. F (x >> n)) is

  values : {A : Type 0} (q : Result A E) (f g : A → Result B E) → ((x : A) → F (f x) ≡ F (g x)) → F (q >>= f) ≡ F (q >>= g)
  values (Ok x) f g same = same x
  values (Err e) f g same = refl

  -- a value that is the same in both
  pub same_value : {A : Type 0} (q r : Result A E) (f g : A → Result B E) → q ≡ r → ((x : A) → F (f x) ≡ F (g x)) → F (q >>= f) ≡ F (r >>= g)
  same_value q r f g is same = values q f g same ∙ ap (λ x. F (x >>= g)) is

module _ {B C : Type 0} (F : Result B Refusal → C) where
  bares : {A : Type 0} (b : A → A) (q : Result A Refusal) (f g : A → Result B Refusal) → ((x : A) → F (f x) ≡ F (g (b x))) → F (q >>= f) ≡ F (bare_result b q >>= g)
  bares b (Ok x) f g same = same x
  bares b (Err e) f g same = refl

  -- a value that has lost its rows in one of both
  pub same_bare : {A : Type 0} (b : A → A) (q r : Result A Refusal) (f g : A → Result B Refusal) → r ≡ bare_result b q → ((x : A) → F (f x) ≡ F (g (b x))) → F (q >>= f) ≡ F (r >>= g)
  same_bare b q r f g is same = bares b q f g same ∙ ap (λ x. F (x >>= g)) (sym is)

pub some_bare : {A : Type 0} (b : A → A) (o : Option A) (e : Refusal) → ok_or (option_map b o) e ≡ bare_result b (ok_or o e)
some_bare b None e = refl
some_bare b (Some x) e = refl

pub is_some_same : {A : Type 0} (b : A → A) (o : Option A) → is_some (option_map b o) ≡ is_some o
is_some_same b None = refl
is_some_same b (Some x) = refl

-- ---- lists

pub maps_same : {A B : Type 0} (b : A → A) (f : A → B) → ((x : A) → f (b x) ≡ f x) → (xs : List A) → map f (map b xs) ≡ map f xs
maps_same b f same [] = refl
maps_same b f same (x ∷ xs) = λ i. same x i ∷ maps_same b f same xs i

pub length_same : {A B : Type 0} (f : A → B) (xs : List A) → length (map f xs) ≡ length xs
length_same f [] = refl
length_same f (x ∷ xs) = ap suc (length_same f xs)

pub at_same : {A B : Type 0} (f : A → B) (xs : List A) (i : ℕ) (d : A) → get_or (map f xs) i (f d) ≡ f (get_or xs i d)
at_same f [] i d = refl
at_same f (x ∷ xs) zero d = refl
at_same f (x ∷ xs) (suc i) d = at_same f xs i d

pub set_same : {A B : Type 0} (f : A → B) (xs : List A) (i : ℕ) (x : A) → map f (set xs i x) ≡ set (map f xs) i (f x)
set_same f [] i x = refl
set_same f (y ∷ xs) zero x = refl
set_same f (y ∷ xs) (suc i) x = ap (λ ys. f y ∷ ys) (set_same f xs i x)

pub append_same : {A B : Type 0} (f : A → B) (xs ys : List A) → map f (xs ++ ys) ≡ map f xs ++ map f ys
append_same f [] ys = refl
append_same f (x ∷ xs) ys = ap (λ zs. f x ∷ zs) (append_same f xs ys)

module _ {A : Type 0} (b : A → A) (p : A → Bool) (same : (x : A) → p (b x) ≡ p x) where
  found : (x : A) (more rest : Option A) (t : Bool) → more ≡ option_map b rest → cond t (Some (b x)) more ≡ option_map b (cond t (Some x) rest)
  found x more rest true is = refl
  found x more rest false is = is

  pub find_same : (xs : List A) → find p (map b xs) ≡ option_map b (find p xs)
  find_same [] = refl
  find_same (x ∷ xs) = ap (λ t. cond t (Some (b x)) (find p (map b xs))) (same x) ∙ found x _ _ (p x) (find_same xs)

  kept : (x : A) (more rest : List A) (t : Bool) → more ≡ map b rest → cond t (b x ∷ more) more ≡ map b (cond t (x ∷ rest) rest)
  kept x more rest true is = ap (λ ys. b x ∷ ys) is
  kept x more rest false is = is

  pub filter_same : (xs : List A) → filter p (map b xs) ≡ map b (filter p xs)
  filter_same [] = refl
  filter_same (x ∷ xs) = ap (λ t. cond t (b x ∷ filter p (map b xs)) (filter p (map b xs))) (same x) ∙ kept x _ _ (p x) (filter_same xs)
