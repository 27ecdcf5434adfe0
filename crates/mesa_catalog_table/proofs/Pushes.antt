-- Lists that grow by what each of other elements gives.
use Rattle.std.proofs.Common.{◌≡◌, ℕ, ◌+◌, ◌≤◌, ◌<◌, List, [], ◌∷◌, ◌++◌, length, map, take, get_or, refl, sym, ◌∙◌, ap, append_assoc, true, false, cond}
use Rattle.std.specs.Prelude.{flat_map, nat_le, Result, Ok, Err, OnOk}
use Rattle.std.proofs.lemmas.List.{append-nil, map_push, take_all, take_more}
use Rattle.mesa_catalog_table.specs.declared.table.Loaded.{Loaded}
use Rattle.mesa_catalog_table.specs.Named.{single_ids, through}
use Rattle.mesa_catalog_table.proofs.Singles.{flat_map-append}

-- what one more gives
pub pushed_more : {X Y : Type 0} (f : X → List Y) (start now later : List Y) (xs : List X) (i : ℕ) (x : X) → i < length xs → x ≡ get_or xs i x
    → now ≡ start ++ flat_map f (take i xs) → later ≡ now ++ f x → later ≡ start ++ flat_map f (take (i + 1) xs)
pushed_more f start now later xs i x h is was more =
    let before = flat_map f (take i xs) in
    more ∙ ap (λ ys. ys ++ f x) was ∙ append_assoc start before (f x)
    ∙ ap (λ ys. start ++ (before ++ ys)) (sym (append-nil (f x)))
    ∙ ap (λ ys. start ++ ys) (sym (flat_map-append f (take i xs) (x ∷ [])) ∙ ap (λ y. flat_map f (take i xs ++ y ∷ [])) is ∙ ap (flat_map f) (sym (take_more xs i x h)))

-- the same where each gives one
pub pushed_one : {X Y : Type 0} (f : X → Y) (start now later : List Y) (xs : List X) (i : ℕ) (x : X) → i < length xs → x ≡ get_or xs i x
    → now ≡ start ++ map f (take i xs) → later ≡ now ++ f x ∷ [] → later ≡ start ++ map f (take (i + 1) xs)
pushed_one f start now later xs i x h is was more =
    let before = map f (take i xs) in
    more ∙ ap (λ ys. ys ++ f x ∷ []) was ∙ append_assoc start before (f x ∷ [])
    ∙ ap (λ ys. start ++ ys) (sym (map_push f (take i xs) x) ∙ ap (λ y. map f (take i xs ++ y ∷ [])) is ∙ ap (map f) (sym (take_more xs i x h)))

-- and where all have given
pub pushed_all : {X Y : Type 0} (f : X → List Y) (start now : List Y) (xs : List X) (i : ℕ) → length xs ≤ i → now ≡ start ++ flat_map f (take i xs) → now ≡ start ++ flat_map f xs
pushed_all f start now xs i h was = was ∙ ap (λ ys. start ++ flat_map f ys) (take_all i xs h)

pub pushed_each : {X Y : Type 0} (f : X → Y) (start now : List Y) (xs : List X) (i : ℕ) → length xs ≤ i → now ≡ start ++ map f (take i xs) → now ≡ start ++ map f xs
pushed_each f start now xs i h was = was ∙ ap (λ ys. start ++ map f ys) (take_all i xs h)

-- what a version gives, where it is at most another
abbrev pub ids_to : ℕ → Loaded → List ℕ
ids_to to l = cond (nat_le l.version to) (single_ids l) []

pub ids_through_give : (to : ℕ) (loaded : List Loaded) → flat_map (ids_to to) loaded ≡ flat_map single_ids (through to loaded)
ids_through_give to [] = refl
ids_through_give to (l ∷ loaded) =
    elim (nat_le l.version to) as (λ b. cond b (single_ids l) [] ++ flat_map (ids_to to) loaded ≡ flat_map single_ids (cond b (l ∷ through to loaded) (through to loaded))) [
      | true ↦ ap (λ ids. single_ids l ++ ids) (ids_through_give to loaded)
      | false ↦ ids_through_give to loaded
    ]

-- what follows from what an outcome promises
pub on_ok : {A E : Type 0} (r : Result A E) (P Q : Type 0) → (P → Q) → OnOk r P → OnOk r Q
on_ok (Ok x) P Q f p = f p
on_ok (Err e) P Q f p = tt
