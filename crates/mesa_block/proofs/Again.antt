-- The columns of keys that were made of columns.
use Rattle.std.proofs.Common.{◌≡◌, ◌≢◌, ℕ, ◌+◌, List, [], ◌∷◌, ◌++◌, length, map, get_or, drop, refl, ap, ◌∙◌, append_assoc, true}
use Rattle.std.specs.List.{AllByRecursion, range_with_len}
use Rattle.std.specs.declared.cmp.Ordering.{Ordering}
use Rattle.std.specs.declared.cmp.Ordering.TheVariants.{Less, Equal, Greater}
use Rattle.std.proofs.lemmas.List.{take_at, drop_at, length-append}
use Rattle.mesa_columns.specs.mesa_key.declared.KeyType.{KeyType}
use Rattle.mesa_columns.specs.mesa_key.declared.KeyType.TheVariants as kind
use Rattle.mesa_columns.specs.mesa_key.Spelling.{before_zero}
use Rattle.mesa_block.specs.Spelling.{front, rest, column, columns}
use Rattle.mesa_block.specs.Reading.{key_at, sealed, is_less}
use Rattle.mesa_block.proofs.Zeros.{before_zero-other, before_zero-zero}
use Rattle.mesa_block.proofs.Takes.{laid}

abbrev pub NoZero : List ℕ → Type 0
NoZero [] = Unit {0}
NoZero (b ∷ bytes) = (b ≢ 0) × NoZero bytes

-- a cell that a column of this type can have
abbrev pub IsCell : KeyType → List ℕ → Type 0
IsCell kind.Int cell = length cell ≡ 8
IsCell kind.Text cell = NoZero cell

before_end : (cell others : List ℕ) → NoZero cell → before_zero (cell ++ 0 ∷ others) ≡ cell
before_end [] others h = before_zero-zero 0 others refl
before_end (b ∷ cell) others h = before_zero-other b (cell ++ 0 ∷ others) h.0 ∙ ap (λ (l : List ℕ). b ∷ l) (before_end cell others h.1)

pub front_sealed : (k : KeyType) (cell others : List ℕ) → IsCell k cell → front k (sealed k cell ++ others) ≡ cell
front_sealed kind.Int cell others h = take_at cell others 8 h
front_sealed kind.Text cell others h = ap before_zero (append_assoc cell (0 ∷ []) others) ∙ before_end cell others h

pub rest_sealed : (k : KeyType) (cell others : List ℕ) → IsCell k cell → rest k (sealed k cell ++ others) ≡ others
rest_sealed kind.Int cell others h = drop_at cell others 8 h
rest_sealed kind.Text cell others h =
    let e : before_zero ((cell ++ 0 ∷ []) ++ others) ≡ cell = front_sealed kind.Text cell others h in
    ap (λ (l : List ℕ). drop (length l + 1) ((cell ++ 0 ∷ []) ++ others)) e ∙ drop_at (cell ++ 0 ∷ []) others (length cell + 1) (length-append cell (0 ∷ []))

-- the first cells of keys, and what is left of the keys
pub fronts : (k : KeyType) (kinds : List KeyType) (c : List (List ℕ)) (cs : List (List (List ℕ))) (is : List ℕ) → AllByRecursion (λ i. IsCell k (get_or c i [])) is
    → map (front k) (map (key_at (k ∷ kinds) (c ∷ cs)) is) ≡ map (λ i. get_or c i []) is
unfolding key_at
fronts k kinds c cs [] all = refl
fronts k kinds c cs (i ∷ is) all =
    ap (λ (x : List ℕ). x ∷ map (front k) (map (key_at (k ∷ kinds) (c ∷ cs)) is)) (front_sealed k (get_or c i []) (key_at kinds cs i) all.0)
    ∙ ap (λ (l : List (List ℕ)). get_or c i [] ∷ l) (fronts k kinds c cs is all.1)

pub rests : (k : KeyType) (kinds : List KeyType) (c : List (List ℕ)) (cs : List (List (List ℕ))) (is : List ℕ) → AllByRecursion (λ i. IsCell k (get_or c i [])) is
    → map (rest k) (map (key_at (k ∷ kinds) (c ∷ cs)) is) ≡ map (key_at kinds cs) is
unfolding key_at
rests k kinds c cs [] all = refl
rests k kinds c cs (i ∷ is) all =
    ap (λ (x : List ℕ). x ∷ map (rest k) (map (key_at (k ∷ kinds) (c ∷ cs)) is)) (rest_sealed k (get_or c i []) (key_at kinds cs i) all.0)
    ∙ ap (λ (l : List (List ℕ)). key_at kinds cs i ∷ l) (rests k kinds c cs is all.1)

-- each column has as many cells as there are rows, and each is a cell of its type
abbrev pub AreColumns : ℕ → List KeyType → List (List (List ℕ)) → Type 0
AreColumns r [] cs = Unit {0}
AreColumns r (k ∷ kinds) [] = ⊥
AreColumns r (k ∷ kinds) (c ∷ cs) = (map (λ i. get_or c i []) (range_with_len 0 r) ≡ c) × (AllByRecursion (λ i. IsCell k (get_or c i [])) (range_with_len 0 r) × AreColumns r kinds cs)

pub columns_of_keys : (r : ℕ) (kinds : List KeyType) (cs : List (List (List ℕ))) → AreColumns r kinds cs → columns kinds (map (key_at kinds cs) (range_with_len 0 r)) ≡ laid kinds cs
columns_of_keys r [] cs are = refl
columns_of_keys r (k ∷ kinds) [] are = absurd are
columns_of_keys r (k ∷ kinds) (c ∷ cs) are =
    let is = range_with_len 0 r in
    ap (λ (x : List (List ℕ)). column k x ++ columns kinds (map (rest k) (map (key_at (k ∷ kinds) (c ∷ cs)) is))) (fronts k kinds c cs is are.1.0 ∙ are.0)
    ∙ ap (λ (x : List (List ℕ)). column k c ++ columns kinds x) (rests k kinds c cs is are.1.0)
    ∙ ap (λ (l : List ℕ). column k c ++ l) (columns_of_keys r kinds cs are.1.1)

pub less_is : (o : Ordering) → is_less o ≡ true → o ≡ Less
less_is Less e = refl
less_is Equal e = absurd cc
less_is Greater e = absurd cc
