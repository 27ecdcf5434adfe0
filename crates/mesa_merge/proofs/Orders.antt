-- Which input comes before which.
use Rattle.std.proofs.Common.{◌≡◌, ◌⊎◌, inl, inr, ℕ, zero, suc, ◌<◌, ◌≤◌, List, [], ◌∷◌, refl, sym, ◌∙◌, ap, subst, get_or, min, arith}
use Rattle.std.specs.declared.cmp.Ordering.TheVariants.{Less, Equal, Greater}
use Rattle.std.specs.Prelude.{true, false, Option, None, Some}
use Rattle.std.specs.Ordering.{is_ge, is_le, is_lt}
use Rattle.std.proofs.lemmas.Bool.{false≢true}
use Rattle.std.specs.Cmp.Lexicographic.{nat_list_cmp_total}
use Rattle.std.specs.Cmp.{eq_by_cmp_equiv}
use Rattle.std.specs.FinMap.{slice_cmp-IsAntisymmetric, nat_cmp-IsAntisymmetric}
use Rattle.mesa_key.specs.Order.{byte_cmp}
use Rattle.mesa_scan.specs.mesa_columns.declared.rows.Row.{Row}
use Rattle.mesa_scan.proofs.mesa_fold.Folds.{is_equal}
use Rattle.mesa_batch.proofs.Place.{flipped}
use Rattle.mesa_scan.specs.Cut.{is_under}
use Rattle.mesa_scan.proofs.Cutting.{at_below}
use Rattle.mesa_merge.specs.Hands.{ComesBefore, IsAhead, IsBefore, IsFrom, IsLeastAt, IsPast}

-- a key compared with itself
pub same_key : (k : List ℕ) → byte_cmp k k ≡ Equal
same_key k = is_equal _ ((eq_by_cmp_equiv nat_list_cmp_total).refl k)

-- keys that compare equal are the same
pub tied : (a b : List ℕ) → byte_cmp a b ≡ Equal → a ≡ b
tied a b e = slice_cmp-IsAntisymmetric nat_cmp-IsAntisymmetric a b e

pub itself_before : (a : ℕ) (xs : List Row) → ComesBefore a xs a xs
itself_before a [] = tt
itself_before a (x ∷ xs) = inr (refl, omega arith)

pub before_along : (a b c : ℕ) (xs ys zs : List Row) → ComesBefore a xs b ys → ComesBefore b ys c zs → ComesBefore a xs c zs
before_along a b c xs ys [] p q = tt
before_along a b c xs [] (z ∷ zs) p q = absurd q
before_along a b c [] (y ∷ ys) (z ∷ zs) p q = absurd p
before_along a b c (x ∷ xs) (y ∷ ys) (z ∷ zs) p q = elim p [
  | inl less ↦ elim q [
    | inl more ↦ inl (nat_list_cmp_total.trans x.key y.key z.key less more)
    | inr same ↦ inl (subst (λ k. byte_cmp x.key k ≡ Less) same.0 less)
  ]
  | inr even ↦ elim q [
    | inl more ↦ inl (subst (λ k. byte_cmp k z.key ≡ Less) (sym even.0) more)
    | inr same ↦ inr (even.0 ∙ same.0, omega (arith, even.1, same.1))
  ]
]

-- where none is at hand
pub before_none : (a b : ℕ) (xs ys : List Row) → ys ≡ [] → ComesBefore a xs b ys
before_none a b xs [] e = tt
before_none a b xs (y ∷ ys) e = cc

-- of two rows at hand
pub before_by : (a b : ℕ) (xs ys : List Row) (x y : Row) (xs' ys' : List Row) → xs ≡ x ∷ xs' → ys ≡ y ∷ ys' → (byte_cmp x.key y.key ≡ Less) ⊎ ((x.key ≡ y.key) × (a ≤ b)) → ComesBefore a xs b ys
before_by a b xs ys x y xs' ys' e f p = subst (λ hand. ComesBefore a hand b ys) (sym e) (subst (λ hand. ComesBefore a (x ∷ xs') b hand) (sym f) p)

-- ---- what a comparison of two inputs decides

pub greater_before : (a b : ℕ) (x y : Row) → byte_cmp x.key y.key ≡ Greater → (byte_cmp y.key x.key ≡ Less) ⊎ ((y.key ≡ x.key) × (b ≤ a))
greater_before a b x y e = inl (flipped y.key x.key Greater e)

-- of two rows of one key the older input's comes first
pub same_before : (a b first : ℕ) (hands : List (List Row)) (x y : Row) (xs ys : List Row) → get_or hands a [] ≡ x ∷ xs → get_or hands b [] ≡ y ∷ ys → byte_cmp x.key y.key ≡ Equal → first ≡ min a b
    → IsBefore hands first a × IsBefore hands first b
same_before a b first hands x y xs ys e f equal is = elim (order a b) [
  | inl le ↦
      let here : first ≡ a = omega (arith, is, le) in
      subst (λ k. IsBefore hands k a × IsBefore hands k b) (sym here) (itself_before a (get_or hands a []), before_by a b _ _ x y xs ys e f (inr (tied x.key y.key equal, le)))
  | inr le ↦
      let here : first ≡ b = omega (arith, is, le) in
      subst (λ k. IsBefore hands k a × IsBefore hands k b) (sym here) (before_by b a _ _ y x ys xs f e (inr (sym (tied x.key y.key equal), le)), itself_before b (get_or hands b []))
] where
  order : (m n : ℕ) → (m ≤ n) ⊎ (n ≤ m)
  order zero n = inl (omega arith)
  order (suc m) zero = inr (omega arith)
  order (suc m) (suc n) = elim (order m n) [ inl le ↦ inl (omega (arith, le)) | inr le ↦ inr (omega (arith, le)) ]

-- ---- what comes before all

pub before_ahead : (a b : ℕ) (x : Row) (xs ys : List Row) → b < a → ComesBefore a (x ∷ xs) b ys → IsAhead x.key ys
before_ahead a b x xs [] lt p = tt
before_ahead a b x xs (y ∷ ys) lt p = elim p [ inl less ↦ less | inr same ↦ absurd (omega (arith, lt, same.1)) ]

pub before_from : (a b : ℕ) (x : Row) (xs ys : List Row) → ComesBefore a (x ∷ xs) b ys → IsFrom x.key ys
before_from a b x xs [] p = tt
before_from a b x xs (y ∷ ys) p = elim p [
  | inl less ↦ ap is_ge (flipped y.key x.key Less less)
  | inr same ↦ ap is_ge (subst (λ k. byte_cmp y.key k ≡ Equal) (sym same.0) (same_key y.key))
]

pub before_nothing : (a b : ℕ) (xs ys : List Row) → xs ≡ [] → ComesBefore a xs b ys → ys ≡ []
before_nothing a b xs [] e p = refl
before_nothing a b [] (y ∷ ys) e p = absurd p
before_nothing a b (x ∷ xs) (y ∷ ys) e p = cc

-- ---- rows at hand above a key

-- what is at or above a key is above every lesser one
from_above : (a k : List ℕ) (hand : List Row) → byte_cmp a k ≡ Less → IsFrom k hand → IsAhead a hand
from_above a k [] less p = tt
from_above a k (row ∷ rows) less p = elim (byte_cmp row.key k) as (λ o. byte_cmp row.key k ≡ o → is_ge o ≡ true → byte_cmp a row.key ≡ Less) [
  | Less ↦ λ e h. cc
  | Equal ↦ λ e h. subst (λ q. byte_cmp a q ≡ Less) (sym (tied row.key k e)) less
  | Greater ↦ λ e h. nat_list_cmp_total.trans a k row.key less (flipped k row.key Greater e)
] refl p

-- a least row at hand of another key than one that none is below
pub ahead_all : (key : List ℕ) (i : ℕ) (hands : List (List Row)) (least : IsLeastAt i hands) → (least.row.key ≡ key → ⊥) → ((j : ℕ) → IsFrom key (get_or hands j [])) → (j : ℕ) → IsAhead key (get_or hands j [])
ahead_all key i hands least ne from j =
    let first : IsFrom key (least.row ∷ least.rows) = subst (IsFrom key) least.there (from i) in
    let above : byte_cmp key least.row.key ≡ Less = elim (byte_cmp least.row.key key) as (λ o. byte_cmp least.row.key key ≡ o → is_ge o ≡ true → byte_cmp key least.row.key ≡ Less) [
      | Less ↦ λ e h. cc
      | Equal ↦ λ e h. absurd (ne (tied least.row.key key e))
      | Greater ↦ λ e h. flipped key least.row.key Greater e
    ] refl first in
    from_above key least.row.key _ above (least.each j)

nothing_ahead : (key : List ℕ) (hand : List Row) → hand ≡ [] → IsAhead key hand
nothing_ahead key [] e = tt
nothing_ahead key (row ∷ rows) e = cc

-- none is at hand
pub ahead_none : (key : List ℕ) (hands : List (List Row)) → ((j : ℕ) → get_or hands j [] ≡ []) → (j : ℕ) → IsAhead key (get_or hands j [])
ahead_none key hands none j = nothing_ahead key _ (none j)

-- ---- rows at hand past an end

at_most : (a b : List ℕ) → is_ge (byte_cmp b a) ≡ true → is_le (byte_cmp a b) ≡ true
at_most a b h = elim (byte_cmp b a) as (λ o. byte_cmp b a ≡ o → is_ge o ≡ true → is_le (byte_cmp a b) ≡ true) [
  | Less ↦ λ e g. absurd (false≢true g)
  | Equal ↦ λ e g. ap is_le (flipped a b Equal e)
  | Greater ↦ λ e g. ap is_le (flipped a b Greater e)
] refl h

-- what is at or above a key that isn't below the end isn't below it either
pub past_from : (high : Option (List ℕ)) (key : List ℕ) (hand : List Row) → is_under high key ≡ false → IsFrom key hand → IsPast high hand
past_from high key [] past from = tt
past_from None key (row ∷ rows) past from = absurd (false≢true (sym past))
past_from (Some high) key (row ∷ rows) past from = elim (byte_cmp row.key high) as (λ o. byte_cmp row.key high ≡ o → is_lt (byte_cmp row.key high) ≡ false) [
  | Less ↦ λ e. absurd (false≢true (sym past ∙ ap is_lt (at_below key row.key high (at_most key row.key from) e)))
  | Equal ↦ λ e. ap is_lt e
  | Greater ↦ λ e. ap is_lt e
] refl
