-- Rows of one key, input after input.
use Rattle.std.proofs.Common.{◌≡◌, ◌≢◌, ◌⊎◌, inl, inr, ℕ, zero, suc, ◌+◌, ◌<◌, ◌≤◌, List, [], ◌∷◌, ◌++◌, refl, sym, ◌∙◌, ap, subst, length, get_or, set, take, drop, arith}
use Rattle.std.proofs.lemmas.List.{get_or-set_same, get_or-set_other}
use Rattle.std.proofs.Math.Nat.{eq-or-lt_of_le}
use Rattle.std.specs.Prelude.{true, T}
use Rattle.std.specs.declared.cmp.Ordering.TheVariants.{Less, Equal, Greater}
use Rattle.std.specs.Ordering.{is_ge}
use Rattle.std.specs.Cmp.Lexicographic.{nat_list_cmp_total}
use Rattle.std.specs.FinMap.{slice_cmp-IsAntisymmetric, nat_cmp-IsAntisymmetric}
use Rattle.mesa_value.specs.declared.Agg.{Agg}
use Rattle.mesa_key.specs.Order.{byte_cmp}
use Rattle.mesa_scan.specs.mesa_columns.declared.rows.Row.{Row}
use Rattle.mesa_scan.specs.mesa_fold.Folded.{folded, row_combined, rows_of}
use Rattle.mesa_batch.proofs.Place.{flipped}
use Rattle.mesa_scan.specs.mesa_fold.Laws.{AreUnder, PutsGiven}
use Rattle.mesa_merge.specs.Hands.{IsAhead, IsFrom, IsLeastAt}
use Rattle.mesa_merge.specs.Merging.{AreAbove, AreUpTo, IsStage}
use Rattle.mesa_merge.proofs.Orders.{same_key}

-- ---- keys

not_below_itself : (k : List ℕ) → byte_cmp k k ≡ Less → ⊥
not_below_itself k e = let both : Less ≡ Equal = sym e ∙ same_key k in cc

-- what is above one key and this at most it, is above this
over : (a k b : List ℕ) → is_ge (byte_cmp k a) ≡ true → byte_cmp k b ≡ Less → byte_cmp a b ≡ Less
over a k b ge less = elim (byte_cmp k a) as (λ o. byte_cmp k a ≡ o → is_ge o ≡ true → byte_cmp a b ≡ Less) [
  | Less ↦ λ e h. absurd (subst T (sym h) tt)
  | Equal ↦ λ e h. subst (λ q. byte_cmp q b ≡ Less) (slice_cmp-IsAntisymmetric nat_cmp-IsAntisymmetric k a e) less
  | Greater ↦ λ e h. nat_list_cmp_total.trans a k b (flipped a k Greater e) less
] refl ge

under_upto : (k : List ℕ) (rows : List Row) → AreUnder k rows → AreUpTo k rows
under_upto k [] p = tt
under_upto k (x ∷ xs) p = (ap is_ge (flipped k x.key Less p.0), under_upto k xs p.1)

upto_more : (k : List ℕ) (rows : List Row) (row : Row) → AreUpTo k rows → row.key ≡ k → AreUpTo k (rows ++ row ∷ [])
upto_more k [] row p e = (ap is_ge (subst (λ q. byte_cmp k q ≡ Equal) (sym e) (same_key k)), tt)
upto_more k (x ∷ xs) row p e = (p.0, upto_more k xs row p.1 e)

pub upto_under : (k b : List ℕ) (rows : List Row) → AreUpTo k rows → byte_cmp k b ≡ Less → AreUnder b rows
upto_under k b [] p less = tt
upto_under k b (x ∷ xs) p less = (over x.key k b p.0 less, upto_under k b xs p.1 less)

pub ahead_from : (k : List ℕ) (hand : List Row) → IsAhead k hand → IsFrom k hand
ahead_from k [] p = tt
ahead_from k (row ∷ rows) p = ap is_ge (flipped row.key k Less p)

-- ---- stages

-- with the first of the least rows at hand a key begins
pub stage_first : (i : ℕ) (hands givens : List (List Row)) (least : IsLeastAt i hands) → AreAbove hands givens → IsStage least.row.key i hands givens
stage_first i hands givens least above = record {
  done = least.before;
  each = least.each;
  under = λ j le. above i least.row least.rows least.there j;
  upto = λ j. under_upto least.row.key _ (above i least.row least.rows least.there j);
}

-- the least row at hand, where it has the key, is no earlier input's
pub stage_later : (key : List ℕ) (n i : ℕ) (hands givens : List (List Row)) → IsStage key n hands givens → (least : IsLeastAt i hands) → least.row.key ≡ key → i < n → ⊥
stage_later key n i hands givens stage least e lt =
    let ahead : IsAhead key (least.row ∷ least.rows) = subst (IsAhead key) least.there (stage.done i lt) in
    not_below_itself key (subst (λ k. byte_cmp key k ≡ Less) e ahead)

-- what stands at each place after one was changed
place : {X : Type 0} (P : X → Type 0) (xs : List X) (i j : ℕ) (y d : X) → i < length xs → (j ≡ i → P y) → (j ≢ i → P (get_or xs j d)) → P (get_or (set xs i y) j d)
place P xs i j y d lt at other = elim (split i j) [
  | inl e ↦ subst P (sym (ap (λ n. get_or (set xs i y) n d) e ∙ get_or-set_same xs i y d lt)) (at e)
  | inr ne ↦ subst P (sym (get_or-set_other xs i j y d ne)) (other ne)
] where
  split : (i j : ℕ) → (j ≡ i) ⊎ (j ≢ i)
  split zero zero = inl refl
  split zero (suc j) = inr (λ e. omega (arith, e))
  split (suc i) zero = inr (λ e. omega (arith, e))
  split (suc i) (suc j) = elim (split i j) [ inl e ↦ inl (ap suc e) | inr ne ↦ inr (λ e. ne (omega (arith, e))) ]

pub stage_next : (key : List ℕ) (n i : ℕ) (hands after givens : List (List Row)) (row : Row) → IsStage key n hands givens → n ≤ i → i < length givens
    → ((j : ℕ) → j < i → IsAhead key (get_or hands j []))
    → row.key ≡ key → IsAhead key (get_or after i []) → ((j : ℕ) → j ≢ i → get_or after j [] ≡ get_or hands j [])
    → IsStage key (i + 1) after (set givens i (get_or givens i [] ++ row ∷ []))
stage_next key n i hands after givens row stage le lt before e ahead others = record {
  done = λ j less. let le : j ≤ i = omega (arith, less) in elim (eq-or-lt_of_le le) [
    | inl same ↦ subst (λ m. IsAhead key (get_or after m [])) (sym same) ahead
    | inr lower ↦ subst (IsAhead key) (sym (others j (λ e. omega (arith, e, lower)))) (before j lower)
  ];
  each = λ j. each_at j (split j i);
  under = λ j less. subst (AreUnder key) (sym (get_or-set_other givens i j _ [] (λ e. omega (arith, e, less)))) (stage.under j (omega (arith, le, less)));
  upto = λ j. place (AreUpTo key) givens i j _ [] lt (λ same. upto_more key (get_or givens i []) row (stage.upto i) e) (λ ne. stage.upto j);
} where
  split : (j i : ℕ) → (j ≡ i) ⊎ (j ≢ i)
  split zero zero = inl refl
  split zero (suc i) = inr (λ e. omega (arith, e))
  split (suc j) zero = inr (λ e. omega (arith, e))
  split (suc j) (suc i) = elim (split j i) [ inl e ↦ inl (ap suc e) | inr ne ↦ inr (λ e. ne (omega (arith, e))) ]

  each_at : (j : ℕ) → (j ≡ i) ⊎ (j ≢ i) → IsFrom key (get_or after j [])
  each_at j (inl same) = subst (λ m. IsFrom key (get_or after m [])) (sym same) (ahead_from key _ ahead)
  each_at j (inr ne) = subst (IsFrom key) (sym (others j ne)) (stage.each j)

-- where no row at hand has the key, all are above what was given
pub stage_last : (key : List ℕ) (n : ℕ) (hands givens : List (List Row)) → IsStage key n hands givens → ((j : ℕ) → IsAhead key (get_or hands j [])) → AreAbove hands givens
stage_last key n hands givens stage ahead j row rows is k = upto_under key row.key _ (stage.upto k) (subst (IsAhead key) is (ahead j))

-- ---- what the givens fold to

-- a list around one of its places
around : {X : Type 0} (xs : List X) (i : ℕ) (y d : X) → i < length xs → set xs i y ≡ take i xs ++ y ∷ drop (suc i) xs
around [] i y d lt = absurd (omega arith)
around (x ∷ xs) zero y d lt = refl
around (x ∷ xs) (suc i) y d lt = ap (λ ys. x ∷ ys) (around xs i y d (omega arith))

whole : {X : Type 0} (xs : List X) (i : ℕ) (d : X) → i < length xs → xs ≡ take i xs ++ get_or xs i d ∷ drop (suc i) xs
whole [] i d lt = absurd (omega arith)
whole (x ∷ xs) zero d lt = refl
whole (x ∷ xs) (suc i) d lt = ap (λ ys. x ∷ ys) (whole xs i d (omega arith))

under_append : (k : List ℕ) (xs ys : List Row) → AreUnder k xs → AreUnder k ys → AreUnder k (xs ++ ys)
under_append k [] ys p q = q
under_append k (x ∷ xs) ys p q = (p.0, under_append k xs ys p.1 q)

pub under_all : (k : List ℕ) (parts : List (List Row)) → ((j : ℕ) → AreUnder k (get_or parts j [])) → AreUnder k (rows_of parts)
under_all k [] p = tt
under_all k (x ∷ xs) p = under_append k x (rows_of xs) (p 0) (under_all k xs (λ j. p (suc j)))

under_drop : (k : List ℕ) (parts : List (List Row)) (n : ℕ) → ((j : ℕ) → n ≤ j → AreUnder k (get_or parts j [])) → AreUnder k (rows_of (drop n parts))
under_drop k parts zero p = under_all k parts (λ j. p j (omega arith))
under_drop k [] (suc n) p = tt
under_drop k (x ∷ xs) (suc n) p = under_drop k xs n (λ j le. p (suc j) (omega (arith, le)))

pub fold_first : PutsGiven → (aggs : List Agg) (i : ℕ) (givens : List (List Row)) (row : Row) → i < length givens → ((j : ℕ) → AreUnder row.key (get_or givens j []))
    → folded aggs (set givens i (get_or givens i [] ++ row ∷ [])) ≡ folded aggs givens ++ row ∷ []
fold_first laws aggs i givens row lt under =
    let was = whole givens i [] lt in
    ap (folded aggs) (around givens i _ [] lt)
    ∙ laws.next aggs (take i givens) (drop (suc i) givens) (get_or givens i []) row (subst (λ gs. AreUnder row.key (rows_of gs)) was (under_all row.key givens under))
    ∙ ap (λ gs. folded aggs gs ++ row ∷ []) (sym was)

pub fold_next : PutsGiven → (aggs : List Agg) (i : ℕ) (givens : List (List Row)) (front : List Row) (last row : Row) → i < length givens
    → ((j : ℕ) → i ≤ j → AreUnder row.key (get_or givens j [])) → folded aggs givens ≡ front ++ last ∷ [] → last.key ≡ row.key → AreUnder row.key front
    → folded aggs (set givens i (get_or givens i [] ++ row ∷ [])) ≡ front ++ record last { values = row_combined aggs last.values row.values } ∷ []
fold_next laws aggs i givens front last row lt under is e below =
    let was = whole givens i [] lt in
    ap (folded aggs) (around givens i _ [] lt)
    ∙ laws.same aggs (take i givens) (drop (suc i) givens) (get_or givens i []) front last row (under_drop row.key givens (suc i) (λ j le. under j (omega (arith, le)))) (ap (folded aggs) (sym was) ∙ is) e below

under_last : (key : List ℕ) (xs : List Row) (row : Row) → AreUnder key (xs ++ row ∷ []) → byte_cmp row.key key ≡ Less
under_last key [] row p = p.0
under_last key (x ∷ xs) row p = under_last key xs row p.1

pub ahead_of_hand : (row : Row) (given hand : List Row) → ((next : Row) (rows : List Row) → hand ≡ next ∷ rows → AreUnder next.key (given ++ row ∷ [])) → IsAhead row.key hand
ahead_of_hand row given [] p = tt
ahead_of_hand row given (next ∷ rows) p = under_last next.key given row (p next rows refl)
