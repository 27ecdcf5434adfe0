-- Columns that are put in order.
use Rattle.std.proofs.Common.{◌≡◌, ℕ, zero, suc, ◌+◌, ◌<◌, ◌%◌, ◌^◌, List, [], ◌∷◌, ◌++◌, length, get_or, set as put_in, refl, sym, ◌∙◌, ap, subst, arith, true, false, cond}
use Rattle.std.specs.Prelude.{flat_map}
use Rattle.std.specs.List.{sum_by, swap}
use Rattle.std.specs.List.Sorted.{IsPermutation}
use Rattle.std.specs.Cmp.{IsTotalOrder}
use Rattle.std.specs.Ordering.{is_le, nat_cmp, ordering_reverse, ordering_then}
use Rattle.std.specs.declared.cmp.Ordering.{Ordering}
use Rattle.std.specs.declared.cmp.Ordering.TheVariants.{Less, Equal, Greater}
use Rattle.std.specs.FinMap.{slice_cmp-IsAntisymmetric, nat_cmp-IsAntisymmetric}
use Rattle.std.proofs.lemmas.Cmp.{nat_cmp_total, nat_list_cmp_total, on_total, then_total, tied_itself}
use Rattle.std.proofs.lemmas.List.Sorted.{IsPermutation-keeps, sum_by-IsPermutation}
use Rattle.std.proofs.lemmas.List.{length-set}
use Rattle.std.proofs.lemmas.List.Edits.{swap_is}
use Rattle.std.proofs.lemmas.List.Sums.{sum_by-cons}
use Rattle.mesa_key.specs.Order.{byte_cmp}
use Rattle.mesa_columns.specs.Columns.{Columns}
use Rattle.mesa_columns.specs.declared.rows.Row.{Row}
use Rattle.mesa_digest.specs.Digests.{Cell, Label, cell_bytes, cell_cmp, cells, in_order, label_cmp, mark, mark_of, named, put_cell, set}
use Rattle.mesa_digest.specs.Laws.{AreMoved}

label_total : IsTotalOrder label_cmp
label_total = then_total (on_total (λ (l : Label). l.name) nat_list_cmp_total) (on_total (λ (l : Label). l.rank) nat_cmp_total)

total : IsTotalOrder cell_cmp
total = then_total (on_total (λ (c : Cell). c.label) label_total) (on_total (λ (c : Cell). c.bytes) nat_list_cmp_total)

flipped : (a b : Cell) (o : Ordering) → cell_cmp b a ≡ o → cell_cmp a b ≡ ordering_reverse o
flipped a b o e = total.antisymm a b ∙ ap ordering_reverse e

-- what compares equal is the same
pub label_tied : (a b : Label) → label_cmp a b ≡ Equal → a ≡ b
label_tied a b e = elim (byte_cmp a.name b.name) as (λ o. byte_cmp a.name b.name ≡ o → ordering_then o (nat_cmp a.rank b.rank) ≡ Equal → a ≡ b) [
  | Less ↦ λ p h. cc
  | Greater ↦ λ p h. cc
  | Equal ↦ λ p h. λ i. record { name = slice_cmp-IsAntisymmetric nat_cmp-IsAntisymmetric a.name b.name p i; rank = nat_cmp-IsAntisymmetric a.rank b.rank h i }
] refl e

tied : (a b : Cell) → cell_cmp a b ≡ Equal → a ≡ b
tied a b e = elim (label_cmp a.label b.label) as (λ o. label_cmp a.label b.label ≡ o → ordering_then o (byte_cmp a.bytes b.bytes) ≡ Equal → a ≡ b) [
  | Less ↦ λ p h. cc
  | Greater ↦ λ p h. cc
  | Equal ↦ λ p h. λ i. record { label = label_tied a.label b.label p i; bytes = slice_cmp-IsAntisymmetric nat_cmp-IsAntisymmetric a.bytes b.bytes h i }
] refl e

pub put_yes : (c x : Cell) (xs : List Cell) → is_le (cell_cmp c x) ≡ true → put_cell c (x ∷ xs) ≡ c ∷ x ∷ xs
unfolding put_cell
put_yes c x xs e = ap (λ b. cond b (c ∷ x ∷ xs) (x ∷ put_cell c xs)) e

pub put_no : (c x : Cell) (xs : List Cell) → is_le (cell_cmp c x) ≡ false → put_cell c (x ∷ xs) ≡ x ∷ put_cell c xs
unfolding put_cell
put_no c x xs e = ap (λ b. cond b (c ∷ x ∷ xs) (x ∷ put_cell c xs)) e

pub put_none : (c : Cell) → put_cell c [] ≡ c ∷ []
unfolding put_cell
put_none c = refl

-- of two columns the lesser comes first, whichever is put first
put_pair : (a b : Cell) → cell_cmp a b ≡ Less → (xs : List Cell) → put_cell a (put_cell b xs) ≡ put_cell b (put_cell a xs)
put_pair a b less [] =
    ap (put_cell a) (put_none b) ∙ put_yes a b [] (ap is_le less)
    ∙ sym (ap (put_cell b) (put_none a) ∙ put_no b a [] (ap is_le (flipped b a Less less)) ∙ ap (λ xs. a ∷ xs) (put_none b))
put_pair a b less (x ∷ xs) =
    let over : is_le (cell_cmp b a) ≡ false = ap is_le (flipped b a Less less) in
    elim (is_le (cell_cmp b x)) as (λ t. is_le (cell_cmp b x) ≡ t → put_cell a (put_cell b (x ∷ xs)) ≡ put_cell b (put_cell a (x ∷ xs))) [
      | true ↦ λ e.
          let first : is_le (cell_cmp a x) ≡ true = below a b x less e in
          ap (put_cell a) (put_yes b x xs e) ∙ put_yes a b (x ∷ xs) (ap is_le less)
          ∙ sym (ap (put_cell b) (put_yes a x xs first) ∙ put_no b a (x ∷ xs) over ∙ ap (λ ys. a ∷ ys) (put_yes b x xs e))
      | false ↦ λ e.
          elim (is_le (cell_cmp a x)) as (λ t. is_le (cell_cmp a x) ≡ t → put_cell a (put_cell b (x ∷ xs)) ≡ put_cell b (put_cell a (x ∷ xs))) [
            | true ↦ λ h.
                ap (put_cell a) (put_no b x xs e) ∙ put_yes a x (put_cell b xs) h
                ∙ sym (ap (put_cell b) (put_yes a x xs h) ∙ put_no b a (x ∷ xs) over ∙ ap (λ ys. a ∷ ys) (put_no b x xs e))
            | false ↦ λ h.
                ap (put_cell a) (put_no b x xs e) ∙ put_no a x (put_cell b xs) h ∙ ap (λ ys. x ∷ ys) (put_pair a b less xs)
                ∙ sym (ap (put_cell b) (put_no a x xs h) ∙ put_no b x (put_cell a xs) e)
          ] refl
    ] refl where
      below : (a b x : Cell) → cell_cmp a b ≡ Less → is_le (cell_cmp b x) ≡ true → is_le (cell_cmp a x) ≡ true
      below a b x less le = elim (cell_cmp b x) as (λ o. cell_cmp b x ≡ o → is_le o ≡ true → is_le (cell_cmp a x) ≡ true) [
        | Less ↦ λ e h. ap is_le (total.trans a b x less e)
        | Equal ↦ λ e h. ap is_le (subst (λ c. cell_cmp a c ≡ Less) (tied b x e) less)
        | Greater ↦ λ e h. cc
      ] refl le

put_swap : (a b : Cell) (xs : List Cell) → put_cell a (put_cell b xs) ≡ put_cell b (put_cell a xs)
put_swap a b xs = elim (cell_cmp a b) as (λ o. cell_cmp a b ≡ o → put_cell a (put_cell b xs) ≡ put_cell b (put_cell a xs)) [
  | Less ↦ λ e. put_pair a b e xs
  | Equal ↦ λ e. λ i. put_cell (tied a b e i) (put_cell (sym (tied a b e) i) xs)
  | Greater ↦ λ e. sym (put_pair b a (flipped b a Greater e) xs)
] refl

pub order_push : (xs : List Cell) (c : Cell) → in_order (xs ++ c ∷ []) ≡ put_cell c (in_order xs)
order_push [] c = refl
order_push (x ∷ xs) c = ap (put_cell x) (order_push xs c) ∙ put_swap x c (in_order xs)

put_length : (c : Cell) (xs : List Cell) → length (put_cell c xs) ≡ suc (length xs)
put_length c [] = ap length (put_none c)
put_length c (x ∷ xs) = elim (is_le (cell_cmp c x)) as (λ t. is_le (cell_cmp c x) ≡ t → length (put_cell c (x ∷ xs)) ≡ suc (suc (length xs))) [
  | true ↦ λ e. ap length (put_yes c x xs e)
  | false ↦ λ e. ap length (put_no c x xs e) ∙ ap suc (put_length c xs)
] refl

not_behind_itself : (c x : Cell) → is_le (cell_cmp c x) ≡ false → c ≡ x → ⊥
not_behind_itself c x e same = let le : is_le (cell_cmp c x) ≡ true = ap (λ y. is_le (cell_cmp c y)) (sym same) ∙ ap is_le (tied_itself total c) in cc (le, e)

same_heads : (x y : Cell) (xs ys : List Cell) → x ∷ xs ≡ y ∷ ys → x ≡ y
same_heads x y xs ys e = cc

same_tails : (x y : Cell) (xs ys : List Cell) → x ∷ xs ≡ y ∷ ys → xs ≡ ys
same_tails x y xs ys e = cc

-- lists that are the same with one column more were the same before
put_alike : (c : Cell) (xs ys : List Cell) → put_cell c xs ≡ put_cell c ys → xs ≡ ys
put_alike c [] [] e = refl
put_alike c [] (y ∷ ys) e = absurd (omega (arith, put_length c [], put_length c (y ∷ ys), ap length e))
put_alike c (x ∷ xs) [] e = absurd (omega (arith, put_length c [], put_length c (x ∷ xs), ap length e))
put_alike c (x ∷ xs) (y ∷ ys) e =
    elim (is_le (cell_cmp c x)) as (λ t. is_le (cell_cmp c x) ≡ t → x ∷ xs ≡ y ∷ ys) [
      | true ↦ λ p. elim (is_le (cell_cmp c y)) as (λ t. is_le (cell_cmp c y) ≡ t → x ∷ xs ≡ y ∷ ys) [
        | true ↦ λ q. same_tails c c (x ∷ xs) (y ∷ ys) (sym (put_yes c x xs p) ∙ e ∙ put_yes c y ys q)
        | false ↦ λ q. absurd (not_behind_itself c y q (same_heads c y (x ∷ xs) (put_cell c ys) (sym (put_yes c x xs p) ∙ e ∙ put_no c y ys q)))
      ] refl
      | false ↦ λ p. elim (is_le (cell_cmp c y)) as (λ t. is_le (cell_cmp c y) ≡ t → x ∷ xs ≡ y ∷ ys) [
        | true ↦ λ q. absurd (not_behind_itself c x p (sym (same_heads x c (put_cell c xs) (y ∷ ys) (sym (put_no c x xs p) ∙ e ∙ put_yes c y ys q))))
        | false ↦ λ q.
            let both : x ∷ put_cell c xs ≡ y ∷ put_cell c ys = sym (put_no c x xs p) ∙ e ∙ put_no c y ys q in
            λ i. same_heads x y (put_cell c xs) (put_cell c ys) both i ∷ put_alike c xs ys (same_tails x y (put_cell c xs) (put_cell c ys) both) i
      ] refl
    ] refl

-- ---- columns in another order

-- another column in the place of one
exchanged : (xs : List Cell) (k : ℕ) (x d : Cell) → k < length xs → put_cell (get_or xs k d) (in_order (put_in xs k x)) ≡ put_cell x (in_order xs)
exchanged [] k x d l = absurd (omega arith)
exchanged (y ∷ ys) zero x d l = put_swap y x (in_order ys)
exchanged (y ∷ ys) (suc k) x d l = put_swap (get_or ys k d) y (in_order (put_in ys k x)) ∙ ap (put_cell y) (exchanged ys k x d (omega (arith, l))) ∙ put_swap y x (in_order ys)

still_there : (xs : List Cell) (i j : ℕ) (x d : Cell) → i < length xs → x ≡ get_or xs j d → get_or (put_in xs i x) j d ≡ x
still_there [] i j x d l e = absurd (omega arith)
still_there (y ∷ ys) zero zero x d l e = refl
still_there (y ∷ ys) zero (suc j) x d l e = sym e
still_there (y ∷ ys) (suc i) zero x d l e = sym e
still_there (y ∷ ys) (suc i) (suc j) x d l e = still_there ys i j x d (omega (arith, l)) e

swapped_order : (xs : List Cell) (i j : ℕ) → i < length xs → j < length xs → in_order (swap xs i j) ≡ in_order xs
swapped_order xs i j l m =
    let d : Cell = record { label = record { name = []; rank = 0 }; bytes = [] } in
    let a : Cell = get_or xs i d in
    let b : Cell = get_or xs j d in
    let one : List Cell = put_in xs i b in
    let two : List Cell = put_in one j a in
    let first : put_cell a (in_order one) ≡ put_cell b (in_order xs) = exchanged xs i b d l in
    let second : put_cell (get_or one j d) (in_order two) ≡ put_cell a (in_order one) = exchanged one j a d (omega (arith, m, length-set xs i b)) in
    ap in_order (sym (swap_is xs i j d l m))
    ∙ put_alike b (in_order two) (in_order xs) (ap (λ c. put_cell c (in_order two)) (sym (still_there xs i j b d l refl)) ∙ second ∙ first)

-- columns in another order are put in the same order
pub moved_order : (xs ys : List Cell) → IsPermutation xs ys → in_order xs ≡ in_order ys
moved_order xs ys m = sym (IsPermutation-keeps xs (λ l. in_order l ≡ in_order xs) refl (λ l i j p q e. swapped_order l i j p q ∙ e) ys m)

pub named_once : (s t : Columns) (a b : Row) → IsPermutation (cells s a) (cells t b) → named s a ≡ named t b
named_once s t a b m = ap (flat_map cell_bytes) (moved_order (cells s a) (cells t b) m)

same_marks : (s t : Columns) (a b : Row) → named s a ≡ named t b → mark s a ≡ mark t b
same_marks s t a b e = ap mark_of e

abbrev AllSame : (Row → ℕ) → (Row → ℕ) → List Row → List Row → Type 0
AllSame f g [] [] = Unit {0}
AllSame f g [] (y ∷ ys) = ⊥
AllSame f g (x ∷ xs) [] = ⊥
AllSame f g (x ∷ xs) (y ∷ ys) = (f x ≡ g y) × AllSame f g xs ys

same_sums : (f g : Row → ℕ) (xs ys : List Row) → AllSame f g xs ys → sum_by f xs ≡ sum_by g ys
same_sums f g [] [] m = refl
same_sums f g [] (y ∷ ys) m = absurd m
same_sums f g (x ∷ xs) [] m = absurd m
same_sums f g (x ∷ xs) (y ∷ ys) m = sum_by-cons f x xs ∙ (λ i. m.0 i + same_sums f g xs ys m.1 i) ∙ sym (sum_by-cons g y ys)

moved_same : (s t : Columns) (xs ys : List Row) → AreMoved s t xs ys → AllSame (mark s) (mark t) xs ys
moved_same s t [] [] m = tt
moved_same s t [] (y ∷ ys) m = absurd m
moved_same s t (x ∷ xs) [] m = absurd m
moved_same s t (x ∷ xs) (y ∷ ys) m = (same_marks s t x y (named_once s t x y m.0), moved_same s t xs ys m.1)

pub reduced : (a b : ℕ) → a ≡ b → a % 2 ^ 128 ≡ b % 2 ^ 128
reduced a b e = ap (λ n. n % 2 ^ 128) e

pub sets_once : (s t : Columns) (xs ys zs : List Row) → AreMoved s t xs ys → IsPermutation ys zs → set s xs ≡ set t zs
sets_once s t xs ys zs m p = reduced (sum_by (mark s) xs) (sum_by (mark t) zs) (same_sums (mark s) (mark t) xs ys (moved_same s t xs ys m) ∙ sym (sum_by-IsPermutation (mark t) ys zs p))
