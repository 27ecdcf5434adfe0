-- Folds by what stands at each key.
use Rattle.std.proofs.Common.{◌≡◌, ℕ, List, [], ◌∷◌, ◌++◌, refl, sym, ◌∙◌, ap, subst, append_assoc}
use Rattle.std.proofs.lemmas.List.{append-nil}
use Rattle.std.specs.Prelude.{true, false, ◌||◌, cond, map}
use Rattle.std.specs.List.{AllByRecursion}
use Rattle.std.specs.declared.cmp.Ordering.{Ordering}
use Rattle.std.specs.declared.cmp.Ordering.TheVariants.{Less, Equal}
use Rattle.std.specs.Ordering.{is_eq, ordering_reverse}
use Rattle.std.specs.Cmp.Lexicographic.{nat_list_cmp_total, texts_ties}
use Rattle.std.specs.Cmp.{eq_by_cmp_equiv}
use Rattle.std.specs.FinMap.{slice_cmp-IsAntisymmetric, nat_cmp-IsAntisymmetric}
use Rattle.std.specs.FinMap.Entries.{by_order}
use Rattle.mesa_columns.specs.mesa_value.declared.Agg.{Agg}
use Rattle.mesa_columns.specs.mesa_list.Bytes.{same_bytes}
use Rattle.mesa_columns.specs.mesa_key.Order.{byte_cmp}
use Rattle.mesa_columns.specs.declared.rows.Row.{Row}
use Rattle.mesa_fold.specs.Folded.{all_combined, folded, folded_at, keys_of, row_combined, rows_of, values_at}
use Rattle.mesa_fold.proofs.Keys.{Keys, has, same_rising}
use Rattle.mesa_fold.proofs.Folds.{has-keys_of, is_equal, keys, rising-keys_of, rows_of-append, values_at-append, values_at_none, values_at_some}
use Rattle.mesa_fold.proofs.KeyLifts.{keys_of-all}
use Rattle.mesa_fold.specs.Put.{put_row}
use Rattle.mesa_fold.proofs.Folding.{of_rows, put_one}
use Rattle.mesa_fold.specs.Laws.{AreUnder, PutsGiven}

flipped : (a b : List ℕ) (o : Ordering) → byte_cmp b a ≡ o → byte_cmp a b ≡ ordering_reverse o
flipped a b o e = nat_list_cmp_total.antisymm a b ∙ ap ordering_reverse e

same_there : (q : List ℕ) (xs ys : List Row) → values_at q xs ≡ values_at q ys → has q (keys xs) ≡ has q (keys ys)
same_there q xs ys same =
    elim (has q (keys xs)) as (λ a. has q (keys xs) ≡ a → a ≡ has q (keys ys)) [
      | true ↦ λ e. elim (has q (keys ys)) as (λ b. has q (keys ys) ≡ b → true ≡ b) [
        | true ↦ λ f. refl
        | false ↦ λ f. let some = values_at_some q xs e in let none : values_at q ys ≡ [] = values_at_none q ys f in let both : some.0 ∷ some.1 ≡ [] = sym some.2 ∙ same ∙ none in cc
      ] refl
      | false ↦ λ e. elim (has q (keys ys)) as (λ b. has q (keys ys) ≡ b → false ≡ b) [
        | true ↦ λ f. let some = values_at_some q ys f in let none : values_at q xs ≡ [] = values_at_none q xs e in let both : some.0 ∷ some.1 ≡ [] = sym some.2 ∙ sym same ∙ none in cc
        | false ↦ λ f. refl
      ] refl
    ] refl

same_keys : (xs ys : List Row) → ((k : List ℕ) → values_at k xs ≡ values_at k ys) → keys_of xs ≡ keys_of ys
same_keys xs ys same = same_rising (keys_of xs) (keys_of ys) (rising-keys_of xs) (rising-keys_of ys) (λ q. has-keys_of q xs ∙ same_there q xs ys (same q) ∙ sym (has-keys_of q ys))

-- rows that have the same values at each key fold to the same
pub same_rows : (aggs : List Agg) (xs ys : List Row) → ((k : List ℕ) → values_at k xs ≡ values_at k ys) → of_rows aggs xs ≡ of_rows aggs ys
same_rows aggs xs ys same = λ i. map (λ (k : List ℕ). record { key = k; values = all_combined aggs (same k i) }) (same_keys xs ys same i)

-- a row whose key no later row has may stand before these or behind them
swapped : (k : List ℕ) (row : Row) (xs zs : List Row) → has row.key (keys zs) ≡ false → values_at k (xs ++ (row ∷ zs)) ≡ values_at k ((xs ++ zs) ++ row ∷ [])
swapped k row xs zs none =
    let left : values_at k (xs ++ (row ∷ zs)) ≡ values_at k xs ++ (values_at k (row ∷ []) ++ values_at k zs) = values_at-append k xs (row ∷ zs) ∙ ap (λ v. values_at k xs ++ v) (values_at-append k (row ∷ []) zs) in
    let right : values_at k ((xs ++ zs) ++ row ∷ []) ≡ values_at k xs ++ (values_at k zs ++ values_at k (row ∷ [])) = values_at-append k (xs ++ zs) (row ∷ []) ∙ ap (λ v. v ++ values_at k (row ∷ [])) (values_at-append k xs zs) ∙ append_assoc (values_at k xs) (values_at k zs) (values_at k (row ∷ [])) in
    let middle : values_at k (row ∷ []) ++ values_at k zs ≡ values_at k zs ++ values_at k (row ∷ []) =
    elim (same_bytes k row.key) as (λ b. same_bytes k row.key ≡ b → map (λ (r : Row). r.values) (cond b (row ∷ []) []) ++ values_at k zs ≡ values_at k zs ++ map (λ (r : Row). r.values) (cond b (row ∷ []) [])) [
      | true ↦ λ t.
          let same : k ≡ row.key = slice_cmp-IsAntisymmetric nat_cmp-IsAntisymmetric k row.key (is_equal _ (sym (texts_ties k row.key) ∙ t)) in
          let empty : values_at k zs ≡ [] = values_at_none k zs (ap (λ q. has q (keys zs)) same ∙ none) in
          ap (λ vs. row.values ∷ vs) empty ∙ ap (λ vs. vs ++ row.values ∷ []) (sym empty)
      | false ↦ λ t. sym (append-nil (values_at k zs))
    ] refl in
    left ∙ ap (λ v. values_at k xs ++ v) middle ∙ sym right

-- a part gets a row more
pub put_given : (aggs : List Agg) (before after : List (List Row)) (g : List Row) (row : Row) → has row.key (keys (rows_of after)) ≡ false
    → folded aggs (before ++ (g ++ row ∷ []) ∷ after) ≡ put_row aggs row (folded aggs (before ++ g ∷ after))
put_given aggs before after g row none =
    let xs = rows_of before ++ g in
    let zs = rows_of after in
    let now : rows_of (before ++ (g ++ row ∷ []) ∷ after) ≡ xs ++ (row ∷ zs) = rows_of-append before ((g ++ row ∷ []) ∷ after) ∙ simp append_assoc in
    let was : rows_of (before ++ g ∷ after) ≡ xs ++ zs = rows_of-append before (g ∷ after) ∙ sym (append_assoc (rows_of before) g (rows_of after)) in
    ap (of_rows aggs) now
    ∙ same_rows aggs (xs ++ (row ∷ zs)) ((xs ++ zs) ++ row ∷ []) (λ k. swapped k row xs zs none)
    ∙ put_one aggs (xs ++ zs) row
    ∙ ap (λ rows. put_row aggs row (of_rows aggs rows)) (sym was)

pub put_last : (aggs : List Agg) (row : Row) (xs : List Row) → AreUnder row.key xs → put_row aggs row xs ≡ xs ++ row ∷ []
put_last aggs row [] p = refl
put_last aggs row (x ∷ xs) p =
    ap (λ o. by_order o (row ∷ x ∷ xs) (record x { values = row_combined aggs x.values row.values } ∷ xs) (x ∷ put_row aggs row xs)) (flipped row.key x.key Less p.0)
    ∙ ap (λ rows. x ∷ rows) (put_last aggs row xs p.1)

pub put_same : (aggs : List Agg) (row last : Row) (xs : List Row) → AreUnder row.key xs → last.key ≡ row.key
    → put_row aggs row (xs ++ last ∷ []) ≡ xs ++ record last { values = row_combined aggs last.values row.values } ∷ []
put_same aggs row last [] p e =
    let equal : byte_cmp row.key last.key ≡ Equal = subst (λ k. byte_cmp row.key k ≡ Equal) (sym e) (is_equal _ ((eq_by_cmp_equiv nat_list_cmp_total).refl row.key)) in
    ap (λ o. by_order o (row ∷ last ∷ []) (record last { values = row_combined aggs last.values row.values } ∷ []) (last ∷ put_row aggs row [])) equal
put_same aggs row last (x ∷ xs) p e =
    ap (λ o. by_order o (row ∷ x ∷ (xs ++ last ∷ [])) (record x { values = row_combined aggs x.values row.values } ∷ (xs ++ last ∷ [])) (x ∷ put_row aggs row (xs ++ last ∷ []))) (flipped row.key x.key Less p.0)
    ∙ ap (λ rows. x ∷ rows) (put_same aggs row last xs p.1 e)

-- ---- rows below a key

pub under_folded : (aggs : List Agg) (rows : List Row) (key : List ℕ) → AreUnder key rows → AreUnder key (of_rows aggs rows)
under_folded aggs rows key p = mapped (keys_of rows) (keys_of-all (λ k. byte_cmp k key ≡ Less) rows p) where
  mapped : (ks : Keys) → AllByRecursion (λ k. byte_cmp k key ≡ Less) ks → AreUnder key (map (folded_at aggs rows) ks)
  mapped [] p = p
  mapped (k ∷ ks) p = (p.0, mapped ks p.1)

-- no row below a key has it
pub under_none : (key : List ℕ) (rows : List Row) → AreUnder key rows → has key (keys rows) ≡ false
under_none key [] p = refl
under_none key (x ∷ xs) p = ap (λ o. is_eq o || has key (keys xs)) (flipped key x.key Less p.0) ∙ under_none key xs p.1

pub under_behind : (key : List ℕ) (xs ys : List Row) → AreUnder key (xs ++ ys) → AreUnder key ys
under_behind key [] ys p = p
under_behind key (x ∷ xs) ys p = under_behind key xs ys p.1

-- ---- the laws

-- Parts that have the same values at each key fold to the same.
pub same_folds : (aggs : List Agg) (xs ys : List (List Row)) → ((key : List ℕ) → values_at key (rows_of xs) ≡ values_at key (rows_of ys)) → folded aggs xs ≡ folded aggs ys
same_folds aggs xs ys same = same_rows aggs (rows_of xs) (rows_of ys) same

-- One row more is put among the folded rows.
pub puts_one : (aggs : List Agg) (rows : List Row) (row : Row) → folded aggs ((rows ++ row ∷ []) ∷ []) ≡ put_row aggs row (folded aggs (rows ∷ []))
puts_one aggs rows row = ap (of_rows aggs) (append-nil (rows ++ row ∷ [])) ∙ put_one aggs rows row ∙ ap (λ kept. put_row aggs row (of_rows aggs kept)) (sym (append-nil rows))

-- A part gets a row more.
pub puts_given : PutsGiven
puts_given = record {
  next = λ aggs before after part row under.
      let rows : rows_of (before ++ part ∷ after) ≡ (rows_of before ++ part) ++ rows_of after = rows_of-append before (part ∷ after) ∙ sym (append_assoc (rows_of before) part (rows_of after)) in
      let behind : AreUnder row.key (rows_of after) = under_behind row.key (rows_of before ++ part) (rows_of after) (subst (AreUnder row.key) rows under) in
      put_given aggs before after part row (under_none row.key (rows_of after) behind)
      ∙ put_last aggs row (folded aggs (before ++ part ∷ after)) (under_folded aggs (rows_of (before ++ part ∷ after)) row.key under);
  same = λ aggs before after part front last row under is key below.
      put_given aggs before after part row (under_none row.key (rows_of after) under) ∙ ap (put_row aggs row) is ∙ put_same aggs row last front below key;
  under = λ aggs parts key under. under_folded aggs (rows_of parts) key under;
}
