-- The first rows of a fold of two parts, one behind the other, are those of the first rows of each part's fold.
use Rattle.std.proofs.Common.{◌≡◌, ℕ, zero, suc, List, [], ◌∷◌, ◌++◌, length, take, drop, refl, sym, ◌∙◌, ap, subst, append_assoc, inl, inr}
use Rattle.std.specs.Prelude.{◌⊎◌, T}
use Rattle.std.specs.List.{AllByRecursion}
use Rattle.std.proofs.lemmas.List.{append-nil}
use Rattle.std.specs.declared.cmp.Ordering.{Ordering}
use Rattle.std.specs.declared.cmp.Ordering.TheVariants.{Less, Equal, Greater}
use Rattle.std.specs.Ordering.{is_lt, ordering_reverse}
use Rattle.std.specs.Cmp.{eq_by_cmp_equiv}
use Rattle.std.specs.Cmp.Lexicographic.{nat_list_cmp_total}
use Rattle.std.specs.FinMap.{slice_cmp-IsAntisymmetric, nat_cmp-IsAntisymmetric}
use Rattle.std.specs.FinMap.Entries.{below_all, by_order}
use Rattle.mesa_value.specs.declared.Agg.{Agg}
use Rattle.mesa_key.specs.Order.{byte_cmp}
use Rattle.mesa_model.specs.mesa_columns.declared.rows.Row.{Row}
use Rattle.mesa_model.specs.mesa_fold.Folded.{folded, keys_of, row_combined, rows_of}
use Rattle.mesa_model.specs.mesa_fold.Put.{put_row, put_rows}
use Rattle.mesa_model.proofs.mesa_fold.Folding.{of_rows}
use Rattle.mesa_model.proofs.mesa_fold.Folds.{both_false, is_equal, keys, keys-folded_at, rising-keys_of}
use Rattle.mesa_model.proofs.mesa_fold.Keys.{is_rising, pairs}
use Rattle.mesa_model.proofs.mesa_fold.Refolds.{refolded}
use Rattle.mesa_model.proofs.mesa_fold.SameFolds.{puts_one}
use Rattle.mesa_answer.proofs.Firsts.{take-again, take-put_row}

-- ---- keys that rise

-- each row's key is above this one
abbrev AreOver : List ℕ → List Row → Type 0
AreOver key rows = AllByRecursion (λ (row : Row). byte_cmp key row.key ≡ Less) rows

abbrev Rising : List Row → Type 0
Rising [] = Unit {0}
Rising (row ∷ rows) = AreOver row.key rows × Rising rows

-- one of the rows has this key
abbrev HasKey : List ℕ → List Row → Type 0
HasKey key [] = ⊥
HasKey key (row ∷ rows) = (key ≡ row.key) ⊎ HasKey key rows

-- some row has the key of each of these
abbrev HaveKeys : List Row → List Row → Type 0
HaveKeys some rows = AllByRecursion (λ (row : Row). HasKey row.key rows) some

-- each of these keys is below this one
abbrev AreBelow : List Row → List ℕ → Type 0
AreBelow rows key = AllByRecursion (λ (row : Row). byte_cmp row.key key ≡ Less) rows

less : (o : Ordering) → T (is_lt o) → o ≡ Less
less Less h = refl
less Equal h = absurd h
less Greater h = absurd h

over_all : (key : List ℕ) (rows : List Row) → T (below_all byte_cmp key (pairs (keys rows))) → AreOver key rows
over_all key [] h = tt
over_all key (row ∷ rows) h =
    let parts : T (is_lt (byte_cmp key row.key)) × T (below_all byte_cmp key (pairs (keys rows))) = both_false _ _ h in
    (less (byte_cmp key row.key) parts.0, over_all key rows parts.1)

rising_rows : (rows : List Row) → T (is_rising (keys rows)) → Rising rows
rising_rows [] h = tt
rising_rows (row ∷ rows) h =
    let parts : T (below_all byte_cmp row.key (pairs (keys rows))) × T (is_rising (keys rows)) = both_false _ _ h in
    (over_all row.key rows parts.0, rising_rows rows parts.1)

rising_fold : (aggs : List Agg) (parts : List (List Row)) → Rising (folded aggs parts)
rising_fold aggs parts =
    rising_rows (folded aggs parts) (subst (λ ks. T (is_rising ks)) (sym (keys-folded_at aggs (rows_of parts) (keys_of (rows_of parts)))) (rising-keys_of (rows_of parts)))

same_key : (key : List ℕ) → byte_cmp key key ≡ Equal
same_key key = is_equal _ ((eq_by_cmp_equiv nat_list_cmp_total).refl key)

one_key : (a b : List ℕ) → byte_cmp a b ≡ Equal → a ≡ b
one_key a b e = slice_cmp-IsAntisymmetric nat_cmp-IsAntisymmetric a b e

not_below_itself : (key : List ℕ) → byte_cmp key key ≡ Less → ⊥
not_below_itself key e = let both : Less ≡ Equal = sym e ∙ same_key key in cc

flipped : (a b : List ℕ) (o : Ordering) → byte_cmp b a ≡ o → byte_cmp a b ≡ ordering_reverse o
flipped a b o e = nat_list_cmp_total.antisymm a b ∙ ap ordering_reverse e

over_further : (a b : List ℕ) (rows : List Row) → byte_cmp a b ≡ Less → AreOver b rows → AreOver a rows
over_further a b [] less over = tt
over_further a b (row ∷ rows) less over = (nat_list_cmp_total.trans a b row.key less over.0, over_further a b rows less over.1)

over_has : (a key : List ℕ) (rows : List Row) → AreOver a rows → HasKey key rows → byte_cmp a key ≡ Less
over_has a key [] over has = absurd has
over_has a key (row ∷ rows) over has = elim has as (λ _. byte_cmp a key ≡ Less) [
  | inl e ↦ subst (λ k. byte_cmp a k ≡ Less) (sym e) over.0
  | inr h ↦ over_has a key rows over.1 h
]

over_front : (key : List ℕ) (xs ys : List Row) → AreOver key (xs ++ ys) → AreOver key xs
over_front key [] ys h = tt
over_front key (x ∷ xs) ys h = (h.0, over_front key xs ys h.1)

over_back : (key : List ℕ) (xs ys : List Row) → AreOver key (xs ++ ys) → AreOver key ys
over_back key [] ys h = h
over_back key (x ∷ xs) ys h = over_back key xs ys h.1

rising_front : (xs ys : List Row) → Rising (xs ++ ys) → Rising xs
rising_front [] ys h = tt
rising_front (x ∷ xs) ys h = (over_front x.key xs ys h.0, rising_front xs ys h.1)

-- those behind are above all before them
rising_apart : (xs ys : List Row) → Rising (xs ++ ys) → AllByRecursion (λ (x : Row). AreOver x.key ys) xs
rising_apart [] ys h = tt
rising_apart (x ∷ xs) ys h = (over_back x.key xs ys h.0, rising_apart xs ys h.1)

-- ---- rows that are put

put_over : (aggs : List Agg) (row : Row) (key : List ℕ) (rows : List Row) → byte_cmp key row.key ≡ Less → AreOver key rows → AreOver key (put_row aggs row rows)
put_over aggs row key [] less over = (less, tt)
put_over aggs row key (x ∷ xs) less over =
    elim (byte_cmp row.key x.key) as (λ o. AreOver key (by_order o (row ∷ x ∷ xs) (record x { values = row_combined aggs x.values row.values } ∷ xs) (x ∷ put_row aggs row xs))) [
      | Less ↦ (less, over)
      | Equal ↦ over
      | Greater ↦ (over.0, put_over aggs row key xs less over.1)
    ]

put_rising : (aggs : List Agg) (row : Row) (rows : List Row) → Rising rows → Rising (put_row aggs row rows)
put_rising aggs row [] h = (tt, tt)
put_rising aggs row (x ∷ xs) h =
    elim (byte_cmp row.key x.key) as (λ o. byte_cmp row.key x.key ≡ o → Rising (by_order o (row ∷ x ∷ xs) (record x { values = row_combined aggs x.values row.values } ∷ xs) (x ∷ put_row aggs row xs))) [
      | Less ↦ λ e. ((e, over_further row.key x.key xs e h.0), h)
      | Equal ↦ λ e. h
      | Greater ↦ λ e. (put_over aggs row x.key xs (flipped x.key row.key Greater e) h.0, put_rising aggs row xs h.1)
    ] refl

put_keeps : (aggs : List Agg) (row : Row) (key : List ℕ) (rows : List Row) → HasKey key rows → HasKey key (put_row aggs row rows)
put_keeps aggs row key [] has = absurd has
put_keeps aggs row key (x ∷ xs) has =
    elim (byte_cmp row.key x.key) as (λ o. HasKey key (by_order o (row ∷ x ∷ xs) (record x { values = row_combined aggs x.values row.values } ∷ xs) (x ∷ put_row aggs row xs))) [
      | Less ↦ inr has
      | Equal ↦ has
      | Greater ↦ elim has as (λ _. HasKey key (x ∷ put_row aggs row xs)) [
        | inl e ↦ inl e
        | inr h ↦ inr (put_keeps aggs row key xs h)
      ]
    ]

put_has : (aggs : List Agg) (row : Row) (rows : List Row) → HasKey row.key (put_row aggs row rows)
put_has aggs row [] = inl refl
put_has aggs row (x ∷ xs) =
    elim (byte_cmp row.key x.key) as (λ o. byte_cmp row.key x.key ≡ o → HasKey row.key (by_order o (row ∷ x ∷ xs) (record x { values = row_combined aggs x.values row.values } ∷ xs) (x ∷ put_row aggs row xs))) [
      | Less ↦ λ e. inl refl
      | Equal ↦ λ e. inl (one_key row.key x.key e)
      | Greater ↦ λ e. inr (put_has aggs row xs)
    ] refl

all_keep : (aggs : List Agg) (row : Row) (some rows : List Row) → HaveKeys some rows → HaveKeys some (put_row aggs row rows)
all_keep aggs row [] rows has = tt
all_keep aggs row (x ∷ some) rows has = (put_keeps aggs row x.key rows has.0, all_keep aggs row some rows has.1)

puts_keep : (aggs : List Agg) (key : List ℕ) (more rows : List Row) → HasKey key rows → HasKey key (put_rows aggs rows more)
puts_keep aggs key [] rows has = has
puts_keep aggs key (row ∷ more) rows has = puts_keep aggs key more (put_row aggs row rows) (put_keeps aggs row key rows has)

puts_have : (aggs : List Agg) (more rows : List Row) → HaveKeys more (put_rows aggs rows more)
puts_have aggs [] rows = tt
puts_have aggs (row ∷ more) rows = (puts_keep aggs row.key more (put_row aggs row rows) (put_has aggs row rows), puts_have aggs more (put_row aggs row rows))

puts_rising : (aggs : List Agg) (more rows : List Row) → Rising rows → Rising (put_rows aggs rows more)
puts_rising aggs [] rows h = h
puts_rising aggs (row ∷ more) rows h = puts_rising aggs more (put_row aggs row rows) (put_rising aggs row rows h)

pub puts_append : (aggs : List Agg) (rows more others : List Row) → put_rows aggs rows (more ++ others) ≡ put_rows aggs (put_rows aggs rows more) others
puts_append aggs rows [] others = refl
puts_append aggs rows (row ∷ more) others = puts_append aggs (put_row aggs row rows) more others

-- ---- rows behind the first ones

-- where a row isn't before the first of some, no later one of them has its key
not_later : (a c d : List ℕ) → (c ≡ a) ⊎ (byte_cmp a c ≡ Less) → byte_cmp c d ≡ Less → d ≡ a → ⊥
not_later a c d first later e = elim first as (λ _. ⊥) [
  | inl same ↦ not_below_itself a (subst (λ k. byte_cmp k a ≡ Less) same (subst (λ k. byte_cmp c k ≡ Less) e later))
  | inr less ↦ not_below_itself a (nat_list_cmp_total.trans a c a less (subst (λ k. byte_cmp c k ≡ Less) e later))
]

later_keys : (a : Row) (c : List ℕ) (some rows : List Row) → (c ≡ a.key) ⊎ (byte_cmp a.key c ≡ Less) → AreOver c some → HaveKeys some (a ∷ rows) → HaveKeys some rows
later_keys a c [] rows first over has = tt
later_keys a c (d ∷ some) rows first over has =
    let here : HasKey d.key rows = elim has.0 as (λ _. HasKey d.key rows) [
      | inl e ↦ absurd (not_later a.key c d.key first over.0 e)
      | inr h ↦ h
    ] in
    (here, later_keys a c some rows first over.1 has.1)

-- A row whose key is above as many is none of the first ones.
beyond : (aggs : List Agg) (row : Row) (some rows : List Row) → Rising some → Rising rows → HaveKeys some rows → AreBelow some row.key → take (length some) (put_row aggs row rows) ≡ take (length some) rows
beyond aggs row [] rows rise over has below = refl
beyond aggs row (c ∷ some) [] rise over has below = absurd has.0
beyond aggs row (c ∷ some) (a ∷ rows) rise over has below =
    let first : (c.key ≡ a.key) ⊎ (byte_cmp a.key c.key ≡ Less) = elim has.0 as (λ _. (c.key ≡ a.key) ⊎ (byte_cmp a.key c.key ≡ Less)) [
      | inl e ↦ inl e
      | inr h ↦ inr (over_has a.key c.key rows over.0 h)
    ] in
    let less : byte_cmp a.key row.key ≡ Less = elim first as (λ _. byte_cmp a.key row.key ≡ Less) [
      | inl e ↦ subst (λ k. byte_cmp k row.key ≡ Less) e below.0
      | inr l ↦ nat_list_cmp_total.trans a.key c.key row.key l below.0
    ] in
    ap (λ o. take (length (c ∷ some)) (by_order o (row ∷ a ∷ rows) (record a { values = row_combined aggs a.values row.values } ∷ rows) (a ∷ put_row aggs row rows))) (flipped row.key a.key Less less)
    ∙ ap (λ xs. a ∷ xs) (beyond aggs row some rows rise.1 over.1 (later_keys a c.key some rows first rise.0 has.1) below.1)

heads_over : (d : Row) (more some : List Row) → AllByRecursion (λ (x : Row). AreOver x.key (d ∷ more)) some → AreBelow some d.key
heads_over d more [] h = tt
heads_over d more (x ∷ some) h = (h.0.0, heads_over d more some h.1)

tails_over : (d : Row) (more some : List Row) → AllByRecursion (λ (x : Row). AreOver x.key (d ∷ more)) some → AllByRecursion (λ (x : Row). AreOver x.key more) some
tails_over d more [] h = tt
tails_over d more (x ∷ some) h = (h.0.1, tails_over d more some h.1)

all_beyond : (aggs : List Agg) (more some rows : List Row) → Rising some → Rising rows → HaveKeys some rows → AllByRecursion (λ (x : Row). AreOver x.key more) some → take (length some) (put_rows aggs rows more) ≡ take (length some) rows
all_beyond aggs [] some rows rise over has above = refl
all_beyond aggs (d ∷ more) some rows rise over has above =
    all_beyond aggs more some (put_row aggs d rows) rise (put_rising aggs d rows over) (all_keep aggs d some rows has) (tails_over d more some above)
    ∙ beyond aggs d some rows rise over has (heads_over d more some above)

-- ---- first rows of both

all_or_full : (n : ℕ) (rows : List Row) → (take n rows ≡ rows) ⊎ (length (take n rows) ≡ n)
all_or_full zero rows = inr refl
all_or_full (suc n) [] = inl refl
all_or_full (suc n) (row ∷ rows) = elim (all_or_full n rows) as (λ _. (take (suc n) (row ∷ rows) ≡ row ∷ rows) ⊎ (length (take (suc n) (row ∷ rows)) ≡ suc n)) [
  | inl e ↦ inl (ap (λ xs. row ∷ xs) e)
  | inr e ↦ inr (ap suc e)
]

both_parts : (n : ℕ) (rows : List Row) → take n rows ++ drop n rows ≡ rows
both_parts zero rows = refl
both_parts (suc n) [] = refl
both_parts (suc n) (row ∷ rows) = ap (λ xs. row ∷ xs) (both_parts n rows)

-- Of the rows that are put, only the first ones count.
first_put : (n : ℕ) (aggs : List Agg) (rows more : List Row) → Rising rows → Rising more → take n (put_rows aggs rows more) ≡ take n (put_rows aggs rows (take n more))
first_put n aggs rows more rise over = elim (all_or_full n more) as (λ _. take n (put_rows aggs rows more) ≡ take n (put_rows aggs rows (take n more))) [
  | inl e ↦ ap (λ xs. take n (put_rows aggs rows xs)) (sym e)
  | inr e ↦
      let some = take n more in
      let rest = drop n more in
      let whole : Rising (some ++ rest) = subst Rising (sym (both_parts n more)) over in
      let behind : take (length some) (put_rows aggs (put_rows aggs rows some) rest) ≡ take (length some) (put_rows aggs rows some) =
      all_beyond aggs rest some (put_rows aggs rows some) (rising_front some rest whole) (puts_rising aggs some rows rise) (puts_have aggs some rows) (rising_apart some rest whole) in
      ap (λ xs. take n (put_rows aggs rows xs)) (sym (both_parts n more)) ∙ ap (take n) (puts_append aggs rows some rest)
      ∙ subst (λ m. take m (put_rows aggs (put_rows aggs rows some) rest) ≡ take m (put_rows aggs rows some)) e behind
]

-- Of the rows that are there, only the first ones count.
first_there : (n : ℕ) (aggs : List Agg) (more xs ys : List Row) → take n xs ≡ take n ys → take n (put_rows aggs xs more) ≡ take n (put_rows aggs ys more)
first_there n aggs [] xs ys same = same
first_there n aggs (row ∷ more) xs ys same =
    first_there n aggs more (put_row aggs row xs) (put_row aggs row ys)
    (sym (take-put_row n aggs row xs) ∙ ap (λ rows. take n (put_row aggs row rows)) same ∙ take-put_row n aggs row ys)

puts_all : (aggs : List Agg) (ys xs : List Row) → folded aggs ((xs ++ ys) ∷ []) ≡ put_rows aggs (folded aggs (xs ∷ [])) ys
puts_all aggs [] xs = ap (λ (rows : List Row). folded aggs (rows ∷ [])) (append-nil xs)
puts_all aggs (y ∷ ys) xs =
    ap (λ (rows : List Row). folded aggs (rows ∷ [])) (sym (append_assoc xs (y ∷ []) ys))
    ∙ puts_all aggs ys (xs ++ y ∷ [])
    ∙ ap (λ rows. put_rows aggs rows ys) (puts_one aggs xs y)

one_part : (aggs : List Agg) (xs ys : List Row) → folded aggs (xs ∷ ys ∷ []) ≡ folded aggs ((xs ++ ys) ∷ [])
one_part aggs xs ys = ap (of_rows aggs) (sym (append_assoc xs ys []))

-- a part's fold is put as its rows are
puts_folded : (aggs : List Agg) (xs ys : List Row) → folded aggs ((xs ++ ys) ∷ []) ≡ put_rows aggs (folded aggs (xs ∷ [])) (folded aggs (ys ∷ []))
puts_folded aggs xs ys =
    sym (one_part aggs xs ys) ∙ sym (refolded aggs (xs ∷ []) (ys ∷ []) []) ∙ one_part aggs xs (folded aggs (ys ∷ [])) ∙ puts_all aggs (folded aggs (ys ∷ [])) xs

-- THE LAW: what is among the first of the whole is so in its part.
pub firsts_joined : (n : ℕ) (aggs : List Agg) (xs ys : List Row) → take n (folded aggs ((xs ++ ys) ∷ [])) ≡ take n (put_rows aggs (take n (folded aggs (xs ∷ []))) (take n (folded aggs (ys ∷ []))))
firsts_joined n aggs xs ys =
    let older : List Row = folded aggs (xs ∷ []) in
    let newer : List Row = folded aggs (ys ∷ []) in
    ap (take n) (puts_folded aggs xs ys)
    ∙ first_put n aggs older newer (rising_fold aggs (xs ∷ [])) (rising_fold aggs (ys ∷ []))
    ∙ first_there n aggs (take n newer) older (take n older) (sym (take-again n older))
