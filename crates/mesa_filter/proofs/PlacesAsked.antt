-- Columns that are asked by their names or places, one after the other.
use Rattle.std.proofs.Common.{◌≡◌, ℕ, zero, suc, ◌+◌, ◌<◌, ◌≤◌, List, [], ◌∷◌, ◌++◌, length, drop, map, get_or, Bool, true, false, cond, refl, sym, ◌∙◌, ap, append_assoc, add-one, drop-cons, arith, Option, Some, None}
use Rattle.std.specs.Prelude.{◌&&◌, ◌==◌, find, nat_lt, option_map, slice_get}
use Rattle.std.specs.List.{cons_option, enumerate_from, list_all}
use Rattle.std.proofs.Math.ListN.{drop_of_length-le}
use Rattle.std.proofs.lemmas.Bool.{ltb-false, ltb-true}
use Rattle.std.proofs.lemmas.List.Sums.{AllPass-from_list_all}
use Rattle.std.proofs.lemmas.Option.{slice_get-get_or, slice_get-map, slice_get_past}
use Rattle.mesa_list.specs.Bytes.{same_bytes}
use Rattle.mesa_list.specs.Split.{split_at}
use Rattle.mesa_fold.specs.mesa_columns.declared.columns.KeyColumn.{KeyColumn}
use Rattle.mesa_fold.specs.mesa_columns.declared.columns.ValueColumn.{ValueColumn}
use Rattle.mesa_fold.specs.mesa_columns.Columns.{Columns, chosen, is_replace, key_names}
use Rattle.mesa_filter.specs.Asked.{group_columns, places_of}
use Rattle.mesa_filter.specs.Query.{are_places}

-- names that are asked, and not `-`
pub group_named : (s : Columns) (words : List ℕ) → (length words == 0) ≡ false → same_bytes words (45 ∷ []) ≡ false → group_columns s words ≡ places_of (key_names s) (split_at 59 words)
group_named s [] h n = cc
group_named s (b ∷ words) h n = rw n refl

later : (i : ℕ) → suc (i + 1) ≡ suc i + 1
later i = omega arith

-- the places from one on
next_place : {X : Type 0} (n : ℕ) (xs : List X) (i : ℕ) → i < length xs → map (λ p. p.0) (enumerate_from n (drop i xs)) ≡ n ∷ map (λ p. p.0) (enumerate_from (n + 1) (drop (i + 1) xs))
next_place n [] i l = absurd (omega arith)
next_place n (x ∷ xs) zero l = refl
next_place n (x ∷ xs) (suc i) l = next_place n xs i (omega arith) ∙ ap (λ k. n ∷ map (λ p. p.0) (enumerate_from (n + 1) (drop k (x ∷ xs)))) (later i)

-- A place more of all.
pub one_place : {X : Type 0} (places : List ℕ) (xs : List X) (i : ℕ) (all : List ℕ) → i < length xs
    → places ++ map (λ p. p.0) (enumerate_from i (drop i xs)) ≡ all → (places ++ i ∷ []) ++ map (λ p. p.0) (enumerate_from (i + 1) (drop (i + 1) xs)) ≡ all
one_place places xs i all l before =
    append_assoc places (i ∷ []) (map (λ p. p.0) (enumerate_from (i + 1) (drop (i + 1) xs))) ∙ ap (λ ys. places ++ ys) (sym (next_place i xs i l)) ∙ before

-- Each key column up to one stands among the places that are asked.
pub key_listed : {X : Type 0} (xs : List X) (i : ℕ) (test : ℕ → Bool) (found all : Bool) → i < length xs → test i ≡ found
    → list_all test (map (λ p. p.0) (enumerate_from i (drop i xs))) ≡ all → (found && list_all test (map (λ p. p.0) (enumerate_from (i + 1) (drop (i + 1) xs)))) ≡ all
key_listed xs i test found all l t before =
    ap (λ b. b && list_all test (map (λ p. p.0) (enumerate_from (i + 1) (drop (i + 1) xs)))) (sym t) ∙ ap (list_all test) (sym (next_place i xs i l)) ∙ before

pub all_listed : {X : Type 0} (xs : List X) (i : ℕ) (test : ℕ → Bool) (all : Bool) → length xs ≤ i → list_all test (map (λ p. p.0) (enumerate_from i (drop i xs))) ≡ all → true ≡ all
all_listed xs i test all l before = ap (λ ys. list_all test (map (λ p. p.0) (enumerate_from i ys))) (sym (drop_of_length-le xs l)) ∙ before

-- The element at a place, where there is one,
pub slot_there : {X : Type 0} (xs : List X) (place : ℕ) (x : X) → true ≡ nat_lt place (length xs) → x ≡ get_or xs place x → slice_get xs place ≡ Some x
slot_there xs place x l e = slice_get-get_or xs place x (ltb-true place (length xs) (sym l)) ∙ ap Some (sym e)

-- and where there is none.
pub no_slot : {X : Type 0} (xs : List X) (place : ℕ) → false ≡ nat_lt place (length xs) → slice_get xs place ≡ None
no_slot xs place l = slice_get_past xs place (ltb-false place (length xs) (sym l))

-- the elements at the place i and at those behind it
chosen_next : {X : Type 0} (places : List ℕ) (xs : List X) (i : ℕ) (o : Option X) → i < length places → slice_get xs (get_or places i 0) ≡ o
    → chosen (drop i places) xs ≡ cons_option o (chosen (drop (i + 1) places) xs)
chosen_next places xs i o l e =
    ap (λ ps. chosen ps xs) (drop-cons places i 0 l ∙ ap (λ k. get_or places i 0 ∷ drop k places) (sym (add-one i))) ∙ ap (λ x. cons_option x (chosen (drop (i + 1) places) xs)) e

-- An element more is chosen,
pub chosen_more : {X : Type 0} (places : List ℕ) (xs found new all : List X) (i : ℕ) (x : X) → i < length places → slice_get xs (get_or places i 0) ≡ Some x → new ≡ found ++ x ∷ []
    → found ++ chosen (drop i places) xs ≡ all → new ++ chosen (drop (i + 1) places) xs ≡ all
chosen_more places xs found new all i x l e n before =
    ap (λ ys. ys ++ chosen (drop (i + 1) places) xs) n ∙ append_assoc found (x ∷ []) (chosen (drop (i + 1) places) xs)
    ∙ ap (λ ys. found ++ ys) (sym (chosen_next places xs i (Some x) l e)) ∙ before

-- or none.
pub chosen_same : {X : Type 0} (places : List ℕ) (xs found new all : List X) (i : ℕ) → i < length places → slice_get xs (get_or places i 0) ≡ None → new ≡ found
    → found ++ chosen (drop i places) xs ≡ all → new ++ chosen (drop (i + 1) places) xs ≡ all
chosen_same places xs found new all i l e n before =
    ap (λ ys. ys ++ chosen (drop (i + 1) places) xs) n ∙ ap (λ ys. found ++ ys) (sym (chosen_next places xs i None l e)) ∙ before

-- The first replace column is found,
pub replace_here : (places : List ℕ) (columns : List ValueColumn) (i : ℕ) (column : ValueColumn) (all : Option ValueColumn) → i < length places → slice_get columns (get_or places i 0) ≡ Some column → is_replace column ≡ true
    → find is_replace (chosen (drop i places) columns) ≡ all → Some column ≡ all
replace_here places columns i column all l e t before =
    ap (λ (b : Bool). cond b (Some column) (find is_replace (chosen (drop (i + 1) places) columns))) (sym t) ∙ ap (find is_replace) (sym (chosen_next places columns i (Some column) l e)) ∙ before

-- or is a later one.
pub replace_later : (places : List ℕ) (columns : List ValueColumn) (i : ℕ) (column : ValueColumn) (all : Option ValueColumn) → i < length places → slice_get columns (get_or places i 0) ≡ Some column → is_replace column ≡ false
    → find is_replace (chosen (drop i places) columns) ≡ all → find is_replace (chosen (drop (i + 1) places) columns) ≡ all
replace_later places columns i column all l e t before =
    ap (λ (b : Bool). cond b (Some column) (find is_replace (chosen (drop (i + 1) places) columns))) (sym t) ∙ ap (find is_replace) (sym (chosen_next places columns i (Some column) l e)) ∙ before

pub replace_nowhere : (places : List ℕ) (columns : List ValueColumn) (i : ℕ) (all : Option ValueColumn) → i < length places → slice_get columns (get_or places i 0) ≡ None
    → find is_replace (chosen (drop i places) columns) ≡ all → find is_replace (chosen (drop (i + 1) places) columns) ≡ all
replace_nowhere places columns i all l e before = ap (find is_replace) (sym (chosen_next places columns i None l e)) ∙ before

-- The name of the column at the place i, and those of the others.
pub names_next : (places : List ℕ) (columns : List KeyColumn) (i : ℕ) (column : KeyColumn) → i < length places → get_or places i 0 < length columns → column ≡ get_or columns (get_or places i 0) column
    → chosen (drop i places) (map (λ (c : KeyColumn). c.name) columns) ≡ column.name ∷ chosen (drop (i + 1) places) (map (λ (c : KeyColumn). c.name) columns)
names_next places columns i column l h e =
    chosen_next places (map (λ (c : KeyColumn). c.name) columns) i (Some column.name) l
    (slice_get-map (λ (c : KeyColumn). c.name) columns (get_or places i 0) ∙ ap (option_map (λ (c : KeyColumn). c.name)) (slice_get-get_or columns (get_or places i 0) column h ∙ ap Some (sym e)))

-- A place that is asked is one of a column.
pub place_within : {X : Type 0} (xs : List X) (places : List ℕ) (i : ℕ) → are_places xs places ≡ true → i < length places → get_or places i 0 < length xs
place_within xs places i h l = ltb-true (get_or places i 0) (length xs) (AllPass-from_list_all (λ place. nat_lt place (length xs)) places h i 0 l)
