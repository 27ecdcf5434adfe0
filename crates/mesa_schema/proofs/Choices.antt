-- Columns that are chosen by name.
use Rattle.std.proofs.Common.{◌≡◌, ℕ, ◌+◌, ◌<◌, List, [], ◌∷◌, ◌++◌, length, map, drop, get_or, Bool, true, false, cond, refl, sym, ◌∙◌, ap, Some, None, Ok, Err, drop-cons, append_assoc, add-one, suc}
use Rattle.std.specs.Prelude.{◌==◌, ◌||◌, is_some, find, option_map, slice_get}
use Rattle.std.specs.List.{cons_option, list_all, list_any}
use Rattle.std.proofs.Math.ListN.{get_or-map}
use Rattle.std.proofs.lemmas.Option.{slice_get-get_or}
use Rattle.mesa_columns.specs.declared.columns.ValueColumn.{ValueColumn}
use Rattle.mesa_columns.specs.declared.views.ViewError.{ViewError}
use Rattle.mesa_columns.specs.declared.views.ViewError.TheVariants.{NameTwice}
use Rattle.mesa_columns.specs.Names.{has_name, repeated}
use Rattle.mesa_columns.specs.Columns.{chosen, is_replace, place_of, places_in}
use Rattle.mesa_columns.proofs.Places.{place_named}
use Rattle.mesa_schema.specs.Views.{choice_checked}

-- Where all names are there, and some are: whether one is repeated decides.
pub choice_left : (names : List (List ℕ)) (none : ViewError) (asked : List (List ℕ)) (t : Bool) → list_all (λ name. has_name name names) asked ≡ true → (length asked == 0) ≡ false → is_some (repeated asked) ≡ t
    → choice_checked names none asked ≡ cond t (Err NameTwice) (Ok tt)
choice_left names none asked true e f r = rw (e, f, r) refl
choice_left names none asked false e f r = rw (e, f, r) refl

-- a name more, of a column that is there
pub chosen-slot : {C : Type 0} (names : List (List ℕ)) (columns : List C) (name : List ℕ) (asked : List (List ℕ)) (place : ℕ) (column : C) → place_of name names ≡ Some place → slice_get columns place ≡ Some column
    → chosen (places_in names (name ∷ asked)) columns ≡ column ∷ chosen (places_in names asked) columns
chosen-slot names columns name asked place column p e =
    ap (λ o. chosen (cons_option o (places_in names asked)) columns) p ∙ ap (λ o. cons_option o (chosen (places_in names asked) columns)) e

chosen-there : {C : Type 0} (names : List (List ℕ)) (columns : List C) (name : List ℕ) (asked : List (List ℕ)) (place : ℕ) (column : C) → place_of name names ≡ Some place → place < length columns → column ≡ get_or columns place column
    → chosen (places_in names (name ∷ asked)) columns ≡ column ∷ chosen (places_in names asked) columns
chosen-there names columns name asked place column p h e = chosen-slot names columns name asked place column p (slice_get-get_or columns place column h ∙ ap Some (sym e))

-- a name more, of none
chosen-nowhere : {C : Type 0} (names : List (List ℕ)) (columns : List C) (name : List ℕ) (asked : List (List ℕ)) → place_of name names ≡ None
    → chosen (places_in names (name ∷ asked)) columns ≡ chosen (places_in names asked) columns
chosen-nowhere names columns name asked p = ap (λ o. chosen (cons_option o (places_in names asked)) columns) p

-- the name at i and those behind it
pub next : (asked : List (List ℕ)) (i : ℕ) (name : List ℕ) → i < length asked → get_or asked i name ≡ name → drop i asked ≡ name ∷ drop (i + 1) asked
next asked i name l n = drop-cons asked i name l ∙ ap (λ x. x ∷ drop (suc i) asked) n ∙ ap (λ k. name ∷ drop k asked) (sym (add-one i))

-- A column more for the name at i.
pub chosen_more : {C : Type 0} (names : List (List ℕ)) (columns : List C) (asked : List (List ℕ)) (i : ℕ) (name : List ℕ) (place : ℕ) (column : C) (found new all : List C)
    → i < length asked → get_or asked i name ≡ name → place_of name names ≡ Some place → place < length columns → column ≡ get_or columns place column → new ≡ found ++ column ∷ []
    → found ++ chosen (places_in names (drop i asked)) columns ≡ all → new ++ chosen (places_in names (drop (i + 1) asked)) columns ≡ all
chosen_more names columns asked i name place column found new all l n p h e more before =
    ap (λ xs. xs ++ chosen (places_in names (drop (i + 1) asked)) columns) more
    ∙ append_assoc found (column ∷ []) (chosen (places_in names (drop (i + 1) asked)) columns)
    ∙ ap (λ xs. found ++ xs) (sym (chosen-there names columns name (drop (i + 1) asked) place column p h e))
    ∙ ap (λ ns. found ++ chosen (places_in names ns) columns) (sym (next asked i name l n))
    ∙ before

-- No column more for the name at i.
pub chosen_same : {C : Type 0} (names : List (List ℕ)) (columns : List C) (asked : List (List ℕ)) (i : ℕ) (name : List ℕ) (found new all : List C)
    → i < length asked → get_or asked i name ≡ name → place_of name names ≡ None → new ≡ found
    → found ++ chosen (places_in names (drop i asked)) columns ≡ all → new ++ chosen (places_in names (drop (i + 1) asked)) columns ≡ all
chosen_same names columns asked i name found new all l n p same before =
    ap (λ xs. xs ++ chosen (places_in names (drop (i + 1) asked)) columns) same
    ∙ ap (λ xs. found ++ xs) (sym (chosen-nowhere names columns name (drop (i + 1) asked) p))
    ∙ ap (λ ns. found ++ chosen (places_in names ns) columns) (sym (next asked i name l n))
    ∙ before

-- A replace column that was asked for is the first.
pub replace_found : (columns : List ValueColumn) (asked : List (List ℕ)) (i : ℕ) (name : List ℕ) (place : ℕ) (column : ValueColumn)
    → i < length asked → get_or asked i name ≡ name → place_of name (map (λ (c : ValueColumn). c.name) columns) ≡ Some place → place < length columns → column ≡ get_or columns place column → is_replace column ≡ true
    → find is_replace (chosen (places_in (map (λ (c : ValueColumn). c.name) columns) (drop i asked)) columns) ≡ find is_replace (chosen (places_in (map (λ (c : ValueColumn). c.name) columns) asked) columns)
    → slice_get asked i ≡ option_map (λ (c : ValueColumn). c.name) (find is_replace (chosen (places_in (map (λ (c : ValueColumn). c.name) columns) asked) columns))
replace_found columns asked i name place column l n p h e t before =
    let names : List (List ℕ) = map (λ (c : ValueColumn). c.name) columns in
    let its : column.name ≡ name = ap (λ (c : ValueColumn). c.name) e ∙ sym (get_or-map (λ (c : ValueColumn). c.name) columns place column) ∙ (place_named name names place column.name p).1 in
    slice_get-get_or asked i name l ∙ ap Some (n ∙ sym its)
    ∙ ap (λ (b : Bool). option_map (λ (c : ValueColumn). c.name) (cond b (Some column) (find is_replace (chosen (places_in names (drop (i + 1) asked)) columns)))) (sym t)
    ∙ ap (λ cs. option_map (λ (c : ValueColumn). c.name) (find is_replace cs)) (sym (ap (λ ns. chosen (places_in names ns) columns) (next asked i name l n) ∙ chosen-there names columns name (drop (i + 1) asked) place column p h e))
    ∙ ap (option_map (λ (c : ValueColumn). c.name)) before

-- One that isn't a replace column leaves it to the others.
pub replace_not : (columns : List ValueColumn) (asked : List (List ℕ)) (i : ℕ) (name : List ℕ) (place : ℕ) (column : ValueColumn)
    → i < length asked → get_or asked i name ≡ name → place_of name (map (λ (c : ValueColumn). c.name) columns) ≡ Some place → place < length columns → column ≡ get_or columns place column → is_replace column ≡ false
    → find is_replace (chosen (places_in (map (λ (c : ValueColumn). c.name) columns) (drop (i + 1) asked)) columns) ≡ find is_replace (chosen (places_in (map (λ (c : ValueColumn). c.name) columns) (drop i asked)) columns)
replace_not columns asked i name place column l n p h e t =
    let names : List (List ℕ) = map (λ (c : ValueColumn). c.name) columns in
    ap (λ (b : Bool). cond b (Some column) (find is_replace (chosen (places_in names (drop (i + 1) asked)) columns))) (sym t)
    ∙ ap (find is_replace) (sym (ap (λ ns. chosen (places_in names ns) columns) (next asked i name l n) ∙ chosen-there names columns name (drop (i + 1) asked) place column p h e))

-- So does a name of none.
pub replace_none : (columns : List ValueColumn) (asked : List (List ℕ)) (i : ℕ) (name : List ℕ)
    → i < length asked → get_or asked i name ≡ name → place_of name (map (λ (c : ValueColumn). c.name) columns) ≡ None
    → find is_replace (chosen (places_in (map (λ (c : ValueColumn). c.name) columns) (drop (i + 1) asked)) columns) ≡ find is_replace (chosen (places_in (map (λ (c : ValueColumn). c.name) columns) (drop i asked)) columns)
replace_none columns asked i name l n p =
    let names : List (List ℕ) = map (λ (c : ValueColumn). c.name) columns in
    ap (find is_replace) (sym (ap (λ ns. chosen (places_in names ns) columns) (next asked i name l n) ∙ chosen-nowhere names columns name (drop (i + 1) asked) p))

-- Something passes of the places of names where it passes of a name's place.
any_first : (b rest all : Bool) → rest ≡ all → (b || rest) ≡ ((b || false) || all)
any_first true rest all same = refl
any_first false rest all same = same

pub any_placed : (p : ℕ → Bool) (names asked : List (List ℕ)) → list_any p (places_in names asked) ≡ list_any (λ name. list_any p (places_in names (name ∷ []))) asked
any_placed p names [] = refl
any_placed p names (name ∷ asked) = elim (place_of name names) as (λ o. list_any p (cons_option o (places_in names asked)) ≡ (list_any p (cons_option o []) || list_any (λ n. list_any p (places_in names (n ∷ []))) asked)) [
  | None ↦ any_placed p names asked
  | Some i ↦ any_first (p i) (list_any p (places_in names asked)) (list_any (λ n. list_any p (places_in names (n ∷ []))) asked) (any_placed p names asked)
]
