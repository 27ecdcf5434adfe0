-- Rows at chosen places.
use Rattle.std.proofs.Common.{◌≡◌, ℕ, zero, suc, ◌+◌, ◌<◌, List, [], ◌∷◌, ◌++◌, length, take, get_or, Bool, true, false, cond, refl, sym, ◌∙◌, ap, subst, add-one, Option, Some, None}
use Rattle.std.specs.Prelude.{filter, slice_get}
use Rattle.std.proofs.lemmas.List.{append-nil}
use Rattle.std.proofs.lemmas.List.Elements.{filter-append}
use Rattle.std.specs.List.{AllByRecursion, cons_option}
use Rattle.std.proofs.lemmas.Option.{slice_get-get_or}
use Rattle.mesa_delta.specs.mesa_columns.declared.rows.Row.{Row}
use Rattle.mesa_delta.specs.mesa_columns.Columns.{chosen}

no_row : Row
no_row = record { key = []; values = [] }

there : (rows : List Row) (place : ℕ) → place < length rows → slice_get rows place ≡ Some (get_or rows place no_row)
there rows place lt = slice_get-get_or rows place no_row lt

-- at places that are there one row is chosen at each
pub chosen_count : (places : List ℕ) (rows : List Row) → AllByRecursion (λ place. place < length rows) places → length (chosen places rows) ≡ length places
chosen_count [] rows all = refl
chosen_count (p ∷ places) rows all = ap (λ o. length (cons_option o (chosen places rows))) (there rows p all.0) ∙ ap suc (chosen_count places rows all.1)

-- the one at its place
pub chosen_at : (places : List ℕ) (rows : List Row) (i place : ℕ) → AllByRecursion (λ place. place < length rows) places → slice_get places i ≡ Some place → slice_get (chosen places rows) i ≡ slice_get rows place
chosen_at [] rows i place all is = absurd cc
chosen_at (p ∷ places) rows zero place all is =
    let same : p ≡ place = cc in
    let here = there rows p all.0 in
    ap (λ o. slice_get (cons_option o (chosen places rows)) zero) here ∙ sym here ∙ ap (slice_get rows) same
chosen_at (p ∷ places) rows (suc i) place all is =
    ap (λ o. slice_get (cons_option o (chosen places rows)) (suc i)) (there rows p all.0) ∙ chosen_at places rows i place all.1 is

-- which is there
pub place_there : (n : ℕ) (places : List ℕ) (i place : ℕ) → AllByRecursion (λ place. place < n) places → slice_get places i ≡ Some place → place < n
place_there n [] i place all is = absurd cc
place_there n (p ∷ places) zero place all is = let same : p ≡ place = cc in subst (λ k. k < n) same all.0
place_there n (p ∷ places) (suc i) place all is = place_there n places i place all.1 is

-- a row behind others stays behind them, whether a row stands before them or none
stays_behind : (o : Option Row) (more rows : List Row) (row : Row) → more ≡ rows ++ row ∷ [] → cons_option o more ≡ cons_option o rows ++ row ∷ []
stays_behind None more rows row is = is
stays_behind (Some x) more rows row is = ap (λ xs. x ∷ xs) is

-- a place more
pub chosen_more : (places : List ℕ) (rows : List Row) (place : ℕ) (row : Row) → slice_get rows place ≡ Some row → chosen (places ++ place ∷ []) rows ≡ chosen places rows ++ row ∷ []
chosen_more [] rows place row is = ap (λ o. cons_option o []) is
chosen_more (p ∷ places) rows place row is = stays_behind (slice_get rows p) (chosen (places ++ place ∷ []) rows) (chosen places rows) row (chosen_more places rows place row is)

-- ---- those of matching rows

taken : (rows : List Row) (i : ℕ) (row : Row) → slice_get rows i ≡ Some row → take (suc i) rows ≡ take i rows ++ row ∷ []
taken [] i row is = absurd cc
taken (x ∷ rows) zero row is = let same : x ≡ row = cc in ap (λ r. r ∷ []) same
taken (x ∷ rows) (suc i) row is = ap (λ rs. x ∷ rs) (taken rows i row is)

-- the first rows, one more
pub one_taken : (rows : List Row) (i : ℕ) (row : Row) → slice_get rows i ≡ Some row → take (i + 1) rows ≡ take i rows ++ row ∷ []
one_taken rows i row is = ap (λ n. take n rows) (add-one i) ∙ taken rows i row is

passes : (test : Row → Bool) (rows : List Row) (i : ℕ) (row : Row) (b : Bool) → slice_get rows i ≡ Some row → test row ≡ b → filter test (take (i + 1) rows) ≡ filter test (take i rows) ++ cond b (row ∷ []) []
passes test rows i row b is so =
    ap (filter test) (one_taken rows i row is) ∙ filter-append test (take i rows) (row ∷ []) ∙ ap (λ c. filter test (take i rows) ++ cond c (row ∷ []) []) so

-- the place of a row that matches
pub match_more : (test : Row → Bool) (places : List ℕ) (rows : List Row) (i : ℕ) (row : Row) → slice_get rows i ≡ Some row → test row ≡ true → chosen places rows ≡ filter test (take i rows) → chosen (places ++ i ∷ []) rows ≡ filter test (take (i + 1) rows)
match_more test places rows i row is so before = chosen_more places rows i row is ∙ ap (λ rs. rs ++ row ∷ []) before ∙ sym (passes test rows i row true is so)

-- and a row that doesn't
pub match_not : (test : Row → Bool) (places : List ℕ) (rows : List Row) (i : ℕ) (row : Row) → slice_get rows i ≡ Some row → test row ≡ false → chosen places rows ≡ filter test (take i rows) → chosen places rows ≡ filter test (take (i + 1) rows)
match_not test places rows i row is so before = before ∙ sym (passes test rows i row false is so ∙ append-nil (filter test (take i rows)))
