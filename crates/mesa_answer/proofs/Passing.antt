-- One row more of those that pass a test.
use Rattle.std.proofs.Common.{◌≡◌, ℕ, zero, suc, ◌+◌, ◌<◌, List, [], ◌∷◌, ◌++◌, length, take, get_or, Bool, true, false, cond, sym, ◌∙◌, ap, arith, add-one}
use Rattle.std.specs.Prelude.{filter}
use Rattle.std.proofs.lemmas.List.{append-nil}
use Rattle.std.proofs.lemmas.List.Elements.{filter-append}
use Rattle.mesa_model.specs.mesa_columns.declared.rows.Row.{Row}

taken : (i : ℕ) (rows : List Row) (row : Row) → i < length rows → row ≡ get_or rows i row → take (suc i) rows ≡ take i rows ++ row ∷ []
taken i [] row l e = absurd (omega arith)
taken zero (x ∷ rows) row l e = ap (λ r. r ∷ []) (sym e)
taken (suc i) (x ∷ rows) row l e = ap (λ xs. x ∷ xs) (taken i rows row (omega arith) e)

-- the first rows, one more
pub one_more_row : (i : ℕ) (rows : List Row) (row : Row) → i < length rows → row ≡ get_or rows i row → take (i + 1) rows ≡ take i rows ++ row ∷ []
one_more_row i rows row l e = ap (λ n. take n rows) (add-one i) ∙ taken i rows row l e

-- those of them that pass a test, where the row does
pub one_more_passes : (test : Row → Bool) (i : ℕ) (rows : List Row) (row : Row) → i < length rows → row ≡ get_or rows i row → test row ≡ true → filter test (take (i + 1) rows) ≡ filter test (take i rows) ++ row ∷ []
one_more_passes test i rows row l e passes =
    ap (filter test) (one_more_row i rows row l e) ∙ filter-append test (take i rows) (row ∷ []) ∙ ap (λ b. filter test (take i rows) ++ cond b (row ∷ []) []) passes

-- and where it doesn't
pub none_more_passes : (test : Row → Bool) (i : ℕ) (rows : List Row) (row : Row) → i < length rows → row ≡ get_or rows i row → test row ≡ false → filter test (take (i + 1) rows) ≡ filter test (take i rows)
none_more_passes test i rows row l e fails =
    ap (filter test) (one_more_row i rows row l e) ∙ filter-append test (take i rows) (row ∷ []) ∙ ap (λ b. filter test (take i rows) ++ cond b (row ∷ []) []) fails ∙ append-nil _
