-- The places of columns that are told, one after another.
use Rattle.std.proofs.Common.{◌≡◌, ℕ, ◌+◌, ◌<◌, ◌≤◌, List, [], ◌∷◌, ◌++◌, length, drop, map, get_or, Bool, true, false, cond, sym, ◌∙◌, ap, append_assoc, append-nil, drop-cons, add-one}
use Rattle.std.specs.Prelude.{filter, not}
use Rattle.std.specs.List.{enumerate_from}
use Rattle.std.proofs.Math.ListN.{drop_of_length-le}
use Rattle.mesa_model.specs.mesa_columns.declared.columns.ValueColumn.{ValueColumn}
use Rattle.mesa_model.specs.mesa_columns.Columns.{is_replace}
use Rattle.mesa_order.specs.Told.{kept_places}

kept_cons : (n : ℕ) (c : ValueColumn) (columns : List ValueColumn) (b : Bool) → is_replace c ≡ b → kept_places n (c ∷ columns) ≡ cond b (kept_places (n + 1) columns) (n ∷ kept_places (n + 1) columns)
kept_cons n c columns true e = ap (λ b. map (λ (p : ℕ × ValueColumn). p.0) (cond (not b) ((n, c) ∷ filter (λ (p : ℕ × ValueColumn). not (is_replace p.1)) (enumerate_from (n + 1) columns)) (filter (λ (p : ℕ × ValueColumn). not (is_replace p.1)) (enumerate_from (n + 1) columns)))) e
kept_cons n c columns false e = ap (λ b. map (λ (p : ℕ × ValueColumn). p.0) (cond (not b) ((n, c) ∷ filter (λ (p : ℕ × ValueColumn). not (is_replace p.1)) (enumerate_from (n + 1) columns)) (filter (λ (p : ℕ × ValueColumn). not (is_replace p.1)) (enumerate_from (n + 1) columns)))) e

from_there : (columns : List ValueColumn) (i : ℕ) (d : ValueColumn) → i < length columns → drop i columns ≡ get_or columns i d ∷ drop (i + 1) columns
from_there columns i d l = drop-cons columns i d l ∙ ap (λ k. get_or columns i d ∷ drop k columns) (sym (add-one i))

-- a column's place is told,
pub told_more : (columns : List ValueColumn) (i : ℕ) (d : ValueColumn) (places new all : List ℕ) → i < length columns → is_replace (get_or columns i d) ≡ false → new ≡ places ++ i ∷ []
    → places ++ kept_places i (drop i columns) ≡ all → new ++ kept_places (i + 1) (drop (i + 1) columns) ≡ all
told_more columns i d places new all l e n before =
    ap (λ ps. ps ++ kept_places (i + 1) (drop (i + 1) columns)) n ∙ append_assoc places (i ∷ []) (kept_places (i + 1) (drop (i + 1) columns))
    ∙ ap (λ ps. places ++ ps) (sym (ap (kept_places i) (from_there columns i d l) ∙ kept_cons i (get_or columns i d) (drop (i + 1) columns) false e)) ∙ before

-- or is that of a replace column.
pub told_same : (columns : List ValueColumn) (i : ℕ) (d : ValueColumn) (places all : List ℕ) → i < length columns → is_replace (get_or columns i d) ≡ true
    → places ++ kept_places i (drop i columns) ≡ all → places ++ kept_places (i + 1) (drop (i + 1) columns) ≡ all
told_same columns i d places all l e before =
    ap (λ ps. places ++ ps) (sym (ap (kept_places i) (from_there columns i d l) ∙ kept_cons i (get_or columns i d) (drop (i + 1) columns) true e)) ∙ before

pub told_all : (columns : List ValueColumn) (i : ℕ) (places all : List ℕ) → length columns ≤ i → places ++ kept_places i (drop i columns) ≡ all → places ≡ all
told_all columns i places all l before = sym (append-nil places) ∙ ap (λ xs. places ++ kept_places i xs) (sym (drop_of_length-le columns l)) ∙ before
