-- A sum that leaves its type among rows that are put in one by one.
use Rattle.std.proofs.Common.{◌≡◌, ℕ, ◌<◌, List, [], ◌∷◌, ◌++◌, length, take, drop, get_or, append_assoc, append-nil, ◌+◌, inl, inr, refl, sym, ◌∙◌, ap, subst}
use Rattle.std.proofs.lemmas.List.{take-append-drop}
use Rattle.mesa_model.specs.mesa_columns.declared.rows.Row.{Row}
use Rattle.mesa_model.specs.mesa_columns.Columns.{Columns}
use Rattle.mesa_answer.specs.Gathering.{Wanted, group_from}
use Rattle.mesa_answer.specs.Sums.{HasGroup, SumLeaves, SumLeavesAmong}
use Rattle.mesa_answer.proofs.Passing.{one_more_row}

-- among more rows, behind them
pub leaves_before : (w : Wanted) (given xs ys : List Row) (key : List ℕ) → SumLeavesAmong w given xs key → SumLeavesAmong w given (xs ++ ys) key
leaves_before w given xs ys key h = record {
  front = h.front;
  row = h.row;
  rest = h.rest ++ ys;
  split = ap (λ (rows : List Row). rows ++ ys) h.split ∙ append_assoc h.front (h.row ∷ h.rest) ys;
  leaves = h.leaves;
}

-- and before them
pub leaves_behind : (w : Wanted) (given xs ys : List Row) (key : List ℕ) → SumLeavesAmong w (given ++ xs) ys key → SumLeavesAmong w given (xs ++ ys) key
leaves_behind w given xs ys key h = record {
  front = xs ++ h.front;
  row = h.row;
  rest = h.rest;
  split = ap (λ (rows : List Row). xs ++ rows) h.split ∙ sym (append_assoc xs h.front (h.row ∷ h.rest));
  leaves = subst (λ (rows : List Row). SumLeaves w rows h.row key) (append_assoc given xs h.front) h.leaves;
}

-- with one row
pub leaves_with : (w : Wanted) (given : List Row) (row : Row) (key : List ℕ) → SumLeaves w given row key → SumLeavesAmong w given (row ∷ []) key
leaves_with w given row key h = record { front = []; row = row; rest = []; split = refl; leaves = subst (λ (rows : List Row). SumLeaves w rows row key) (sym (append-nil given)) h }

-- with the next of some rows
pub leaves_at : (w : Wanted) (given rows : List Row) (i : ℕ) (row : Row) (key : List ℕ) → i < length rows → row ≡ get_or rows i row → SumLeavesAmong w (given ++ take i rows) (row ∷ []) key → SumLeavesAmong w given rows key
leaves_at w given rows i row key lt is h =
    let here = leaves_before w given (take i rows ++ row ∷ []) (drop (i + 1) rows) key (leaves_behind w given (take i rows) (row ∷ []) key h) in
    subst (λ (all : List Row). SumLeavesAmong w given all key) (ap (λ (front : List Row). front ++ drop (i + 1) rows) (sym (one_more_row i rows row lt is)) ∙ take-append-drop (i + 1) rows) here

-- ---- rows of the group

pub group_before : (s : Columns) (columns key : List ℕ) (xs ys : List Row) → HasGroup s columns key xs → HasGroup s columns key (xs ++ ys)
group_before s columns key [] ys h = absurd h
group_before s columns key (x ∷ xs) ys h = elim h [ inl is ↦ inl is | inr more ↦ inr (group_before s columns key xs ys more) ]

pub group_behind : (s : Columns) (columns key : List ℕ) (xs ys : List Row) → HasGroup s columns key ys → HasGroup s columns key (xs ++ ys)
group_behind s columns key [] ys h = h
group_behind s columns key (x ∷ xs) ys h = inr (group_behind s columns key xs ys h)

-- the row with which a sum leaves is one of its group
pub leaves_group : (w : Wanted) (given rows : List Row) (key : List ℕ) → SumLeavesAmong w given rows key → HasGroup w.schema w.columns key rows
leaves_group w given rows key h = subst (HasGroup w.schema w.columns key) (sym h.split) (group_behind w.schema w.columns key h.front (h.row ∷ h.rest) (inl h.leaves.of_group))

-- without values there is no sum
pub none_leaves : (s : Columns) (columns at key : List ℕ) (w : Wanted) (given rows : List Row) → w ≡ group_from s columns at → SumLeavesAmong w given rows key → ⊥
none_leaves s columns at key w given rows is h =
    let here : SumLeavesAmong (group_from s columns at) given rows key = subst (λ v. SumLeavesAmong v given rows key) is h in
    here.leaves.leaves tt
