-- What leaves its type among rows that are written in their order.
use Rattle.std.proofs.Common.{◌≡◌, ℕ, ◌+◌, ◌<◌, Bool, true, false, List, [], ◌∷◌, ◌++◌, length, take, drop, get_or, append_assoc, arith, sym, ◌∙◌, ap}
use Rattle.std.specs.Prelude.{◌↔◌}
use Rattle.std.proofs.lemmas.List.{take-append-drop}
use Rattle.mesa_open_files.specs.mesa_columns.declared.rows.Row.{Row}
use Rattle.mesa_open_files.specs.mesa_columns.Columns.{Columns, aggs_of}
use Rattle.mesa_open_files.specs.mesa_delta_format.Summary.{AllCombine, aggregates}
use Rattle.mesa_answer.proofs.Passing.{one_more_row}
use Rattle.mesa_compact.specs.Damaged.{LeavesAmong, TotalLeaves}

-- a writer refuses a row with which a total really leaves
pub refused : (s : Columns) (before : List Row) (row : Row) (allows : Bool) → (allows ≡ true) ↔ (0 < length before → AllCombine (aggs_of s) (aggregates (aggs_of s) before) row.values) → allows ≡ false → TotalLeaves s before row
refused s [] row allows law denied =
    let yes : allows ≡ true = law.1 (λ some. absurd (omega (arith, some))) in
    absurd (let both : false ≡ true = sym denied ∙ yes in cc)
refused s (x ∷ xs) row allows law denied = record {
  some = omega arith;
  leaves = λ all. (let yes : allows ≡ true = law.1 (λ some. all) in let both : false ≡ true = sym denied ∙ yes in cc);
}

-- with the next of more rows
pub among_at : (Leaves : List Row → Row → Type 0) (given rows : List Row) (i : ℕ) (row : Row) → i < length rows → row ≡ get_or rows i row → Leaves (given ++ take i rows) row → LeavesAmong Leaves (given ++ rows)
among_at Leaves given rows i row lt is h = record {
  front = given ++ take i rows;
  row = row;
  rest = drop (i + 1) rows;
  split = ap (λ rs. given ++ rs) (sym (take-append-drop (i + 1) rows) ∙ ap (λ front. front ++ drop (i + 1) rows) (one_more_row i rows row lt is) ∙ append_assoc (take i rows) (row ∷ []) (drop (i + 1) rows)) ∙ sym (append_assoc given (take i rows) (row ∷ drop (i + 1) rows));
  leaves = h;
}

-- among more rows
pub among_before : (Leaves : List Row → Row → Type 0) (xs ys : List Row) → LeavesAmong Leaves xs → LeavesAmong Leaves (xs ++ ys)
among_before Leaves xs ys h = record {
  front = h.front;
  row = h.row;
  rest = h.rest ++ ys;
  split = ap (λ rs. rs ++ ys) h.split ∙ append_assoc h.front (h.row ∷ h.rest) ys;
  leaves = h.leaves;
}
