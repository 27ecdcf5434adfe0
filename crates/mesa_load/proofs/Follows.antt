-- Each row of a file may follow those before it.
use Rattle.std.proofs.Common.{◌≡◌, ℕ, zero, suc, ◌+◌, ◌<◌, ◌≤◌, List, [], ◌∷◌, ◌++◌, length, map, take, get_or, sym, subst, arith}
use Rattle.std.specs.List.{AllByRecursion}
use Rattle.mesa_open_files.specs.mesa_columns.declared.rows.Row.{Row}
use Rattle.mesa_open_files.specs.mesa_columns.Columns.{Columns, aggs_of}
use Rattle.mesa_open_files.specs.mesa_columns.Rows.{IsRowOf}
use Rattle.mesa_batch.specs.Totals.{abs_total}
use Rattle.mesa_open_files.specs.mesa_block.Rows.{Rise}
use Rattle.mesa_open_files.specs.mesa_block.Spelling.{key_of}
use Rattle.mesa_delta.specs.Writing.{MayFollow}
use Rattle.mesa_open_files.proofs.RowSums.{abs_at, aggregates_abs, combine_from, total_next}
use Rattle.mesa_load.specs.Filing.{AreFileRows}

-- a row and those before it, among all
split_total : (c : ℕ) (rows : List Row) (i : ℕ) (d : Row) → i < length rows → abs_total c (take i rows) + abs_at c (get_or rows i d) ≤ abs_total c rows
split_total c [] i d lt = absurd (omega arith)
split_total c (x ∷ rows) zero d lt = omega (arith, total_next c x rows)
split_total c (x ∷ rows) (suc i) d lt = omega (arith, total_next c x rows, total_next c x (take i rows), split_total c rows i d (omega arith))

form_at : {A : Type 0} (P : A → Type 0) (rows : List A) (i : ℕ) (d : A) → i < length rows → AllByRecursion P rows → P (get_or rows i d)
form_at P [] i d lt h = absurd (omega arith)
form_at P (x ∷ rows) zero d lt h = h.0
form_at P (x ∷ rows) (suc i) d lt h = form_at P rows i d (omega arith) h.1

form_take : {A : Type 0} (P : A → Type 0) (rows : List A) (i : ℕ) → AllByRecursion P rows → AllByRecursion P (take i rows)
form_take P rows zero h = tt
form_take P [] (suc i) h = tt
form_take P (x ∷ rows) (suc i) h = (h.0, form_take P rows i h.1)

rise_at : (rows : List Row) (i : ℕ) (d : Row) → i < length rows → Rise (map key_of rows) → Rise (map key_of (take i rows ++ get_or rows i d ∷ []))
rise_at [] i d lt h = absurd (omega arith)
rise_at (a ∷ rows) zero d lt h = tt
rise_at (a ∷ []) (suc i) d lt h = absurd (omega arith)
rise_at (a ∷ b ∷ rows) (suc zero) d lt h = (h.0, tt)
rise_at (a ∷ b ∷ rows) (suc (suc i)) d lt h = (h.0, rise_at (b ∷ rows) (suc i) d (omega arith) h.1)

may_follow : (s : Columns) (rows : List Row) (i : ℕ) (d : Row) → i < length rows → AreFileRows s rows → MayFollow s (take i rows) (get_or rows i d)
may_follow s rows i d lt h = record {
  form = form_at (IsRowOf s) rows i d lt h.form;
  greater = rise_at rows i d lt h.rise;
  sums = λ some. combine_from (aggs_of s) _ _ (λ c p. omega (arith, h.sums c p, split_total c rows i d lt, aggregates_abs s (take i rows) c p (form_take (IsRowOf s) rows i h.form)));
}

-- the next of the rows, to a writer that has taken those before it
pub next_row : (s now : Columns) (rows : List Row) (i : ℕ) (row : Row) → now ≡ s → i < length rows → row ≡ get_or rows i row → AreFileRows s rows → MayFollow now (take i rows) row
next_row s now rows i row same lt is h =
    subst (λ (c : Columns). MayFollow c (take i rows) row) (sym same) (subst (MayFollow s (take i rows)) (sym is) (may_follow s rows i row lt h))
