-- A block's spelling is read as its rows.
use Rattle.std.proofs.Common.{◌≡◌, inl, inr, Ok, Err, Result, ℕ, zero, suc, ◌+◌, ◌<◌, List, [], ◌∷◌, ◌++◌, length, map, get_or, refl, sym, ap, ◌∙◌, append-nil, arith, Bool, false}
use Rattle.std.specs.Prelude.{None, nat_lt, ◌==◌}
use Rattle.std.specs.Int.{w16, from_be_bytes, to_be_bytes}
use Rattle.std.specs.List.{AllByRecursion, range_with_len}
use Rattle.std.proofs.lemmas.Bool.{eqb-true, le-ltb}
use Rattle.std.proofs.lemmas.List.{length-map}
use Rattle.std.proofs.lemmas.Nat.{from_be_bytes-to_be_bytes_2}
use Rattle.mesa_list.specs.Checks.{◌>>◌, refuse_if}
use Rattle.mesa_columns.specs.declared.rows.Row.{Row}
use Rattle.mesa_columns.specs.declared.columns.ValueColumn.{ValueColumn}
use Rattle.mesa_columns.specs.Columns.{kinds_of}
use Rattle.mesa_block.specs.Layout.{Layout, width_of, widths_of}
use Rattle.mesa_block.specs.declared.error.BlockError.{BlockError}
use Rattle.mesa_block.specs.declared.error.BlockError.TheVariants as fault
use Rattle.mesa_block.specs.Spelling.{block, columns, key_of, value_columns}
use Rattle.mesa_block.specs.Rows.{AreRows, Rise, most_bytes, most_rows}
use Rattle.mesa_block.specs.Reading.{block_at, checked, columns_at, key_at, out_of_order, row_at, rows_at, rows_of, value_columns_at, values_at}
use Rattle.mesa_block.proofs.Forms.{IsRead, Passes, all_read}
use Rattle.mesa_block.proofs.Found.{either}
use Rattle.mesa_block.proofs.FoundValues.{at_map}
use Rattle.mesa_block.proofs.Laying.{at_each}
use Rattle.mesa_block.proofs.Only.{cells_of, columns_again}
use Rattle.mesa_block.proofs.OnlyKeys.{key_again, no_bad_text}
use Rattle.mesa_block.proofs.OnlyValues.{row_values, values_again, values_cells}
use Rattle.mesa_block.proofs.Sizes.{keys_good}

-- no row is out of order where keys rise
in_order : (rows : List Row) (from : ℕ) → Rise (map key_of rows) → out_of_order rows from ≡ None
unfolding out_of_order
in_order [] from h = refl
in_order (a ∷ []) from h = refl
in_order (a ∷ b ∷ rows) from h = rw h.0 (in_order (b ∷ rows) (from + 1) h.1)

-- the elements at the first places, whichever stands for those past the end
places : {X : Type 0} (f : ℕ → X) (xs : List X) (from : ℕ) (d : X) → ((i : ℕ) → i < length xs → f (from + i) ≡ get_or xs i d) → map f (range_with_len from (length xs)) ≡ xs
places f [] from d each = refl
places {X = X} f (x ∷ xs) from d each =
    ap (λ y. y ∷ map f (range_with_len (from + 1) (length xs))) (ap f (omega arith) ∙ each 0 (omega arith))
    ∙ ap (λ (l : List X). x ∷ l) (places f xs (from + 1) d (λ i lt. ap f (omega arith) ∙ each (suc i) (omega arith)))

any_default : (rows : List Row) (i : ℕ) (d e : Row) → i < length rows → get_or rows i d ≡ get_or rows i e
any_default [] i d e lt = absurd (omega arith)
any_default (row ∷ rows) zero d e lt = refl
any_default (row ∷ rows) (suc i) d e lt = any_default rows i d e (omega arith)

-- the rows of the cells of rows are these rows
rows_again : (s : Layout) (rows : List Row) → AllByRecursion (IsRead s) rows
    → rows_of (kinds_of s.columns) (widths_of s) (cells_of (kinds_of s.columns) (map key_of rows)) (values_cells (widths_of s) rows 0) (length rows) ≡ rows
rows_again s rows all =
    let none : Row = record { key = []; values = [] } in
    let kinds = kinds_of s.columns in
    let ws = widths_of s in
    let keys = cells_of kinds (map key_of rows) in
    let values = values_cells ws rows 0 in
    let many : length ws ≡ length s.columns.values = length-map s.columns.values (λ (c : ValueColumn). width_of s.format c.agg) in
    places (row_at kinds ws keys values) rows 0 none (λ i lt.
    let row = get_or rows i none in
    let h = at_each (IsRead s) rows i none lt all in
    let key : key_at kinds keys i ≡ row.key = key_again kinds (map key_of rows) i (omega (arith, length-map rows key_of)) (keys_good s rows all) ∙ at_map key_of rows i [] none lt in
    ap (row_at kinds ws keys values) (omega arith)
    ∙ ap (λ k. record { key = k; values = values_at ws values i }) key
    ∙ ap (λ vs. record { key = row.key; values = vs }) (row_values ws rows i 0 row lt (any_default rows i row none lt) (omega (arith, h.count, many)) h.values))

not_zero : (n : ℕ) → 0 < n → (n == 0) ≡ false
not_zero n lt = elim (either (n == 0)) [
  | inl t ↦ absurd (omega (arith, eqb-true n 0 t))
  | inr f ↦ f
]

-- what is spelled so is read
pub block_again : Passes → (s : Layout) (rows : List Row) → AreRows s rows → block_at s (block s rows) ≡ Ok rows
unfolding block_at block rows_at checked
block_again passes s rows are =
    let all = all_read passes s rows are.good in
    let r = length rows in
    let ws = widths_of s in
    let kinds = kinds_of s.columns in
    let keys = map key_of rows in
    let body = columns kinds keys ++ value_columns ws rows 0 in
    let count : from_be_bytes w16 (to_be_bytes w16 r) ≡ r = from_be_bytes-to_be_bytes_2 r (omega (arith, are.few)) in
    let few : nat_lt most_rows r ≡ false = le-ltb _ _ are.few in
    let some : (r == 0) ≡ false = not_zero r are.some in
    let first : columns_at kinds r body ≡ Ok (cells_of kinds keys, value_columns ws rows 0) = columns_again kinds keys r (value_columns ws rows 0) (length-map rows key_of) (keys_good s rows all) in
    let second : value_columns_at ws r (value_columns ws rows 0) ≡ Ok (values_cells ws rows 0, []) =
    ap (value_columns_at ws r) (sym (append-nil (value_columns ws rows 0))) ∙ values_again ws rows r 0 [] refl in
    let texts = no_bad_text kinds keys (keys_good s rows all) in
    let made = rows_again s rows all in
    let order = in_order rows 0 are.rise in
    let short : nat_lt most_bytes (length (block s rows)) ≡ false = le-ltb _ _ are.short in
    let long : nat_lt (length (block s rows)) 3 ≡ false = le-ltb (length (block s rows)) 3 (omega arith) in
    let read : Result (List Row) BlockError = Ok rows in
    rw (count, few, some, first, second, texts, made, order, short) (ap (λ (b : Bool). refuse_if b fault.Truncated >> read) long)

-- what is read isn't refused
pub not_both : (rows : List Row) (e : BlockError) → Ok rows ≡ Err e → ⊥
not_both rows e h = absurd cc
