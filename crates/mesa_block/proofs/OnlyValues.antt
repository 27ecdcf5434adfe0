-- The values that are made of the cells of values are these values.
use Rattle.std.proofs.Common.{◌≡◌, Ok, ℕ, ◌+◌, ◌<◌, List, [], ◌∷◌, ◌++◌, length, map, drop, get_or, refl, sym, ap, subst, ◌∙◌, append_assoc, arith}
use Rattle.std.specs.Prelude.{pos, replicate}
use Rattle.std.specs.List.{concat}
use Rattle.std.proofs.lemmas.List.{drop_more, drop_all, length-map}
use Rattle.std.proofs.lemmas.List.Concat.{flat_map-cons}
use Rattle.mesa_columns.specs.declared.rows.Row.{Row}
use Rattle.mesa_block.specs.declared.layout.Width.{Width}
use Rattle.mesa_block.specs.Layout.{FitCells, number, size_of, value}
use Rattle.mesa_block.specs.Spelling.{value_column, value_columns}
use Rattle.mesa_block.specs.Reading.{cells_at, many, piece_at, value_columns_at, values_at}
use Rattle.mesa_block.proofs.Cells.{number_again, value_length}
use Rattle.mesa_block.proofs.FoundValues.{at_map}
use Rattle.mesa_block.proofs.Takes.{pieces_again}

-- the cells of a value column
abbrev pub value_cells : Width → List Row → ℕ → List (List ℕ)
value_cells w rows j = map (λ (row : Row). value w (get_or row.values j (pos 0))) rows

-- the cells of the value columns from a place on
abbrev pub values_cells : List Width → List Row → ℕ → List (List (List ℕ))
values_cells [] rows j = []
values_cells (w ∷ ws) rows j = value_cells w rows j ∷ values_cells ws rows (j + 1)

cells_laid : (w : Width) (rows : List Row) (j : ℕ) → value_column w rows j ≡ concat (value_cells w rows j)
cells_laid w [] j = refl
cells_laid w (row ∷ rows) j = rw flat_map-cons (ap (λ (l : List ℕ). value w (get_or row.values j (pos 0)) ++ l) (cells_laid w rows j))

one_size : (w : Width) (rows : List Row) (j : ℕ) → map length (value_cells w rows j) ≡ replicate (length (value_cells w rows j)) (size_of w)
one_size w [] j = refl
one_size w (row ∷ rows) j = λ i. value_length w (get_or row.values j (pos 0)) i ∷ one_size w rows j i

-- cells of one size are read again
cells_again : (w : Width) (cells : List (List ℕ)) (r : ℕ) (more : List ℕ) → length cells ≡ r → map length cells ≡ replicate (length cells) (size_of w) → cells_at w r (concat cells ++ more) ≡ Ok (cells, more)
cells_again w cells r more len are =
    ap (λ (n : ℕ). many piece_at (replicate n (size_of w)) (concat cells ++ more)) (sym len)
    ∙ ap (λ (ls : List ℕ). many piece_at ls (concat cells ++ more)) (sym are) ∙ pieces_again cells more

-- the value columns from one place on are read again
pub values_again : (ws : List Width) (rows : List Row) (r j : ℕ) (more : List ℕ) → length rows ≡ r → value_columns_at ws r (value_columns ws rows j ++ more) ≡ Ok (values_cells ws rows j, more)
unfolding many
values_again [] rows r j more len = refl
values_again (w ∷ ws) rows r j more len =
    let cells = value_cells w rows j in
    let others = value_columns ws rows (j + 1) in
    let count : length cells ≡ r = length-map rows (λ (row : Row). value w (get_or row.values j (pos 0))) ∙ len in
    let first : cells_at w r (concat cells ++ (others ++ more)) ≡ Ok (cells, others ++ more) = cells_again w cells r (others ++ more) count (one_size w rows j) in
    let regrouped : value_columns (w ∷ ws) rows j ++ more ≡ concat cells ++ (others ++ more) = ap (λ (l : List ℕ). (l ++ others) ++ more) (cells_laid w rows j) ∙ append_assoc (concat cells) others more in
    ap (value_columns_at (w ∷ ws) r) regrouped ∙ rw (first, values_again ws rows r (j + 1) more len) refl

-- the values of a row from a place on are read again
pub row_values : (ws : List Width) (rows : List Row) (i j : ℕ) (row : Row) → i < length rows → get_or rows i row ≡ row → length row.values ≡ j + length ws → FitCells ws (drop j row.values)
    → values_at ws (values_cells ws rows j) i ≡ drop j row.values
row_values [] rows i j row lt at len fit = sym (drop_all j row.values (omega (arith, len)))
row_values (w ∷ ws) rows i j row lt at len fit =
    let here : drop j row.values ≡ get_or row.values j (pos 0) ∷ drop (j + 1) row.values = drop_more row.values j (pos 0) (omega (arith, len)) in
    let fits = subst (FitCells (w ∷ ws)) here fit in
    let cell : get_or (value_cells w rows j) i [] ≡ value w (get_or row.values j (pos 0)) =
    at_map (λ (r : Row). value w (get_or r.values j (pos 0))) rows i [] row lt ∙ ap (λ (r : Row). value w (get_or r.values j (pos 0))) at in
    let one : number w (get_or (value_cells w rows j) i []) ≡ get_or row.values j (pos 0) = ap (number w) cell ∙ number_again w (get_or row.values j (pos 0)) fits.0 in
    (λ k. one k ∷ row_values ws rows i (j + 1) row lt at (omega (arith, len)) fits.1 k) ∙ sym here
