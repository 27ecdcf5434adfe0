-- How long a block is: as long as its rows' keys and values, and three bytes.
use Rattle.std.proofs.Common.{◌≡◌, ℕ, ◌+◌, ◌*◌, ◌<◌, ◌≤◌, List, [], ◌∷◌, ◌++◌, length, map, get_or, refl, sym, ap, ◌∙◌, arith, Bool, true, false, leb, ltb, ◌⊎◌, inl, inr}
use Rattle.std.specs.Prelude.{IsTrue, ◌&&◌, ◌||◌, flat_map, pos}
use Rattle.std.specs.List.{AllByRecursion, concat}
use Rattle.std.proofs.lemmas.List.{map-append, length-append}
use Rattle.std.proofs.lemmas.List.Concat.{flat_map-cons}
use Rattle.std.proofs.lemmas.Bool.{eqb-true, le-leb, lt-leb, leb-true, leb-false, ltb-true, ltb-false}
use Rattle.mesa_list.proofs.Whole.{each_push}
use Rattle.mesa_columns.specs.mesa_key.declared.KeyType.{KeyType}
use Rattle.mesa_columns.specs.mesa_key.declared.KeyType.TheVariants as kind
use Rattle.mesa_columns.specs.mesa_key.Spelling.{is_spelling}
use Rattle.mesa_columns.specs.declared.rows.Row.{Row}
use Rattle.mesa_columns.specs.Columns.{kinds_of}
use Rattle.mesa_block.specs.declared.layout.Width.{Width}
use Rattle.mesa_block.specs.declared.layout.Width.TheVariants.{Eight, Sixteen}
use Rattle.mesa_block.specs.Layout.{Layout, value, values_size, widths_of}
use Rattle.mesa_block.specs.Spelling.{front, rest, column, columns, key_of, value_column, value_columns, block}
use Rattle.mesa_block.specs.Rows.{IsRow, Rise, most_rows, most_bytes}
use Rattle.mesa_block.proofs.Cells.{sizes, sizes_more, sizes_none}
use Rattle.mesa_block.proofs.Forms.{IsRead, Passes, all_read, is_read}
use Rattle.mesa_block.specs.Fill.{fit, is_full, IsBuilt}
use Rattle.mesa_block.proofs.Laying.{has_front, each_mapped}

abbrev pub total : List (List ℕ) → ℕ
total [] = 0
total (x ∷ xs) = length x + total xs

int_length : (cells : List (List ℕ)) → length (concat cells) ≡ total cells
int_length [] = refl
int_length (c ∷ cells) = length-append c (concat cells) ∙ ap (λ (n : ℕ). length c + n) (int_length cells)

column_parts : (k : KeyType) (kinds : List KeyType) (keys : List (List ℕ)) → AllByRecursion (λ key. IsTrue (is_spelling (k ∷ kinds) key)) keys
    → length (column k (map (front k) keys)) + total (map (rest k) keys) ≡ total keys
column_parts kind.Int kinds [] all = refl
column_parts kind.Text kinds [] all = refl
column_parts kind.Int kinds (key ∷ keys) all =
    let h = has_front kind.Int kinds key all.0 in
    omega (arith, h.parts, column_parts kind.Int kinds keys all.1, length-append (front kind.Int key) (concat (map (front kind.Int) keys)))
column_parts kind.Text kinds (key ∷ keys) all =
    let h = has_front kind.Text kinds key all.0 in
    let cells = map (front kind.Text) keys in
    omega (
      arith,
      h.parts,
      column_parts kind.Text kinds keys all.1,
      length-append (front kind.Text key) (concat cells),
      length-append (map length cells) (concat cells),
      length-append (length (front kind.Text key) ∷ map length cells) (front kind.Text key ++ concat cells),
    )

no_columns : (keys : List (List ℕ)) → AllByRecursion (λ key. IsTrue (is_spelling [] key)) keys → 0 ≡ total keys
no_columns [] all = refl
no_columns (key ∷ keys) all = omega (arith, eqb-true (length key) 0 all.0, no_columns keys all.1)

pub columns_length : (kinds : List KeyType) (keys : List (List ℕ)) → AllByRecursion (λ key. IsTrue (is_spelling kinds key)) keys → length (columns kinds keys) ≡ total keys
columns_length [] keys all = no_columns keys all
columns_length (k ∷ kinds) keys all =
    let others = each_mapped (λ key. IsTrue (is_spelling (k ∷ kinds) key)) (λ key. IsTrue (is_spelling kinds key)) (rest k) keys (λ key h. (has_front k kinds key h).others) all in
    omega (arith, length-append (column k (map (front k) keys)) (columns kinds (map (rest k) keys)), columns_length kinds (map (rest k) keys) others, column_parts k kinds keys all)

even : {X : Type 0} (f : X → List ℕ) (n : ℕ) (xs : List X) → ((x : X) → length (f x) ≡ n) → length (flat_map f xs) ≡ length xs * n
even f n [] each = omega arith
even f n (x ∷ xs) each = rw flat_map-cons (omega (arith, length-append (f x) (flat_map f xs), each x, even f n xs each))

total-append : (xs ys : List (List ℕ)) → total (xs ++ ys) ≡ total xs + total ys
total-append [] ys = omega arith
total-append (x ∷ xs) ys = omega (arith, total-append xs ys)

columns_size : (ws : List Width) (rows : List Row) (j : ℕ) → length (value_columns ws rows j) ≡ sizes ws (length rows)
columns_size [] rows j = refl
columns_size (Eight ∷ ws) rows j = omega (arith, length-append (value_column Eight rows j) (value_columns ws rows (j + 1)), even (λ (row : Row). value Eight (get_or row.values j (pos 0))) 8 rows (λ row. refl), columns_size ws rows (j + 1))
columns_size (Sixteen ∷ ws) rows j = omega (arith, length-append (value_column Sixteen rows j) (value_columns ws rows (j + 1)), even (λ (row : Row). value Sixteen (get_or row.values j (pos 0))) 16 rows (λ row. refl), columns_size ws rows (j + 1))

pub block_length : (f : Layout) (rows : List Row) → AllByRecursion (IsRead f) rows → length (block f rows) ≡ 3 + total (map key_of rows) + sizes (widths_of f) (length rows)
unfolding block
block_length f rows all =
    let keys = columns_length (kinds_of f.columns) (map key_of rows) (each_mapped (IsRead f) (λ key. IsTrue (is_spelling (kinds_of f.columns) key)) key_of rows (λ row h. h.key) all) in
    omega (arith, keys, columns_size (widths_of f) rows 0, length-append (columns (kinds_of f.columns) (map key_of rows)) (value_columns (widths_of f) rows 0))

pub rows_more : (f : Layout) (rows : List Row) (row : Row) → AllByRecursion (IsRead f) rows → IsRead f row → AllByRecursion (IsRead f) (rows ++ row ∷ [])
rows_more f rows row all h = each_push (IsRead f) rows row all h

pub block_more : (f : Layout) (rows : List Row) (row : Row) → AllByRecursion (IsRead f) rows → IsRead f row
    → length (block f (rows ++ row ∷ [])) ≡ length (block f rows) + (length row.key + values_size (widths_of f))
block_more f rows row all h =
    let one = block_length f rows all in
    let two = rw length-append at (block_length f (rows ++ row ∷ []) (rows_more f rows row all h)) in
    let keys : total (map key_of (rows ++ row ∷ [])) ≡ total (map key_of rows) + length row.key = rw map-append (omega (arith, total-append (map key_of rows) (row.key ∷ []))) in
    omega (arith, one, two, keys, sizes_more (widths_of f) (length rows))

and_false : (b : Bool) → b && false ≡ false
and_false true = refl
and_false false = refl

pub fits_not : (f : Layout) (rows : List Row) (row : Row) → AllByRecursion (IsRead f) rows → IsRead f row → most_bytes < length (block f rows) + (length row.key + values_size (widths_of f)) → false ≡ fit f (rows ++ row ∷ [])
fits_not f rows row all h more =
    let long : leb (length (block f (rows ++ row ∷ []))) most_bytes ≡ false = lt-leb _ _ (omega (arith, block_more f rows row all h)) in
    rw long (sym (and_false (leb (length (rows ++ row ∷ [])) most_rows)))

pub fits_so : (f : Layout) (rows : List Row) (row : Row) → AllByRecursion (IsRead f) rows → IsRead f row → length rows < most_rows → length (block f rows) + (length row.key + values_size (widths_of f)) ≤ most_bytes → true ≡ fit f (rows ++ row ∷ [])
fits_so f rows row all h few short =
    let a : leb (length (rows ++ row ∷ [])) most_rows ≡ true = le-leb _ _ (omega (arith, length-append rows (row ∷ []))) in
    let b : leb (length (block f (rows ++ row ∷ []))) most_bytes ≡ true = le-leb _ _ (omega (arith, block_more f rows row all h)) in
    rw (a, b) refl

either : (b : Bool) → (b ≡ true) ⊎ (b ≡ false)
either true = inl refl
either false = inr refl

or_false : (a b : Bool) → a || b ≡ false → (a ≡ false) × (b ≡ false)
or_false true b e = absurd cc
or_false false b e = (refl, e)

-- A full block has no room for the row,
pub no_room : Passes → (f : Layout) (rows : List Row) (row : Row) (len count : ℕ) → IsBuilt f rows len → IsRow f row → count ≡ length rows → is_full (values_size (widths_of f)) count len row ≡ true → false ≡ fit f (rows ++ row ∷ [])
no_room passes f rows row len count b h is full = elim (either (leb most_rows count)) [
  | inl many ↦
      let long : leb (length (rows ++ row ∷ [])) most_rows ≡ false = lt-leb _ _ (omega (arith, length-append rows (row ∷ []), leb-true most_rows count many)) in
      rw long refl
  | inr few ↦
      let past : ltb most_bytes (len + (length row.key + values_size (widths_of f))) ≡ true = sym (ap (λ (t : Bool). t || ltb most_bytes (len + (length row.key + values_size (widths_of f)))) few) ∙ full in
      fits_not f rows row (all_read passes f rows b.good) (is_read passes f row h) (omega (arith, b.size, ltb-true most_bytes (len + (length row.key + values_size (widths_of f))) past))
]

-- and another one has.
pub record Room (f : Layout) (rows : List Row) (row : Row) (len : ℕ) : Type 0 where
  pub few : length rows < most_rows
  pub short : len + (length row.key + values_size (widths_of f)) ≤ most_bytes
  pub fits : true ≡ fit f (rows ++ row ∷ [])

pub has_room : Passes → (f : Layout) (rows : List Row) (row : Row) (len count : ℕ) → IsBuilt f rows len → IsRow f row → count ≡ length rows → is_full (values_size (widths_of f)) count len row ≡ false → Room f rows row len
has_room passes f rows row len count b h is full =
    let p = or_false (leb most_rows count) (ltb most_bytes (len + (length row.key + values_size (widths_of f)))) full in
    let few : length rows < most_rows = omega (arith, leb-false most_rows count p.0) in
    let short : len + (length row.key + values_size (widths_of f)) ≤ most_bytes = ltb-false _ _ p.1 in
    record { few = few; short = short; fits = fits_so f rows row (all_read passes f rows b.good) (is_read passes f row h) few (omega (arith, b.size)) }

pub built_none : (f : Layout) → IsBuilt f [] 3
built_none f = record { size = omega (arith, block_length f [] tt, sizes_none (widths_of f)); few = omega arith; short = omega arith; good = tt; rise = tt }

pub built_more : Passes → (f : Layout) (rows : List Row) (row : Row) (len more : ℕ) → IsBuilt f rows len → IsRow f row → Rise (map key_of (rows ++ row ∷ [])) → length rows < most_rows → more ≡ length row.key + values_size (widths_of f) → len + more ≤ most_bytes
    → IsBuilt f (rows ++ row ∷ []) (len + more)
built_more passes f rows row len more b h rise few is short = record {
  size = omega (arith, block_more f rows row (all_read passes f rows b.good) (is_read passes f row h), b.size);
  few = omega (arith, length-append rows (row ∷ []));
  short = short;
  good = each_push (IsRow f) rows row b.good h;
  rise = rise;
}

pub keys_good : (f : Layout) (rows : List Row) → AllByRecursion (IsRead f) rows → AllByRecursion (λ key. IsTrue (is_spelling (kinds_of f.columns) key)) (map key_of rows)
keys_good f rows all = each_mapped (IsRead f) (λ key. IsTrue (is_spelling (kinds_of f.columns) key)) key_of rows (λ row h. h.key) all
