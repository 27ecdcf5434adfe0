-- Values and their cells, of eight bytes and of sixteen.
use Rattle.std.proofs.Common.{◌≡◌, Fits, ℕ, zero, suc, ◌+◌, ◌-◌, ◌*◌, ◌<◌, ◌≤◌, ◌^◌, ◌/◌, ◌%◌, List, [], ◌∷◌, length, map, take, get_or, refl, ap, ◌∙◌, arith}
use Rattle.std.specs.Prelude.{ℤ, pos, negsuc, FitsSigned}
use Rattle.std.specs.Int.{w64, w128, to_be_bytes, from_be_bytes, cast_signed, cast_unsigned, bytes_high_first}
use Rattle.std.specs.List.{AllByRecursion}
use Rattle.std.proofs.Math.Facts.{Fits-of_z, sfits_to_z}
use Rattle.std.proofs.lemmas.Int.{of_z-to_z, to_z-of_z}
use Rattle.std.proofs.lemmas.Nat.{be_bytes_8, from_be_bytes-to_be_bytes_8}
use Rattle.mesa_list.proofs.WideBytes.{be_bytes_16, from_be_bytes-to_be_bytes_16}
use Rattle.mesa_columns.specs.mesa_value.declared.Agg.{Agg}
use Rattle.mesa_columns.specs.mesa_value.declared.Agg.TheVariants as agg
use Rattle.mesa_columns.specs.mesa_value.Agg.{IsAmount, IsOf}
use Rattle.mesa_columns.specs.mesa_key.declared.Format.{Format}
use Rattle.mesa_columns.specs.mesa_key.declared.Format.TheVariants.{One, Two}
use Rattle.mesa_columns.specs.declared.columns.ValueColumn.{ValueColumn}
use Rattle.mesa_columns.specs.Rows.{AreOf}
use Rattle.mesa_block.specs.declared.layout.Width.{Width}
use Rattle.mesa_block.specs.declared.layout.Width.TheVariants.{Eight, Sixteen}
use Rattle.mesa_block.specs.Layout.{FitCells, FitsCell, number, size_of, value, values_size, width_of, widths_in}

-- ---- the lower bytes of a number of 64 bits

bytes_same : (m x : ℕ) → m ≡ 340282366920938463444927863358058659840 + x → bytes_high_first 8 m ≡ bytes_high_first 8 x
bytes_same m x e =
    let b0 : m % 256 ≡ x % 256 = omega (arith, e) in
    let b1 : m / 256 % 256 ≡ x / 256 % 256 = omega (arith, e) in
    let b2 : m / 65536 % 256 ≡ x / 65536 % 256 = omega (arith, e) in
    let b3 : m / 16777216 % 256 ≡ x / 16777216 % 256 = omega (arith, e) in
    let b4 : m / 4294967296 % 256 ≡ x / 4294967296 % 256 = omega (arith, e) in
    let b5 : m / 1099511627776 % 256 ≡ x / 1099511627776 % 256 = omega (arith, e) in
    let b6 : m / 281474976710656 % 256 ≡ x / 281474976710656 % 256 = omega (arith, e) in
    let b7 : m / 72057594037927936 % 256 ≡ x / 72057594037927936 % 256 = omega (arith, e) in
    λ i. b7 i ∷ b6 i ∷ b5 i ∷ b4 i ∷ b3 i ∷ b2 i ∷ b1 i ∷ b0 i ∷ []

-- the eight lower bytes
low_bytes : (z : ℤ) → FitsSigned w64 z → value Eight z ≡ to_be_bytes w64 (cast_unsigned w64 z)
low_bytes (pos n) fits = refl
low_bytes (negsuc n) fits = let e : 2 ^ 128 - suc n ≡ 340282366920938463444927863358058659840 + (2 ^ 64 - suc n) = omega (arith, fits) in bytes_same (2 ^ 128 - suc n) (2 ^ 64 - suc n) e

-- ---- cells

-- as many bytes as its width
pub value_length : (w : Width) (z : ℤ) → length (value w z) ≡ size_of w
value_length Eight z = refl
value_length Sixteen z = refl

-- a number is read again from its spelling
pub number_again : (w : Width) (z : ℤ) → FitsCell w z → number w (value w z) ≡ z
number_again Eight z fits =
    let small : cast_unsigned w64 z < 2 ^ 64 = omega (arith, Fits-of_z {w = w64} {z = z} fits) in
    ap (λ (c : List ℕ). cast_signed w64 (from_be_bytes w64 c)) (low_bytes z fits)
    ∙ ap (cast_signed w64) (from_be_bytes-to_be_bytes_8 (cast_unsigned w64 z) small) ∙ to_z-of_z w64 z fits
number_again Sixteen z fits =
    let small : cast_unsigned w128 z < 2 ^ 128 = omega (arith, Fits-of_z {w = w128} {z = z} fits) in
    ap (cast_signed w128) (from_be_bytes-to_be_bytes_16 (cast_unsigned w128 z) small) ∙ to_z-of_z w128 z fits

-- a cell: as many bytes as its width
pub record IsWord (w : Width) (cell : List ℕ) : Type 0 where
  pub len : length cell ≡ size_of w
  pub small : (i : ℕ) → get_or cell i 0 < 256

fits_64 : (cell : List ℕ) → ((i : ℕ) → get_or cell i 0 < 256) → from_be_bytes w64 cell < 2 ^ 64
fits_64 cell small = omega (arith, small 0, small 1, small 2, small 3, small 4, small 5, small 6, small 7)

fits_128 : (cell : List ℕ) → ((i : ℕ) → get_or cell i 0 < 256) → from_be_bytes w128 cell < 2 ^ 128
fits_128 cell small = omega (arith, small 0, small 1, small 2, small 3, small 4, small 5, small 6, small 7, small 8, small 9, small 10, small 11, small 12, small 13, small 14, small 15)

-- the number that bytes spell has room in their cell
pub number_fits : (w : Width) (cell : List ℕ) → ((i : ℕ) → get_or cell i 0 < 256) → FitsCell w (number w cell)
number_fits Eight cell small =
    let fits : Fits w64 (from_be_bytes w64 cell) = omega (arith, fits_64 cell small) in
    sfits_to_z {w = w64} {n = from_be_bytes w64 cell} fits
number_fits Sixteen cell small =
    let fits : Fits w128 (from_be_bytes w128 cell) = omega (arith, fits_128 cell small) in
    sfits_to_z {w = w128} {n = from_be_bytes w128 cell} fits

-- and it spells these bytes again
pub value_again : (w : Width) (cell : List ℕ) → IsWord w cell → value w (number w cell) ≡ cell
value_again Eight cell is =
    low_bytes (number Eight cell) (number_fits Eight cell is.small)
    ∙ ap (to_be_bytes w64) (of_z-to_z w64 (from_be_bytes w64 cell) (fits_64 cell is.small)) ∙ be_bytes_8 cell (from_be_bytes w64 cell) is.len is.small refl
value_again Sixteen cell is =
    ap (to_be_bytes w128) (of_z-to_z w128 (from_be_bytes w128 cell) (fits_128 cell is.small)) ∙ be_bytes_16 cell (from_be_bytes w128 cell) is.len is.small refl

-- ---- rows

-- In format 2 the values of a row's columns have room.
pub wide_cells : (columns : List ValueColumn) (values : List ℤ) → AreOf (map (λ (c : ValueColumn). c.agg) columns) values → AllByRecursion IsAmount values → FitCells (widths_in Two columns) values
wide_cells [] values of all = tt
wide_cells (c ∷ columns) [] of all = tt
wide_cells (c ∷ columns) (z ∷ values) of all = (one c.agg of.0 all.0, wide_cells columns values of.1 all.1)
  where
    one : (a : Agg) → IsOf a z → IsAmount z → FitsCell (width_of Two a) z
    one agg.Sum is amount = amount
    one agg.Min is amount = is
    one agg.Max is amount = is
    one agg.Replace is amount = is

-- What has room in the cells of its columns is in their ranges.
pub ranges_of : (format : Format) (columns : List ValueColumn) (values : List ℤ) → FitCells (widths_in format columns) values → AreOf (map (λ (c : ValueColumn). c.agg) columns) values
ranges_of format [] values fit = tt
ranges_of format (c ∷ columns) [] fit = tt
ranges_of format (c ∷ columns) (z ∷ values) fit = (one format c.agg fit.0, ranges_of format columns values fit.1)
  where
    one : (f : Format) (a : Agg) → FitsCell (width_of f a) z → IsOf a z
    one f agg.Sum fits = tt
    one One agg.Min fits = fits
    one One agg.Max fits = fits
    one One agg.Replace fits = fits
    one Two agg.Min fits = fits
    one Two agg.Max fits = fits
    one Two agg.Replace fits = fits

-- ---- sizes

-- how many bytes the values of so many rows take
abbrev pub sizes : List Width → ℕ → ℕ
sizes [] r = 0
sizes (Eight ∷ ws) r = r * 8 + sizes ws r
sizes (Sixteen ∷ ws) r = r * 16 + sizes ws r

pub sizes_none : (ws : List Width) → sizes ws 0 ≡ 0
sizes_none [] = refl
sizes_none (Eight ∷ ws) = omega (arith, sizes_none ws)
sizes_none (Sixteen ∷ ws) = omega (arith, sizes_none ws)

pub sizes_more : (ws : List Width) (r : ℕ) → sizes ws (r + 1) ≡ sizes ws r + values_size ws
sizes_more [] r = refl
sizes_more (Eight ∷ ws) r = omega (arith, sizes_more ws r)
sizes_more (Sixteen ∷ ws) r = omega (arith, sizes_more ws r)

-- one column more of a list
pub size_more : (format : Format) (columns : List ValueColumn) (i : ℕ) (c : ValueColumn) → i < length columns
    → values_size (widths_in format (take (i + 1) columns)) ≡ values_size (widths_in format (take i columns)) + size_of (width_of format (get_or columns i c).agg)
size_more format [] i c lt = absurd (omega (arith, lt))
size_more format (x ∷ columns) zero c lt = omega arith
size_more format (x ∷ columns) (suc i) c lt =
    let next : suc i + 1 ≡ suc (i + 1) = omega arith in
    ap (λ (n : ℕ). values_size (widths_in format (take n (x ∷ columns)))) next ∙ omega (arith, size_more format columns i c (omega (arith, lt)))

pub values_most : (ws : List Width) → values_size ws ≤ length ws * 16
values_most [] = omega arith
values_most (Eight ∷ ws) = omega (arith, values_most ws)
values_most (Sixteen ∷ ws) = omega (arith, values_most ws)

pub size_most : (w : Width) → size_of w ≤ 16
size_most Eight = omega arith
size_most Sixteen = omega arith
