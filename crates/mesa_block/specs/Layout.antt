-- How the values of rows stand in a block: in which format, and by which columns.
use Rattle.std.specs.Prelude.{ℕ, ◌+◌, ◌-◌, ℤ, List, [], ◌∷◌, map, drop, FitsSigned, ⊤}
use Rattle.std.specs.Int.{w64, w128, to_be_bytes, from_be_bytes, cast_signed, cast_unsigned}
use Rattle.mesa_columns.specs.mesa_value.declared.Agg.{Agg}
use Rattle.mesa_columns.specs.mesa_value.declared.Agg.TheVariants as agg
use Rattle.mesa_columns.specs.mesa_key.declared.Format.{Format}
use Rattle.mesa_columns.specs.mesa_key.declared.Format.TheVariants.{One, Two}
use Rattle.mesa_columns.specs.declared.columns.ValueColumn.{ValueColumn}
use Rattle.mesa_columns.specs.Columns.{Columns}
use Rattle.mesa_block.specs.declared.layout.Width.{Width}
use Rattle.mesa_block.specs.declared.layout.Width.TheVariants.{Eight, Sixteen}

-- The format of a file, and the columns of its rows.
pub record Layout : Type 0 where
  pub format : Format
  pub columns : Columns

-- In format 2 a sum takes sixteen bytes. Every other value takes eight, and in format 1 a sum too.
abbrev pub width_of : Format → Agg → Width
width_of One agg.Sum = Eight
width_of One agg.Min = Eight
width_of One agg.Max = Eight
width_of One agg.Replace = Eight
width_of Two agg.Sum = Sixteen
width_of Two agg.Min = Eight
width_of Two agg.Max = Eight
width_of Two agg.Replace = Eight

-- the widths of these value columns in a format
abbrev pub widths_in : Format → List ValueColumn → List Width
widths_in format columns = map (λ (c : ValueColumn). width_of format c.agg) columns

-- the widths of a layout's value columns
abbrev pub widths_of : Layout → List Width
widths_of l = widths_in l.format l.columns.values

-- how many bytes a value of a width takes
abbrev pub size_of : Width → ℕ
size_of Eight = 8
size_of Sixteen = 16

-- how many bytes a row's values take
abbrev pub values_size : List Width → ℕ
values_size [] = 0
values_size (w ∷ ws) = size_of w + values_size ws

-- A value is its two's complement in so many bytes, the highest first.
abbrev pub value : Width → ℤ → List ℕ
value w z = drop (16 - size_of w) (to_be_bytes w128 (cast_unsigned w128 z))

-- the number that so many bytes spell
abbrev pub number : Width → List ℕ → ℤ
number Eight cell = cast_signed w64 (from_be_bytes w64 cell)
number Sixteen cell = cast_signed w128 (from_be_bytes w128 cell)

-- a number that so many bytes can spell
abbrev pub FitsCell : Width → ℤ → Type 0
FitsCell Eight z = FitsSigned w64 z
FitsCell Sixteen z = FitsSigned w128 z

-- column by column, the values have room in their cells
abbrev pub FitCells : List Width → List ℤ → Type 0
FitCells [] values = ⊤
FitCells (w ∷ ws) [] = ⊤
FitCells (w ∷ ws) (z ∷ values) = FitsCell w z × FitCells ws values
