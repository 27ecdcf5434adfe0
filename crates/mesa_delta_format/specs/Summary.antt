-- What is kept of a file, beside its bytes.
use Rattle.std.specs.Prelude.{◌≡◌, ℕ, ℤ, pos, List, [], ◌∷◌, length, map, ⊤}
use Rattle.sha2.specs.Sha256.{sha256}
use Rattle.mesa_block.specs.mesa_value.declared.Agg.{Agg}
use Rattle.mesa_block.specs.mesa_value.declared.Agg.TheVariants.{Sum, Min, Max, Replace}
use Rattle.mesa_block.specs.mesa_value.Agg.{Combines}
use Rattle.mesa_columns.specs.declared.rows.Row.{Row}
use Rattle.mesa_block.specs.mesa_key.declared.Format.TheVariants as format
use Rattle.mesa_columns.specs.Columns.{Columns, aggs_of}
use Rattle.mesa_block.specs.Layout.{Layout}
use Rattle.mesa_fold.specs.Folded.{all_combined}
use Rattle.mesa_file.specs.declared.file_ref.FileRef.{FileRef}
use Rattle.mesa_delta_format.specs.Spread.{blocks_of}
use Rattle.mesa_delta_format.specs.Tail.{first_key}
use Rattle.mesa_delta_format.specs.File.{file_bytes, file_tail}

-- the key of the last of the rows
abbrev pub last_key : List Row → List ℕ
last_key [] = []
last_key (row ∷ []) = row.key
last_key (a ∷ b ∷ rows) = last_key (b ∷ rows)

-- a column's aggregate: 0 where the newest value would count
abbrev pub noted : Agg → ℤ → ℤ
noted Sum value = value
noted Min value = value
noted Max value = value
noted Replace value = pos 0

abbrev pub all_noted : List Agg → List ℤ → List ℤ
all_noted [] values = []
all_noted (agg ∷ aggs) [] = []
all_noted (agg ∷ aggs) (value ∷ values) = noted agg value ∷ all_noted aggs values

abbrev pub values_of : Row → List ℤ
values_of row = row.values

-- The aggregates of rows: for each value column its sum, its least or its greatest value, or 0 for a column that is replaced.
abbrev pub aggregates : List Agg → List Row → List ℤ
aggregates aggs rows = all_noted aggs (all_combined aggs (map values_of rows))

-- Each column's aggregate and one value more have one together.
abbrev pub AllCombine : List Agg → List ℤ → List ℤ → Type 0
AllCombine [] old new = ⊤
AllCombine (agg ∷ aggs) [] new = ⊤
AllCombine (agg ∷ aggs) (a ∷ old) [] = ⊤
AllCombine (agg ∷ aggs) (a ∷ old) (b ∷ new) = Combines agg a b × AllCombine aggs old new

-- How the file of a reference spells rows of these columns: by the format that the reference names.
abbrev pub file_layout : Columns → FileRef → Layout
file_layout s file = record { format = file.format; columns = s }

-- A new file is written in format 2.
abbrev pub new_layout : Columns → Layout
new_layout s = record { format = format.Two; columns = s }

-- A reference is true of the file of these rows, adopted under this id.
pub record IsReferenceOf (s : Layout) (number : ℕ) (written : List Row) (file : FileRef) : Type 0 where
  pub format : file.format ≡ s.format
  pub id : file.id ≡ number
  pub len : file.len ≡ length (file_bytes s written)
  pub rows : file.rows ≡ length written
  pub blocks : file.blocks ≡ length (blocks_of s written)
  pub first : file.first ≡ first_key written
  pub last : file.last ≡ last_key written
  pub aggregates : file.aggregates ≡ aggregates (aggs_of s.columns) written
  pub digest : file.digest ≡ sha256 (file_tail s written)
