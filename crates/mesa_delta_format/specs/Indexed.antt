-- What is known of a file once its tail was read.
use Rattle.std.specs.Prelude.{◌≡◌, ℕ, ◌+◌, ◌-◌, ◌*◌, ◌^◌, ◌<◌, List, length, IsTrue}
use Rattle.mesa_block.specs.mesa_key.Order.{short_key}
use Rattle.mesa_columns.specs.Columns.{Columns}
use Rattle.mesa_block.specs.Layout.{Layout}
use Rattle.mesa_columns.specs.Schema.{is_schema}
use Rattle.mesa_file.specs.declared.file_ref.FileRef.{FileRef}
use Rattle.mesa_delta_format.specs.declared.place.Entry.{Entry}
use Rattle.mesa_delta_format.specs.Places.{IsTail, tail_spelled}

-- A file's id, its format and its rows' columns, how long it is, where its tail begins, how many rows it has, its blocks' entries, and the short key of its last key.
pub record Indexed : Type 0 where
  pub file : ℕ
  pub layout : Layout
  pub len : ℕ
  pub tail : ℕ
  pub rows : ℕ
  pub entries : List Entry
  pub last : List ℕ

-- how long a tail is, by the count of blocks
abbrev pub tail_length : Columns → ℕ → ℕ
tail_length s blocks = 60 * blocks + (length s.keys + length s.values) + 22

-- where the tail of a file of this reference begins
abbrev pub tail_place : Layout → FileRef → ℕ
tail_place s file = file.len - tail_length s.columns file.blocks

-- The entries and the count of rows stand in a tail at the end of a file of this length.
pub record IsIndex (x : Indexed) : Type 0 where
  pub schema : IsTrue (is_schema x.layout.columns)
  pub tail : IsTail x.layout x.tail x.rows x.entries
  pub few : length x.entries < 2 ^ 32
  pub counted : x.rows < 2 ^ 64
  pub fits : x.len < 2 ^ 64
  pub whole : x.tail + tail_length x.layout.columns (length x.entries) ≡ x.len

-- An index is of the file of this reference, whose tail has these bytes. Only the reference tells the last key.
pub record IsIndexOf (file : FileRef) (s : Layout) (bytes : List ℕ) (x : Indexed) : Type 0 where
  pub id : x.file ≡ file.id
  pub layout : x.layout ≡ s
  pub len : x.len ≡ file.len
  pub blocks : length x.entries ≡ file.blocks
  pub spelled : bytes ≡ tail_spelled x.layout x.rows x.entries
  pub last : x.last ≡ short_key file.last
  pub index : IsIndex x
