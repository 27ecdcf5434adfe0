-- Reading a file block by block.
use Rattle.std.specs.Prelude.{◌≡◌, ◌≢◌, ◌⊎◌, ℕ, ◌-◌, ◌<◌, List, ◌∷◌, ◌++◌, length, map, take, drop, flat_map, Option, Some, Vec}
use Rattle.std.specs.List.{AllByRecursion}
use Rattle.std.specs.declared.alloc.Global.{Global}
use Rattle.mesa_delta_format.specs.mesa_key.Order.{short_key}
use Rattle.mesa_delta_format.specs.mesa_columns.declared.rows.Row.{Row}
use Rattle.mesa_delta_format.specs.mesa_block.Layout.{Layout}
use Rattle.mesa_delta_format.specs.mesa_fold.Folded.{rows_of}
use Rattle.mesa_delta_format.specs.mesa_block.Rows.{AreRows, Rise}
use Rattle.mesa_delta_format.specs.mesa_block.Spelling.{block, key_of}
use Rattle.mesa_delta_format.specs.mesa_file.declared.damage.Damage.{Damage}
use Rattle.mesa_delta_format.specs.mesa_file.declared.file_ref.FileRef.{FileRef}
use Rattle.mesa_delta.specs.Damages.{IsPieceDamage, IsWrongLength}
use Rattle.mesa_delta_format.specs.File.{IsFile, file_bytes, file_tail}
use Rattle.mesa_delta_format.specs.Indexed.{Indexed, tail_place}
use Rattle.mesa_delta_format.specs.Packing.{Packed, last_part}
use Rattle.mesa_delta_format.specs.Places.{place_of, places, entry_of, tail_spelled}
use Rattle.mesa_delta_format.specs.Spread.{blocks_of}
use Rattle.mesa_delta_format.specs.Summary.{last_key}
use Rattle.mesa_delta_format.specs.Tail.{first_key}
use Rattle.mesa_delta.specs.declared.reader.DeltaReader.{DeltaReader}
use Rattle.mesa_delta.specs.declared.run.Run.{Run}

-- what a reader reads from, and what is known of the file
abbrev pub reader_of : {R : Type 0} → DeltaReader R → R
reader_of r = r.reader

abbrev pub index_of : {R : Type 0} → DeltaReader R → Indexed
index_of r = r.index

-- the buffer of the piece that was read last
abbrev pub buffer_of : {R : Type 0} → DeltaReader R → Vec ℕ Global
buffer_of r = r.bytes

-- Bytes end with the tail of this index.
pub record IsOver (x : Indexed) (bytes : List ℕ) : Type 0 where
  pub len : length bytes ≡ x.len
  pub tail : drop x.tail bytes ≡ tail_spelled x.layout x.rows x.entries

-- An index is of the file of these rows.
pub record IsIndexed (x : Indexed) (rows : List Row) (bytes : List ℕ) : Type 0 where
  pub file : IsFile x.layout rows bytes
  pub over : IsOver x bytes
  pub blocks : length (blocks_of x.layout rows) ≡ length x.entries
  pub last : x.last ≡ short_key (last_key rows)

-- A piece is the tail of no file of as many bytes and blocks.
abbrev pub IsNoTail : Layout → FileRef → List ℕ → Type 0
IsNoTail s file piece = (rows : List Row) (bytes : List ℕ) → IsFile s rows bytes → length bytes ≡ file.len → length (blocks_of s rows) ≡ file.blocks → drop (tail_place s file) bytes ≢ piece

-- The block of this number has these rows, by its entry.
pub record IsBlock (x : Indexed) (i : ℕ) (part : List Row) : Type 0 where
  pub rows : AreRows x.layout part
  pub entry : entry_of x.entries i ≡ place_of x.layout (entry_of x.entries i).offset part

-- the piece of a file that an entry tells
abbrev pub piece_of : Indexed → ℕ → List ℕ → List ℕ
piece_of x i bytes = take (entry_of x.entries i).len (drop (entry_of x.entries i).offset bytes)

-- A piece is the block of this number of no file with this index.
abbrev pub IsNoBlock : Indexed → ℕ → List ℕ → Type 0
IsNoBlock x i piece = (rows : List Row) (bytes : List ℕ) → IsIndexed x rows bytes → piece_of x i bytes ≢ piece

-- What is kept is of these blocks: each is one, their keys rise, and they are as full as they can be.
pub record IsRun (s : Layout) (run : Run) (parts : List (List Row)) : Type 0 where
  pub each : AllByRecursion (AreRows s) parts
  pub rise : Rise (map key_of (rows_of parts))
  pub packed : Packed s parts
  pub next : run.next ≡ length parts
  pub rows : run.rows ≡ length (rows_of parts)
  pub last : run.last ≡ last_key (rows_of parts)
  pub count : run.count ≡ length (last_part parts)
  pub len : 0 < length parts → run.len ≡ length (block s (last_part parts))

-- A reader has read just these blocks one after the other, from the first on, since it last read the first one.
pub record HasRead {R : Type 0} (bytes : R → Option (List ℕ)) (r : DeltaReader R) (parts : List (List Row)) : Type 0 where
  pub run : IsRun r.index.layout r.run parts
  pub places : take (length parts) r.index.entries ≡ places r.index.layout 0 parts
  pub counted : length parts ≡ length r.index.entries → length (rows_of parts) ≡ r.index.rows
  pub told : (b : List ℕ) → bytes r.reader ≡ Some b → take (length (flat_map (block r.index.layout) parts)) b ≡ flat_map (block r.index.layout) parts

-- A reader tells bytes that the index is of, where it tells any.
abbrev pub IsReaderOf : {R : Type 0} → (R → Option (List ℕ)) → R → Indexed → Type 0
IsReaderOf bytes reader x = (b : List ℕ) → bytes reader ≡ Some b → IsOver x b

-- Rows that were read are a file's: the index's tail is theirs, and what is told of the bytes is that file.
pub record IsWhole (x : Indexed) (rows : List Row) (content : Option (List ℕ)) : Type 0 where
  pub file : IsFile x.layout rows (file_bytes x.layout rows)
  pub tail : file_tail x.layout rows ≡ tail_spelled x.layout x.rows x.entries
  pub told : (b : List ℕ) → content ≡ Some b → IsFile x.layout rows b

-- A piece can't be the block of this number of a file with this index that begins with these blocks.
abbrev pub IsNotNext : Indexed → ℕ → List (List Row) → List ℕ → Type 0
IsNotNext x i parts piece = (rows : List Row) (bytes : List ℕ) → IsIndexed x rows bytes → take (length (flat_map (block x.layout) parts)) bytes ≡ flat_map (block x.layout) parts → piece_of x i bytes ≢ piece

-- Bytes spell no block that begins with a key of this short key.
abbrev pub IsNoneIn : Layout → List ℕ → List ℕ → Type 0
IsNoneIn s short bytes = (rows : List Row) → AreRows s rows → block s rows ≡ bytes → short_key (first_key rows) ≢ short

-- In no file with this index such a block comes behind these.
abbrev pub IsNeverNext : Indexed → Run → List Row → Type 0
IsNeverNext x run part = (parts more : List (List Row)) (rows : List Row) (bytes : List ℕ) → IsRun x.layout run parts → IsIndexed x rows bytes → blocks_of x.layout rows ≢ parts ++ part ∷ more

-- What damage is told of a block, after these were read: the file's length isn't the recorded one; or it is, and the block's digest isn't, or a piece of this digest can't be the block of a file with this index that begins with these.
abbrev pub IsBlockDamage : Option (List ℕ) → ℕ → Indexed → ℕ → List (List Row) → Damage → Type 0
IsBlockDamage told size x i parts d =
    IsWrongLength x.file x.len size d ⊎ ((size ≡ x.len) × IsPieceDamage told x.file (entry_of x.entries i).offset (entry_of x.entries i).len (entry_of x.entries i).digest (IsNotNext x i parts) d)

-- What damage is told of a tail: the file's length isn't the recorded one; or it is, and the tail's digest isn't, or a piece of this digest is the tail of no file of the recorded length and count of blocks.
abbrev pub IsTailDamage : Option (List ℕ) → ℕ → Layout → FileRef → Damage → Type 0
IsTailDamage told size s file d =
    IsWrongLength file.id file.len size d ⊎ ((size ≡ file.len) × IsPieceDamage told file.id (tail_place s file) (file.len - tail_place s file) file.digest (IsNoTail s file) d)
