-- Files as streams of rows, from the first one on or from a key on.
use Rattle.std.specs.Prelude.{◌≡◌, ◌≢◌, ◌⊎◌, ℕ, ◌+◌, ◌<◌, ◌≤◌, List, [], ◌∷◌, ◌++◌, length, map, take, drop, Option, Some, None, Bool, true, IsTrue, ⊤}
use Rattle.std.specs.Ordering.{is_lt}
use Rattle.std.specs.declared.cmp.Ordering.TheVariants.{Less}
use Rattle.mesa_delta.specs.mesa_key.Order.{byte_cmp}
use Rattle.mesa_delta.specs.mesa_file.declared.damage.Damage.{Damage}
use Rattle.mesa_delta.specs.mesa_file.declared.damage.Seen.TheVariants as seen
use Rattle.mesa_delta.specs.mesa_columns.declared.rows.Row.{Row}
use Rattle.mesa_delta.specs.mesa_columns.declared.lifting.Lift.{Lift}
use Rattle.mesa_schema.specs.Changes.{columns_at, epoch_of, lifted}
use Rattle.mesa_delta.specs.mesa_fold.Folded.{rows_of}
use Rattle.mesa_schema.specs.Lifting.{Lifts}
use Rattle.mesa_schema.specs.Lineages.{IsLineage}
use Rattle.mesa_delta.specs.mesa_columns.Rows.{keys_rise}
use Rattle.mesa_block.specs.Rows.{most_rows}
use Rattle.mesa_delta.specs.mesa_delta_format.Indexed.{Indexed}
use Rattle.mesa_delta.specs.mesa_delta_format.Packing.{last_part}
use Rattle.mesa_delta.specs.mesa_delta_format.Places.{entry_of}
use Rattle.mesa_delta.specs.Reading.{HasRead, IsBlock, IsBlockDamage, IsIndexed, IsReaderOf, IsWhole, index_of, reader_of}
use Rattle.mesa_delta.specs.mesa_delta_format.Spread.{blocks_of}
use Rattle.mesa_delta.specs.mesa_delta_format.Summary.{last_key}
use Rattle.mesa_delta.specs.mesa_delta_format.Tail.{first_key}
use Rattle.mesa_delta.specs.declared.input.Input.{Input}
use Rattle.mesa_scan.specs.Cut.{cut}
use Rattle.mesa_scan.specs.declared.cursor.Cursor.{Cursor}

-- what an input reads from
abbrev pub reader_in : {R : Type 0} → Input R → R
reader_in i = reader_of i.reader

-- a row of an input's epoch at the present one
abbrev pub lift_by : {R : Type 0} → Input R → Row → Row
lift_by i row = lifted i.evolving.value i.epoch (epoch_of i.evolving.value) row

-- An input's epoch is one that its table had, and its file has that epoch's columns; where its reader tells bytes, the index is of them, and it knows which blocks it has read one after the other, as none.
pub record IsInput {R : Type 0} (bytes : R → Option (List ℕ)) (i : Input R) : Type 0 where
  pub epoch : i.epoch ≤ epoch_of i.evolving.value
  pub columns : (index_of i.reader).layout.columns ≡ columns_at i.evolving.value i.epoch
  pub over : IsReaderOf bytes (reader_in i) (index_of i.reader)
  pub read : (parts : List (List Row)) × HasRead bytes i.reader parts

-- An input is of the same file and table as before.
pub record IsSameInput {R : Type 0} (bytes : R → Option (List ℕ)) (old new : Input R) : Type 0 where
  pub index : index_of new.reader ≡ index_of old.reader
  pub evolving : new.evolving ≡ old.evolving
  pub epoch : new.epoch ≡ old.epoch
  pub told : bytes (reader_in new) ≡ bytes (reader_in old)

-- ---- parts of a cursor

-- the rows of the block that was read last, lifted
abbrev pub block_of : Cursor → List Row
block_of c = c.block

-- the rows at hand, the next first
abbrev pub at_hand : Cursor → List Row
at_hand c = drop c.given c.block

-- how a cursor lifts rows
abbrev pub lift_of : Cursor → Lift
lift_of c = c.lift

-- the block that is read next
abbrev pub next_of : Cursor → ℕ
next_of c = c.next

-- the key from which rows are given, if not all are
abbrev pub low_of : Cursor → Option (List ℕ)
low_of c = c.low

-- No block was read: a cursor gives rows from the same key on, lifted in the same way.
pub record IsStill (old new : Cursor) : Type 0 where
  pub lift : lift_of new ≡ lift_of old
  pub low : low_of new ≡ low_of old
  pub next : next_of new ≡ next_of old
  pub block : block_of new ≡ block_of old

-- Where no row is at hand, every block was read.
abbrev pub IsReady : {R : Type 0} → Input R → Cursor → Type 0
IsReady i c = at_hand c ≡ [] → length (index_of i.reader).entries ≤ next_of c

-- ---- what was given

-- These are the blocks of a file from this number on, by their entries.
abbrev pub AreBlocks : Indexed → ℕ → List (List Row) → Type 0
AreBlocks x at [] = ⊤
AreBlocks x at (part ∷ parts) = IsBlock x at part × AreBlocks x (at + 1) parts

-- Just these rows of an input were given, from a key on if there is one: with those at hand, which are at most a block's, they are the lifted rows, from that key on, of the blocks that were read one after the other from some block on.
-- No row of a block before it reaches the key, and without a key it is the first one.
pub record HasGivenFrom {R : Type 0} (bytes : R → Option (List ℕ)) (low : Option (List ℕ)) (i : Input R) (c : Cursor) (given : List Row) : Type 0 where
  pub start : ℕ
  pub parts : List (List Row)
  pub input : IsInput bytes i
  pub lineage : IsLineage i.evolving.value
  pub lifts : Lifts (lift_of c) i.evolving.value i.epoch
  pub key : low_of c ≡ low
  pub none : low ≡ None → start ≡ 0
  pub next : next_of c ≡ start + length parts
  pub within : next_of c ≤ length (index_of i.reader).entries
  pub few : length (at_hand c) ≤ most_rows
  pub blocks : AreBlocks (index_of i.reader) start parts
  pub rise : IsTrue (keys_rise (map (lift_by i) (rows_of parts)))
  pub last : block_of c ≡ map (lift_by i) (last_part parts)
  pub rows : given ++ at_hand c ≡ cut low None (map (lift_by i) (rows_of parts))
  pub read : start ≡ 0 → 0 < length parts → HasRead bytes i.reader parts
  pub whole : start ≡ 0 → length parts ≡ length (index_of i.reader).entries → IsWhole (index_of i.reader) (rows_of parts) (bytes (reader_in i))
  pub before : (b : List ℕ) (all : List Row) → bytes (reader_in i) ≡ Some b → IsIndexed (index_of i.reader) all b
      → cut low None (map (lift_by i) (rows_of (take start (blocks_of (index_of i.reader).layout all)))) ≡ []
  pub again : (b : List ℕ) (all : List Row) → bytes (reader_in i) ≡ Some b → IsIndexed (index_of i.reader) all b
      → parts ≡ take (length parts) (drop start (blocks_of (index_of i.reader).layout all))

-- Just these rows of an input were given, from the first one on.
abbrev pub HasGiven : {R : Type 0} → (R → Option (List ℕ)) → Input R → Cursor → List Row → Type 0
HasGiven bytes i c given = HasGivenFrom bytes None i c given

-- These are all rows of an input, lifted: the rows are a file whose tail the index tells, and where the bytes are told, that file.
pub record IsAllOf {R : Type 0} (bytes : R → Option (List ℕ)) (i : Input R) (given : List Row) : Type 0 where
  pub rows : List Row
  pub lifts : given ≡ map (lift_by i) rows
  pub whole : IsWhole (index_of i.reader) rows (bytes (reader_in i))
  pub told : (b : List ℕ) (all : List Row) → bytes (reader_in i) ≡ Some b → IsIndexed (index_of i.reader) all b → rows ≡ all

-- ---- keys that fall

-- The first key of a block is above the last one of the rows before it, if there are any.
abbrev pub comes_behind : List Row → List Row → Bool
comes_behind [] block = true
comes_behind (row ∷ rows) block = is_lt (byte_cmp (last_key (row ∷ rows)) (first_key block))

-- Keys fall from a block to the next one, which no file has, though both have the recorded digests.
pub record IsFall (x : Indexed) (d : Damage) : Type 0 where
  pub at : ℕ
  pub before : List Row
  pub part : List Row
  pub one : IsBlock x at before
  pub next : IsBlock x (at + 1) part
  pub falls : byte_cmp (last_key before) (first_key part) ≢ Less
  pub told : d ≡ record { file = x.file; place = (entry_of x.entries (at + 1)).offset; want = seen.Fits; found = seen.Misfit 0 }

-- What damage is told where rows are read from a key on: that of a block, or that keys fall.
abbrev pub IsDamageFrom : Option (List ℕ) → ℕ → Indexed → Damage → Type 0
IsDamageFrom told size x d = ((at : ℕ) × (parts : List (List Row)) × IsBlockDamage told size x at parts d) ⊎ IsFall x d
