-- Where the blocks of a file stand, by its tail.
use Rattle.std.specs.Prelude.{◌≡◌, ℕ, ◌+◌, ◌^◌, ◌<◌, ◌≤◌, List, [], ◌∷◌, ◌++◌, length, map, get_or, flat_map}
use Rattle.std.specs.Int.{w32, w64, to_be_bytes}
use Rattle.std.specs.List.{AllByRecursion}
use Rattle.sha2.specs.Sha256.{sha256}
use Rattle.mesa_block.specs.mesa_key.Order.{short_key}
use Rattle.mesa_columns.specs.declared.rows.Row.{Row}
use Rattle.mesa_block.specs.Layout.{Layout}
use Rattle.mesa_block.specs.Rows.{most_bytes}
use Rattle.mesa_block.specs.Spelling.{block}
use Rattle.mesa_delta_format.specs.declared.place.Entry.{Entry}
use Rattle.mesa_delta_format.specs.Seeking.{NeverFall}
use Rattle.mesa_delta_format.specs.Tail.{first_key, foot}

-- a block's entry as the tail has it: the short key of its first key, its offset, its length, its digest
abbrev pub spelled : Entry → List ℕ
spelled e = e.short ++ (to_be_bytes w64 e.offset ++ (to_be_bytes w32 e.len ++ e.digest))

-- the entry of a block that begins at an offset
abbrev pub place_of : Layout → ℕ → List Row → Entry
place_of s offset rows = record { short = short_key (first_key rows); offset = offset; len = length (block s rows); digest = sha256 (block s rows) }

-- The entries of blocks that stand one after the other from an offset on.
abbrev pub places : Layout → ℕ → List (List Row) → List Entry
places s offset [] = []
places s offset (rows ∷ blocks) = place_of s offset rows ∷ places s (offset + length (block s rows)) blocks

-- Blocks stand one after the other from a place to another; none is empty, or longer than a block may be.
abbrev pub Follow : ℕ → List Entry → ℕ → Type 0
Follow at [] end = at ≡ end
Follow at (e ∷ es) end = (e.offset ≡ at) × (0 < e.len) × (e.len ≤ most_bytes) × Follow (at + e.len) es end

-- the entry of the block of this number
abbrev pub entry_of : List Entry → ℕ → Entry
entry_of es i = get_or es i (record { short = []; offset = 0; len = 0; digest = [] })

abbrev pub short_of : Entry → List ℕ
short_of e = e.short

-- the short keys of the blocks' first keys
abbrev pub shorts_of : List Entry → List (List ℕ)
shorts_of es = map short_of es

-- An entry's parts have their widths: 16 bytes, 8, 4 and 32.
abbrev pub HasWidths : Entry → Type 0
HasWidths e = (length e.short ≡ 16) × (length e.digest ≡ 32) × (e.offset < 2 ^ 64) × (e.len < 2 ^ 32)

-- The bytes of a tail with these entries and this count of rows.
abbrev pub tail_spelled : Layout → ℕ → List Entry → List ℕ
tail_spelled s rows es = flat_map spelled es ++ foot s rows (length es)

-- A tail at this place has these entries and this count of rows: there is a block, the blocks fill all that stands before the tail, and their short keys never fall.
pub record IsTail (s : Layout) (place rows : ℕ) (es : List Entry) : Type 0 where
  pub some : 0 < length es
  pub follow : Follow 0 es place
  pub fall : NeverFall (shorts_of es)
  pub widths : AllByRecursion HasWidths es
