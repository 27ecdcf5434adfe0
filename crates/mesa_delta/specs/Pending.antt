-- Blocks whose entries are still to come.
use Rattle.std.specs.Prelude.{ℕ, List, flat_map}
use Rattle.mesa_delta_format.specs.Tail.{entry}

-- What is known of a block that was appended, for its entry: the short key of its first key, its offset, its bytes.
pub record Appended : Type 0 where
  pub short : List ℕ
  pub offset : ℕ
  pub bytes : List ℕ

abbrev pub own_entry : Appended → List ℕ
own_entry b = entry b.short b.offset b.bytes

-- the entries of such blocks
abbrev pub entries_of : List Appended → List ℕ
entries_of blocks = flat_map own_entry blocks
