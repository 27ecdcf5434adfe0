-- What a writer of blocks has laid down.
use Rattle.std.specs.Prelude.{◌≡◌, ℕ, List, ◌++◌, length, flat_map, Option, Some}
use Rattle.mesa_delta_format.specs.mesa_columns.declared.rows.Row.{Row}
use Rattle.mesa_delta_format.specs.mesa_block.Layout.{Layout}
use Rattle.mesa_delta_format.specs.mesa_block.Spelling.{block}
use Rattle.sha2.specs.Sha256.{sha256}
use Rattle.mesa_delta_format.specs.Tail.{entries, tail_of}
use Rattle.mesa_delta.specs.declared.blocks.Sealed.{Sealed}
use Rattle.mesa_delta_format.specs.Spread.{Filling}
use Rattle.mesa_delta.specs.Begun.{begun}
use Rattle.mesa_delta.specs.Pending.{entries_of}
use Rattle.mesa_delta.specs.declared.blocks.BlockWriter.{BlockWriter}

-- What the draft has is the full blocks one after the other, and the entries are theirs, those of the last ones still to come; the open block is in the builder.
pub record Lays {M T : Type 0} (bytes : T → Option (List ℕ)) (s : Layout) (w : BlockWriter M T) (f : Filling) : Type 0 where
  pub told : (t : List ℕ) → bytes w.draft ≡ Some t → t ≡ flat_map (block s) f.done
  pub entries : w.entries.items ++ entries_of w.pending ≡ entries s 0 f.done
  pub offset : w.offset ≡ length (flat_map (block s) f.done)
  pub blocks : w.blocks ≡ length f.done
  pub built : w.builder ≡ record { layout = s; rows = f.last }
  pub short : w.short ≡ begun f.last

-- The draft has these blocks and the tail of them and of as many rows, and this is known of it.
pub record IsSealed {T : Type 0} (bytes : T → Option (List ℕ)) (s : Layout) (draft : T) (rows : ℕ) (full : List (List Row)) (x : Sealed) : Type 0 where
  pub told : (t : List ℕ) → bytes draft ≡ Some t → t ≡ flat_map (block s) full ++ tail_of s rows full
  pub len : x.len ≡ length (flat_map (block s) full ++ tail_of s rows full)
  pub blocks : x.blocks ≡ length full
  pub digest : x.digest ≡ sha256 (tail_of s rows full)
