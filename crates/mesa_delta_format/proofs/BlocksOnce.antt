-- A block's bytes tell its rows.
use Rattle.std.proofs.Common.{◌≡◌, List, ap, Ok}
use Rattle.mesa_columns.specs.declared.rows.Row.{Row}
use Rattle.mesa_block.specs.Layout.{Layout}
use Rattle.mesa_block.specs.Reading.{block_at}
use Rattle.mesa_block.specs.Rows.{AreRows}
use Rattle.mesa_block.specs.Spelling.{block}

-- what the crate below says: a block is read again
abbrev pub Reads : Type 0
Reads = (s : Layout) (rows : List Row) → AreRows s rows → block_at s (block s rows) ≡ Ok rows

pub blocks_once : Reads → (s : Layout) (p q : List Row) → AreRows s p → AreRows s q → block s p ≡ block s q → p ≡ q
blocks_once reads s p q h k e =
    let a : block_at s (block s p) ≡ Ok p = reads s p h in
    let b : block_at s (block s q) ≡ Ok q = reads s q k in
    let c : block_at s (block s p) ≡ block_at s (block s q) = ap (block_at s) e in
    cc
