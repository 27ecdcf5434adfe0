-- Lists whose elements are all bytes.
use Rattle.std.proofs.Common.{ℕ, zero, suc, List, [], ◌∷◌, length, map, get_or, arith}
use Rattle.std.specs.List.{AllByRecursion, concat}
use Rattle.mesa_list.proofs.Whole.{IsByte, each_join, each_split}
use Rattle.mesa_columns.specs.mesa_key.declared.KeyType.{KeyType}
use Rattle.mesa_columns.specs.mesa_key.declared.KeyType.TheVariants as kind
use Rattle.mesa_block.specs.Spelling.{column}
use Rattle.mesa_block.specs.Reading.{key_at, sealed}
use Rattle.mesa_block.proofs.Found.{AreRead}
use Rattle.mesa_block.proofs.FoundValues.{cells_laid}
use Rattle.mesa_block.proofs.Takes.{laid}

cells_bytes : (cells : List (List ℕ)) → AllByRecursion IsByte (concat cells) → AllByRecursion (AllByRecursion IsByte) cells
cells_bytes [] all = tt
cells_bytes (c ∷ cells) all = let p = each_split IsByte c (concat cells) all in (p.0, cells_bytes cells p.1)

column_bytes : (k : KeyType) (cells : List (List ℕ)) → AllByRecursion IsByte (column k cells) → AllByRecursion (AllByRecursion IsByte) cells
column_bytes kind.Int cells all = cells_bytes cells all
column_bytes kind.Text cells all = cells_bytes cells (each_split IsByte (map length cells) (concat cells) all).1

-- all bytes of columns laid one after the other
pub laid_bytes : (r : ℕ) (kinds : List KeyType) (cs : List (List (List ℕ))) → AreRead r kinds cs → AllByRecursion IsByte (laid kinds cs) → AllByRecursion (AllByRecursion (AllByRecursion IsByte)) cs
laid_bytes r [] [] are all = tt
laid_bytes r [] (c ∷ cs) are all = absurd are
laid_bytes r (k ∷ kinds) [] are all = absurd are
laid_bytes r (k ∷ kinds) (c ∷ cs) are all = let p = each_split IsByte (column k c) (laid kinds cs) all in (column_bytes k c p.0, laid_bytes r kinds cs are.1.1 p.1)

-- all bytes of value columns laid one after the other
pub values_bytes : (cs : List (List (List ℕ))) → AllByRecursion IsByte (cells_laid cs) → AllByRecursion (AllByRecursion (AllByRecursion IsByte)) cs
values_bytes [] all = tt
values_bytes (c ∷ cs) all = let p = each_split IsByte (concat c) (cells_laid cs) all in (cells_bytes c p.0, values_bytes cs p.1)

pub cell_bytes : (c : List (List ℕ)) (i : ℕ) → AllByRecursion (AllByRecursion IsByte) c → AllByRecursion IsByte (get_or c i [])
cell_bytes [] i all = tt
cell_bytes (cell ∷ c) zero all = all.0
cell_bytes (cell ∷ c) (suc i) all = cell_bytes c i all.1

sealed_bytes : (k : KeyType) (cell : List ℕ) → AllByRecursion IsByte cell → AllByRecursion IsByte (sealed k cell)
sealed_bytes kind.Int cell all = all
sealed_bytes kind.Text cell all = each_join IsByte cell (0 ∷ []) all (omega arith, tt)

pub key_bytes : (kinds : List KeyType) (cs : List (List (List ℕ))) (i : ℕ) → AllByRecursion (AllByRecursion (AllByRecursion IsByte)) cs → AllByRecursion IsByte (key_at kinds cs i)
unfolding key_at
key_bytes [] cs i all = tt
key_bytes (k ∷ kinds) [] i all = tt
key_bytes (k ∷ kinds) (c ∷ cs) i all = each_join IsByte (sealed k (get_or c i [])) (key_at kinds cs i) (sealed_bytes k (get_or c i []) (cell_bytes c i all.0)) (key_bytes kinds cs i all.1)
