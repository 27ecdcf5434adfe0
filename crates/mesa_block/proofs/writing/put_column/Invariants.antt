use Rattle.std.proofs.Common.{◌≡◌, List, ◌∷◌, map, take}
use Rattle.mesa_columns.specs.mesa_key.declared.KeyType.{KeyType}
use Rattle.mesa_block.proofs.Putting.{Put}
use Rattle.mesa_block.proofs.writing.put_column.Given as goal

abbrev pub invariant-loop-key : goal.invariant-loop-key
invariant-loop-key l =
    (kind : KeyType) (others : List KeyType) → l.kinds ≡ kind ∷ others → Put kind (map (λ k. k.now) (take l.key-index l.keys)) l.initial.out.items l.out.items l.cells.items (map (λ k. k.now) l.rests.items)
