use Rattle.std.proofs.Common.{◌≡◌, ◌++◌, map, length}
use Rattle.std.specs.Prelude.{IsTrue}
use Rattle.std.specs.List.{AllByRecursion}
use Rattle.mesa_columns.specs.mesa_key.Spelling.{is_spelling}
use Rattle.mesa_block.specs.Spelling.{columns}
use Rattle.mesa_block.proofs.writing.put_keys.Given as goal

abbrev pub invariant-loop-others : goal.invariant-loop-others
invariant-loop-others l = record {
  put : l.out.items ++ columns l.left (map (λ k. k.now) l.keys.items) ≡ l.fn.out.items ++ columns l.kinds l.fn.keys;
  good : AllByRecursion (λ key. IsTrue (is_spelling l.left key)) (map (λ k. k.now) l.keys.items);
}

abbrev pub decreases-loop-others : goal.decreases-loop-others
decreases-loop-others l = length l.left
