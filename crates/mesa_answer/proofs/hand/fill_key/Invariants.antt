use Rattle.std.proofs.Common.{◌≡◌, ◌++◌, drop, true}
use Rattle.std.specs.List.{concat}
use Rattle.mesa_key.specs.Spelling.{columns_of, is_spelling}
use Rattle.mesa_model.specs.mesa_columns.Columns.{chosen}
use Rattle.mesa_answer.proofs.hand.fill_key.Given as goal

-- the columns so far and those at the places that are left are all, and those from a place on are left of the key
abbrev pub invariant-loop-place : goal.invariant-loop-place
invariant-loop-place l = record {
  all : l.found.items ++ concat (chosen (drop l.place-index l.places) (columns_of l.kinds l.key)) ≡ concat (chosen l.places (columns_of l.kinds l.key));
  left : columns_of l.rest.kinds l.rest.bytes ≡ drop l.next (columns_of l.kinds l.key);
  spelled : is_spelling l.rest.kinds l.rest.bytes ≡ true;
}
