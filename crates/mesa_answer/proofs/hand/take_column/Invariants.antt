use Rattle.std.proofs.Common.{◌≡◌, ◌+◌, drop, true}
use Rattle.std.specs.Prelude.{slice_get}
use Rattle.mesa_key.specs.Spelling.{columns_of, is_spelling}
use Rattle.mesa_answer.proofs.hand.take_column.Given as goal

-- the column that is looked for, and what is behind it, are those of the columns that are left
abbrev pub invariant-columns : goal.invariant-columns
invariant-columns l = record {
  column : slice_get (columns_of l.rest.kinds l.rest.bytes) l.passed ≡ slice_get (columns_of l.fn.rest.kinds l.fn.rest.bytes) l.fn.passed;
  behind : drop (l.passed + 1) (columns_of l.rest.kinds l.rest.bytes) ≡ drop (l.fn.passed + 1) (columns_of l.fn.rest.kinds l.fn.rest.bytes);
  spelled : is_spelling l.rest.kinds l.rest.bytes ≡ true;
}

abbrev pub decreases-columns : goal.decreases-columns
decreases-columns l = l.passed
