use Rattle.std.proofs.Common.{◌≡◌, ◌<◌, length, true}
use Rattle.std.specs.Prelude.{slice_get}
use Rattle.mesa_key.specs.Spelling.{columns_of, is_spelling}
use Rattle.mesa_digest.proofs.naming.column_at.Given as goal

-- the column that is looked for is one of those that are left of the key
abbrev pub invariant-columns : goal.invariant-columns
invariant-columns l = record {
  column : slice_get (columns_of l.columns.kinds l.columns.bytes) l.passed ≡ slice_get (columns_of l.fn.kinds l.fn.key) l.fn.place;
  kind : slice_get l.columns.kinds l.passed ≡ slice_get l.fn.kinds l.fn.place;
  within : l.passed < length l.columns.kinds;
  spelled : is_spelling l.columns.kinds l.columns.bytes ≡ true;
}

abbrev pub decreases-columns : goal.decreases-columns
decreases-columns l = l.passed
