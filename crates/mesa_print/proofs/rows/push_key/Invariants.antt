use Rattle.std.proofs.Common.{◌≡◌, ◌++◌, [], length, map, true}
use Rattle.csv.specs.Records.{fields_of, partial_of}
use Rattle.mesa_key.specs.Spelling.{is_spelling, key_of}
use Rattle.mesa_script.specs.Rows.{value_text}
use Rattle.mesa_print.proofs.rows.push_key.Given as goal

-- the columns that are left come behind the fields so far, and the rest spells them
abbrev pub invariant-columns : goal.invariant-columns
invariant-columns l = record {
  fields : fields_of l.fields ++ map value_text (key_of l.columns.kinds l.columns.bytes) ≡ fields_of l.fn.fields ++ map value_text (key_of l.kinds l.key);
  spelled : is_spelling l.columns.kinds l.columns.bytes ≡ true;
  whole : partial_of l.fields ≡ [];
}

abbrev pub decreases-columns : goal.decreases-columns
decreases-columns l = length l.columns.kinds
