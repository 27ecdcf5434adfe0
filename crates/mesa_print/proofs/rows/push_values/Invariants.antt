use Rattle.std.proofs.Common.{◌≡◌, ◌++◌, [], map, take}
use Rattle.std.specs.Fmt.{signed_decimal}
use Rattle.csv.specs.Records.{fields_of, partial_of}
use Rattle.mesa_print.proofs.rows.push_values.Given as goal

-- the fields of the values so far stand behind those that were there
abbrev pub invariant-values : goal.invariant-values
invariant-values l = record {
  fields : fields_of l.fields ≡ fields_of l.fn.fields ++ map signed_decimal (take l.value-index l.values);
  whole : partial_of l.fields ≡ [];
}
