use Rattle.std.proofs.Common.{◌≡◌, ◌++◌, map, drop}
use Rattle.mesa_columns.specs.Codes.{kind_byte}
use Rattle.mesa_delta_format.proofs.Adding.{kind_of}
use Rattle.mesa_delta_format.proofs.tail.put_kinds.Given as goal

abbrev pub invariant-loop-column : goal.invariant-loop-column
invariant-loop-column l = l.out.items ++ map kind_byte (map kind_of (drop l.column-index l.columns)) ≡ l.fn.out.items ++ map kind_byte (map kind_of l.columns)
