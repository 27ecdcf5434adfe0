use Rattle.std.proofs.Common.{◌≡◌, ◌++◌, List, take}
use Rattle.mesa_columns.specs.declared.rows.Row.{Row}
use Rattle.mesa_answer.specs.Gathered.{HasPut, wanted_of}
use Rattle.mesa_view.proofs.putting.put_rows.Given as goal

-- the rows so far are put in
abbrev pub invariant-loop-i : goal.invariant-loop-i
invariant-loop-i l = record {
  put : (given : List Row) → HasPut l.fn.groups given → HasPut l.groups (given ++ take l.i l.rows);
  wanted : wanted_of l.groups ≡ wanted_of l.fn.groups;
}
