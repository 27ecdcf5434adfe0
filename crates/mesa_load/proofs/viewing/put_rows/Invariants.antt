use Rattle.std.proofs.Common.{◌≡◌, take}
use Rattle.mesa_batch.specs.Gathered.{rows_at}
use Rattle.mesa_answer.specs.Gathered.{HasPut, wanted_of}
use Rattle.mesa_load.proofs.viewing.put_rows.Given as goal

-- the rows so far are put in
abbrev pub invariant-rows : goal.invariant-rows
invariant-rows l = record {
  put : HasPut l.groups (take l.place (rows_at l.table l.batch));
  wanted : wanted_of l.groups ≡ wanted_of l.fn.groups;
}
