use Rattle.std.proofs.Common.{◌≡◌, ◌^◌, ◌-◌, take, false, None}
use Rattle.mesa_answer.specs.Gathered.{HasPut, wanted_of}
use Rattle.mesa_answer.proofs.grouping.gathered.Given as goal

-- the rows so far are put in
abbrev pub invariant-loop-row : goal.invariant-loop-row
invariant-loop-row l = record {
  put : HasPut l.groups (take l.row-index l.rows);
  wanted : wanted_of l.groups ≡ record { schema = l.schema; columns = l.columns; values = l.values; resume = None; inclusive = false; most = 2 ^ 64 - 1 };
}
