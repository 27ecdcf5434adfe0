use Rattle.std.proofs.Common.{◌≡◌, take}
use Rattle.mesa_filter.specs.Filter.{filtered}
use Rattle.mesa_answer.specs.Gathered.{HasPut, wanted_of}
use Rattle.mesa_answer.specs.Gathering.{wanted_by}
use Rattle.mesa_answer.proofs.answering.gathered.Given as goal

-- the rows so far that meet the filter are put in
abbrev pub invariant-loop-row : goal.invariant-loop-row
invariant-loop-row l = record {
  put : HasPut l.groups (filtered l.schema l.query.asked.terms (take l.row-index l.rows));
  wanted : wanted_of l.groups ≡ wanted_by l.schema l.query;
}
