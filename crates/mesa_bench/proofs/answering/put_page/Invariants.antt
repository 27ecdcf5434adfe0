use Rattle.std.proofs.Common.{◌≡◌, List}
use Rattle.mesa_open_files.specs.mesa_columns.declared.rows.Row.{Row}
use Rattle.mesa_answer.specs.Gathered.{HasPut, wanted_of}
use Rattle.mesa_answer.specs.Gathering.{wanted_by}
use Rattle.mesa_bench.proofs.answering.put_page.Given as goal

-- some rows were put in
abbrev pub invariant-loop-number : goal.invariant-loop-number
invariant-loop-number l = record {
  put : (given : List Row) × HasPut l.groups given;
  wanted : wanted_of l.groups ≡ wanted_by l.schema l.query;
}
