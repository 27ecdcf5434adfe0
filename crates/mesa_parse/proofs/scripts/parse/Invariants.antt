use Rattle.std.proofs.Common.{◌≡◌, ◌≤◌, ◌+◌, length, Ok}
use Rattle.mesa_list.specs.Checks.{◌>>=◌}
use Rattle.mesa_script.specs.Script.{read_from, script_from, script_of}
use Rattle.mesa_parse.specs.Left.{IsBetween, records_left}
use Rattle.mesa_parse.proofs.scripts.parse.Given as goal

-- the records that are left go on from what was read
abbrev pub invariant-records : goal.invariant-records
invariant-records l = record {
  between : IsBetween l.reader;
  few : l.place + length (records_left l.reader) ≤ length l.fn.bytes.items + 1;
  same : (read_from l.place (records_left l.reader) l.reading >>= (λ r. Ok (script_from r))) ≡ script_of l.fn.bytes.items;
}

abbrev pub decreases-records : goal.decreases-records
decreases-records l = length (records_left l.reader)
