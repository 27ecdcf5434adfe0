use Rattle.std.proofs.Common.{◌≡◌, ◌≤◌, ◌^◌, ◌+◌, drop}
use Rattle.mesa_span.proofs.Missing.{walked}
use Rattle.mesa_span.proofs.works.missing_end.Given as goal

abbrev pub invariant-loop-there : goal.invariant-loop-there
invariant-loop-there l = record {
  bound : l.end ≤ 2 ^ 32 + 9;
  behind : l.start ≤ l.end;
  walked : walked l.end (drop l.there-index l.ends) ≡ walked (l.start + 9) l.ends;
}
