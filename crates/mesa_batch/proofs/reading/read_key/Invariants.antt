use Rattle.std.proofs.Common.{◌≤◌, length}
use Rattle.mesa_batch.proofs.Fields.{IsSpelled}
use Rattle.mesa_batch.proofs.reading.read_key.Given as goal

-- the columns so far are spelled, and the others come after them
abbrev pub invariant-columns : goal.invariant-columns
invariant-columns l = record {
  enough : l.place ≤ length l.fields;
  spelled : IsSpelled l.columns l.fields l.place l.bytes.items;
}
