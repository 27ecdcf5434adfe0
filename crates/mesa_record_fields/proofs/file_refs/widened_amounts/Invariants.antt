use Rattle.std.proofs.Common.{◌≡◌, take}
use Rattle.mesa_record_fields.proofs.file_refs.widened_amounts.Given as goal

abbrev pub invariant-loop-number : goal.invariant-loop-number
invariant-loop-number l = l.wide ≡ take l.number-index l.narrow
