use Rattle.mesa_record_fields.proofs.InTurn.{Written}
use Rattle.mesa_record.proofs.stated.write_stated.Given as goal

abbrev pub invariant-loop-field : goal.invariant-loop-field
invariant-loop-field g l = Written g.T.Stated.spelling g.T.Stated.Is l.fields l.field-index l.fn.out.items l.out.items
