use Rattle.mesa_record_fields.proofs.InTurn.{Written}
use Rattle.mesa_record_fields.proofs.field.write_fields.Given as goal

abbrev pub invariant-loop-field : goal.invariant-loop-field
invariant-loop-field g l = Written g.T.Field.spelling g.T.Field.Is l.fields l.field-index l.fn.out.items l.out.items
