use Rattle.mesa_record_fields.proofs.InTurn.{Written}
use Rattle.mesa_record_fields.proofs.numbered.write_rising.Given as goal

abbrev pub invariant-loop-field : goal.invariant-loop-field
invariant-loop-field g l = Written g.T.Numbered.spelling g.T.Numbered.Is l.fields l.field-index l.fn.out.items l.out.items
