use Rattle.std.proofs.Common.{arith}
use Rattle.mesa_record_fields.proofs.InTurn.{all_written, none_yet, one_more}
use Rattle.mesa_record_fields.proofs.field.write_fields.Goals as goal

pub loop-field-preserved : goal.loop-field-preserved
loop-field-preserved g c =
    one_more g.T.Field.spelling g.T.Field.Is c.args.fields.now c.loop-field.field-index c.args.out.now.items c.loop-field.out.items c.write.new.out.items c.field-item.result
    c.loop-field-test.true c.field-item.is c.in_ok-write.ensures.bytes c.in_ok-write.ensures.typed c.loop-field.invariant

pub loop-field-init : goal.loop-field-init
loop-field-init g c = none_yet g.T.Field.spelling g.T.Field.Is c.args.fields.now c.args.out.now.items

pub returns-clause-bytes : goal.returns-clause-bytes
returns-clause-bytes g c = (all_written g.T.Field.spelling g.T.Field.Is c.args.fields.now c.loop-field.field-index c.args.out.now.items c.loop-field.out.items (omega arith) c.loop-field.invariant).0

pub returns-clause-typed : goal.returns-clause-typed
returns-clause-typed g c = (all_written g.T.Field.spelling g.T.Field.Is c.args.fields.now c.loop-field.field-index c.args.out.now.items c.loop-field.out.items (omega arith) c.loop-field.invariant).1
