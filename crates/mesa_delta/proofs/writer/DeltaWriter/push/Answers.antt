use Rattle.mesa_delta_format.specs.mesa_columns.Lent.{lent}
use Rattle.mesa_delta_format.proofs.mesa_block.Cells.{wide_cells}
use Rattle.mesa_delta.proofs.Taking.{may_push, one_more}
use Rattle.mesa_delta.proofs.writer.DeltaWriter.push.Goals as goal

pub push-requires-clause-form : goal.push-requires-clause-form
push-requires-clause-form g c κs within = record { form = c.requires.2.form; cells = wide_cells c.args.self.now.schema.values c.args.row.values.now c.requires.2.form.ranges c.are_amounts.ensures }

pub push-requires-clause-greater : goal.push-requires-clause-greater
push-requires-clause-greater g c κs within = may_push g.T.Draft.bytes c.args.self.now (lent c.args.row) c.requires

pub returns-clause-taken : goal.returns-clause-taken
returns-clause-taken g c = one_more g.T.Draft.bytes c.args.self.now _ _ (lent c.args.row) c.requires c.are_amounts.ensures c.in_ok-push.ensures.laid c.in_ok-add.ensures
