use Rattle.std.proofs.Common.{◌∙◌}
use Rattle.mesa_block.proofs.Putting.{cell_is, cell_small, rest_is}
use Rattle.mesa_block.proofs.writing.parted.Goals as goal

pub returns-clause-cell : goal.returns-clause-cell
returns-clause-cell c = λ kind others is.
    cell_is c.args.kinds.now others c.take_next.new.self.kinds c.in-Some.column.kind kind c.args.key.now c.in-Some.column.bytes.now c.cell_of.result.now c.requires.spelled is
    (rw c.of-columns.ensures at c.in-Some.ensures.kind) (rw c.of-columns.ensures at c.in-Some.ensures.column) c.cell_of.ensures

pub returns-clause-rest : goal.returns-clause-rest
returns-clause-rest c = λ kind others is.
    rest_is c.args.kinds.now others c.take_next.new.self.kinds c.in-Some.column.kind kind c.args.key.now c.rest.result.now is (rw c.of-columns.ensures at c.in-Some.ensures.kind) (c.rest.ensures ∙ (rw c.of-columns.ensures at c.in-Some.ensures.rest))

pub returns-clause-short : goal.returns-clause-short
returns-clause-short c =
    cell_small c.args.kinds.now c.take_next.new.self.kinds c.in-Some.column.kind c.args.key.now c.in-Some.column.bytes.now c.cell_of.result.now c.requires.spelled (rw c.of-columns.ensures at c.in-Some.ensures.kind)
    (rw c.of-columns.ensures at c.in-Some.ensures.column) c.cell_of.ensures
