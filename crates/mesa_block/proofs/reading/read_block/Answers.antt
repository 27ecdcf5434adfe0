use Rattle.std.proofs.Common.{◌∙◌, ap, arith, sym}
use Rattle.std.proofs.lemmas.Result.{err_from_is_err_and}
use Rattle.mesa_block.specs.Layout.{Layout}
use Rattle.mesa_block.specs.Reading.{block_at}
use Rattle.mesa_block.proofs.FoundAll.{rows_so, spelled_so}
use Rattle.mesa_block.proofs.OnlyBlock.{block_again, not_both}
use Rattle.mesa_block.proofs.reading.read_block.Goals as goal

pub returns-in_err-rows-clause-refused : goal.returns-in_err-rows-clause-refused
returns-in_err-rows-clause-refused c =
    let p = err_from_is_err_and c.from_residual.result c.from_residual.ensures.1 in
    let s : Layout = record { format = c.args.format; columns = c.args.schema.now } in
    rw (p.1, p.2) (λ other rows are same. not_both rows _ (sym (block_again c.reads_back.ensures.passes s rows are) ∙ ap (block_at s) same ∙ c.in_err-rows.ensures other))

pub returns-clause-rows : goal.returns-clause-rows
returns-clause-rows c = rows_so c.reads_spellings.ensures.key c.reads_spellings.ensures.spelled (record { format = c.args.format; columns = c.args.schema.now }) c.args.bytes.now c.in_ok-rows.rows (λ i. omega (arith, c.type_inv.bytes i)) c.in_ok-rows.ensures

pub returns-clause-spelled : goal.returns-clause-spelled
returns-clause-spelled c = spelled_so (record { format = c.args.format; columns = c.args.schema.now }) c.args.bytes.now c.in_ok-rows.rows (λ i. omega (arith, c.type_inv.bytes i)) c.in_ok-rows.ensures
