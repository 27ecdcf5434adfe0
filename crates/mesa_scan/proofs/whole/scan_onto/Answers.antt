use Rattle.std.proofs.Common.{◌≡◌, ◌++◌, ◌∙◌, List, ap, append_assoc, arith, refl}
use Rattle.std.proofs.lemmas.Result.{err_from_is_err_and}
use Rattle.mesa_delta.specs.mesa_columns.declared.rows.Row.{Row}
use Rattle.mesa_scan.proofs.Onwards.{damaged_before, same_input, scanned_all}
use Rattle.mesa_scan.proofs.whole.scan_onto.Goals as goal

pub returns-in_err-block-clause-damaged : goal.returns-in_err-block-clause-damaged
returns-in_err-block-clause-damaged g c =
    let p = err_from_is_err_and c.from_residual-in_err-block.result c.from_residual-in_err-block.ensures.1 in
    let inv = c.loop-alloc.invariant in
    rw (p.1, p.2) (λ d e. damaged_before g.R.FileReader.bytes g.R.FileReader.size c.args.input.now c.loop-alloc.input d inv.same inv.size (c.in_err-block.ensures.damaged d e))

pub returns-clause-filtered : goal.returns-clause-filtered
returns-clause-filtered g c =
    let file = g.R.FileReader in
    scanned_all file.bytes file.size file.faults file.reads c.args.input.now c.loop-alloc.input c.args.filter.now c.loop-alloc.scan c.args.rows.now.items c.loop-alloc.rows.items c.loop-alloc.invariant (c.loop-alloc-test.ensures.0 refl)

pub loop-alloc-preserved : goal.loop-alloc-preserved
loop-alloc-preserved g c =
    let file = g.R.FileReader in
    let inv = c.loop-alloc.invariant in
    let more : List Row = c.in_ok-block.field-0 in
    let rows : c.add_copies-in-loop-alloc.new.rows.items ≡ c.args.rows.now.items ++ (inv.given ++ more) = c.in_ok-add_copies.ensures.added ∙ ap (λ (l : List Row). l ++ more) inv.rows ∙ append_assoc c.args.rows.now.items inv.given more in
    record {
      given = inv.given ++ more;
      rows = rows;
      scanned = c.in_ok-block.ensures.more inv.given inv.scanned;
      filter = c.block.ensures.filter ∙ inv.filter;
      same = same_input file.bytes c.args.input.now c.loop-alloc.input c.block.new.input inv.same c.block.ensures.same;
      size = c.block.ensures.size ∙ inv.size;
      reads = omega (arith, inv.reads, c.in_ok-block.ensures.reads);
      faults = c.in_ok-block.ensures.cause.quiet ∙ inv.faults;
    }
