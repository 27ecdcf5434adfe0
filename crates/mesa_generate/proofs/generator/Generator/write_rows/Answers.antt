use Rattle.std.proofs.Common.{◌∙◌, arith}
use Rattle.mesa_generate.proofs.Records.{draw_small, row_more, rows_done}
use Rattle.mesa_generate.proofs.generator.Generator.write_rows.Goals as goal
use Rattle.mesa_invariant_spec.specs.mesa_script.Generated.{draw}

pub rows-preserved : goal.rows-preserved
rows-preserved c =
    let x = c.rows.self.state in
    let done = c.in_ok-write_row.ensures in
    record {
      same = λ rest. c.rows.invariant.same rest ∙ row_more c.args.version c.rows.j x c.write_row.new.self.state c.rows.self.script.items c.write_row.new.self.script.items rest (omega arith) done.script done.state;
      small = omega (arith, done.state, draw_small (draw (draw x)));
    }

pub returns-clause-script : goal.returns-clause-script
returns-clause-script c rest = c.rows.invariant.same rest ∙ rows_done c.args.version c.rows.j c.rows.self.state c.rows.self.script.items rest (omega arith)
