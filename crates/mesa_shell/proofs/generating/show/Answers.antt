use Rattle.std.proofs.Common.{◌≡◌, true, false, sym, ap, subst, ◌∙◌}
use Rattle.mesa_shell.specs.ExitLines.{gen_line, memory_line}
use Rattle.mesa_shell.specs.Ports.{ports}
use Rattle.mesa_shell.specs.declared.done.Done.{Done}
use Rattle.mesa_generate.specs.Excerpt.{CutsOut}
use Rattle.mesa_shell.proofs.Printing.{printed_prints}
use Rattle.std.specs.Prelude.{◌++◌, if◌then◌else◌}
use Rattle.mesa_shell.proofs.generating.show.Goals as goal

pub returns-then-failed : goal.returns-then-failed
returns-then-failed g c =
    let p = ports g.K.Sink.held g.K.Sink.faults g.D.Disk.story g.M.Made.bytes g.B.Bench.faults in
    let is = c.after_run.ensures in
    record {
      disk = ap (λ (d : Done _ _ _). d.disk) is;
      benches = ap (λ (d : Done _ _ _). d.benches) is;
      history = ap (λ (d : Done _ _ _). d.history) is;
      shown = λ no. absurd (let never : false ≡ true = sym no ∙ c.if-failed.true in cc);
      failed = λ yes. printed_prints p (record { out = c.args.out; disk = c.args.left.disk; benches = c.args.left.benches }) c.after_run.result c.print_memory-printer.result 8 memory_line c.print_memory-printer.ensures
          (ap (λ (d : Done _ _ _). d.status) is) (ap (λ (d : Done _ _ _). d.out) is);
    }

pub returns-clause-shown : goal.returns-clause-shown
returns-clause-shown g c whole =
    let p = ports g.K.Sink.held g.K.Sink.faults g.D.Disk.story g.M.Made.bytes g.B.Bench.faults in
    let is = c.after_run-2.ensures in
    let last = c.excerpt-last.result.now in (
      last,
      subst (λ text. CutsOut c.args.script.now text last) c.bytes.ensures c.excerpt-last.ensures,
      printed_prints p (record { out = c.args.out; disk = c.args.left.disk; benches = c.args.left.benches }) c.after_run-2.result c.print_last-printer.result (if c.args.left.refused then 1 else 0) (gen_line c.args.seed c.args.versions ++ last)
          c.print_last-printer.ensures
          (ap (λ (d : Done _ _ _). d.status) is ∙ ap (λ n. if c.print_last-printer.result.broken then 5 else n) c.run_status-status.ensures)
          (ap (λ (d : Done _ _ _). d.out) is),
    )
