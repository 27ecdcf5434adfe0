use Rattle.std.proofs.Common.{sym, subst, ◌∙◌, refl, ap}
use Rattle.mesa_recast_turns.specs.mesa_history_spec.Run.{Granted, Finished}
use Rattle.mesa_model.specs.declared.commands.Command.TheVariants as command
use Rattle.mesa_recast_turns.specs.mesa_history_spec.Rows.{no_rows}
use Rattle.mesa_open_files.specs.Tasks.{claim_in}
use Rattle.mesa_recast_turns.specs.mesa_invariant_spec.Turns.{AnswersDisk, Asks, SomeRose, is_merge}
use Rattle.mesa_recast_turns.specs.mesa_invariant_spec.Invariant.{run_at}
use Rattle.mesa_core.specs.Vault.{Stand}
use Rattle.mesa_core.proofs.Due.{due_of, sort_of}
use Rattle.mesa_core.proofs.Skipped.{comes, skipped, on_some}
use Rattle.mesa_model.specs.declared.entries.Kind.TheVariants as kind
use Rattle.mesa_core.proofs.vault.Vault.renew.Goals as goal

pub skip-requires-clause-due : goal.skip-requires-clause-due
skip-requires-clause-due g c κs within w =
    let N = g.N.Naming in
    let who = c.args.who in
    let stage = Granted (claim_in c.args.task) in
    comes N.script (N.start no_rows) (N.start w) c.self.inside.engine.shown.history who.session who.command stage is_merge kind.Renew (N.alike w) refl (λ asked is. refl)
    (subst (λ (s : Stand). Asks N.script (run_at N.script (N.start no_rows) s.shown.history) who.session who.command stage is_merge) (sym c.self.view_is) c.requires.due)

pub returns-then-not-running : goal.returns-then-not-running
returns-then-not-running g c =
    let N = g.N.Naming in
    let who = c.args.who in
    let told = skipped N.script (N.start no_rows) c.self.inside.engine.shown c.args.self.now.shown c.skip.new.self.shown c.give_back.new.engine.shown who.session who.command kind.Renew (ap (λ (s : Stand). s.shown) c.self.view_is) c.give_back.ensures.shown
    (sym c.running.ensures ∙ c.if-not-running.true) c.skip.ensures.turn c.skip.ensures.draft c.skip.ensures.disk in
    record {
      turn = told.turn Finished;
      disk = λ low e grew is. absurd (told.disk low e grew is);
      ran = tt;
      same = tt;
    }

pub work_of-words-requires : goal.work_of-words-requires
work_of-words-requires g c = sort_of g.N.Naming.script _ _ c.args.who.session c.args.who.command (Granted (claim_in c.args.task)) is_merge c.self.invariant.script c.requires.due

pub renew-requires-clause-due : goal.renew-requires-clause-due
renew-requires-clause-due g c κs within =
    let N = g.N.Naming in
    let who = c.args.who in
    let stage = Granted (claim_in c.args.task) in
    due_of N.script _ (run_at N.script (N.start no_rows) c.self.inside.engine.shown.history) who.session who.command stage is_merge (command.Work c.work_of-words.result.now) c.self.invariant.script
    (subst (λ (s : Stand). Asks N.script (run_at N.script (N.start no_rows) s.shown.history) who.session who.command stage is_merge) (sym c.self.view_is) c.requires.due) c.work_of-words.ensures

pub renew-requires-clause-table : goal.renew-requires-clause-table
renew-requires-clause-table g c κs within = c.requires.granted.was.low

pub returns-clause-disk : goal.returns-clause-disk
returns-clause-disk g c =
    let N = g.N.Naming in
    let now = c.renew.new.engine in
    subst (λ (s : Stand). AnswersDisk N.script (N.start no_rows) s.shown now.shown (SomeRose s.faults now.faults)) c.self.view_is c.renew.ensures.disk

pub returns-clause-ran : goal.returns-clause-ran
returns-clause-ran g c = on_some c.renew.result (sym (ap (λ (s : Stand). s.shown.running) c.self.view_is) ∙ sym c.running.ensures ∙ c.if-not-running.false)
