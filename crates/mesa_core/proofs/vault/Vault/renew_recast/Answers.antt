use Rattle.std.proofs.Common.{sym, subst, ◌∙◌, refl, ap}
use Rattle.mesa_recast_turns.specs.mesa_history_spec.Run.{Granted, Finished}
use Rattle.mesa_model.specs.declared.commands.Command.TheVariants as command
use Rattle.mesa_recast_turns.specs.mesa_history_spec.Rows.{no_rows}
use Rattle.mesa_open_files.specs.Recasts.{claim_of_recast}
use Rattle.mesa_recast_turns.specs.mesa_invariant_spec.Turns.{AnswersDisk, Asks, SomeRose, is_recast}
use Rattle.mesa_recast_turns.specs.mesa_invariant_spec.Invariant.{run_at}
use Rattle.mesa_core.specs.Vault.{Stand}
use Rattle.mesa_core.proofs.Due.{due_of, sort_of}
use Rattle.mesa_core.proofs.Skipped.{comes, skipped, on_some}
use Rattle.mesa_model.specs.declared.entries.Kind.TheVariants as kind
use Rattle.mesa_core.proofs.vault.Vault.renew_recast.Goals as goal

pub skip-requires-clause-due : goal.skip-requires-clause-due
skip-requires-clause-due g c κs within w =
    let N = g.N.Naming in
    let who = c.args.who in
    let stage = Granted (claim_of_recast c.args.task) in
    comes N.script (N.start no_rows) (N.start w) c.self.inside.engine.shown.history who.session who.command stage is_recast kind.Renew (N.alike w) refl (λ asked is. refl)
    (subst (λ (s : Stand). Asks N.script (run_at N.script (N.start no_rows) s.shown.history) who.session who.command stage is_recast) (sym c.self.view_is) c.requires.due)

pub returns-then-not-running : goal.returns-then-not-running
returns-then-not-running g c =
    let N = g.N.Naming in
    let who = c.args.who in
    let told = skipped N.script (N.start no_rows) c.self.inside.engine.shown c.args.self.now.shown c.skip.new.self.shown c.give_back_recast.new.engine.shown who.session who.command kind.Renew (ap (λ (s : Stand). s.shown) c.self.view_is) c.give_back_recast.ensures.shown
    (sym c.running.ensures ∙ c.if-not-running.true) c.skip.ensures.turn c.skip.ensures.draft c.skip.ensures.disk in
    record {
      turn = told.turn Finished;
      disk = λ low e grew is. absurd (told.disk low e grew is);
      ran = tt;
      same = tt;
    }

pub recast_of-words-requires : goal.recast_of-words-requires
recast_of-words-requires g c = sort_of g.N.Naming.script _ _ c.args.who.session c.args.who.command (Granted (claim_of_recast c.args.task)) is_recast c.self.invariant.script c.requires.due

pub renew_recast-requires-clause-due : goal.renew_recast-requires-clause-due
renew_recast-requires-clause-due g c κs within =
    let N = g.N.Naming in
    let who = c.args.who in
    let stage = Granted (claim_of_recast c.args.task) in
    due_of N.script _ (run_at N.script (N.start no_rows) c.self.inside.engine.shown.history) who.session who.command stage is_recast (command.Recast c.recast_of-words.result.now) c.self.invariant.script
    (subst (λ (s : Stand). Asks N.script (run_at N.script (N.start no_rows) s.shown.history) who.session who.command stage is_recast) (sym c.self.view_is) c.requires.due) c.recast_of-words.ensures

pub renew_recast-requires-clause-table : goal.renew_recast-requires-clause-table
renew_recast-requires-clause-table g c κs within = c.requires.granted.was.low

pub returns-clause-disk : goal.returns-clause-disk
returns-clause-disk g c =
    let N = g.N.Naming in
    let now = c.renew_recast.new.engine in
    subst (λ (s : Stand). AnswersDisk N.script (N.start no_rows) s.shown now.shown (SomeRose s.faults now.faults)) c.self.view_is c.renew_recast.ensures.disk

pub returns-clause-ran : goal.returns-clause-ran
returns-clause-ran g c = on_some c.renew_recast.result (sym (ap (λ (s : Stand). s.shown.running) c.self.view_is) ∙ sym c.running.ensures ∙ c.if-not-running.false)
