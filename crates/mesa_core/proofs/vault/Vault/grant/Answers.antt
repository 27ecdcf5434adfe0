use Rattle.std.proofs.Common.{sym, subst, ◌∙◌, refl, ap}
use Rattle.mesa_recast_turns.specs.mesa_history_spec.Run.{First, place_of, Finished}
use Rattle.mesa_model.specs.declared.commands.Command.TheVariants as command
use Rattle.mesa_recast_turns.specs.mesa_history_spec.Rows.{no_rows}
use Rattle.mesa_recast_turns.specs.mesa_invariant_spec.Turns.{AnswersDisk, Asks, SomeRose, is_merge}
use Rattle.mesa_recast_turns.specs.mesa_invariant_spec.Invariant.{run_at}
use Rattle.mesa_core.specs.Standing.{IsCatalogAfter}
use Rattle.mesa_core.specs.Vault.{Stand}
use Rattle.mesa_core.proofs.Due.{due_of, sort_of}
use Rattle.mesa_core.proofs.Granted.{claim_if, granted_if, mergeable_if}
use Rattle.mesa_core.proofs.Skipped.{comes, skipped, merge_grants, on_some}
use Rattle.mesa_model.specs.declared.entries.Kind.TheVariants as kind
use Rattle.mesa_core.proofs.vault.Vault.grant.Goals as goal

pub skip-requires-clause-due : goal.skip-requires-clause-due
skip-requires-clause-due g c κs within w =
    let N = g.N.Naming in
    let who = c.args.who in
    comes N.script (N.start no_rows) (N.start w) c.self.inside.engine.shown.history who.session who.command First is_merge kind.Grant (N.alike w) refl merge_grants
    (subst (λ (s : Stand). Asks N.script (run_at N.script (N.start no_rows) s.shown.history) who.session who.command First is_merge) (sym c.self.view_is) c.requires.due)

pub returns-then-not-running : goal.returns-then-not-running
returns-then-not-running g c =
    let N = g.N.Naming in
    let who = c.args.who in
    let told = skipped N.script (N.start no_rows) c.self.inside.engine.shown c.args.self.now.shown c.skip.new.self.shown c.skip.new.self.shown who.session who.command kind.Grant (ap (λ (s : Stand). s.shown) c.self.view_is) refl
    (sym c.running.ensures ∙ c.if-not-running.true) c.skip.ensures.turn c.skip.ensures.draft c.skip.ensures.disk in
    record {
      turn = told.turn Finished;
      disk = λ low e grew is. absurd (told.disk low e grew is);
      ran = tt;
      task = tt;
      granted = tt;
    }

pub work_of-words-requires : goal.work_of-words-requires
work_of-words-requires g c = sort_of g.N.Naming.script _ _ c.args.who.session c.args.who.command First is_merge c.self.invariant.script c.requires.due

pub grant-granted-requires-clause-due : goal.grant-granted-requires-clause-due
grant-granted-requires-clause-due g c κs within =
    let N = g.N.Naming in
    let who = c.args.who in
    due_of N.script _ (run_at N.script (N.start no_rows) c.self.inside.engine.shown.history) who.session who.command First is_merge (command.Work c.work_of-words.result.now) c.self.invariant.script
    (subst (λ (s : Stand). Asks N.script (run_at N.script (N.start no_rows) s.shown.history) who.session who.command First is_merge) (sym c.self.view_is) c.requires.due) c.work_of-words.ensures

pub returns-clause-task : goal.returns-clause-task
returns-clause-task g c =
    let N = g.N.Naming in
    let e = c.grant-granted.ensures in
    mergeable_if g.D.Reader.FileReader.bytes N.script N.start N.origin N.sound (N.origin no_rows).generation c.grant-granted.new.engine.shown.history c.self.inside.engine.state.catalogue
    (subst (IsCatalogAfter N.script N.start (N.origin no_rows).generation c.grant-granted.new.engine.shown.history) e.catalogue c.catalogue.ensures)
    c.grant-granted.result _ e.task e.damage e.spare

pub returns-clause-granted : goal.returns-clause-granted
returns-clause-granted g c =
    let N = g.N.Naming in
    let e = c.grant-granted.ensures in
    granted_if g.D.Reader.FileReader.bytes N.script N.start N.origin N.sound (N.origin no_rows).generation c.grant-granted.new.engine.shown.history c.self.inside.engine.state.catalogue
    (subst (IsCatalogAfter N.script N.start (N.origin no_rows).generation c.grant-granted.new.engine.shown.history) e.catalogue c.catalogue.ensures)
    c.grant-granted.result e.low e.there e.next
    (claim_if (run_at N.script (N.start no_rows) c.grant-granted.new.engine.shown.history).state c.args.who.command c.self.inside.engine.shown.running (place_of (run_at N.script (N.start no_rows) c.grant-granted.new.engine.shown.history) c.args.who.session)
    c.grant-granted.result (sym c.running.ensures ∙ c.if-not-running.false) e.turn.place (c.claims.ensures.claims c.args.who.session)) e.task e.whole e.bounded e.range

pub returns-clause-disk : goal.returns-clause-disk
returns-clause-disk g c =
    let N = g.N.Naming in
    let now = c.grant-granted.new.engine in
    subst (λ (s : Stand). AnswersDisk N.script (N.start no_rows) s.shown now.shown (SomeRose s.faults now.faults)) c.self.view_is c.grant-granted.ensures.disk

pub returns-clause-ran : goal.returns-clause-ran
returns-clause-ran g c = on_some c.grant-granted.result (sym (ap (λ (s : Stand). s.shown.running) c.self.view_is) ∙ sym c.running.ensures ∙ c.if-not-running.false)
