use Rattle.std.proofs.Common.{sym, subst, ◌∙◌, refl, ap}
use Rattle.mesa_recast_turns.specs.mesa_history_spec.Run.{First, Finished}
use Rattle.mesa_model.specs.declared.commands.Command.TheVariants as command
use Rattle.mesa_recast_turns.specs.mesa_history_spec.Rows.{no_rows}
use Rattle.mesa_recast_turns.specs.mesa_invariant_spec.Turns.{AnswersDisk, Asks, SomeRose, is_recast}
use Rattle.mesa_recast_turns.specs.mesa_invariant_spec.Invariant.{run_at}
use Rattle.mesa_core.specs.Standing.{IsCatalogAfter}
use Rattle.mesa_core.specs.Vault.{Stand}
use Rattle.mesa_core.proofs.Due.{due_of, sort_of}
use Rattle.mesa_core.proofs.RecastGranted.{recast_granted_as}
use Rattle.mesa_core.proofs.Skipped.{comes, skipped, recast_grants}
use Rattle.mesa_model.specs.declared.entries.Kind.TheVariants as kind
use Rattle.mesa_core.proofs.vault.Vault.grant_recast.Goals as goal

pub skip-requires-clause-due : goal.skip-requires-clause-due
skip-requires-clause-due g c κs within w =
    let N = g.N.Naming in
    let who = c.args.who in
    comes N.script (N.start no_rows) (N.start w) c.self.inside.engine.shown.history who.session who.command First is_recast kind.Grant (N.alike w) refl recast_grants
    (subst (λ (s : Stand). Asks N.script (run_at N.script (N.start no_rows) s.shown.history) who.session who.command First is_recast) (sym c.self.view_is) c.requires.due)

pub returns-then-not-running : goal.returns-then-not-running
returns-then-not-running g c =
    let N = g.N.Naming in
    let who = c.args.who in
    let told = skipped N.script (N.start no_rows) c.self.inside.engine.shown c.args.self.now.shown c.skip.new.self.shown c.skip.new.self.shown who.session who.command kind.Grant (ap (λ (s : Stand). s.shown) c.self.view_is) refl
    (sym c.running.ensures ∙ c.if-not-running.true) c.skip.ensures.turn c.skip.ensures.draft c.skip.ensures.disk in
    record {
      turn = told.turn Finished;
      disk = λ low e grew is. absurd (told.disk low e grew is);
      ran = tt;
      task = tt;
      granted = tt;
    }

pub recast_of-words-requires : goal.recast_of-words-requires
recast_of-words-requires g c = sort_of g.N.Naming.script _ _ c.args.who.session c.args.who.command First is_recast c.self.invariant.script c.requires.due

pub grant_recast-granted-requires-clause-due : goal.grant_recast-granted-requires-clause-due
grant_recast-granted-requires-clause-due g c κs within =
    let N = g.N.Naming in
    let who = c.args.who in
    due_of N.script _ (run_at N.script (N.start no_rows) c.self.inside.engine.shown.history) who.session who.command First is_recast (command.Recast c.recast_of-words.result.now) c.self.invariant.script
    (subst (λ (s : Stand). Asks N.script (run_at N.script (N.start no_rows) s.shown.history) who.session who.command First is_recast) (sym c.self.view_is) c.requires.due) c.recast_of-words.ensures

pub returns-clause-granted : goal.returns-clause-granted
returns-clause-granted g c =
    let N = g.N.Naming in
    let e = c.in-Some.ensures in
    recast_granted_as g.D.Reader.FileReader.bytes N.script N.start N.origin N.sound (N.origin no_rows).generation c.grant_recast-granted.new.engine.shown.history c.self.inside.engine.state.catalogue
    (subst (IsCatalogAfter N.script N.start (N.origin no_rows).generation c.grant_recast-granted.new.engine.shown.history) c.grant_recast-granted.ensures.catalogue c.catalogue.ensures)
    c.in-Some.task e.low e.there e.next e.lineage e.whole e.bounded e.ranges c.recasts_are_known.ensures.ranges c.recasts_are_known.ensures.bounded

pub returns-clause-task : goal.returns-clause-task
returns-clause-task g c = record { task = c.in-Some.ensures.task; damage = c.in-Some.ensures.damage }

pub returns-clause-disk : goal.returns-clause-disk
returns-clause-disk g c =
    let N = g.N.Naming in
    let now = c.grant_recast-granted.new.engine in
    subst (λ (s : Stand). AnswersDisk N.script (N.start no_rows) s.shown now.shown (SomeRose s.faults now.faults)) c.self.view_is c.grant_recast-granted.ensures.disk

pub returns-in_default-clause-disk : goal.returns-in_default-clause-disk
returns-in_default-clause-disk g c =
    let N = g.N.Naming in
    let now = c.grant_recast-granted.new.engine in
    subst (λ (s : Stand). AnswersDisk N.script (N.start no_rows) s.shown now.shown (SomeRose s.faults now.faults)) c.self.view_is c.grant_recast-granted.ensures.disk

pub returns-clause-ran : goal.returns-clause-ran
returns-clause-ran g c = sym (ap (λ (s : Stand). s.shown.running) c.self.view_is) ∙ sym c.running.ensures ∙ c.if-not-running.false
