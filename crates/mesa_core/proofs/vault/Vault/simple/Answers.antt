use Rattle.std.proofs.Common.{subst, ◌∙◌, refl, sym, ap}
use Rattle.mesa_recast_turns.proofs.mesa_write_turns.Keeping.{same_keep}
use Rattle.mesa_recast_turns.specs.mesa_write_turns.Writing.{KeepsFiles}
use Rattle.mesa_disk.specs.Story.{Steps}
use Rattle.mesa_core.specs.Vault.{Stand}
use Rattle.mesa_core.proofs.Skipped.{comes, skipped, simple_decides}
use Rattle.mesa_recast_turns.specs.mesa_history_spec.Run.{First, Finished}
use Rattle.mesa_recast_turns.specs.mesa_history_spec.Rows.{no_rows}
use Rattle.mesa_recast_turns.specs.mesa_invariant_spec.Turns.{Asks, is_simple}
use Rattle.mesa_recast_turns.specs.mesa_invariant_spec.Invariant.{run_at}
use Rattle.mesa_model.specs.declared.entries.Kind.TheVariants as kind
use Rattle.mesa_core.proofs.vault.Vault.simple.Goals as goal

pub skip-requires-clause-due : goal.skip-requires-clause-due
skip-requires-clause-due g c κs within w =
    let N = g.N.Naming in
    let who = c.args.who in
    comes N.script (N.start no_rows) (N.start w) c.self.inside.engine.shown.history who.session who.command First is_simple kind.Decide (N.alike w) refl simple_decides
    (subst (λ (s : Stand). Asks N.script (run_at N.script (N.start no_rows) s.shown.history) who.session who.command First is_simple) (sym c.self.view_is) c.requires.due)

pub returns-then-not-running : goal.returns-then-not-running
returns-then-not-running g c =
    let N = g.N.Naming in
    let who = c.args.who in
    let told = skipped N.script (N.start no_rows) c.self.inside.engine.shown c.args.self.now.shown c.skip.new.self.shown c.skip.new.self.shown who.session who.command kind.Decide (ap (λ (s : Stand). s.shown) c.self.view_is) refl
    (sym c.running.ensures ∙ c.if-not-running.true) c.skip.ensures.turn c.skip.ensures.draft c.skip.ensures.disk in
    record {
      turn = told.turn Finished;
      disk = λ low e grew is. absurd (told.disk low e grew is);
      keeps = subst (λ (s : Stand). Steps KeepsFiles s.told c.skip.new.self.told) c.self.view_is (same_keep c.self.inside.engine.told c.skip.new.self.told c.skip.ensures.told);
    }

pub returns-in-Some-Explain-clause-keeps : goal.returns-in-Some-Explain-clause-keeps
returns-in-Some-Explain-clause-keeps g c =
    let now = c.explain.new.engine.told in
    subst (λ (s : Stand). Steps KeepsFiles s.told now) c.self.view_is (same_keep c.self.inside.engine.told now c.explain.ensures.told)

pub returns-in-Some-Pin-clause-keeps : goal.returns-in-Some-Pin-clause-keeps
returns-in-Some-Pin-clause-keeps g c =
    let now = c.pin.new.engine.told in
    subst (λ (s : Stand). Steps KeepsFiles s.told now) c.self.view_is (same_keep c.self.inside.engine.told now c.pin.ensures.told)

pub returns-in-Some-Release-clause-keeps : goal.returns-in-Some-Release-clause-keeps
returns-in-Some-Release-clause-keeps g c =
    let now = c.release.new.engine.told in
    subst (λ (s : Stand). Steps KeepsFiles s.told now) c.self.view_is (same_keep c.self.inside.engine.told now c.release.ensures.told)
