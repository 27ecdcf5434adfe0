use Rattle.std.proofs.Common.{◌≡◌, ◌∙◌, refl, sym, ap, subst}
use Rattle.mesa_batch.specs.Glance.{Sight}
use Rattle.mesa_engine.specs.mesa_catalog.Lookups.{sight_of}
use Rattle.mesa_engine.proofs.Seeing.{ok_also}
use Rattle.mesa_core.specs.Sight.{sight_after}
use Rattle.mesa_recast_turns.specs.mesa_history_spec.Rows.{no_rows}
use Rattle.mesa_core.specs.Vault.{Stand}
use Rattle.mesa_core.proofs.Skipped.{comes, skipped, load_looks}
use Rattle.mesa_core.proofs.Unmade.{on_ok}
use Rattle.mesa_recast_turns.specs.mesa_history_spec.Run.{First, Looked}
use Rattle.mesa_recast_turns.specs.mesa_invariant_spec.Turns.{Asks, is_load}
use Rattle.mesa_recast_turns.specs.mesa_invariant_spec.Invariant.{run_at}
use Rattle.mesa_model.specs.declared.entries.Kind.TheVariants as kind
use Rattle.mesa_core.proofs.vault.Vault.look.Goals as goal

pub skip-requires-clause-due : goal.skip-requires-clause-due
skip-requires-clause-due g c κs within w =
    let N = g.N.Naming in
    let who = c.args.who in
    comes N.script (N.start no_rows) (N.start w) c.self.inside.engine.shown.history who.session who.command First is_load kind.Look (N.alike w) refl load_looks
    (subst (λ (s : Stand). Asks N.script (run_at N.script (N.start no_rows) s.shown.history) who.session who.command First is_load) (sym c.self.view_is) c.requires.due)

pub returns-then-not-running : goal.returns-then-not-running
returns-then-not-running g c =
    let N = g.N.Naming in
    let who = c.args.who in
    let told = skipped N.script (N.start no_rows) c.self.inside.engine.shown c.args.self.now.shown c.skip.new.self.shown c.skip.new.self.shown who.session who.command kind.Look (ap (λ (s : Stand). s.shown) c.self.view_is) refl
    (sym c.running.ensures ∙ c.if-not-running.true) c.skip.ensures.turn c.skip.ensures.draft c.skip.ensures.disk in
    record {
      turn = told.turn Looked;
      disk = λ low e grew is. absurd (told.disk low e grew is);
      ran = tt;
      glance = tt;
    }

pub returns-clause-glance : goal.returns-clause-glance
returns-clause-glance g c =
    let N = g.N.Naming in
    let now = c.look-glance.new.engine in
    ok_also c.look-glance.result (λ (x : Sight). x ≡ sight_of now.state.catalogue) (λ (x : Sight). x ≡ sight_after N.script (N.start no_rows) (N.origin no_rows).generation now.shown.history)
    (λ (x : Sight) is. is ∙ c.catalogue.ensures.sight) c.look-glance.ensures.glance

pub returns-clause-ran : goal.returns-clause-ran
returns-clause-ran g c = on_ok c.look-glance.result (sym (ap (λ (s : Stand). s.shown.running) c.self.view_is) ∙ sym c.running.ensures ∙ c.if-not-running.false)
