use Rattle.std.proofs.Common.{◌≡◌, ◌∙◌, ap}
use Rattle.mesa_batch.specs.Glance.{Sight}
use Rattle.mesa_engine.specs.mesa_catalog.Lookups.{sight_of}
use Rattle.mesa_core.specs.Vault.{Stand}
use Rattle.mesa_engine.proofs.Seeing.{ok_also}
use Rattle.mesa_core.specs.Sight.{sight_after}
use Rattle.mesa_recast_turns.specs.mesa_history_spec.Rows.{no_rows}
use Rattle.mesa_core.proofs.vault.Vault.glance.Goals as goal

pub returns : goal.returns
returns g c =
    let N = g.N.Naming in
    ok_also c.glance.result (λ (x : Sight). x ≡ sight_of c.self.inside.engine.state.catalogue) (λ (x : Sight). x ≡ sight_after N.script (N.start no_rows) (N.origin no_rows).generation c.args.self.now.shown.history)
    (λ (x : Sight) is. is ∙ c.catalogue.ensures.sight ∙ ap (λ (s : Stand). sight_after N.script (N.start no_rows) (N.origin no_rows).generation s.shown.history) c.self.view_is) c.glance.ensures.catalogue
