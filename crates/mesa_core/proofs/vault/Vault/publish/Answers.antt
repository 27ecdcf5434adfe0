use Rattle.std.proofs.Common.{◌≡◌, ◌∙◌, Some, sym, ap, subst, refl}
use Rattle.mesa_batch.specs.Glance.{Sight}
use Rattle.mesa_recast_turns.specs.mesa_history_spec.Run.{Looked, command_at, Finished}
use Rattle.mesa_model.specs.declared.commands.Command.TheVariants as command
use Rattle.mesa_model.specs.declared.commands.Script.{Script}
use Rattle.mesa_core.specs.Sight.{sight_after}
use Rattle.mesa_recast_turns.specs.mesa_history_spec.Rows.{no_rows}
use Rattle.mesa_open_files.specs.Batches.{HasPrepared}
use Rattle.mesa_recast_turns.specs.mesa_invariant_spec.Turns.{Asks, is_load}
use Rattle.mesa_recast_turns.specs.mesa_invariant_spec.Invariant.{run_at}
use Rattle.mesa_core.specs.Vault.{Stand}
use Rattle.mesa_core.proofs.Due.{due_of, sort_of}
use Rattle.mesa_core.proofs.Skipped.{comes, skipped}
use Rattle.mesa_recast_turns.proofs.mesa_write_turns.Keeping.{same_keep}
use Rattle.mesa_recast_turns.specs.mesa_write_turns.Writing.{KeepsFiles}
use Rattle.mesa_disk.specs.Story.{Steps}
use Rattle.mesa_model.specs.declared.entries.Kind.TheVariants as kind
use Rattle.mesa_core.proofs.vault.Vault.publish.Goals as goal

pub skip-requires-clause-due : goal.skip-requires-clause-due
skip-requires-clause-due g c κs within w =
    let N = g.N.Naming in
    let who = c.args.who in
    comes N.script (N.start no_rows) (N.start w) c.self.inside.engine.shown.history who.session who.command Looked is_load kind.Decide (N.alike w) refl (λ asked is. refl)
    (subst (λ (s : Stand). Asks N.script (run_at N.script (N.start no_rows) s.shown.history) who.session who.command Looked is_load) (sym c.self.view_is) c.requires.due)

pub returns-then-not-running : goal.returns-then-not-running
returns-then-not-running g c =
    let N = g.N.Naming in
    let who = c.args.who in
    let told = skipped N.script (N.start no_rows) c.self.inside.engine.shown c.args.self.now.shown c.skip.new.self.shown c.skip.new.self.shown who.session who.command kind.Decide (ap (λ (s : Stand). s.shown) c.self.view_is) refl
    (sym c.running.ensures ∙ c.if-not-running.true) c.skip.ensures.turn c.skip.ensures.draft c.skip.ensures.disk in
    record {
      turn = told.turn Finished;
      disk = λ low e grew is. absurd (told.disk low e grew is);
      keeps = subst (λ (s : Stand). Steps KeepsFiles s.told c.skip.new.self.told) c.self.view_is (same_keep c.self.inside.engine.told c.skip.new.self.told c.skip.ensures.told);
      draft = λ low e grew is. absurd (told.draft low e grew is);
    }

pub rows_of-rows-requires : goal.rows_of-rows-requires
rows_of-rows-requires g c = sort_of g.N.Naming.script _ _ c.args.who.session c.args.who.command Looked is_load c.self.invariant.script c.requires.due

pub publish-requires-clause-due : goal.publish-requires-clause-due
publish-requires-clause-due g c κs within =
    let N = g.N.Naming in
    let who = c.args.who in
    due_of N.script _ (run_at N.script (N.start no_rows) c.self.inside.engine.shown.history) who.session who.command Looked is_load (command.Load c.rows_of-rows.result.now) c.self.invariant.script
    (subst (λ (s : Stand). Asks N.script (run_at N.script (N.start no_rows) s.shown.history) who.session who.command Looked is_load) (sym c.self.view_is) c.requires.due) c.rows_of-rows.ensures

pub publish-requires-clause-made : goal.publish-requires-clause-made
publish-requires-clause-made g c κs within =
    let N = g.N.Naming in
    let who = c.args.who in
    let rows = c.rows_of-rows.result.now in
    let known : command_at N.script who.session who.command ≡ Some (command.Load rows) = ap (λ (s : Script). command_at s who.session who.command) (sym c.self.invariant.script) ∙ c.rows_of-rows.ensures in
    let sight = c.catalogue.ensures.sight ∙ ap (λ (s : Stand). sight_after N.script (N.start no_rows) (N.origin no_rows).generation s.shown.history) c.self.view_is in
    subst (λ (s : Sight). HasPrepared g.M.Made.bytes g.M.Made.id_of s rows c.args.made) (sym sight) (c.requires.made rows known)

pub publish-requires-clause-told : goal.publish-requires-clause-told
publish-requires-clause-told g c κs within = c.self.invariant.told
