use Rattle.std.proofs.Common.{◌≡◌, ◌∙◌, ap, sym, subst, Some, refl}
use Rattle.std.specs.Prelude.{IfSome}
use Rattle.mesa_recast_turns.specs.mesa_read_turns.Opening.{HasItsFiles}
use Rattle.mesa_filter.specs.declared.words.QueryWords.{QueryWords}
use Rattle.mesa_recast_turns.specs.mesa_history_spec.Legal.{is_query}
use Rattle.mesa_recast_turns.specs.mesa_history_spec.Run.{First, command_at, Finished}
use Rattle.mesa_model.specs.declared.commands.Command.TheVariants as command
use Rattle.mesa_model.specs.declared.commands.Script.{Script}
use Rattle.mesa_core.specs.Pins.{TakesQuery}
use Rattle.mesa_recast_turns.specs.mesa_history_spec.Rows.{no_rows}
use Rattle.mesa_recast_turns.specs.mesa_invariant_spec.Turns.{AnswersDisk, Asks, SomeRose}
use Rattle.mesa_recast_turns.specs.mesa_invariant_spec.Invariant.{run_at}
use Rattle.mesa_core.specs.Handing.{Tells}
use Rattle.mesa_core.specs.Vault.{Stand}
use Rattle.mesa_core.proofs.Due.{due_of, sort_of}
use Rattle.mesa_core.proofs.Handed.{takes_query}
use Rattle.mesa_core.proofs.Skipped.{comes, skipped, query_decides}
use Rattle.mesa_model.specs.declared.entries.Kind.TheVariants as kind
use Rattle.mesa_core.proofs.vault.Vault.pin_query.Goals as goal

pub skip-requires-clause-due : goal.skip-requires-clause-due
skip-requires-clause-due g c κs within w =
    let N = g.N.Naming in
    let who = c.args.who in
    comes N.script (N.start no_rows) (N.start w) c.self.inside.engine.shown.history who.session who.command First is_query kind.Decide (N.alike w) refl query_decides
    (subst (λ (s : Stand). Asks N.script (run_at N.script (N.start no_rows) s.shown.history) who.session who.command First is_query) (sym c.self.view_is) c.requires.due)

pub returns-then-not-running : goal.returns-then-not-running
returns-then-not-running g c =
    let N = g.N.Naming in
    let who = c.args.who in
    let told = skipped N.script (N.start no_rows) c.self.inside.engine.shown c.args.self.now.shown c.skip.new.self.shown c.skip.new.self.shown who.session who.command kind.Decide (ap (λ (s : Stand). s.shown) c.self.view_is) refl
    (sym c.running.ensures ∙ c.if-not-running.true) c.skip.ensures.turn c.skip.ensures.draft c.skip.ensures.disk in
    record {
      turn = told.turn Finished;
      disk = λ low e grew is. absurd (told.disk low e grew is);
      files = λ words known. tt;
    }

pub words_of-words-requires : goal.words_of-words-requires
words_of-words-requires g c = sort_of g.N.Naming.script _ _ c.args.who.session c.args.who.command First is_query c.self.invariant.script c.requires.due

pub pin_query-requires-clause-due : goal.pin_query-requires-clause-due
pin_query-requires-clause-due g c κs within =
    let N = g.N.Naming in
    let who = c.args.who in
    due_of N.script _ (run_at N.script (N.start no_rows) c.self.inside.engine.shown.history) who.session who.command First is_query (command.Query c.words_of-words.result.now) c.self.invariant.script
    (subst (λ (s : Stand). Asks N.script (run_at N.script (N.start no_rows) s.shown.history) who.session who.command First is_query) (sym c.self.view_is) c.requires.due) c.words_of-words.ensures

pub returns : goal.returns
returns g c =
    let N = g.N.Naming in
    let who = c.args.who in
    let bytes = g.D.Reader.FileReader.bytes in
    let faults = g.D.Reader.FileReader.faults in
    let old = c.self.inside.engine.shown in
    let new = c.pin_query.new.engine.shown in
    let e = c.pin_query.ensures in
    record {
      turn = subst (λ (s : Stand). TakesQuery bytes N.script N.start (λ past. Tells N.sound) s.shown new who.session who.command c.pin_query.result) c.self.view_is
          (takes_query bytes N.script N.start N.sound old new who.session who.command c.words_of-words.result.now c.pin_query.result e.opened e.pinned e.turn e.seen (sym c.running.ensures ∙ c.if-not-running.false) e.over);
      disk = subst (λ (s : Stand). AnswersDisk N.script (N.start no_rows) s.shown new (SomeRose s.faults c.pin_query.new.engine.faults)) c.self.view_is e.disk;
      files = λ words known.
          let both : Some (command.Query c.words_of-words.result.now) ≡ Some (command.Query words) =
          sym c.words_of-words.ensures ∙ ap (λ (script : Script). command_at script who.session who.command) c.self.invariant.script ∙ known in
          let same : c.words_of-words.result.now ≡ words = cc in
          subst (λ (s : Stand). IfSome c.pin_query.result (HasItsFiles bytes faults s.told s.state who.session words)) c.self.view_is
          (subst (λ (asked : QueryWords). IfSome c.pin_query.result (HasItsFiles bytes faults c.self.inside.engine.told c.self.inside.engine.state who.session asked)) same e.files);
    }
