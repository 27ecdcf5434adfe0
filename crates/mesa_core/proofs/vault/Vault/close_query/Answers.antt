use Rattle.std.proofs.Common.{sym, subst, ◌≡◌, ◌∙◌, ◌++◌, ◌∷◌, [], refl, ap, true≢false}
use Rattle.mesa_core.specs.Handing.{Tells}
use Rattle.mesa_core.specs.Vault.{Stand}
use Rattle.mesa_core.proofs.Handed.{has_differed, has_failed, none_damaged, to_close}
use Rattle.mesa_core.specs.Pins.{IsOpenQuery, known_pin}
use Rattle.mesa_recast_turns.specs.mesa_invariant_spec.Turns.{AnswersDisk, SomeRose}
use Rattle.mesa_recast_turns.specs.mesa_history_spec.Rows.{no_rows}
use Rattle.mesa_core.proofs.Skipped.{comes, skipped}
use Rattle.mesa_recast_turns.specs.mesa_history_spec.Run.{Finished, Answered}
use Rattle.mesa_recast_turns.specs.mesa_read_turns.Closing.{closing_entry, closing_text}
use Rattle.mesa_recast_turns.specs.mesa_invariant_spec.Printing.{IsPut}
use Rattle.mesa_model.specs.declared.commands.Command.TheVariants as command
use Rattle.mesa_model.specs.declared.entries.Kind.TheVariants as kind
use Rattle.mesa_core.proofs.vault.Vault.close_query.Goals as goal

pub skip-requires-clause-due : goal.skip-requires-clause-due
skip-requires-clause-due g c κs within w =
    let N = g.N.Naming in
    let who = c.args.who in
    let at = c.args.pinned.at in
    let open' = subst (λ (s : Stand). IsOpenQuery N.script N.start s.shown.history who.session who.command at (λ past. Tells N.sound (known_pin g.D.Reader.FileReader.bytes c.args.pinned))) (sym c.self.view_is) c.requires.open in
    let opened = open'.opened w in
    record { asked = command.Query open'.words; stage = Answered at opened.answer; due = opened.due; comes = refl }

pub returns-then-not-running : goal.returns-then-not-running
returns-then-not-running g c =
    let N = g.N.Naming in
    let who = c.args.who in
    let told = skipped N.script (N.start no_rows) c.self.inside.engine.shown c.args.self.now.shown c.skip.new.self.shown c.give_back_query.new.engine.shown who.session who.command kind.Close (ap (λ (s : Stand). s.shown) c.self.view_is) c.give_back_query.ensures.shown
    (sym c.running.ensures ∙ c.if-not-running.true) c.skip.ensures.turn c.skip.ensures.draft c.skip.ensures.disk in
    record {
      turn = told.turn Finished;
      disk = λ low e grew is. absurd (told.disk low e grew is);
      outcome = λ on. absurd (true≢false (sym on ∙ told.failed));
      prints = λ on. absurd (true≢false (sym on ∙ told.failed));
    }

pub close_query-requires-clause-due : goal.close_query-requires-clause-due
close_query-requires-clause-due g c κs within w =
    let N = g.N.Naming in
    let who = c.args.who in
    let shown = c.self.inside.engine.shown in
    let bytes = g.D.Reader.FileReader.bytes in
    to_close bytes g.D.Reader.FileReader.faults c.args.pinned N.script N.start N.sound shown.history who.session who.command c.args.answer
    (subst (λ (s : Stand). IsOpenQuery N.script N.start s.shown.history who.session who.command c.args.pinned.at (λ past. Tells N.sound (known_pin bytes c.args.pinned))) (sym c.self.view_is) c.requires.open)
    c.requires.answer w

pub close_query-requires-clause-damaged : goal.close_query-requires-clause-damaged
close_query-requires-clause-damaged g c κs within = has_differed g.D.Reader.FileReader.bytes g.D.Reader.FileReader.faults c.args.pinned c.args.answer c.requires.answer

pub close_query-requires-clause-read : goal.close_query-requires-clause-read
close_query-requires-clause-read g c κs within = has_failed g.D.Reader.FileReader.bytes g.D.Reader.FileReader.faults c.args.pinned c.args.answer c.requires.answer

pub close_query-requires-clause-undamaged : goal.close_query-requires-clause-undamaged
close_query-requires-clause-undamaged g c κs within w ok =
    let o = c.requires.open.opened w in
    none_damaged g.D.Reader.FileReader.bytes g.D.Reader.FileReader.faults c.args.pinned c.args.answer o.answer c.requires.answer (o.told.1 ok)

pub returns-clause-disk : goal.returns-clause-disk
returns-clause-disk g c =
    let N = g.N.Naming in
    let now = c.close_query.new.engine in
    subst (λ (s : Stand). AnswersDisk N.script (N.start no_rows) s.shown now.shown (SomeRose s.faults now.faults)) c.self.view_is c.close_query.ensures.disk

pub returns-clause-outcome : goal.returns-clause-outcome
returns-clause-outcome g c on =
    let who = c.args.who in
    let new = c.close_query.new.engine.shown in
    subst (λ (s : Stand). new.history ≡ s.shown.history ++ closing_entry who.session who.command c.args.answer new.clock ∷ []) c.self.view_is c.close_query.ensures.outcome

pub returns-clause-prints : goal.returns-clause-prints
returns-clause-prints g c on =
    let who = c.args.who in
    let new = c.close_query.new.engine in
    subst (λ (s : Stand). IsPut (closing_text (closing_entry who.session who.command c.args.answer new.shown.clock) c.args.pinned.at c.args.pinned.version c.args.answer) new.shown.running s.sink new.sink) c.self.view_is c.close_query.ensures.prints
