use Rattle.std.proofs.Common.{◌≡◌, ◌⊎◌, ◌++◌, ◌∷◌, [], length, refl, sym, ap, ◌∙◌, subst, true, Some, Ok, Err, true≢false}
use Rattle.std.proofs.lemmas.Result.{on_ok_weaker}
use Rattle.std.specs.Prelude.{IfErr, OnOk}
use Rattle.mesa_delta.specs.declared.error.FileError.TheVariants as file_error
use Rattle.mesa_core.specs.Recasts.{HasRegrouped, known_recast}
use Rattle.mesa_core.specs.Works.{WasGranted}
use Rattle.mesa_recast_turns.specs.mesa_file_records.Recasts.{meta_of_recast}
use Rattle.mesa_recast_turns.specs.mesa_history_spec.Machine.{still_checked}
use Rattle.mesa_recast_turns.specs.mesa_history_spec.Run.{Renewed, Finished}
use Rattle.mesa_model.specs.declared.commands.Command.TheVariants as command
use Rattle.mesa_model.specs.declared.entries.Kind.TheVariants as kind
use Rattle.mesa_recast_turns.specs.mesa_work_turns.Swept.{ClaimHolds, HasStood, IsSwept}
use Rattle.mesa_recast_turns.specs.mesa_work_turns.Unmerged.{closing_cause}
use Rattle.mesa_recast_turns.specs.Rested.{HasUnpaid}
use Rattle.mesa_recast_turns.specs.mesa_schema.Changes.{epoch_of}
use Rattle.mesa_recast_turns.specs.mesa_history_spec.Rows.{no_rows}
use Rattle.mesa_open_files.specs.Recasts.{claim_of_recast, recast_in}
use Rattle.mesa_open_files.specs.declared.merging.CompactError.TheVariants as compact
use Rattle.mesa_recast_turns.specs.mesa_history_spec.Output.{block}
use Rattle.mesa_recast_turns.specs.mesa_invariant_spec.Causes.{outcome_of, reply_of, told_at}
use Rattle.mesa_recast_turns.specs.mesa_invariant_spec.Printing.{IsPut}
use Rattle.mesa_recast_turns.specs.mesa_invariant_spec.Turns.{AnswersDisk, AnswersDraft, Asks, SomeRose, entry, is_recast}
use Rattle.mesa_recast_turns.specs.mesa_invariant_spec.Invariant.{run_at}
use Rattle.mesa_recast_turns.specs.mesa_invariant_spec.Works.{closing_stage}
use Rattle.mesa_core.specs.Handing.{AllAreRested, IsRecastGranted, IsRecastHeld}
use Rattle.mesa_core.specs.Vault.{Stand}
use Rattle.mesa_core.proofs.Due.{due_of, sort_of}
use Rattle.mesa_core.proofs.Catalogue.{lineage_is}
use Rattle.mesa_core.proofs.Unmade.{made_differed, made_is, made_read, made_whole, on_ok}
use Rattle.mesa_core.proofs.Skipped.{comes, skipped, err_each, err_also}
use Rattle.mesa_recast_turns.proofs.mesa_invariant_spec.Working.{close_due}
use Rattle.mesa_recast_turns.proofs.Paid.{close_unanswered}
use Rattle.mesa_recast_turns.proofs.mesa_work_turns.Sweeping.{skipped_stood}
use Rattle.mesa_core.proofs.vault.Vault.recast.Goals as goal

pub skip-requires-clause-due : goal.skip-requires-clause-due
skip-requires-clause-due g c κs within w =
    let N = g.N.Naming in
    let who = c.args.who in
    let early = c.requires.due.0 in
    let claim = claim_of_recast c.args.task in
    comes N.script (N.start no_rows) (N.start w) c.self.inside.engine.shown.history who.session who.command (closing_stage early claim) is_recast kind.Close (N.alike w) (close_unanswered early claim) (λ asked is. close_due early claim asked)
    (subst (λ (s : Stand). Asks N.script (run_at N.script (N.start no_rows) s.shown.history) who.session who.command (closing_stage early claim) is_recast) (sym c.self.view_is) c.requires.due.1)

pub returns-then-not-running : goal.returns-then-not-running
returns-then-not-running g c =
    let N = g.N.Naming in
    let who = c.args.who in
    let told = skipped N.script (N.start no_rows) c.self.inside.engine.shown c.args.self.now.shown c.skip.new.self.shown c.give_back_recast.new.engine.shown who.session who.command kind.Close (ap (λ (s : Stand). s.shown) c.self.view_is) c.give_back_recast.ensures.shown
    (sym c.running.ensures ∙ c.if-not-running.true) c.skip.ensures.turn c.skip.ensures.draft c.skip.ensures.disk in
    record {
      turn = told.turn Finished;
      disk = λ low e grew is. absurd (told.disk low e grew is);
      draft = λ low e grew is. absurd (told.draft low e grew is);
      outcome = err_each c.args.made _ (λ e on. absurd (true≢false (sym on ∙ told.failed)));
      prints = err_each c.args.made _ (λ e on. absurd (true≢false (sym on ∙ told.failed)));
      swept = on_ok c.args.made (λ stood holds still. absurd (skipped_stood c.args.self.now.shown c.give_back_recast.new.engine.shown who.session who.command (told.turn Finished).turn told.failed stood));
    }

pub recast_of-words-requires : goal.recast_of-words-requires
recast_of-words-requires g c = sort_of g.N.Naming.script _ _ c.args.who.session c.args.who.command (closing_stage c.requires.due.0 (claim_of_recast c.args.task)) is_recast c.self.invariant.script c.requires.due.1

pub held-requires-clause-granted : goal.held-requires-clause-granted
held-requires-clause-granted g c κs within =
    let N = g.N.Naming in
    let read = g.D.Reader.FileReader.bytes in
    subst (λ (s : Stand). WasGranted (IsRecastGranted read N.script N.start N.origin N.sound) s.shown.history (known_recast read c.args.task) ⊎ IsRecastHeld read N.script N.start N.origin N.sound s.shown.history (known_recast read c.args.task)) (sym c.self.view_is) c.requires.granted

pub recast-requires-clause-due : goal.recast-requires-clause-due
recast-requires-clause-due g c κs within =
    let N = g.N.Naming in
    let who = c.args.who in
    let stage = closing_stage c.requires.due.0 (claim_of_recast c.args.task) in (
      c.requires.due.0,
      due_of N.script _ (run_at N.script (N.start no_rows) c.self.inside.engine.shown.history) who.session who.command stage is_recast (command.Recast c.recast_of-words.result.now) c.self.invariant.script
          (subst (λ (s : Stand). Asks N.script (run_at N.script (N.start no_rows) s.shown.history) who.session who.command stage is_recast) (sym c.self.view_is) c.requires.due.1) c.recast_of-words.ensures,
    )

pub recast-requires-clause-table : goal.recast-requires-clause-table
recast-requires-clause-table g c κs within = c.held.ensures.low

pub recast-requires-clause-renewed : goal.recast-requires-clause-renewed
recast-requires-clause-renewed g c κs within =
    let N = g.N.Naming in
    let who = c.args.who in
    let stage = Renewed (claim_of_recast c.args.task) in
    on_ok_weaker c.args.made
    (λ (asks : Asks N.script (run_at N.script (N.start no_rows) c.args.self.now.shown.history) who.session who.command stage is_recast).
    due_of N.script _ (run_at N.script (N.start no_rows) c.self.inside.engine.shown.history) who.session who.command stage is_recast (command.Recast c.recast_of-words.result.now) c.self.invariant.script
    (subst (λ (s : Stand). Asks N.script (run_at N.script (N.start no_rows) s.shown.history) who.session who.command stage is_recast) (sym c.self.view_is) asks) c.recast_of-words.ensures)
    c.requires.renewed

pub recast-requires-clause-rested : goal.recast-requires-clause-rested
recast-requires-clause-rested g c κs within =
    let read = g.D.Reader.FileReader.bytes in
    let k = known_recast read c.args.task in
    on_ok_weaker c.args.made
    (λ (rested : (c.self.inside.engine.shown.running ≡ true) → AllAreRested read c.self.inside.engine.state k). rested (sym c.running.ensures ∙ c.if-not-running.false) c.args.task refl c.requires.task.task)
    (subst (λ (s : Stand). OnOk c.args.made ((s.shown.running ≡ true) → AllAreRested read s.state k)) (sym c.self.view_is) c.requires.rested)

pub recast-requires-clause-rewritten : goal.recast-requires-clause-rewritten
recast-requires-clause-rewritten g c κs within = made_is g.M.Made.bytes g.M.Made.id_of g.D.Reader.FileReader.bytes g.D.Reader.FileReader.faults c.args.task _ c.args.made c.requires.made

pub recast-requires-clause-ranges : goal.recast-requires-clause-ranges
recast-requires-clause-ranges g c κs within =
    let N = g.N.Naming in
    let now = c.self.inside.engine in
    let t = c.args.task in
    on_ok c.args.made (λ w ok same. c.held.ensures.ranges w ok (ap epoch_of (sym (lineage_is N.script N.start (N.origin no_rows).generation now.shown.history now.state.catalogue c.catalogue.ensures t.table)) ∙ same) t refl)

pub recast-requires-clause-read : goal.recast-requires-clause-read
recast-requires-clause-read g c κs within =
    let N = g.N.Naming in
    let read = g.D.Reader.FileReader.bytes in
    let faults = g.D.Reader.FileReader.faults in
    made_read g.M.Made.bytes g.M.Made.id_of read faults c.args.task _ c.args.made
    (subst (λ (s : Stand). HasRegrouped g.M.Made.bytes g.M.Made.id_of read faults c.args.task c.args.made ⊎ ((c.args.made ≡ Err (compact.File file_error.Read)) × HasUnpaid N.script N.start N.counted s.shown s.faults)) (sym c.self.view_is) c.requires.made)

pub recast-requires-clause-damaged : goal.recast-requires-clause-damaged
recast-requires-clause-damaged g c κs within = made_differed g.M.Made.bytes g.M.Made.id_of g.D.Reader.FileReader.bytes g.D.Reader.FileReader.faults c.args.task _ c.args.made c.requires.made

pub recast-requires-clause-undamaged : goal.recast-requires-clause-undamaged
recast-requires-clause-undamaged g c κs within =
    made_whole g.M.Made.bytes g.M.Made.id_of g.D.Reader.FileReader.bytes g.D.Reader.FileReader.faults c.args.task _ c.args.made c.requires.made c.held.ensures.whole (λ w ok. c.held.ensures.bounded w ok c.args.task refl)

pub recast-requires-clause-told : goal.recast-requires-clause-told
recast-requires-clause-told g c κs within = c.self.invariant.told

pub returns-clause-disk : goal.returns-clause-disk
returns-clause-disk g c =
    let N = g.N.Naming in
    let now = c.recast.new.engine in
    subst (λ (s : Stand). AnswersDisk N.script (N.start no_rows) s.shown now.shown (SomeRose s.faults now.faults ⊎ (c.args.made ≡ Err (compact.File file_error.Read)))) c.self.view_is c.recast.ensures.disk

pub returns-clause-draft : goal.returns-clause-draft
returns-clause-draft g c =
    let N = g.N.Naming in
    let new = c.recast.new.engine.shown in
    subst (λ (s : Stand). AnswersDraft N.script (N.start no_rows) s.shown new c.args.who.session (c.args.made ≡ Err compact.Draft)) c.self.view_is c.recast.ensures.draft

pub returns-clause-outcome : goal.returns-clause-outcome
returns-clause-outcome g c =
    let who = c.args.who in
    let new = c.recast.new.engine.shown in
    subst (λ (s : Stand). IfErr c.args.made (λ e. (s.shown.running ≡ true) → new.history ≡ s.shown.history ++ entry who.session who.command kind.Close (outcome_of (closing_cause s.state.closed e)) new.clock ∷ [])) c.self.view_is (err_also (c.self.inside.engine.shown.running ≡ true) c.args.made _ c.recast.ensures.outcome)

pub returns-clause-prints : goal.returns-clause-prints
returns-clause-prints g c =
    let who = c.args.who in
    let new = c.recast.new.engine in
    subst (λ (s : Stand). IfErr c.args.made (λ e. (s.shown.running ≡ true)
    → IsPut (block (entry who.session who.command kind.Close (outcome_of (closing_cause s.state.closed e)) new.shown.clock) (Some (told_at (length s.shown.history) (reply_of (closing_cause s.state.closed e))))) new.shown.running s.sink new.sink)) c.self.view_is (err_also (c.self.inside.engine.shown.running ≡ true) c.args.made _ c.recast.ensures.prints)

pub returns-clause-swept : goal.returns-clause-swept
returns-clause-swept g c =
    let who = c.args.who in
    let t = c.args.task in
    let now = c.recast.new.engine in
    subst (λ (s : Stand). OnOk c.args.made (HasStood s.shown now.shown who.session who.command → ClaimHolds s.state (length s.shown.history) (claim_of_recast t) → still_checked (meta_of_recast s.state t).lineage t.epoch (recast_in t) ≡ Ok tt
    → IsSwept now.told now.state now.shown.history)) c.self.view_is c.recast.ensures.swept
