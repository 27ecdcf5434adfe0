use Rattle.std.proofs.Common.{◌≡◌, Err, true, length, not, sym, ap, ◌∙◌, subst, ◌++◌, ◌∷◌, [], true≢false, Some}
use Rattle.std.specs.Prelude.{OnOk, is_ok}
use Rattle.mesa_recast_turns.specs.mesa_history_spec.Run.{Granted, Renewed, Finished}
use Rattle.mesa_model.specs.declared.commands.Command.TheVariants as command
use Rattle.mesa_core.specs.Works.{HasMerged, WasGranted, known_task}
use Rattle.mesa_recast_turns.specs.mesa_work_turns.Swept.{ClaimHolds, HasStood, IsSwept}
use Rattle.mesa_recast_turns.specs.mesa_history_spec.Rows.{no_rows}
use Rattle.mesa_open_files.specs.Tasks.{claim_in}
use Rattle.mesa_open_files.specs.declared.merging.CompactError.TheVariants as compact
use Rattle.mesa_recast_turns.specs.mesa_invariant_spec.Turns.{AnswersDisk, AnswersDraft, Asks, SomeRose, is_merge, entry}
use Rattle.mesa_recast_turns.specs.mesa_invariant_spec.Invariant.{run_at}
use Rattle.mesa_recast_turns.specs.mesa_invariant_spec.Works.{closing_stage}
use Rattle.mesa_core.specs.Handing.{IsGranted}
use Rattle.mesa_core.specs.Vault.{Stand}
use Rattle.mesa_core.proofs.Due.{due_of, sort_of}
use Rattle.mesa_recast_turns.specs.mesa_history_spec.Claims.{is_live}
use Rattle.mesa_recast_turns.specs.mesa_lease.Book.{Book}
use Rattle.mesa_recast_turns.proofs.mesa_invariant_spec.Alike.{begun_alike}
use Rattle.mesa_core.proofs.Merged.{answers_more, finished_as, unmerged_differed, unmerged_failed, unmerged_whole}
use Rattle.mesa_core.proofs.Skipped.{comes, skipped, err_each}
use Rattle.mesa_core.proofs.Unmade.{on_ok}
use Rattle.mesa_recast_turns.proofs.mesa_invariant_spec.Working.{close_due}
use Rattle.mesa_recast_turns.proofs.Paid.{close_unanswered}
use Rattle.mesa_recast_turns.proofs.mesa_work_turns.Sweeping.{skipped_stood}
use Rattle.mesa_recast_turns.specs.mesa_invariant_spec.Printing.{IsPut}
use Rattle.mesa_recast_turns.specs.mesa_work_turns.Unmerged.{closing_cause}
use Rattle.mesa_recast_turns.specs.mesa_history_spec.Output.{block}
use Rattle.mesa_recast_turns.specs.mesa_invariant_spec.Causes.{outcome_of, reply_of, told_at}
use Rattle.mesa_model.specs.declared.entries.Kind.TheVariants as kind
use Rattle.mesa_core.proofs.vault.Vault.complete.Goals as goal

pub skip-requires-clause-due : goal.skip-requires-clause-due
skip-requires-clause-due g c κs within w =
    let N = g.N.Naming in
    let who = c.args.who in
    let early = not (is_ok c.args.merged) in
    let claim = claim_in c.args.task in
    comes N.script (N.start no_rows) (N.start w) c.self.inside.engine.shown.history who.session who.command (closing_stage early claim) is_merge kind.Close (N.alike w) (close_unanswered early claim) (λ asked is. close_due early claim asked)
    (subst (λ (s : Stand). Asks N.script (run_at N.script (N.start no_rows) s.shown.history) who.session who.command (closing_stage early claim) is_merge) (sym c.self.view_is) c.requires.due)

pub returns-then-not-running : goal.returns-then-not-running
returns-then-not-running g c =
    let N = g.N.Naming in
    let who = c.args.who in
    let told = skipped N.script (N.start no_rows) c.self.inside.engine.shown c.args.self.now.shown c.skip.new.self.shown c.give_back.new.engine.shown who.session who.command kind.Close (ap (λ (s : Stand). s.shown) c.self.view_is) c.give_back.ensures.shown
    (sym c.running.ensures ∙ c.if-not-running.true) c.skip.ensures.turn c.skip.ensures.draft c.skip.ensures.disk in
    record {
      turn = told.turn Finished;
      disk = λ low e grew is. absurd (told.disk low e grew is);
      draft = λ low e grew is. absurd (told.draft low e grew is);
      outcome = err_each c.args.merged _ (λ e on. absurd (true≢false (sym on ∙ told.failed)));
      prints = err_each c.args.merged _ (λ e on. absurd (true≢false (sym on ∙ told.failed)));
      swept = on_ok c.args.merged (λ stood holds. absurd (skipped_stood c.args.self.now.shown c.give_back.new.engine.shown who.session who.command (told.turn Finished).turn told.failed stood));
    }

pub work_of-words-requires : goal.work_of-words-requires
work_of-words-requires g c = sort_of g.N.Naming.script _ _ c.args.who.session c.args.who.command (closing_stage (not (is_ok c.args.merged)) (claim_in c.args.task)) is_merge c.self.invariant.script c.requires.due

pub complete-requires-clause-due : goal.complete-requires-clause-due
complete-requires-clause-due g c κs within =
    let N = g.N.Naming in
    let who = c.args.who in
    let claim = claim_in c.args.task in
    let due = subst (λ m. Asks N.script (run_at N.script (N.start no_rows) c.args.self.now.shown.history) who.session who.command (closing_stage (not (is_ok m)) claim) is_merge) c.in-Ok.is c.requires.due in
    due_of N.script _ (run_at N.script (N.start no_rows) c.self.inside.engine.shown.history) who.session who.command (Renewed claim) is_merge (command.Work c.work_of-words.result.now) c.self.invariant.script
    (subst (λ (s : Stand). Asks N.script (run_at N.script (N.start no_rows) s.shown.history) who.session who.command (Renewed claim) is_merge) (sym c.self.view_is) due) c.work_of-words.ensures

pub complete-requires-clause-table : goal.complete-requires-clause-table
complete-requires-clause-table g c κs within = c.requires.granted.was.low

pub complete-requires-clause-finished : goal.complete-requires-clause-finished
complete-requires-clause-finished g c κs within live =
    let N = g.N.Naming in
    let read = g.D.Reader.FileReader.bytes in
    let t = c.args.task in
    finished_as g.M.Made.bytes g.M.Made.id_of read g.D.Reader.FileReader.faults N.script N.start N.origin N.sound (N.origin no_rows).generation c.self.inside.engine.shown.history c.self.inside.engine.state.catalogue t c.in-Ok.delta c.catalogue.ensures
    (subst (λ (s : Stand). WasGranted (IsGranted read N.script N.start N.origin N.sound) s.shown.history (known_task read t)) (sym c.self.view_is) c.requires.granted)
    (subst (HasMerged g.M.Made.bytes g.M.Made.id_of read g.D.Reader.FileReader.faults t) c.in-Ok.is c.requires.merged)
    c.merges_are_known.ensures c.leases_hold.ensures c.ranges_go_on.ensures c.tables_go_on.ensures.becomes c.tables_become.ensures.grown c.claims.ensures.ranges
    (λ w past. begun_alike N.script (N.start no_rows) (N.start w) past t.table (N.alike w))
    (subst (λ (b : Book). is_live b t.table t.lease ≡ true) c.claims.ensures.leases live)

pub complete-requires-clause-told : goal.complete-requires-clause-told
complete-requires-clause-told g c κs within = c.self.invariant.told

pub give_up-requires-clause-due : goal.give_up-requires-clause-due
give_up-requires-clause-due g c κs within =
    let N = g.N.Naming in
    let who = c.args.who in
    let claim = claim_in c.args.task in
    let due = subst (λ m. Asks N.script (run_at N.script (N.start no_rows) c.args.self.now.shown.history) who.session who.command (closing_stage (not (is_ok m)) claim) is_merge) c.in-Err.is c.requires.due in
    due_of N.script _ (run_at N.script (N.start no_rows) c.self.inside.engine.shown.history) who.session who.command (Granted claim) is_merge (command.Work c.work_of-words.result.now) c.self.invariant.script
    (subst (λ (s : Stand). Asks N.script (run_at N.script (N.start no_rows) s.shown.history) who.session who.command (Granted claim) is_merge) (sym c.self.view_is) due) c.work_of-words.ensures

pub give_up-requires-clause-table : goal.give_up-requires-clause-table
give_up-requires-clause-table g c κs within = c.requires.granted.was.low

pub give_up-requires-clause-read : goal.give_up-requires-clause-read
give_up-requires-clause-read g c κs within is =
    let has = subst (HasMerged g.M.Made.bytes g.M.Made.id_of g.D.Reader.FileReader.bytes g.D.Reader.FileReader.faults c.args.task) c.in-Err.is c.requires.merged in
    unmerged_failed g.D.Reader.FileReader.bytes g.D.Reader.FileReader.faults has.0 c.args.task c.in-Err.error has.2 is

pub give_up-requires-clause-damaged : goal.give_up-requires-clause-damaged
give_up-requires-clause-damaged g c κs within =
    let has = subst (HasMerged g.M.Made.bytes g.M.Made.id_of g.D.Reader.FileReader.bytes g.D.Reader.FileReader.faults c.args.task) c.in-Err.is c.requires.merged in
    unmerged_differed g.D.Reader.FileReader.bytes g.D.Reader.FileReader.faults has.0 c.args.task c.in-Err.error has.2

pub give_up-requires-clause-undamaged : goal.give_up-requires-clause-undamaged
give_up-requires-clause-undamaged g c κs within w ok =
    let read = g.D.Reader.FileReader.bytes in
    let was = c.requires.granted.was in
    let has = subst (HasMerged g.M.Made.bytes g.M.Made.id_of read g.D.Reader.FileReader.faults c.args.task) c.in-Err.is c.requires.merged in
    unmerged_whole read g.D.Reader.FileReader.faults has.0 c.args.task c.in-Err.error has.2 (was.whole w ok) (c.bounds_are_known.ensures _ has.0 was.known has.1 (was.bounded w ok))

pub returns-in-Ok-clause-draft : goal.returns-in-Ok-clause-draft
returns-in-Ok-clause-draft g c =
    let N = g.N.Naming in
    let new = c.complete.new.engine.shown in
    subst (λ (s : Stand). AnswersDraft N.script (N.start no_rows) s.shown new c.args.who.session (c.args.merged ≡ Err compact.Draft)) c.self.view_is
    (answers_more N.script (N.start no_rows) c.self.inside.engine.shown new c.args.who.session (λ (never : ⊥). absurd never) c.complete.ensures.draft)

pub returns-in-Err-clause-draft : goal.returns-in-Err-clause-draft
returns-in-Err-clause-draft g c =
    let N = g.N.Naming in
    let new = c.give_up.new.engine.shown in
    subst (λ (s : Stand). AnswersDraft N.script (N.start no_rows) s.shown new c.args.who.session (c.args.merged ≡ Err compact.Draft)) c.self.view_is
    (answers_more N.script (N.start no_rows) c.self.inside.engine.shown new c.args.who.session (λ same. c.in-Err.is ∙ ap Err same) c.give_up.ensures.draft)

pub returns-in-Ok-clause-swept : goal.returns-in-Ok-clause-swept
returns-in-Ok-clause-swept g c =
    let who = c.args.who in
    let claim = claim_in c.args.task in
    let now = c.complete.new.engine in
    subst (λ m. OnOk m (HasStood c.args.self.now.shown now.shown who.session who.command → ClaimHolds c.args.self.now.state (length c.args.self.now.shown.history) claim → IsSwept now.told now.state now.shown.history)) (sym c.in-Ok.is)
    (subst (λ (s : Stand). HasStood s.shown now.shown who.session who.command → ClaimHolds s.state (length s.shown.history) claim → IsSwept now.told now.state now.shown.history) c.self.view_is c.complete.ensures.swept)

pub returns-in-Ok-clause-disk : goal.returns-in-Ok-clause-disk
returns-in-Ok-clause-disk g c =
    let N = g.N.Naming in
    let now = c.complete.new.engine in
    subst (λ (s : Stand). AnswersDisk N.script (N.start no_rows) s.shown now.shown (SomeRose s.faults now.faults)) c.self.view_is c.complete.ensures.disk

pub returns-in-Err-clause-disk : goal.returns-in-Err-clause-disk
returns-in-Err-clause-disk g c =
    let N = g.N.Naming in
    let now = c.give_up.new.engine in
    subst (λ (s : Stand). AnswersDisk N.script (N.start no_rows) s.shown now.shown (SomeRose s.faults now.faults)) c.self.view_is c.give_up.ensures.disk

pub returns-in-Err-clause-outcome : goal.returns-in-Err-clause-outcome
returns-in-Err-clause-outcome g c =
    let who = c.args.who in
    let new = c.give_up.new.engine.shown in
    rw c.in-Err.is (λ on. subst (λ (s : Stand). new.history ≡ s.shown.history ++ entry who.session who.command kind.Close (outcome_of (closing_cause s.state.closed c.in-Err.error)) new.clock ∷ []) c.self.view_is c.give_up.ensures.outcome)

pub returns-in-Err-clause-prints : goal.returns-in-Err-clause-prints
returns-in-Err-clause-prints g c =
    let who = c.args.who in
    let e = c.in-Err.error in
    let new = c.give_up.new.engine in
    rw c.in-Err.is (λ on. subst (λ (s : Stand). IsPut (block (entry who.session who.command kind.Close (outcome_of (closing_cause s.state.closed e)) new.shown.clock) (Some (told_at (length s.shown.history) (reply_of (closing_cause s.state.closed e))))) new.shown.running s.sink new.sink) c.self.view_is c.give_up.ensures.prints)
