-- A session is cut off by a skipped turn alone, and how a run ends.
use Rattle.std.proofs.Common.{◌≡◌, ℕ, zero, suc, ◌+◌, ◌<◌, ◌≤◌, ◌||◌, ◌&&◌, ne_eqb, true, false, Bool, IsTrue, List, [], ◌∷◌, length, refl, sym, ap, ◌∙◌, arith, true≢false, Result, Ok, Err}
use Rattle.std.specs.Prelude.{not}
use Rattle.std.specs.List.{list_all, range_with_len}
use mathlib.Core.Logic.{dite}
use native.Mathlib.Decide.{ℕ_discrete}
use Rattle.mesa_script.specs.mesa_model.declared.commands.Command.{Command}
use Rattle.mesa_script.specs.mesa_model.declared.commands.Command.TheVariants as command
use Rattle.mesa_script.specs.mesa_model.declared.commands.Script.{Script}
use Rattle.mesa_script.specs.mesa_model.declared.entries.Entry.{Entry}
use Rattle.mesa_script.specs.mesa_model.declared.entries.Kind.{Kind}
use Rattle.mesa_script.specs.mesa_model.declared.entries.Kind.TheVariants as kind
use Rattle.mesa_script.specs.mesa_model.declared.entries.Outcome.{Outcome}
use Rattle.mesa_script.specs.mesa_model.declared.entries.Outcome.TheVariants as outcome
use Rattle.mesa_script.specs.mesa_model.declared.replies.Reply.{Reply}
use Rattle.mesa_script.specs.mesa_model.declared.replies.Refusal.{Refusal}
use Rattle.mesa_script.specs.mesa_model.declared.replies.Refusal.TheVariants as no
use Rattle.mesa_script.specs.mesa_schema.Recasts.{Recast}
use Rattle.mesa_script.specs.mesa_model.Warehouse.{table_at}
use Rattle.mesa_script.specs.mesa_model.Query.{Answer, query_answer}
use Rattle.mesa_history_spec.specs.Machine.{Claim, Errand, Merges, Recasts, claim_checked, still_checked, explained}
use Rattle.mesa_history_spec.specs.Run.{State, Stage, First, Looked, Answered, Granted, Renewed, CutOff, Finished, Place, Last, Silent, Printed, Skipped, Run, place_of, begins}
use Rattle.mesa_history_spec.specs.Replay.{Turned, turned, turn_of, standing, decide, decided_query, decided_explain, close, completes, does, recasts, grants, claim_asked, renews, renew, refused_turn, place_after, last_of, is_skip, is_skipped, closed_if, closes, some_damage, go, runs}
use Rattle.mesa_history_spec.specs.Legal.{Fits, AllFit, IsLegal, is_due_at, fits_sink, is_complete, is_cut_off_at, is_cut_off, is_silent, last_skipped, has_ended, ends_well, sessions_of}
use Rattle.mesa_history_spec.proofs.More.{turned_is, last_after}
use Rattle.mesa_history_spec.proofs.Places.{place_of-go, place_of-other}
use Rattle.mesa_history_spec.proofs.Due.{due_turn}

-- ---- a session is cut off by a skipped turn alone

-- a stage that isn't the one of a session that was cut off
abbrev Goes : Stage → Type 0
Goes stage = is_cut_off_at stage ≡ true → ⊥

never : false ≡ true → ⊥
never same = true≢false (sym same)

query_goes : (position : ℕ) (s : State) (o : Result Answer Refusal) → Goes (decided_query position s o).stage
query_goes position s (Ok answer) = never
query_goes position s (Err refusal) = never

explain_goes : (position : ℕ) (s : State) (o : Result Reply Refusal) → Goes (decided_explain position s o).stage
explain_goes position s (Ok r) = never
explain_goes position s (Err refusal) = never

decide_goes : (position : ℕ) (s : State) (session : ℕ) (c : Command) → Goes (decide position s session c).stage
decide_goes position s session (command.Query words) = query_goes position s (query_answer s.warehouse session words)
decide_goes position s session (command.Explain words) = explain_goes position s (explained s.warehouse s.machine words)
decide_goes position s session (command.Table words) = never
decide_goes position s session (command.View words) = never
decide_goes position s session (command.Alter words) = never
decide_goes position s session (command.Load rows) = never
decide_goes position s session (command.Pin version) = never
decide_goes position s session (command.Release token) = never
decide_goes position s session (command.Expire table version) = never
decide_goes position s session (command.Work words) = never
decide_goes position s session (command.Recast words) = never

recasts_goes : (position : ℕ) (s : State) (claim : Claim) (r : Recast) (o : Result (Unit {0}) Refusal) → Goes (recasts position s claim r o).stage
recasts_goes position s claim r (Ok ok) = never
recasts_goes position s claim r (Err refusal) = never

does_goes : (position : ℕ) (s : State) (claim : Claim) (errand : Errand) → Goes (does position s claim errand).stage
does_goes position s claim (Merges work) = never
does_goes position s claim (Recasts epoch r) = recasts_goes position s claim r (still_checked (table_at s.warehouse.store claim.table).lineage epoch r)

completes_goes : (position : ℕ) (s : State) (claim : Claim) (o : Result (Unit {0}) Refusal) → Goes (completes position s claim o).stage
completes_goes position s claim (Ok ok) = does_goes position s claim claim.errand
completes_goes position s claim (Err refusal) = never

close_goes : (position : ℕ) (s : State) (stage : Stage) → Goes stage → Goes (close position s stage).stage
close_goes position s (Answered at answer) goes = never
close_goes position s (Granted claim) goes = completes_goes position s claim (claim_checked s.warehouse s.machine position claim)
close_goes position s (Renewed claim) goes = completes_goes position s claim (claim_checked s.warehouse s.machine position claim)
close_goes position s First goes = goes
close_goes position s Looked goes = goes
close_goes position s Finished goes = goes
close_goes position s CutOff goes = goes

grants_goes : (position : ℕ) (s : State) (o : Result Claim Reply) → Goes (grants position s o).stage
grants_goes position s (Ok claim) = never
grants_goes position s (Err r) = never

renews_goes : (position : ℕ) (s : State) (claim : Claim) (o : Result (Unit {0}) Refusal) → Goes (renews position s claim o).stage
renews_goes position s claim (Ok ok) = never
renews_goes position s claim (Err refusal) = never

renew_goes : (position : ℕ) (s : State) (stage : Stage) → Goes stage → Goes (renew position s stage).stage
renew_goes position s (Granted claim) goes = renews_goes position s claim (claim_checked s.warehouse s.machine position claim)
renew_goes position s (Answered at answer) goes = goes
renew_goes position s (Renewed claim) goes = goes
renew_goes position s First goes = goes
renew_goes position s Looked goes = goes
renew_goes position s Finished goes = goes
renew_goes position s CutOff goes = goes

standing_goes : (position : ℕ) (s : State) (session : ℕ) (c : Command) (k : Kind) (stage : Stage) → Goes stage → Goes (standing position s session c k stage).stage
standing_goes position s session c kind.Look stage goes = never
standing_goes position s session c kind.Decide stage goes = decide_goes position s session c
standing_goes position s session c kind.Close stage goes = close_goes position s stage goes
standing_goes position s session c kind.Grant stage goes = grants_goes position s (claim_asked s.warehouse s.machine position c)
standing_goes position s session c kind.Renew stage goes = renew_goes position s stage goes

refused_goes : (position : ℕ) (s : State) (k : Kind) (stage : Stage) (refusal : Refusal) → Goes (refused_turn position s k stage refusal).stage
refused_goes position s kind.Look stage refusal = never
refused_goes position s kind.Decide stage refusal = never
refused_goes position s kind.Close stage refusal = never
refused_goes position s kind.Grant stage refusal = never
refused_goes position s kind.Renew stage refusal = never

turn_cut : (r : Run) (c : Command) (e : Entry) (stage : Stage) (o : Outcome) → Goes stage → is_cut_off_at (turn_of r c e stage o).stage ≡ true → is_skip o ≡ true
turn_cut r c e stage outcome.Skipped goes cut = refl
turn_cut r c e stage outcome.Stands goes cut = absurd (standing_goes r.position r.state e.session c e.kind stage goes cut)
turn_cut r c e stage outcome.Memory goes cut = absurd (refused_goes r.position r.state e.kind stage no.Memory cut)
turn_cut r c e stage outcome.ReadFault goes cut = absurd (refused_goes r.position r.state e.kind stage no.ReadFault cut)
turn_cut r c e stage outcome.WriteFault goes cut = absurd (refused_goes r.position (closed_if (closes r.moment e) r.position r.state) e.kind stage no.WriteFault cut)
turn_cut r c e stage outcome.Damaged goes cut = absurd (refused_goes r.position r.state e.kind stage (no.Damaged some_damage) cut)

due_goes : (c : Command) (stage : Stage) (k : Kind) → is_due_at c stage k ≡ true → Goes stage
due_goes c First k due = never
due_goes c Looked k due = never
due_goes c (Answered at answer) k due = never
due_goes c (Granted claim) k due = never
due_goes c (Renewed claim) k due = never
due_goes c Finished k due = never
due_goes c CutOff k due = λ cut. never due

after_cut : (number : ℕ) (stage : Stage) → is_cut_off_at (place_after number stage).stage ≡ true → is_cut_off_at stage ≡ true
after_cut number First cut = cut
after_cut number Looked cut = cut
after_cut number (Answered at answer) cut = cut
after_cut number (Granted claim) cut = cut
after_cut number (Renewed claim) cut = cut
after_cut number Finished cut = cut
after_cut number CutOff cut = cut

-- where a session was cut off, the last turn was skipped
abbrev pub CutsLast : Run → Type 0
CutsLast r = (session : ℕ) → is_cut_off r session ≡ true → r.last ≡ Skipped

cut_go : (script : Script) (r : Run) (e : Entry) → Fits script r e → CutsLast r → CutsLast (go script r e)
cut_go script r e fits cuts session is = last_after script r e ∙ ap (λ b. last_of b (turned script r e).told) (dite (ℕ_discrete session e.session)
    (λ same.
    let turn = due_turn script r e fits.due in
    let here : is_cut_off_at (place_after (place_of r e.session).number (turned script r e).stage).stage ≡ true =
    ap (λ (p : Place). is_cut_off_at p.stage) (sym (ap (place_of (go script r e)) same ∙ place_of-go script r e)) ∙ is in
    let cut : is_cut_off_at (turned script r e).stage ≡ true = after_cut (place_of r e.session).number (turned script r e).stage here in
    turn_cut r turn.command e (place_of r e.session).stage e.outcome (due_goes turn.command (place_of r e.session).stage e.kind turn.due)
    (ap (λ (t : Turned). is_cut_off_at t.stage) (sym (turned_is script r e turn.command turn.known)) ∙ cut))
    (λ other.
    let before : r.last ≡ Skipped = cuts session (ap (λ (p : Place). is_cut_off_at p.stage) (sym (place_of-other script r e session (ne_eqb session e.session other))) ∙ is) in
    ap (λ l. fits_sink l (is_skipped e)) (sym before) ∙ fits.sink))

cut_runs : (script : Script) (r : Run) (h : List Entry) → AllFit script r h → CutsLast r → CutsLast (runs script r h)
unfolding AllFit runs
cut_runs script r [] all cuts = cuts
cut_runs script r (e ∷ h) all cuts = cut_runs script (go script r e) h all.1 (cut_go script r e all.0 cuts)

cut_begins : (start : State) → CutsLast (begins start)
unfolding place_of
cut_begins start session is = absurd (never is)

-- In a history that a run may have, the last turn was skipped where a session was cut off.
pub cut_off_last : (script : Script) (start : State) (h : List Entry) → AllFit script (begins start) h → CutsLast (runs script (begins start) h)
cut_off_last script start h all = cut_runs script (begins start) h all (cut_begins start)

-- ---- how a run ends

all_within : (f : ℕ → Bool) (a n : ℕ) → ((s : ℕ) → a ≤ s → s < a + n → f s ≡ true) → list_all f (range_with_len a n) ≡ true
all_within f a zero h = refl
all_within f a (suc n) h = (λ i. h a (omega arith) (omega arith) i && all_within f (a + 1) n (λ s le lt. h s (omega (arith, le)) (omega (arith, lt))) i)

not_skipped : (l : Last) → IsTrue (fits_sink l false) → not (last_skipped l) ≡ true
not_skipped Silent fits = refl
not_skipped Printed fits = refl
not_skipped Skipped fits = fits

not_silent : (l : Last) → IsTrue (fits_sink l true) → not (is_silent l) ≡ true
not_silent Silent fits = fits
not_silent Printed fits = refl
not_silent Skipped fits = refl

complete_or : (a b : Bool) → (a || b) ≡ true → (b ≡ true → ⊥) → a ≡ true
complete_or true b is no_b = refl
complete_or false b is no_b = absurd (no_b is)

ends : (script : Script) (r : Run) (failed : Bool) → IsTrue (fits_sink r.last failed) → CutsLast r → ((s : ℕ) → s < length script.sessions → IsTrue (has_ended script r s)) → IsTrue (ends_well failed script r)
ends script r false sink cuts ended =
    let all : list_all (is_complete script r) (sessions_of script) ≡ true = all_within (is_complete script r) 0 (length script.sessions) (λ s le lt. complete_or (is_complete script r s) (is_cut_off r s) (ended s (omega (arith, lt)))
    (λ cut. never (ap (λ (l : Last). fits_sink l false) (sym (cuts s cut)) ∙ sink))) in
    (λ i. not_skipped r.last sink i && all i)
ends script r true sink cuts ended =
    let all : list_all (has_ended script r) (sessions_of script) ≡ true = all_within (has_ended script r) 0 (length script.sessions) (λ s le lt. ended s (omega (arith, lt))) in
    (λ i. not_silent r.last sink i && all i)

-- A history each of whose entries the run may have is legal once all sessions have ended, and the sink failed where the next turn would be skipped.
pub legal_ended : (start : State) (script : Script) (h : List Entry) (failed : Bool) → AllFit script (begins start) h → IsTrue (fits_sink (runs script (begins start) h).last failed)
    → ((session : ℕ) → session < length script.sessions → IsTrue (has_ended script (runs script (begins start) h) session)) → IsLegal start script h failed
legal_ended start script h failed each sink ended = record { each = each; ends = ends script (runs script (begins start) h) failed sink (cut_off_last script start h each) ended }
