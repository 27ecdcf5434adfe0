-- A turn does the same to a run without rows: it tells the same but for a page's rows, leaves the session at the same stage, and the same projection.
use Rattle.std.proofs.Common.{◌≡◌, ℕ, Bool, true, false, refl, sym, ◌∙◌, ap, Option, Some, None, Result, Ok, Err}
use Rattle.mesa_script.specs.mesa_model.declared.commands.Command.{Command}
use Rattle.mesa_script.specs.mesa_model.declared.commands.Command.TheVariants as command
use Rattle.mesa_script.specs.mesa_model.declared.commands.Script.{Script}
use Rattle.mesa_script.specs.mesa_model.declared.entries.Entry.{Entry}
use Rattle.mesa_script.specs.mesa_model.declared.entries.Kind.{Kind}
use Rattle.mesa_script.specs.mesa_model.declared.entries.Kind.TheVariants as kind
use Rattle.mesa_script.specs.mesa_model.declared.entries.Outcome.{Outcome}
use Rattle.mesa_script.specs.mesa_model.declared.entries.Outcome.TheVariants as outcome
use Rattle.mesa_script.specs.mesa_model.declared.replies.Refusal.{Refusal}
use Rattle.mesa_script.specs.mesa_model.declared.replies.Refusal.TheVariants as no
use Rattle.mesa_script.specs.mesa_model.declared.replies.Reply.{Reply}
use Rattle.mesa_script.specs.mesa_model.declared.replies.Reply.TheVariants as reply
use Rattle.mesa_script.specs.mesa_schema.Recasts.{Recast}
use Rattle.mesa_script.specs.mesa_model.Warehouse.{Table, Warehouse, table_at}
use Rattle.mesa_script.specs.mesa_model.Query.{Answer, query_answer}
use Rattle.mesa_script.specs.mesa_model.Tables.{recast_reply}
use Rattle.mesa_history_spec.specs.Machine.{Machine, Claim, Errand, Merges, Recasts, claim_checked, claim_ended, claim_recast, still_checked, explained}
use Rattle.mesa_history_spec.specs.Run.{State, Stage, First, Looked, Answered, Granted, Renewed, Finished, CutOff, Run, place_of, command_of}
use Rattle.mesa_history_spec.specs.Replay.{turned, turn_as, turn_of, standing, decide, decided, decided_query, decided_explain, grants, claim_asked, renews, renew, completes, does, recasts, close, prints, leaves, refused_turn, closed_if, closes, machine_after, no_rows, some_damage, with_machine}
use Rattle.mesa_history_spec.specs.Bare.{bare, bare_done, bare_reply, bare_answer, bare_state, bare_stage, bare_turned, bare_run}
use Rattle.mesa_history_spec.proofs.BareSteps.{answer_of, asked-bare, bare_twice, explain-bare, nothing_step-bare, query-bare, recast_same, step-bare, table_bare}

state_twice : (s : State) → bare_state s ≡ bare_state (bare_state s)
state_twice s = λ i. record s { warehouse = sym (bare_twice s.warehouse) i }

printed : (p : ℕ) (s t : State) (r : Reply) → bare_state s ≡ bare_state t → bare_turned (prints p s r) ≡ bare_turned (prints p t r)
printed p s t r same = λ i. record (bare_turned (prints p s r)) { state = same i }

left : (s t : State) (a b : Stage) → bare_state s ≡ bare_state t → bare_stage a ≡ bare_stage b → bare_turned (leaves s a) ≡ bare_turned (leaves t b)
left s t a b same at = λ i. record { state = same i; told = None; stage = at i }

-- ---- decide

machine_bare : (w : Warehouse) (r : Reply) (m : Machine) → machine_after w r m ≡ machine_after (bare w) (bare_reply r) m
machine_bare w (reply.Table name) m = refl
machine_bare w (reply.View name) m = refl
machine_bare w (reply.Altered table epoch) m = refl
machine_bare w (reply.Loaded v rows) m = refl
machine_bare w (reply.Page page) m = refl
machine_bare w (reply.Rows rows v more) m = refl
machine_bare w (reply.Spans spans by) m = refl
machine_bare w (reply.Pinned token v) m = refl
machine_bare w (reply.Released token) m = refl
machine_bare w (reply.Expired table oldest) m = refl
machine_bare w (reply.Swapped from to) m = refl
machine_bare w (reply.Recast table epoch) m = refl
machine_bare w reply.Idle m = refl
machine_bare w (reply.Busy lease) m = refl
machine_bare w (reply.Refused refusal) m = refl

done_bare : (p : ℕ) (s : State) (d e : Warehouse × Reply) → bare_done d ≡ bare_done e → bare_turned (decided p s d) ≡ bare_turned (decided p (bare_state s) e)
done_bare p s d e same = λ i. record {
  state = record { warehouse = (same i).0; machine = (machine_bare d.0 d.1 s.machine ∙ ap (λ (x : Warehouse × Reply). machine_after x.0 x.1 s.machine) same ∙ sym (machine_bare e.0 e.1 s.machine)) i };
  told = Some (record { at = p; reply = (same i).1; heading = no_rows });
  stage = Finished;
}

asked_bare : (p : ℕ) (s : State) (q : Result Answer Refusal) → bare_turned (decided_query p s q) ≡ decided_query p (bare_state s) (answer_of q)
asked_bare p s (Ok a) = refl
asked_bare p s (Err e) = refl

explained_bare : (p : ℕ) (s : State) (q : Result Reply Refusal) → bare_turned (decided_explain p s q) ≡ bare_turned (decided_explain p (bare_state s) q)
explained_bare p s (Ok r) = printed p s (bare_state s) r (state_twice s)
explained_bare p s (Err e) = printed p s (bare_state s) (reply.Refused e) (state_twice s)

decide_bare : (p : ℕ) (s : State) (session : ℕ) (c : Command) → bare_turned (decide p s session c) ≡ bare_turned (decide p (bare_state s) session c)
decide_bare p s session (command.Query words) =
    asked_bare p s (query_answer s.warehouse session words) ∙ ap (decided_query p (bare_state s)) (query-bare s.warehouse session words)
    ∙ ap (λ x. decided_query p x (answer_of (query_answer (bare s.warehouse) session words))) (state_twice s) ∙ sym (asked_bare p (bare_state s) (query_answer (bare s.warehouse) session words))
decide_bare p s session (command.Explain words) =
    explained_bare p s (explained s.warehouse s.machine words) ∙ ap (λ q. bare_turned (decided_explain p (bare_state s) q)) (explain-bare s.warehouse s.machine words)
decide_bare p s session (command.Table words) = done_bare p s _ _ (step-bare s.warehouse session (command.Table words))
decide_bare p s session (command.View words) = done_bare p s _ _ (step-bare s.warehouse session (command.View words))
decide_bare p s session (command.Alter words) = done_bare p s _ _ (step-bare s.warehouse session (command.Alter words))
decide_bare p s session (command.Load rows) = done_bare p s _ _ (step-bare s.warehouse session (command.Load rows))
decide_bare p s session (command.Pin asked) = done_bare p s _ _ (step-bare s.warehouse session (command.Pin asked))
decide_bare p s session (command.Release token) = done_bare p s _ _ (step-bare s.warehouse session (command.Release token))
decide_bare p s session (command.Expire table version) = done_bare p s _ _ (step-bare s.warehouse session (command.Expire table version))
decide_bare p s session (command.Work words) = done_bare p s _ _ (step-bare s.warehouse session (command.Work words))
decide_bare p s session (command.Recast words) = done_bare p s _ _ (nothing_step-bare s.warehouse)

-- ---- works and recasts

grants_bare : (p : ℕ) (s : State) (q : Result Claim Reply) → bare_turned (grants p s q) ≡ bare_turned (grants p (bare_state s) q)
grants_bare p s (Ok claim) = λ i. record (bare_turned (grants p s (Ok claim))) { state = record (grants p s (Ok claim)).state { warehouse = sym (bare_twice s.warehouse) i } }
grants_bare p s (Err r) = printed p s (bare_state s) r (state_twice s)

renews_bare : (p : ℕ) (s : State) (claim : Claim) (q : Result (Unit {0}) Refusal) → bare_turned (renews p s claim q) ≡ bare_turned (renews p (bare_state s) claim q)
renews_bare p s claim (Ok ok) = λ i. record (bare_turned (renews p s claim (Ok ok))) { state = record (renews p s claim (Ok ok)).state { warehouse = sym (bare_twice s.warehouse) i } }
renews_bare p s claim (Err e) = printed p s (bare_state s) (reply.Refused e) (state_twice s)

recasts_bare : (p : ℕ) (s : State) (claim : Claim) (r : Recast) (q : Result (Unit {0}) Refusal) → bare_turned (recasts p s claim r q) ≡ bare_turned (recasts p (bare_state s) claim r q)
recasts_bare p s claim r (Ok ok) = λ i. record {
  state = record { warehouse = recast_same s.warehouse claim.table r i; machine = claim_recast s.machine claim };
  told = Some (record { at = p; reply = recast_reply (sym (table_bare s.warehouse.store claim.table) i); heading = no_rows });
  stage = Finished;
}
recasts_bare p s claim r (Err e) =
    printed p (with_machine s (claim_ended s.machine claim)) (with_machine (bare_state s) (claim_ended s.machine claim)) (reply.Refused e) (λ i. record { warehouse = sym (bare_twice s.warehouse) i; machine = claim_ended s.machine claim })

does_bare : (p : ℕ) (s : State) (claim : Claim) (errand : Errand) → bare_turned (does p s claim errand) ≡ bare_turned (does p (bare_state s) claim errand)
does_bare p s claim (Merges work) = λ i. record (bare_turned (does p s claim (Merges work))) { state = record (does p s claim (Merges work)).state { warehouse = sym (bare_twice s.warehouse) i } }
does_bare p s claim (Recasts epoch r) =
    recasts_bare p s claim r (still_checked (table_at s.warehouse.store claim.table).lineage epoch r)
    ∙ ap (λ (t : Table). bare_turned (recasts p (bare_state s) claim r (still_checked t.lineage epoch r))) (sym (table_bare s.warehouse.store claim.table))

completes_bare : (p : ℕ) (s : State) (claim : Claim) (q : Result (Unit {0}) Refusal) → bare_turned (completes p s claim q) ≡ bare_turned (completes p (bare_state s) claim q)
completes_bare p s claim (Ok ok) = does_bare p s claim claim.errand
completes_bare p s claim (Err e) = printed p s (bare_state s) (reply.Refused e) (state_twice s)

renew_bare : (p : ℕ) (s : State) (stage : Stage) → bare_turned (renew p s stage) ≡ bare_turned (renew p (bare_state s) (bare_stage stage))
renew_bare p s (Granted claim) = renews_bare p s claim (claim_checked s.warehouse s.machine p claim)
renew_bare p s First = left s (bare_state s) First First (state_twice s) refl
renew_bare p s Looked = left s (bare_state s) Looked Looked (state_twice s) refl
renew_bare p s (Answered at answer) = left s (bare_state s) (Answered at answer) (Answered at (bare_answer answer)) (state_twice s) refl
renew_bare p s (Renewed claim) = left s (bare_state s) (Renewed claim) (Renewed claim) (state_twice s) refl
renew_bare p s Finished = left s (bare_state s) Finished Finished (state_twice s) refl
renew_bare p s CutOff = left s (bare_state s) CutOff CutOff (state_twice s) refl

close_bare : (p : ℕ) (s : State) (stage : Stage) → bare_turned (close p s stage) ≡ bare_turned (close p (bare_state s) (bare_stage stage))
close_bare p s (Answered at answer) = λ i. record (bare_turned (close p s (Answered at answer))) { state = state_twice s i }
close_bare p s (Granted claim) = completes_bare p s claim (claim_checked s.warehouse s.machine p claim)
close_bare p s (Renewed claim) = completes_bare p s claim (claim_checked s.warehouse s.machine p claim)
close_bare p s First = left s (bare_state s) First First (state_twice s) refl
close_bare p s Looked = left s (bare_state s) Looked Looked (state_twice s) refl
close_bare p s Finished = left s (bare_state s) Finished Finished (state_twice s) refl
close_bare p s CutOff = left s (bare_state s) CutOff CutOff (state_twice s) refl

standing_bare : (p : ℕ) (s : State) (session : ℕ) (c : Command) (k : Kind) (stage : Stage) → bare_turned (standing p s session c k stage) ≡ bare_turned (standing p (bare_state s) session c k (bare_stage stage))
standing_bare p s session c kind.Look stage = left s (bare_state s) Looked Looked (state_twice s) refl
standing_bare p s session c kind.Decide stage = decide_bare p s session c
standing_bare p s session c kind.Close stage = close_bare p s stage
standing_bare p s session c kind.Grant stage = grants_bare p s (claim_asked s.warehouse s.machine p c) ∙ ap (λ q. bare_turned (grants p (bare_state s) q)) (asked-bare s.warehouse s.machine p c)
standing_bare p s session c kind.Renew stage = renew_bare p s stage

-- ---- other outcomes

off_bare : (p : ℕ) (s t : State) (stage : Stage) (x : Refusal) → bare_state s ≡ bare_state t → bare_turned (refused_turn p s kind.Close stage x) ≡ bare_turned (refused_turn p t kind.Close (bare_stage stage) x)
off_bare p s t First x same = printed p s t (reply.Refused x) same
off_bare p s t Looked x same = printed p s t (reply.Refused x) same
off_bare p s t (Answered at answer) x same = printed at s t (reply.Refused x) same
off_bare p s t (Granted claim) x same = λ i. record (bare_turned (refused_turn p s kind.Close (Granted claim) x)) { state = (ap (λ (y : State). (refused_turn p y kind.Close (Granted claim) x).state) same) i }
off_bare p s t (Renewed claim) x same = λ i. record (bare_turned (refused_turn p s kind.Close (Renewed claim) x)) { state = (ap (λ (y : State). (refused_turn p y kind.Close (Renewed claim) x).state) same) i }
off_bare p s t Finished x same = printed p s t (reply.Refused x) same
off_bare p s t CutOff x same = printed p s t (reply.Refused x) same

refused_bare : (p : ℕ) (s t : State) (k : Kind) (stage : Stage) (x : Refusal) → bare_state s ≡ bare_state t → bare_turned (refused_turn p s k stage x) ≡ bare_turned (refused_turn p t k (bare_stage stage) x)
refused_bare p s t kind.Look stage x same = left s t Looked Looked same refl
refused_bare p s t kind.Decide stage x same = printed p s t (reply.Refused x) same
refused_bare p s t kind.Close stage x same = off_bare p s t stage x same
refused_bare p s t kind.Grant stage x same = printed p s t (reply.Refused x) same
refused_bare p s t kind.Renew stage x same = printed p s t (reply.Refused x) same

closed_bare : (b : Bool) (p : ℕ) (s : State) → bare_state (closed_if b p s) ≡ bare_state (closed_if b p (bare_state s))
closed_bare true p s = λ i. record s { warehouse = record (sym (bare_twice s.warehouse) i) { closed = Some p } }
closed_bare false p s = state_twice s

turn_bare : (r : Run) (c : Command) (e : Entry) (stage : Stage) (o : Outcome) → bare_turned (turn_of r c e stage o) ≡ bare_turned (turn_of (bare_run r) c e (bare_stage stage) o)
turn_bare r c e stage outcome.Stands = standing_bare r.position r.state e.session c e.kind stage
turn_bare r c e stage outcome.Memory = refused_bare r.position r.state (bare_state r.state) e.kind stage no.Memory (state_twice r.state)
turn_bare r c e stage outcome.ReadFault = refused_bare r.position r.state (bare_state r.state) e.kind stage no.ReadFault (state_twice r.state)
turn_bare r c e stage outcome.WriteFault = refused_bare r.position (closed_if (closes r.moment e) r.position r.state) (closed_if (closes r.moment e) r.position (bare_state r.state)) e.kind stage no.WriteFault (closed_bare (closes r.moment e) r.position r.state)
turn_bare r c e stage outcome.Damaged = refused_bare r.position r.state (bare_state r.state) e.kind stage (no.Damaged some_damage) (state_twice r.state)
turn_bare r c e stage outcome.Skipped = left r.state (bare_state r.state) CutOff CutOff (state_twice r.state) refl

-- The projection of a turn hangs on the projection alone.
pub turned-bare : (script : Script) (r : Run) (e : Entry) → bare_turned (turned script r e) ≡ bare_turned (turned script (bare_run r) e)
unfolding turned place_of
turned-bare script r e = by (command_of script e)
  where
    by : (o : Option Command) → bare_turned (turn_as r e o) ≡ bare_turned (turn_as (bare_run r) e o)
    by None = left r.state (bare_state r.state) CutOff CutOff (state_twice r.state) refl
    by (Some c) = turn_bare r c e (r.places e.session).stage e.outcome
