-- What a turn is to the pins: they stay, or the turn is a command's step and tells its reply.
use Rattle.std.proofs.Common.{◌≡◌, ℕ, [], refl, Bool, true, false, Option, Some, None, Result, Ok, Err}
use Rattle.mesa_history_spec.specs.mesa_model.declared.commands.Command.{Command}
use Rattle.mesa_history_spec.specs.mesa_model.declared.commands.Command.TheVariants as command
use Rattle.mesa_history_spec.specs.mesa_model.declared.commands.Script.{Script}
use Rattle.mesa_history_spec.specs.mesa_model.declared.entries.Entry.{Entry}
use Rattle.mesa_history_spec.specs.mesa_model.declared.entries.Kind.{Kind}
use Rattle.mesa_history_spec.specs.mesa_model.declared.entries.Kind.TheVariants as kind
use Rattle.mesa_history_spec.specs.mesa_model.declared.entries.Outcome.{Outcome}
use Rattle.mesa_history_spec.specs.mesa_model.declared.entries.Outcome.TheVariants as outcome
use Rattle.mesa_history_spec.specs.mesa_model.declared.replies.Refusal.{Refusal}
use Rattle.mesa_history_spec.specs.mesa_model.declared.replies.Refusal.TheVariants as no
use Rattle.mesa_history_spec.specs.mesa_model.declared.replies.Reply.{Reply}
use Rattle.mesa_history_spec.specs.mesa_schema.Recasts.{Recast}
use Rattle.mesa_history_spec.specs.mesa_model.Warehouse.{Warehouse, table_at}
use Rattle.mesa_history_spec.specs.mesa_model.Query.{Answer, query_answer}
use Rattle.mesa_history_spec.specs.mesa_model.Step.{step}
use Rattle.mesa_history_spec.specs.Machine.{Claim, Errand, Merges, Recasts, claim_checked, explained, still_checked}
use Rattle.mesa_history_spec.specs.Run.{Answered, CutOff, Finished, First, Granted, Looked, Renewed, Run, Stage, State, command_of, place_of}
use Rattle.mesa_history_spec.specs.Replay.{Turned, claim_asked, close, closed_if, closes, completes, decide, decided_explain, decided_query, does, grants, no_rows, recasts, refused_turn, renew, renews, some_damage, standing, turn_as, turn_of, turned}

-- A turn leaves the pins, or it is a command's step.
pub data Does (w : Warehouse) (session position : ℕ) (t : Turned) : Type 0 where
  Stays : t.state.warehouse.pins ≡ w.pins → Does w session position t
  Steps : (c : Command) → t.state.warehouse ≡ (step w session c).0 → t.told ≡ Some (record { at = position; reply = (step w session c).1; heading = no_rows }) → Does w session position t

module _ (position : ℕ) (s : State) where
  explains : (r : Result Reply Refusal) → (decided_explain position s r).state.warehouse.pins ≡ s.warehouse.pins
  explains (Ok r) = refl
  explains (Err refusal) = refl

  queries : (r : Result Answer Refusal) → (decided_query position s r).state.warehouse.pins ≡ s.warehouse.pins
  queries (Ok answer) = refl
  queries (Err refusal) = refl

  decides : (session : ℕ) (c : Command) → Does s.warehouse session position (decide position s session c)
  decides session (command.Query words) = Stays (queries (query_answer s.warehouse session words))
  decides session (command.Explain words) = Stays (explains (explained s.warehouse s.machine words))
  decides session (command.Table words) = Steps (command.Table words) refl refl
  decides session (command.View words) = Steps (command.View words) refl refl
  decides session (command.Alter words) = Steps (command.Alter words) refl refl
  decides session (command.Load rows) = Steps (command.Load rows) refl refl
  decides session (command.Pin asked) = Steps (command.Pin asked) refl refl
  decides session (command.Release token) = Steps (command.Release token) refl refl
  decides session (command.Expire table version) = Steps (command.Expire table version) refl refl
  decides session (command.Work words) = Steps (command.Work words) refl refl
  decides session (command.Recast words) = Steps (command.Work (record { table = []; parts = 0 })) refl refl

  granting : (r : Result Claim Reply) → (grants position s r).state.warehouse.pins ≡ s.warehouse.pins
  granting (Ok claim) = refl
  granting (Err r) = refl

  renewing : (claim : Claim) (r : Result (Unit {0}) Refusal) → (renews position s claim r).state.warehouse.pins ≡ s.warehouse.pins
  renewing claim (Ok ok) = refl
  renewing claim (Err refusal) = refl

  recasting : (claim : Claim) (r : Recast) (q : Result (Unit {0}) Refusal) → (recasts position s claim r q).state.warehouse.pins ≡ s.warehouse.pins
  recasting claim r (Ok ok) = refl
  recasting claim r (Err refusal) = refl

  doing : (claim : Claim) (errand : Errand) → (does position s claim errand).state.warehouse.pins ≡ s.warehouse.pins
  doing claim (Merges work) = refl
  doing claim (Recasts epoch r) = recasting claim r (still_checked (table_at s.warehouse.store claim.table).lineage epoch r)

  completing : (claim : Claim) (r : Result (Unit {0}) Refusal) → (completes position s claim r).state.warehouse.pins ≡ s.warehouse.pins
  completing claim (Ok ok) = doing claim claim.errand
  completing claim (Err refusal) = refl

  closing : (stage : Stage) → (close position s stage).state.warehouse.pins ≡ s.warehouse.pins
  closing First = refl
  closing Looked = refl
  closing (Answered at answer) = refl
  closing (Granted claim) = completing claim (claim_checked s.warehouse s.machine position claim)
  closing (Renewed claim) = completing claim (claim_checked s.warehouse s.machine position claim)
  closing Finished = refl
  closing CutOff = refl

  renewed : (stage : Stage) → (renew position s stage).state.warehouse.pins ≡ s.warehouse.pins
  renewed First = refl
  renewed Looked = refl
  renewed (Answered at answer) = refl
  renewed (Granted claim) = renewing claim (claim_checked s.warehouse s.machine position claim)
  renewed (Renewed claim) = refl
  renewed Finished = refl
  renewed CutOff = refl

  refused_close : (stage : Stage) (refusal : Refusal) → (refused_turn position s kind.Close stage refusal).state.warehouse.pins ≡ s.warehouse.pins
  refused_close First refusal = refl
  refused_close Looked refusal = refl
  refused_close (Answered at answer) refusal = refl
  refused_close (Granted claim) refusal = refl
  refused_close (Renewed claim) refusal = refl
  refused_close Finished refusal = refl
  refused_close CutOff refusal = refl

  refused : (k : Kind) (stage : Stage) (refusal : Refusal) → (refused_turn position s k stage refusal).state.warehouse.pins ≡ s.warehouse.pins
  refused kind.Look stage refusal = refl
  refused kind.Decide stage refusal = refl
  refused kind.Close stage refusal = refused_close stage refusal
  refused kind.Grant stage refusal = refl
  refused kind.Renew stage refusal = refl

  stands : (session : ℕ) (c : Command) (k : Kind) (stage : Stage) → Does s.warehouse session position (standing position s session c k stage)
  stands session c kind.Look stage = Stays refl
  stands session c kind.Decide stage = decides session c
  stands session c kind.Close stage = Stays (closing stage)
  stands session c kind.Grant stage = Stays (granting (claim_asked s.warehouse s.machine position c))
  stands session c kind.Renew stage = Stays (renewed stage)

-- a write fault, whether it closes the warehouse or not
faults : (position : ℕ) (s : State) (b : Bool) (k : Kind) (stage : Stage) → (refused_turn position (closed_if b position s) k stage no.WriteFault).state.warehouse.pins ≡ s.warehouse.pins
faults position s true k stage = refused position (closed_if true position s) k stage no.WriteFault
faults position s false k stage = refused position s k stage no.WriteFault

module _ (r : Run) (e : Entry) where
  turn_does : (c : Command) (o : Outcome) → Does r.state.warehouse e.session r.position (turn_of r c e (place_of r e.session).stage o)
  turn_does c outcome.Stands = stands r.position r.state e.session c e.kind (place_of r e.session).stage
  turn_does c outcome.Memory = Stays (refused r.position r.state e.kind (place_of r e.session).stage no.Memory)
  turn_does c outcome.ReadFault = Stays (refused r.position r.state e.kind (place_of r e.session).stage no.ReadFault)
  turn_does c outcome.WriteFault = Stays (faults r.position r.state (closes r.moment e) e.kind (place_of r e.session).stage)
  turn_does c outcome.Damaged = Stays (refused r.position r.state e.kind (place_of r e.session).stage (no.Damaged some_damage))
  turn_does c outcome.Skipped = Stays refl

  as_does : (o : Option Command) → Does r.state.warehouse e.session r.position (turn_as r e o)
  as_does None = Stays refl
  as_does (Some c) = turn_does c e.outcome

-- What an entry's turn does.
pub turned_does : (script : Script) (r : Run) (e : Entry) → Does r.state.warehouse e.session r.position (turned script r e)
unfolding turned
turned_does script r e = as_does r e (command_of script e)
