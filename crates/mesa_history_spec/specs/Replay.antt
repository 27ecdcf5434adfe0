-- Replay: a run's history on the reference warehouse and the range machine.
use Rattle.std.specs.Prelude.{ℕ, ◌+◌, ◌-◌, ◌^◌, min, List, [], ◌∷◌, Bool, true, false, ◌||◌, ◌==◌, nat_le, not, Option, Some, None, Result, Ok, Err}
use Rattle.mesa_script.specs.mesa_model.declared.commands.Command.{Command}
use Rattle.mesa_script.specs.mesa_model.declared.commands.Command.TheVariants as command
use Rattle.mesa_script.specs.mesa_model.declared.commands.Script.{Script}
use Rattle.mesa_script.specs.mesa_file.declared.damage.Damage.{Damage}
use Rattle.mesa_script.specs.mesa_file.declared.damage.Seen.TheVariants as seen
use Rattle.mesa_script.specs.mesa_model.declared.entries.Entry.{Entry}
use Rattle.mesa_script.specs.mesa_model.declared.entries.Kind.{Kind}
use Rattle.mesa_script.specs.mesa_model.declared.entries.Kind.TheVariants as kind
use Rattle.mesa_script.specs.mesa_model.declared.entries.Outcome.{Outcome}
use Rattle.mesa_script.specs.mesa_model.declared.entries.Outcome.TheVariants as outcome
use Rattle.mesa_script.specs.mesa_model.declared.replies.Reply.{Reply}
use Rattle.mesa_script.specs.mesa_model.declared.replies.Reply.TheVariants as reply
use Rattle.mesa_script.specs.mesa_model.declared.replies.Refusal.{Refusal}
use Rattle.mesa_script.specs.mesa_model.declared.replies.Refusal.TheVariants as no
use Rattle.mesa_script.specs.mesa_schema.Recasts.{Recast}
use Rattle.mesa_script.specs.mesa_model.Warehouse.{Warehouse, table_at}
use Rattle.mesa_script.specs.mesa_model.Query.{Answer, Heading, query_answer}
use Rattle.mesa_script.specs.mesa_model.Step.{done_or_refused, nothing_done, step}
use Rattle.mesa_script.specs.mesa_model.Tables.{recast_reply, with_recast}
use Rattle.mesa_history_spec.specs.Machine.{Machine, Claim, Errand, Merges, Recasts, with_new_table, claim_of, recast_claim_of, claimed, claim_checked, claim_renewed, claim_ended, claim_merged, claim_recast, swapped_reply, still_checked, explained}
use Rattle.mesa_history_spec.specs.Run.{State, Stage, First, Looked, Answered, Granted, Renewed, Finished, CutOff, Place, Told, Last, Silent, Printed, Skipped, Run, place_of, command_of}

-- What a turn makes: the state after it, what it prints, if anything, and how far its command has come.
pub record Turned : Type 0 where
  pub state : State
  pub told : Option Told
  pub stage : Stage

-- how a reply without rows is printed
abbrev pub no_rows : Heading
no_rows = record { kinds = []; prefix = [] }

-- a turn that prints a reply at a position, and finishes its command
abbrev pub prints : ℕ → State → Reply → Turned
prints at s r = record { state = s; told = Some (record { at = at; reply = r; heading = no_rows }); stage = Finished }

-- a turn that prints nothing, and after which its command goes on
abbrev pub leaves : State → Stage → Turned
leaves s stage = record { state = s; told = None; stage = stage }

-- a turn that prints a refusal at a position, and finishes its command
abbrev pub refuses : ℕ → State → Refusal → Turned
refuses at s refusal = prints at s (reply.Refused refusal)

-- ---- decide

-- the range machine after a command's reply: a table that was made enters it
abbrev pub machine_after : Warehouse → Reply → Machine → Machine
machine_after w (reply.Table name) m = with_new_table m w.store.floor
machine_after w r m = m

-- the state after a command, with its reply
abbrev pub stepped : State → Warehouse → Reply → State
stepped s w r = record { warehouse = w; machine = machine_after w r s.machine }

-- a command that was done prints its reply
abbrev pub decided : ℕ → State → Warehouse × Reply → Turned
decided position s done = prints position (stepped s done.0 done.1) done.1

-- a query that isn't refused prints its answer when it closes
abbrev pub decided_query : ℕ → State → Result Answer Refusal → Turned
decided_query position s (Ok answer) = leaves s (Answered position answer)
decided_query position s (Err refusal) = refuses position s refusal

-- an explain prints its ranges or its refusal
abbrev pub decided_explain : ℕ → State → Result Reply Refusal → Turned
decided_explain position s (Ok r) = prints position s r
decided_explain position s (Err refusal) = refuses position s refusal

-- a command's deciding turn: Step, and for explain the range machine; a recast's Step is that of its last turn
abbrev pub decide : ℕ → State → ℕ → Command → Turned
decide position s session (command.Query words) = decided_query position s (query_answer s.warehouse session words)
decide position s session (command.Explain words) = decided_explain position s (explained s.warehouse s.machine words)
decide position s session (command.Recast words) = decided position s (done_or_refused s.warehouse (nothing_done s.warehouse))
decide position s session c = decided position s (step s.warehouse session c)

-- ---- works and recasts

-- the table that a work names
abbrev pub work_name : Command → List ℕ
work_name (command.Work words) = words.table
work_name c = []

-- the state with another range machine
abbrev pub with_machine : State → Machine → State
with_machine s m = record s { machine = m }

-- a claim is granted, or the reply is printed by which it isn't
abbrev pub grants : ℕ → State → Result Claim Reply → Turned
grants position s (Err r) = prints position s r
grants position s (Ok claim) = leaves (with_machine s (claimed s.machine position claim)) (Granted claim)

-- what a work or a recast is granted at a position, or the reply by which it isn't
abbrev pub claim_asked : Warehouse → Machine → ℕ → Command → Result Claim Reply
claim_asked w m position (command.Recast words) = recast_claim_of w m position words
claim_asked w m position c = claim_of w m position (work_name c)

-- the first turn of a work or a recast: it is granted a lease, or told why not
abbrev pub grant : ℕ → State → Command → Turned
grant position s c = grants position s (claim_asked s.warehouse s.machine position c)

-- a claim's lease is renewed, or the refusal is printed
abbrev pub renews : ℕ → State → Claim → Result (Unit {0}) Refusal → Turned
renews position s claim (Err refusal) = refuses position s refusal
renews position s claim (Ok ok) = leaves (with_machine s (claim_renewed s.machine position claim)) (Renewed claim)

-- the turn of a work or a recast whose files are made: its lease is renewed, or lost
abbrev pub renew : ℕ → State → Stage → Turned
renew position s (Granted claim) = renews position s claim (claim_checked s.warehouse s.machine position claim)
renew position s stage = leaves s stage

-- the state once a claim's table is recast: RecastStep, and the range machine
abbrev pub recasted : State → Claim → Recast → State
recasted s claim r = record { warehouse = with_recast s.warehouse claim.table r; machine = claim_recast s.machine claim }

-- a claim's table is recast, or its lease ends and the refusal is printed
abbrev pub recasts : ℕ → State → Claim → Recast → Result (Unit {0}) Refusal → Turned
recasts position s claim r (Err refusal) = refuses position (with_machine s (claim_ended s.machine claim)) refusal
recasts position s claim r (Ok ok) = prints position (recasted s claim r) (recast_reply (table_at s.warehouse.store claim.table))

-- what a claim is for is done: its range is swapped in, or its table is recast
abbrev pub does : ℕ → State → Claim → Errand → Turned
does position s claim (Merges work) = prints position (with_machine s (claim_merged s.machine claim work)) (swapped_reply work)
does position s claim (Recasts epoch r) = recasts position s claim r (still_checked (table_at s.warehouse.store claim.table).lineage epoch r)

-- it is done, or the refusal is printed
abbrev pub completes : ℕ → State → Claim → Result (Unit {0}) Refusal → Turned
completes position s claim (Err refusal) = refuses position s refusal
completes position s claim (Ok ok) = does position s claim claim.errand

-- a query's answer, printed at the position at which it was decided
abbrev pub answers : State → ℕ → Answer → Turned
answers s at answer = record { state = s; told = Some (record { at = at; reply = reply.Page answer.page; heading = answer.heading }); stage = Finished }

-- the last turn of a query, a work or a recast: the answer is printed; the work's range is swapped in, or the recast's table is recast; or its lease is lost
abbrev pub close : ℕ → State → Stage → Turned
close position s (Answered at answer) = answers s at answer
close position s (Granted claim) = completes position s claim (claim_checked s.warehouse s.machine position claim)
close position s (Renewed claim) = completes position s claim (claim_checked s.warehouse s.machine position claim)
close position s stage = leaves s stage

-- ---- outcomes other than Stands

-- the position at which a refused turn is printed: a query that was decided is printed where it was decided
abbrev pub refused_at : ℕ → Stage → ℕ
refused_at position (Answered at answer) = at
refused_at position stage = position

-- the state after a refused close: it ends the lease of a work or a recast
abbrev pub closed_off : State → Stage → State
closed_off s (Granted claim) = with_machine s (claim_ended s.machine claim)
closed_off s (Renewed claim) = with_machine s (claim_ended s.machine claim)
closed_off s stage = s

-- a turn that is refused for a fault or for want of memory; a look changes nothing, whatever comes
abbrev pub refused_turn : ℕ → State → Kind → Stage → Refusal → Turned
refused_turn position s kind.Look stage refusal = leaves s Looked
refused_turn position s kind.Decide stage refusal = refuses position s refusal
refused_turn position s kind.Close stage refusal = refuses (refused_at position stage) (closed_off s stage) refusal
refused_turn position s kind.Grant stage refusal = refuses position s refusal
refused_turn position s kind.Renew stage refusal = refuses position s refusal

-- the last value of a disk's clock
abbrev pub last_moment : ℕ
last_moment = 2 ^ 64 - 1

-- later than a moment, or at the clock's last value
abbrev pub is_later : ℕ → ℕ → Bool
is_later before moment = nat_le (min (before + 1) last_moment) moment

-- the same where there may be no moment before
abbrev pub is_later_than : Option ℕ → ℕ → Bool
is_later_than None moment = true
is_later_than (Some before) moment = is_later before moment

-- whether an entry of this moment and outcome closes the warehouse
abbrev pub closes_as : Option ℕ → ℕ → Outcome → Bool
closes_as before moment outcome.Stands = false
closes_as before moment outcome.Memory = false
closes_as before moment outcome.ReadFault = false
closes_as before moment outcome.WriteFault = is_later_than before moment
closes_as before moment outcome.Damaged = false
closes_as before moment outcome.Skipped = false

-- An entry closes the warehouse where it is a write fault that the disk's clock saw: its moment is later than that of the entry before, or it is the first.
abbrev pub closes : Option ℕ → Entry → Bool
closes before e = closes_as before e.moment e.outcome

-- the state closed at a position, where the turn closes it
abbrev pub closed_if : Bool → ℕ → State → State
closed_if true position s = record s { warehouse = record s.warehouse { closed = Some position } }
closed_if false position s = s

-- what stands in the place of the damage that a Damaged entry tells
abbrev pub some_damage : Damage
some_damage = record { file = 0; place = 0; want = seen.Fits; found = seen.Absent }

-- ---- a turn, and a history

-- a turn that stands, by its kind
abbrev pub standing : ℕ → State → ℕ → Command → Kind → Stage → Turned
standing position s session c kind.Look stage = leaves s Looked
standing position s session c kind.Decide stage = decide position s session c
standing position s session c kind.Close stage = close position s stage
standing position s session c kind.Grant stage = grant position s c
standing position s session c kind.Renew stage = renew position s stage

-- a turn of a command that has come to a stage, by its outcome: one that doesn't stand has its refusal as its reply, and one that is skipped changes nothing and has no reply
abbrev pub turn_of : Run → Command → Entry → Stage → Outcome → Turned
turn_of r c e stage outcome.Stands = standing r.position r.state e.session c e.kind stage
turn_of r c e stage outcome.Memory = refused_turn r.position r.state e.kind stage no.Memory
turn_of r c e stage outcome.ReadFault = refused_turn r.position r.state e.kind stage no.ReadFault
turn_of r c e stage outcome.WriteFault = refused_turn r.position (closed_if (closes r.moment e) r.position r.state) e.kind stage no.WriteFault
turn_of r c e stage outcome.Damaged = refused_turn r.position r.state e.kind stage (no.Damaged some_damage)
turn_of r c e stage outcome.Skipped = leaves r.state CutOff

-- the turn of an entry whose command is this one, if there is one
abbrev pub turn_as : Run → Entry → Option Command → Turned
turn_as r e None = leaves r.state CutOff
turn_as r e (Some c) = turn_of r c e (place_of r e.session).stage e.outcome

-- What an entry's turn makes of what stands before it.
unfoldable pub turned : Script → Run → Entry → Turned
turned script r e = turn_as r e (command_of script e)

-- the entry as if its turn stood
abbrev pub stood : Entry → Entry
stood e = record e { outcome = outcome.Stands }

-- what an entry prints
abbrev pub told_by : Script → Run → Entry → Option Told
told_by script r e = (turned script r e).told

-- whether a turn wasn't done
abbrev pub is_skip : Outcome → Bool
is_skip outcome.Stands = false
is_skip outcome.Memory = false
is_skip outcome.ReadFault = false
is_skip outcome.WriteFault = false
is_skip outcome.Damaged = false
is_skip outcome.Skipped = true

-- an entry whose turn wasn't done, since the sink had failed
abbrev pub is_skipped : Entry → Bool
is_skipped e = is_skip e.outcome

-- where a session is once a command has come so far: the next command is due where one is finished
abbrev pub place_after : ℕ → Stage → Place
place_after number Finished = record { number = number + 1; stage = First }
place_after number stage = record { number = number; stage = stage }

-- the places with one session at another place
abbrev pub with_place : (ℕ → Place) → ℕ → Place → ℕ → Place
with_place places session place t = elim (t == session) [ true ↦ place | false ↦ places t ]

-- what a turn does to the sink
abbrev pub last_of : Bool → Option Told → Last
last_of true told = Skipped
last_of false None = Silent
last_of false (Some told) = Printed

-- a run after an entry whose turn made this
abbrev pub after : Run → Entry → Turned → Run
after r e t = record {
  state = t.state;
  position = r.position + 1;
  moment = Some e.moment;
  places = with_place r.places e.session (place_after (place_of r e.session).number t.stage);
  prologue_over = r.prologue_over || not (e.session == 0);
  last = last_of (is_skipped e) t.told;
}

-- What stands after one entry more.
unfoldable pub go : Script → Run → Entry → Run
go script r e = after r e (turned script r e)

-- Replay: what stands after a history.
unfoldable pub runs : Script → Run → List Entry → Run
runs script r [] = r
runs script r (e ∷ h) = runs script (go script r e) h

-- the moment of a history's last entry, and the one before it where there is none
unfoldable pub last_moment_of : Option ℕ → List Entry → Option ℕ
last_moment_of before [] = before
last_moment_of before (e ∷ h) = last_moment_of (Some e.moment) h
