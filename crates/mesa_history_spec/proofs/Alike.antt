-- What is legal, and what is refused, hangs on a start's projection alone.
use Rattle.std.proofs.Common.{◌≡◌, ℕ, List, [], ◌∷◌, Bool, true, false, not, ◌&&◌, ◌||◌, ◌==◌, refl, sym, ◌∙◌, ap, subst, Option, Some, None, IsTrue, is_some, is_none, is_ok}
use Rattle.std.specs.Prelude.{option_map, if◌then◌else◌}
use Rattle.std.specs.List.{list_all}
use Rattle.mesa_script.specs.mesa_schema.Changes.{columns_of}
use Rattle.mesa_script.specs.mesa_batch.Batch.{Named, batch_of}
use Rattle.mesa_script.specs.mesa_model.Warehouse.{Table, Store}
use Rattle.mesa_script.specs.mesa_model.Load.{tables_named}
use Rattle.mesa_script.specs.mesa_model.declared.commands.Command.{Command}
use Rattle.mesa_script.specs.mesa_model.declared.commands.Command.TheVariants as command
use Rattle.mesa_script.specs.mesa_model.declared.commands.Script.{Script}
use Rattle.mesa_script.specs.mesa_model.declared.entries.Entry.{Entry}
use Rattle.mesa_script.specs.mesa_model.declared.entries.Kind.{Kind}
use Rattle.mesa_script.specs.mesa_model.declared.entries.Kind.TheVariants as kind
use Rattle.mesa_script.specs.mesa_model.declared.replies.Reply.{Reply}
use Rattle.mesa_script.specs.mesa_model.declared.replies.Reply.TheVariants as reply
use Rattle.mesa_history_spec.specs.Run.{State, Stage, First, Looked, Answered, Granted, Renewed, Finished, CutOff, Place, Told, Last, Silent, Printed, Skipped, Run, place_of, command_of, begins}
use Rattle.mesa_history_spec.specs.Replay.{Turned, closes, stood, is_later, turned, told_by, is_skipped, after, with_place, place_after, last_of, go, runs}
use Rattle.mesa_history_spec.specs.Legal.{same_kind, is_stands, Fits, AllFit, IsLegal, ends_well, fits_moment, fits_sink, is_answered, is_complete, is_cut_off, is_due, is_due_at, is_due_of, is_unrenewed, is_written, wrote, sessions_of, fits_renewal, is_unread, is_unwritten, is_same_moment, would_write, builds_files, builds_files_in}
use Rattle.mesa_history_spec.specs.Bare.{bare_table, bare_store, bare_place, bare_reply, bare_run, bare_stage, bare_state, bare_told, bare_turned}
use Rattle.mesa_history_spec.proofs.BareLists.{maps_same}
use Rattle.mesa_history_spec.proofs.BareTurns.{turned-bare}
use Rattle.mesa_history_spec.specs.Refused.{is_refusal, tells_refusal, some_refused}

-- ---- one entry

stage_placed : (number : ℕ) (s : Stage) → bare_place (place_after number s) ≡ place_after number (bare_stage s)
stage_placed number First = refl
stage_placed number Looked = refl
stage_placed number (Answered at answer) = refl
stage_placed number (Granted claim) = refl
stage_placed number (Renewed claim) = refl
stage_placed number Finished = refl
stage_placed number CutOff = refl

place_set : (places : ℕ → Place) (session : ℕ) (number : ℕ) (s : Stage) (t : ℕ)
    → bare_place (with_place places session (place_after number s) t) ≡ with_place (λ u. bare_place (places u)) session (place_after number (bare_stage s)) t
place_set places session number s t = by (t == session)
  where
    by : (b : Bool) → bare_place (elim b [ true ↦ place_after number s | false ↦ places t ]) ≡ elim b [ true ↦ place_after number (bare_stage s) | false ↦ bare_place (places t) ]
    by true = stage_placed number s
    by false = refl

last_bare : (b : Bool) (told : Option Told) → last_of b told ≡ last_of b (option_map bare_told told)
last_bare true told = refl
last_bare false None = refl
last_bare false (Some t) = refl

-- a run without rows, one entry later
abbrev after_bare : Script → Run → Entry → Run
after_bare script r e = after r e (bare_turned (turned script r e))

after-bare : (r : Run) (e : Entry) (t : Turned) → bare_run (after r e t) ≡ after (bare_run r) e (bare_turned t)
unfolding place_of
after-bare r e t = λ i. record (after (bare_run r) e (bare_turned t)) {
  places = λ s. place_set r.places e.session (r.places e.session).number t.stage s i;
  last = last_bare (is_skipped e) t.told i;
}

go-bare : (script : Script) (r : Run) (e : Entry) → bare_run (go script r e) ≡ after_bare script (bare_run r) e
unfolding go
go-bare script r e = after-bare r e (turned script r e) ∙ ap (after (bare_run r) e) (turned-bare script r e)

pub go_alike : (script : Script) (r s : Run) (e : Entry) → bare_run r ≡ bare_run s → bare_run (go script r e) ≡ bare_run (go script s e)
go_alike script r s e same = go-bare script r e ∙ (ap (λ x. after_bare script x e) same ∙ sym (go-bare script s e))

pub runs_alike : (script : Script) (r s : Run) (h : List Entry) → bare_run r ≡ bare_run s → bare_run (runs script r h) ≡ bare_run (runs script s h)
unfolding runs
runs_alike script r s [] same = same
runs_alike script r s (e ∷ h) same = runs_alike script (go script r e) (go script s e) h (go_alike script r s e same)

-- ---- tests of an entry

due_bare : (c : Command) (s : Stage) (k : Kind) → is_due_at c s k ≡ is_due_at c (bare_stage s) k
due_bare c First k = refl
due_bare c Looked k = refl
due_bare c (Answered at answer) k = refl
due_bare c (Granted claim) k = refl
due_bare c (Renewed claim) k = refl
due_bare c Finished k = refl
due_bare c CutOff k = refl

due_of_bare : (o : Option Command) (p : Place) (e : Entry) → is_due_of o p e ≡ is_due_of o (bare_place p) e
due_of_bare None p e = refl
due_of_bare (Some c) p e = ap (λ b. (e.command == p.number) && b) (due_bare c p.stage e.kind)

unrenewed_bare : (s : Stage) → is_unrenewed s ≡ is_unrenewed (bare_stage s)
unrenewed_bare First = refl
unrenewed_bare Looked = refl
unrenewed_bare (Answered at answer) = refl
unrenewed_bare (Granted claim) = refl
unrenewed_bare (Renewed claim) = refl
unrenewed_bare Finished = refl
unrenewed_bare CutOff = refl

answered_bare : (s : Stage) → is_answered s ≡ is_answered (bare_stage s)
answered_bare First = refl
answered_bare Looked = refl
answered_bare (Answered at answer) = refl
answered_bare (Granted claim) = refl
answered_bare (Renewed claim) = refl
answered_bare Finished = refl
answered_bare CutOff = refl

reply_wrote : (r : Reply) → is_written r ≡ is_written (bare_reply r)
reply_wrote (reply.Page p) = refl
reply_wrote r = refl

reply_refused : (r : Reply) → is_refusal r ≡ is_refusal (bare_reply r)
reply_refused (reply.Page p) = refl
reply_refused r = refl

wrote_bare : (told : Option Told) → wrote told ≡ wrote (option_map bare_told told)
wrote_bare None = refl
wrote_bare (Some t) = reply_wrote t.reply

refusal_bare : (told : Option Told) → tells_refusal told ≡ tells_refusal (option_map bare_told told)
refusal_bare None = refl
refusal_bare (Some t) = reply_refused t.reply

none_bare : (told : Option Told) → is_none (option_map bare_told told) ≡ is_none told
none_bare None = refl
none_bare (Some t) = refl

named_bare : (s : Store) → tables_named s ≡ tables_named (bare_store s)
named_bare s = sym (maps_same bare_table (λ (t : Table). record { name = t.name; columns = columns_of t.lineage }) (λ t. refl) s.tables)

builds_of : (s : Store) (c : Command) → builds_files s c ≡ builds_files (bare_store s) c
builds_of s (command.Load rows) = ap (λ (named : List Named). is_ok (batch_of named rows)) (named_bare s)
builds_of s (command.Work words) = refl
builds_of s (command.Recast words) = refl
builds_of s c = refl

builds_bare : (s : Store) (c : Option Command) → builds_files_in s c ≡ builds_files_in (bare_store s) c
builds_bare s None = refl
builds_bare s (Some c) = builds_of s c

-- what is told, up to rows
told-bare : (script : Script) (r : Run) (e : Entry) → option_map bare_told (told_by script r e) ≡ option_map bare_told (told_by script (bare_run r) e)
told-bare script r e = ap (λ (t : Turned). t.told) (turned-bare script r e)

moment_as : (m : Option ℕ) (a b : Option Told) (e : Entry) → wrote a ≡ wrote b → fits_moment m a e ≡ fits_moment m b e
moment_as None a b e same = refl
moment_as (Some before) a b e same = ap (λ (w : Bool). if w then is_later before e.moment else closes (Some before) e || (e.moment == before)) same

module _ (script : Script) (r s : Run) (e : Entry) (same : bare_run r ≡ bare_run s) where
  told_alike : option_map bare_told (told_by script r e) ≡ option_map bare_told (told_by script s e)
  told_alike = told-bare script r e ∙ (ap (λ x. option_map bare_told (told_by script x e)) same ∙ sym (told-bare script s e))

  place_alike : bare_place (place_of r e.session) ≡ bare_place (place_of s e.session)
  unfolding place_of
  place_alike = ap (λ (x : Run). x.places e.session) same

  due_alike : is_due script r e ≡ is_due script s e
  due_alike = due_of_bare (command_of script e) (place_of r e.session) e ∙ (ap (λ p. is_due_of (command_of script e) p e) place_alike ∙ sym (due_of_bare (command_of script e) (place_of s e.session) e))

  unrenewed_alike : is_unrenewed (place_of r e.session).stage ≡ is_unrenewed (place_of s e.session).stage
  unrenewed_alike = unrenewed_bare (place_of r e.session).stage ∙ (ap (λ (p : Place). is_unrenewed p.stage) place_alike ∙ sym (unrenewed_bare (place_of s e.session).stage))

  answered_alike : is_answered (place_of r e.session).stage ≡ is_answered (place_of s e.session).stage
  answered_alike = answered_bare (place_of r e.session).stage ∙ (ap (λ (p : Place). is_answered p.stage) place_alike ∙ sym (answered_bare (place_of s e.session).stage))

  closed_alike : r.state.warehouse.closed ≡ s.state.warehouse.closed
  closed_alike = ap (λ (x : Run). x.state.warehouse.closed) same

  wrote_alike : wrote (told_by script r e) ≡ wrote (told_by script s e)
  wrote_alike = wrote_bare (told_by script r e) ∙ (ap wrote told_alike ∙ sym (wrote_bare (told_by script s e)))

  refusal_alike : tells_refusal (told_by script r e) ≡ tells_refusal (told_by script s e)
  refusal_alike = refusal_bare (told_by script r e) ∙ (ap tells_refusal told_alike ∙ sym (refusal_bare (told_by script s e)))

  printed_alike : is_none (told_by script r e) ≡ is_none (told_by script s e)
  printed_alike = sym (none_bare (told_by script r e)) ∙ (ap (λ (t : Option Told). is_none t) told_alike ∙ none_bare (told_by script s e))

  renewal_alike : fits_renewal r e ≡ fits_renewal s e
  renewal_alike = λ i. not (unrenewed_alike i && same_kind kind.Close e.kind && is_stands e.outcome) || is_some (closed_alike i)

  builds_alike : builds_files_in r.state.warehouse.store (command_of script e) ≡ builds_files_in s.state.warehouse.store (command_of script e)
  builds_alike =
      builds_bare r.state.warehouse.store (command_of script e)
      ∙ (ap (λ (x : Run). builds_files_in x.state.warehouse.store (command_of script e)) same ∙ sym (builds_bare s.state.warehouse.store (command_of script e)))

module _ (script : Script) (r s : Run) (e : Entry) (same : bare_run r ≡ bare_run s) where
  would_alike : would_write script r e ≡ would_write script s e
  would_alike = λ i. renewal_alike script r s (stood e) same i && wrote_alike script r s (stood e) same i

  moment_is : (r.moment ≡ s.moment)
  moment_is = ap (λ (x : Run). x.moment) same

  pub fits_alike : Fits script r e → Fits script s e
  fits_alike f = record {
    prologue = subst (λ (x : Run). IsTrue (not (x.prologue_over && (e.session == 0)))) same f.prologue;
    due = subst IsTrue (due_alike script r s e same) f.due;
    renewal = subst IsTrue (renewal_alike script r s e same) f.renewal;
    sink = subst (λ (x : Run). IsTrue (fits_sink x.last (is_skipped e))) same f.sink;
    moment =
        moment_as s.moment (told_by script s e) (told_by script r e) e (sym (wrote_alike script r s e same))
        ∙ subst (λ (x : Run). IsTrue (fits_moment x.moment (told_by script r e) e)) same f.moment;
    outcome = f.outcome;
    reading = (λ i. not (is_unread e.outcome) || same_kind kind.Close e.kind || sym (printed_alike script r s (stood e) same) i) ∙ f.reading;
    writing = (λ i. not (is_unwritten e.outcome) || (closes (sym moment_is i) e && sym would_alike i) || (is_same_moment (sym moment_is i) e.moment && sym (builds_alike script r s e same) i)) ∙ f.writing;
    closed = (λ i. is_none (sym (closed_alike script r s e same) i) || is_stands e.outcome || is_skipped e || same_kind kind.Look e.kind || sym (answered_alike script r s e same) i) ∙ f.closed;
  }

pub fit_alike : (script : Script) (r s : Run) (h : List Entry) → bare_run r ≡ bare_run s → AllFit script r h → AllFit script s h
unfolding AllFit
fit_alike script r s [] same all = tt
fit_alike script r s (e ∷ h) same all = (fits_alike script r s e same all.0, fit_alike script (go script r e) (go script s e) h (go_alike script r s e same) all.1)

-- whether some reply is a refusal hangs on the projection alone
pub refused_alike : (script : Script) (r s : Run) (h : List Entry) → bare_run r ≡ bare_run s → some_refused script r h ≡ some_refused script s h
unfolding some_refused
refused_alike script r s [] same = refl
refused_alike script r s (e ∷ h) same = λ i. refusal_alike script r s e same i || refused_alike script (go script r e) (go script s e) h (go_alike script r s e same) i

-- ---- the end

cut_stage : (r : Run) (number : ℕ) (st : Stage) (session : ℕ) → is_cut_off (record r { places = λ t. record { number = number; stage = st } }) session ≡ is_cut_off (record r { places = λ t. record { number = number; stage = bare_stage st } }) session
unfolding place_of
cut_stage r number First session = refl
cut_stage r number Looked session = refl
cut_stage r number (Answered at answer) session = refl
cut_stage r number (Granted claim) session = refl
cut_stage r number (Renewed claim) session = refl
cut_stage r number Finished session = refl
cut_stage r number CutOff session = refl

cut_bare : (r : Run) (session : ℕ) → is_cut_off r session ≡ is_cut_off (bare_run r) session
unfolding place_of
cut_bare r session = cut_stage r (r.places session).number (r.places session).stage session

all_same : (f g : ℕ → Bool) (xs : List ℕ) → ((n : ℕ) → f n ≡ g n) → list_all f xs ≡ list_all g xs
all_same f g xs same = ap (λ h. list_all h xs) (λ i n. same n i)

all_ended : (script : Script) (r : Run) → list_all (λ n. is_complete script r n || is_cut_off r n) (sessions_of script) ≡ list_all (λ n. is_complete script (bare_run r) n || is_cut_off (bare_run r) n) (sessions_of script)
unfolding place_of
all_ended script r = all_same _ _ (sessions_of script) (λ n. ap (λ (b : Bool). is_complete script r n || b) (cut_bare r n))

ends_as : (script : Script) (r : Run) (l : Last) → ends_well true script (record r { last = l }) ≡ ends_well true script (record (bare_run r) { last = l })
unfolding place_of
ends_as script r Silent = refl
ends_as script r Printed = all_ended script r
ends_as script r Skipped = all_ended script r

ends_bare : (failed : Bool) (script : Script) (r : Run) → ends_well failed script r ≡ ends_well failed script (bare_run r)
unfolding place_of
ends_bare false script r = refl
ends_bare true script r = ends_as script r r.last

pub legal_alike : (a b : State) (script : Script) (h : List Entry) (failed : Bool) → bare_state a ≡ bare_state b → IsLegal a script h failed → IsLegal b script h failed
legal_alike a b script h failed same legal =
    let begin : bare_run (begins a) ≡ bare_run (begins b) = ap begins same in
    record {
      each = fit_alike script (begins a) (begins b) h begin legal.each;
      ends = subst IsTrue (ends_bare failed script (runs script (begins a) h) ∙ (ap (ends_well failed script) (runs_alike script (begins a) (begins b) h begin) ∙ sym (ends_bare failed script (runs script (begins b) h)))) legal.ends;
    }
