-- A warehouse that a fault closed stays closed.
use Rattle.std.proofs.Common.{◌≡◌, inl, inr, ◌≤◌, ◌<◌, ℕ, List, [], ◌∷◌, ◌++◌, Bool, true, false, IsTrue, refl, sym, ◌∙◌, ap, subst, arith, append-nil, Option, Some, None}
use Rattle.std.specs.List.{AllByRecursion}
use Rattle.mesa_model.specs.declared.commands.Command.{Command}
use Rattle.mesa_model.specs.declared.commands.Script.{Script}
use Rattle.mesa_model.specs.declared.entries.Entry.{Entry}
use Rattle.mesa_model.specs.declared.entries.Kind.{Kind}
use Rattle.mesa_model.specs.declared.entries.Kind.TheVariants as kind
use Rattle.mesa_model.specs.declared.entries.Outcome.{Outcome}
use Rattle.mesa_model.specs.declared.entries.Outcome.TheVariants as outcome
use Rattle.mesa_model.specs.declared.replies.Refusal.{Refusal}
use Rattle.mesa_model.specs.declared.replies.Refusal.TheVariants as no
use Rattle.mesa_model.specs.Warehouse.{Warehouse}
use Rattle.mesa_session.specs.mesa_history_spec.Found.{Found, Kept, WasTried, kept_in}
use Rattle.mesa_session.specs.mesa_history_spec.Legal.{AllFit, Fits, is_answered, is_due_at, same_kind}
use Rattle.mesa_session.specs.mesa_history_spec.Replay.{Turned, closed_if, closes, closes_as, go, refused_turn, runs, some_damage, standing, turn_of, turned}
use Rattle.mesa_session.specs.mesa_history_spec.Run.{State, Stage, First, Looked, Answered, Granted, Renewed, Finished, CutOff, Run, begins, place_of}
use Rattle.mesa_session.proofs.mesa_history_spec.ClosedRuns.{turned-closed}
use Rattle.mesa_session.proofs.mesa_history_spec.Due.{due_turn}
use Rattle.mesa_session.proofs.mesa_history_spec.More.{state_after, turned_is}

-- the state closed at some position
abbrev IsClosed : State → Type 0
IsClosed s = (position : ℕ) × (s.warehouse.closed ≡ Some position)

-- ---- one turn

-- a refused turn leaves the warehouse
refused_leaves : (position : ℕ) (s : State) (k : Kind) (stage : Stage) (refusal : Refusal) → (refused_turn position s k stage refusal).state.warehouse ≡ s.warehouse
refused_leaves position s kind.Look stage refusal = refl
refused_leaves position s kind.Decide stage refusal = refl
refused_leaves position s kind.Close (Granted claim) refusal = refl
refused_leaves position s kind.Close (Renewed claim) refusal = refl
refused_leaves position s kind.Close First refusal = refl
refused_leaves position s kind.Close Looked refusal = refl
refused_leaves position s kind.Close (Answered at answer) refusal = refl
refused_leaves position s kind.Close Finished refusal = refl
refused_leaves position s kind.Close CutOff refusal = refl
refused_leaves position s kind.Grant stage refusal = refl
refused_leaves position s kind.Renew stage refusal = refl

refused_closed : (position : ℕ) (s : State) (k : Kind) (stage : Stage) (refusal : Refusal) → IsClosed s → IsClosed (refused_turn position s k stage refusal).state
refused_closed position s k stage refusal is = (is.0, ap (λ (w : Warehouse). w.closed) (refused_leaves position s k stage refusal) ∙ is.1)

if_closed : (b : Bool) (position : ℕ) (s : State) → IsClosed s → IsClosed (closed_if b position s)
if_closed true position s is = (position, refl)
if_closed false position s is = is

-- the look of a load, and the close of a query that was answered, leave the state
look_leaves : (r : Run) (e : Entry) (c : Command) (stage : Stage) (k : Kind) → same_kind kind.Look k ≡ true → (standing r.position r.state e.session c k stage).state ≡ r.state
look_leaves r e c stage kind.Look is = refl
look_leaves r e c stage kind.Decide is = absurd cc
look_leaves r e c stage kind.Close is = absurd cc
look_leaves r e c stage kind.Grant is = absurd cc
look_leaves r e c stage kind.Renew is = absurd cc

answer_leaves : (r : Run) (e : Entry) (c : Command) (stage : Stage) (k : Kind) → IsTrue (is_due_at c stage k) → is_answered stage ≡ true → (standing r.position r.state e.session c k stage).state ≡ r.state
answer_leaves r e c (Answered at answer) kind.Close due is = refl
answer_leaves r e c (Answered at answer) k due is = absurd cc
answer_leaves r e c First k due is = absurd cc
answer_leaves r e c Looked k due is = absurd cc
answer_leaves r e c (Granted claim) k due is = absurd cc
answer_leaves r e c (Renewed claim) k due is = absurd cc
answer_leaves r e c Finished k due is = absurd cc
answer_leaves r e c CutOff k due is = absurd cc

stands_leaves : (script : Script) (r : Run) (e : Entry) (position : ℕ) → r.state.warehouse.closed ≡ Some position → Fits script r e → e.outcome ≡ outcome.Stands → (turned script r e).state ≡ r.state
stands_leaves script r e position is fits stands = by (same_kind kind.Look e.kind) (is_answered (place_of r e.session).stage) refl refl
  where
    turn : turned script r e ≡ standing r.position r.state e.session (due_turn script r e fits.due).command e.kind (place_of r e.session).stage
    turn = turned_is script r e (due_turn script r e fits.due).command (due_turn script r e fits.due).known ∙ ap (turn_of r (due_turn script r e fits.due).command e (place_of r e.session).stage) stands

    by : (look answered : Bool) → same_kind kind.Look e.kind ≡ look → is_answered (place_of r e.session).stage ≡ answered → (turned script r e).state ≡ r.state
    by true answered looks answers = ap (λ (t : Turned). t.state) turn ∙ look_leaves r e (due_turn script r e fits.due).command (place_of r e.session).stage e.kind looks
    by false true looks answers = ap (λ (t : Turned). t.state) turn ∙ answer_leaves r e (due_turn script r e fits.due).command (place_of r e.session).stage e.kind (due_turn script r e fits.due).due answers
    by false false looks answers = ap (λ (t : Turned). t.state) (turned-closed script r e position is fits stands looks answers)

turn_closed : (r : Run) (c : Command) (e : Entry) (stage : Stage) (o : Outcome) → (o ≡ outcome.Stands → IsClosed (turn_of r c e stage o).state) → IsClosed r.state → IsClosed (turn_of r c e stage o).state
turn_closed r c e stage outcome.Stands stands is = stands refl
turn_closed r c e stage outcome.Memory stands is = refused_closed r.position r.state e.kind stage no.Memory is
turn_closed r c e stage outcome.ReadFault stands is = refused_closed r.position r.state e.kind stage no.ReadFault is
turn_closed r c e stage outcome.WriteFault stands is = refused_closed r.position (closed_if (closes r.moment e) r.position r.state) e.kind stage no.WriteFault (if_closed (closes r.moment e) r.position r.state is)
turn_closed r c e stage outcome.Damaged stands is = refused_closed r.position r.state e.kind stage (no.Damaged some_damage) is
turn_closed r c e stage outcome.Skipped stands is = is

goes_closed : (script : Script) (r : Run) (e : Entry) → Fits script r e → IsClosed r.state → IsClosed (go script r e).state
goes_closed script r e fits is =
    let turn = due_turn script r e fits.due in
    let made = turned_is script r e turn.command turn.known in
    subst IsClosed (sym (state_after script r e))
    (subst (λ (t : Turned). IsClosed t.state) (sym made)
    (turn_closed r turn.command e (place_of r e.session).stage e.outcome
    (λ stands. subst (λ (t : Turned). IsClosed t.state) made (subst IsClosed (sym (stands_leaves script r e is.0 is.1 fits stands)) is)) is))

run_closed : (script : Script) (r : Run) (h : List Entry) → AllFit script r h → IsClosed r.state → IsClosed (runs script r h).state
unfolding runs AllFit
run_closed script r [] fit is = is
run_closed script r (e ∷ h) fit is = run_closed script (go script r e) h fit.1 (goes_closed script r e fit.0 is)

-- ---- the entry that closes

closes_write : (before : Option ℕ) (moment : ℕ) (o : Outcome) → closes_as before moment o ≡ true → o ≡ outcome.WriteFault
closes_write before moment outcome.WriteFault is = refl
closes_write before moment outcome.Stands is = absurd cc
closes_write before moment outcome.Memory is = absurd cc
closes_write before moment outcome.ReadFault is = absurd cc
closes_write before moment outcome.Damaged is = absurd cc
closes_write before moment outcome.Skipped is = absurd cc

if_true : (b : Bool) (position : ℕ) (s : State) → b ≡ true → IsClosed (closed_if b position s)
if_true true position s is = (position, refl)
if_true false position s is = absurd cc

closing_closes : (script : Script) (r : Run) (e : Entry) → Fits script r e → closes r.moment e ≡ true → IsClosed (go script r e).state
closing_closes script r e fits is =
    let turn = due_turn script r e fits.due in
    let stage = (place_of r e.session).stage in
    let made = turned_is script r e turn.command turn.known ∙ ap (turn_of r turn.command e stage) (closes_write r.moment e.moment e.outcome is) in
    subst IsClosed (sym (state_after script r e))
    (subst (λ (t : Turned). IsClosed t.state) (sym made)
    (refused_closed r.position (closed_if (closes r.moment e) r.position r.state) e.kind stage no.WriteFault (if_true (closes r.moment e) r.position r.state is)))

-- Behind an entry that closes the warehouse is closed.
tried_closed : (script : Script) (r : Run) (past : List Entry) (e : Entry) (rest : List Entry) → AllFit script r (past ++ e ∷ rest) → closes (runs script r past).moment e ≡ true → IsClosed (runs script r (past ++ e ∷ rest)).state
unfolding runs AllFit
tried_closed script r [] e rest fit is = run_closed script (go script r e) rest fit.1 (closing_closes script r e fit.0 is)
tried_closed script r (x ∷ past) e rest fit is = tried_closed script (go script r x) past e rest fit.1 is

pub none_tried : (script : Script) (r : Run) (h : List Entry) (kept : Kept) → AllFit script r h → (runs script r h).state.warehouse.closed ≡ None → WasTried script r h kept → ⊥
none_tried script r h kept fit unclosed tried =
    let shut = tried_closed script r tried.past tried.entry tried.rest (subst (AllFit script r) tried.split fit) tried.closing in
    let same = ap (λ (x : List Entry). (runs script r x).state.warehouse.closed) tried.split in
    let never : Some shut.0 ≡ None = sym shut.1 ∙ sym same ∙ unclosed in
    cc never

-- ---- what a crash at the end finds

none_later : (rest : List Entry) (t : ℕ) → AllByRecursion (λ (e : Entry). t < e.moment) rest → AllByRecursion (λ (e : Entry). e.moment ≤ t) rest → rest ≡ []
none_later [] t later by = refl
none_later (e ∷ rest) t later by = absurd (omega (arith, later.0, by.0))

all_behind : (past rest : List Entry) (t : ℕ) → AllByRecursion (λ (e : Entry). e.moment ≤ t) (past ++ rest) → AllByRecursion (λ (e : Entry). e.moment ≤ t) rest
all_behind [] rest t by = by
all_behind (e ∷ past) rest t by = all_behind past rest t by.1

-- Where nothing closed the warehouse and no entry is later, what is found stands for the state behind the last turn.
pub found_last : {Image : Type 0} (stands : Image → Kept → Type 0) (script : Script) (start : State) (h : List Entry) (t : ℕ) (x : Image) → AllFit script (begins start) h → AllByRecursion (λ (e : Entry). e.moment ≤ t) h
    → (runs script (begins start) h).state.warehouse.closed ≡ None → Found stands script (begins start) h t x → stands x (kept_in (runs script (begins start) h))
found_last stands script start h t x fit by unclosed f = elim f.how [
  | inl stood ↦
      let none = none_later stood.rest t stood.later (all_behind stood.past stood.rest t (subst (AllByRecursion (λ (e : Entry). e.moment ≤ t)) stood.split by)) in
      let all : h ≡ stood.past = stood.split ∙ ap (λ (xs : List Entry). stood.past ++ xs) none ∙ append-nil stood.past in
      subst (stands x) (stood.same ∙ ap (λ (xs : List Entry). kept_in (runs script (begins start) xs)) (sym all)) f.is
  | inr tried ↦ absurd (none_tried script (begins start) h f.kept fit unclosed tried)
]
