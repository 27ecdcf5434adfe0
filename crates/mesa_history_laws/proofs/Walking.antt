-- How a session goes that is alone: its turns are the ones that come where none fails.
use Rattle.std.proofs.Common.{◌≡◌, inl, ⊎_elim, ℕ, zero, suc, ◌+◌, ◌*◌, ◌<◌, ◌≤◌, ◌==◌, ◌&&◌, ◌||◌, List, [], ◌∷◌, ◌++◌, map, length, slice_get, not, IsTrue, refl, sym, ap, ◌∙◌, subst, append_assoc, append-nil, arith, Option, None, Some}
use Rattle.std.specs.Prelude.{is_none, is_some, if◌then◌else◌}
use Rattle.std.proofs.lemmas.List.{map-append}
use Rattle.mesa_history_spec.specs.mesa_model.declared.commands.Command.{Command}
use Rattle.mesa_history_spec.specs.mesa_model.declared.commands.Script.{Script}
use Rattle.mesa_history_spec.specs.mesa_model.declared.entries.Entry.{Entry}
use Rattle.mesa_history_spec.specs.mesa_model.declared.entries.Kind.{Kind}
use Rattle.mesa_history_spec.specs.mesa_model.declared.entries.Kind.TheVariants as kind
use Rattle.mesa_history_spec.specs.mesa_model.declared.entries.Outcome.{Outcome}
use Rattle.mesa_history_spec.specs.mesa_model.declared.entries.Outcome.TheVariants as outcome
use Rattle.mesa_history_spec.specs.Alone.{SoFar, kind_due, session_alone, sessions_alone}
use Rattle.mesa_history_spec.specs.Legal.{AllFit, Fits, is_complete, is_due_at, is_stands, is_unrenewed, same_kind, wrote}
use Rattle.mesa_history_spec.specs.Replay.{Turned, turned, turn_of, told_by, place_after, go, runs}
use Rattle.mesa_history_spec.specs.Run.{State, Place, Run, place_of, command_at, commands_of, numbered}
use Rattle.mesa_history_spec.proofs.Due.{due_turn}
use Rattle.mesa_history_spec.proofs.Finding.{all_more}
use Rattle.mesa_history_spec.proofs.More.{state_after, turned_is}
use Rattle.mesa_history_spec.proofs.Places.{place_of-go}
use Rattle.mesa_history_laws.specs.Alone.{undated}
use Rattle.mesa_history_laws.proofs.Settled.{AllSettled, IsSettled, settled_goes}
use Rattle.mesa_history_laws.proofs.Undated.{go_same, undated_run, undated_stands}
use Rattle.mesa_history_laws.proofs.Standing.{few_turns, kind_stands, look_due, turn_goes, turn_stays, turns_after, turns_to, turns_at}

-- ---- the entry that comes next

-- a moment, and 0 where there is none
abbrev moment_or : Option ℕ → ℕ
moment_or None = 0
moment_or (Some moment) = moment

-- an entry that stands, of a session at a place
abbrev turn_at : ℕ → Place → Kind → ℕ → Entry
turn_at s p k moment = record { session = s; command = p.number; kind = k; outcome = outcome.Stands; moment = moment }

undated_turn : (s : ℕ) (p : Place) (k : Kind) (moment : ℕ) → undated (turn_at s p k moment) ≡ turn_at s p k 0
undated_turn s p k moment = λ i. record (turn_at s p k 0) { outcome = undated_stands (turn_at s p k moment) (inl refl) i }

-- the entry that comes next
abbrev next_entry : Script → Run → ℕ → Command → Entry
next_entry script r s c =
    let k = kind_due c (place_of r s).stage in
    let moment = moment_or r.moment in
    turn_at s (place_of r s) k (if wrote (told_by script r (turn_at s (place_of r s) k moment)) then moment + 1 else moment)

-- a run with the entry that comes next
abbrev gone_on : Script → ℕ → SoFar → Command → SoFar
gone_on script s past c = record { run = go script past.run (next_entry script past.run s c); history = past.history ++ next_entry script past.run s c ∷ [] }

-- the turns behind it, where there is a command
abbrev goes_on : Script → ℕ → ℕ → SoFar → Option Command → SoFar
goes_on script s n past o = elim o [ None ↦ past | Some c ↦ session_alone n script s (gone_on script s past c) ]

alone_goes : (script : Script) (s n : ℕ) (past : SoFar) → session_alone (suc n) script s past ≡ goes_on script s n past (command_at script s (place_of past.run s).number)
alone_goes script s n past = refl

-- ---- places

number_same : (a b : ℕ) → IsTrue (a == b) → a ≡ b
number_same a b is = grind (arith, is)

place_same : (r q : Run) (s : ℕ) → undated_run r ≡ undated_run q → place_of r s ≡ place_of q s
unfolding place_of
place_same r q s same = ap (λ (x : Run). x.places s) same

some_below : (cs : List Command) (i : ℕ) (c : Command) → slice_get cs i ≡ Some c → i < length cs
some_below [] i c is = absurd cc
some_below (x ∷ cs) zero c is = omega arith
some_below (x ∷ cs) (suc i) c is = let lt = some_below cs i c is in omega (arith, lt)

number_below : (cs : List Command) (n : ℕ) (c : Command) → numbered cs n ≡ Some c → n ≤ length cs
number_below cs zero c is = absurd cc
number_below cs (suc n) c is = let lt = some_below cs n c is in omega (arith, lt)

none_of : (o : Option Command) → IsTrue (is_none o) → o ≡ None
none_of None is = refl
none_of (Some c) is = absurd cc

-- ---- one entry of the session

-- What a settled entry is, of a session in a warehouse that isn't closed: the turn that comes next.
record IsNext (script : Script) (r : Run) (s : ℕ) (e : Entry) : Type 0 where
  command : Command
  known : command_at script s (place_of r s).number ≡ Some command
  due : IsTrue (is_due_at command (place_of r s).stage (kind_due command (place_of r s).stage))
  is : undated e ≡ turn_at s (place_of r s) (kind_due command (place_of r s).stage) 0
  closed : (go script r e).state.warehouse.closed ≡ r.state.warehouse.closed
  goes : turns_to (place_of r s) + 1 ≤ turns_to (place_of (go script r e) s)

-- the kind of a settled turn that is due
next_kind : (script : Script) (r : Run) (e : Entry) (c : Command) → Fits script r e → IsTrue (is_due_at c (place_of r e.session).stage e.kind) → IsSettled e → r.state.warehouse.closed ≡ None → e.kind ≡ kind_due c (place_of r e.session).stage
next_kind script r e c fits due is none = ⊎_elim
    (λ stands.
    let renewal = subst (λ (closed : Option ℕ). IsTrue (not (is_unrenewed (place_of r e.session).stage && same_kind kind.Close e.kind && is_stands outcome.Stands) || is_some closed)) none
    (subst (λ (o : Outcome). IsTrue (not (is_unrenewed (place_of r e.session).stage && same_kind kind.Close e.kind && is_stands o) || is_some r.state.warehouse.closed)) stands fits.renewal) in
    kind_stands c (place_of r e.session).stage e.kind due renewal)
    (λ look. look.0 ∙ sym (look_due c (place_of r e.session).stage (subst (λ (k : Kind). IsTrue (is_due_at c (place_of r e.session).stage k)) look.0 due)))
    is

next_is : (script : Script) (r : Run) (s : ℕ) (e : Entry) → Fits script r e → e.session ≡ s → IsSettled e → r.state.warehouse.closed ≡ None → IsNext script r s e
next_is script r s e fits mine settled none =
    let turn = due_turn script r e fits.due in
    let c = turn.command in
    let here : place_of r e.session ≡ place_of r s = ap (place_of r) mine in
    let number : e.command ≡ (place_of r e.session).number = number_same e.command (place_of r e.session).number turn.number in
    let k : e.kind ≡ kind_due c (place_of r e.session).stage = next_kind script r e c fits turn.due settled none in
    let due = subst (λ (x : Kind). IsTrue (is_due_at c (place_of r e.session).stage x)) k turn.due in
    let stage = (place_of r e.session).stage in
    let made : turned script r e ≡ turn_of r c (record e { kind = kind_due c stage }) stage outcome.Stands = turned_is script r e c turn.known ∙ settled_goes r c e stage settled ∙ (λ i. turn_of r c (record e { kind = k i }) stage outcome.Stands) in
    let after : place_of (go script r e) e.session ≡ place_after (place_of r e.session).number (turn_of r c (record e { kind = kind_due c stage }) stage outcome.Stands).stage =
    place_of-go script r e ∙ ap (λ (t : Turned). place_after (place_of r e.session).number t.stage) made in
    let more : turns_at stage + 1 ≤ turns_at (turn_of r c (record e { kind = kind_due c stage }) stage outcome.Stands).stage = turn_goes r.position r.state e.session c stage (few_turns c stage (kind_due c stage) due) in
    let was : turns_to (place_of r e.session) ≡ 3 * (place_of r e.session).number + turns_at stage = refl in
    let counted = ap turns_to after ∙ turns_after (place_of r e.session).number (turn_of r c (record e { kind = kind_due c stage }) stage outcome.Stands).stage in
    let goes : turns_to (place_of r e.session) + 1 ≤ turns_to (place_of (go script r e) e.session) = omega (arith, more, counted, was) in
    record {
      command = c;
      known = ap (λ (p : Place). command_at script s p.number) (sym here) ∙ ap (λ n. command_at script s n) (sym number) ∙ ap (λ t. command_at script t e.command) (sym mine) ∙ turn.known;
      due = subst (λ (p : Place). IsTrue (is_due_at c p.stage (kind_due c p.stage))) here due;
      is = (λ i. record { session = mine i; command = (number ∙ ap (λ (p : Place). p.number) here) i; kind = (k ∙ ap (λ (p : Place). kind_due c p.stage) here) i; outcome = undated_stands e settled i; moment = 0 });
      closed = ap (λ (x : State). x.warehouse.closed) (state_after script r e) ∙ ap (λ (t : Turned). t.state.warehouse.closed) made ∙ turn_stays r.position r.state e.session c stage;
      goes = subst (λ t. turns_to (place_of r t) + 1 ≤ turns_to (place_of (go script r e) t)) mine goes;
    }

-- ---- all of them

-- the entries that come next stand
alone_stands : (script : Script) (s n : ℕ) (past : SoFar) → AllSettled past.history → AllSettled (session_alone n script s past).history
alone_stands script s zero past all = all
alone_stands script s (suc n) past all = by (command_at script s (place_of past.run s).number) (λ c. alone_stands script s n (gone_on script s past c) (all_more IsSettled past.history (next_entry script past.run s c) all (inl refl)))
  where
    by : (o : Option Command) → ((c : Command) → AllSettled (session_alone n script s (gone_on script s past c)).history) → AllSettled (goes_on script s n past o).history
    by None more = all
    by (Some c) more = more c

pub sessions_stand : (script : Script) (s : ℕ) (sessions : List (List Command)) (past : SoFar) → AllSettled past.history → AllSettled (sessions_alone script s sessions past).history
sessions_stand script s [] past all = all
sessions_stand script s (commands ∷ sessions) past all = sessions_stand script (s + 1) sessions (session_alone (3 * length commands) script s past) (alone_stands script s (3 * length commands) past all)

-- A session whose entries are the only ones, and which is complete behind them, goes on by just these turns, as long as it may go on.
pub walks_alone : (script : Script) (s : ℕ) → ((t number : ℕ) (c : Command) → command_at script t number ≡ Some c → t ≡ s) → (h : List Entry) (r q : Run) (n : ℕ) (g : List Entry) → undated_run r ≡ undated_run q → AllFit script r h → AllSettled h
    → r.state.warehouse.closed ≡ None → IsTrue (is_complete script (runs script r h) s) → 3 * length (commands_of script s) + 3 ≤ n + turns_to (place_of r s)
    → map undated (session_alone n script s (record { run = q; history = g })).history ≡ map undated g ++ map undated h
unfolding runs AllFit
walks_alone script s only [] r q zero g same fit stand none ends few = sym (append-nil (map undated g))
walks_alone script s only [] r q (suc n) g same fit stand none ends few =
    let past : SoFar = record { run = q; history = g } in
    let behind : command_at script s (place_of q s).number ≡ None = ap (λ (p : Place). command_at script s p.number) (sym (place_same r q s same)) ∙ none_of (command_at script s (place_of r s).number) ends in
    ap (λ (o : Option Command). map undated (goes_on script s n past o).history) behind ∙ sym (append-nil (map undated g))
walks_alone script s only (e ∷ h) r q zero g same fit stand none ends few =
    let next = next_is script r s e fit.0 (let turn = due_turn script r e fit.0.due in only e.session e.command turn.command turn.known) stand.0 none in
    let low = number_below (commands_of script s) (place_of r s).number next.command next.known in
    let at = few_turns next.command (place_of r s).stage (kind_due next.command (place_of r s).stage) next.due in
    let was : turns_to (place_of r s) ≡ 3 * (place_of r s).number + turns_at (place_of r s).stage = refl in
    absurd (omega (arith, few, low, at, was))
walks_alone script s only (e ∷ h) r q (suc n) g same fit stand none ends few =
    let next = next_is script r s e fit.0 (let turn = due_turn script r e fit.0.due in only e.session e.command turn.command turn.known) stand.0 none in
    let c = next.command in
    let past : SoFar = record { run = q; history = g } in
    let place : place_of r s ≡ place_of q s = place_same r q s same in
    let there : command_at script s (place_of q s).number ≡ Some c = ap (λ (p : Place). command_at script s p.number) (sym place) ∙ next.known in
    let d : Entry = next_entry script q s c in
    let alike : undated e ≡ undated d = next.is ∙ (λ i. turn_at s (place i) (kind_due c (place i).stage) 0) ∙ sym (undated_turn s (place_of q s) (kind_due c (place_of q s).stage) d.moment) in
    let goes = next.goes in
    ap (λ (o : Option Command). map undated (goes_on script s n past o).history) there
    ∙ walks_alone script s only h (go script r e) (go script q d) n (g ++ d ∷ []) (go_same script r q e d same alike stand.0 (inl refl)) fit.1 stand.1 (next.closed ∙ none) ends (omega (arith, few, goes))
    ∙ ap (λ xs. xs ++ map undated h) (map-append undated g (d ∷ []))
    ∙ append_assoc (map undated g) (undated d ∷ []) (map undated h)
    ∙ ap (λ (x : Entry). map undated g ++ x ∷ map undated h) (sym alike)
