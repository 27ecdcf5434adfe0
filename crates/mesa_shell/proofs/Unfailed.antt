-- A run in which no count rose and no printed reply is memory.
use Rattle.std.proofs.Common.{◌≡◌, ◌⊎◌, inl, inr, ◌<◌, ℕ, List, [], ◌∷◌, length, Bool, true, false, refl, sym, ◌∙◌, ap, subst, arith, Option, Some}
use Rattle.std.specs.Prelude.{◌≢◌, ◌||◌, IfSome, Ok}
use Rattle.mesa_session.specs.mesa_history_laws.Alone.{AllTurnsStand}
use Rattle.mesa_model.specs.declared.commands.Script.{Script}
use Rattle.mesa_model.specs.declared.entries.Entry.{Entry}
use Rattle.mesa_model.specs.declared.entries.Kind.{Kind}
use Rattle.mesa_model.specs.declared.entries.Kind.TheVariants as kind
use Rattle.mesa_model.specs.declared.entries.Outcome.{Outcome}
use Rattle.mesa_model.specs.declared.entries.Outcome.TheVariants as outcome
use Rattle.mesa_model.specs.declared.replies.Refusal.TheVariants as no
use Rattle.mesa_session.specs.mesa_history_spec.Legal.{AllFit, Fits}
use Rattle.mesa_session.specs.mesa_history_spec.Replay.{Turned, go, refused_turn, told_by, turn_of}
use Rattle.mesa_session.specs.mesa_history_spec.Run.{Run, Stage, State, begins, place_of}
use Rattle.mesa_session.proofs.mesa_history_spec.Due.{due_turn}
use Rattle.mesa_session.proofs.mesa_history_spec.More.{turned_is}
use Rattle.mesa_script.specs.Script.{script_of}
use Rattle.mesa_parse.specs.declared.forms.Form.TheVariants as form
use Rattle.mesa_session.specs.mesa_history_spec.Rows.{Rows}
use Rattle.mesa_engine.specs.mesa_store_spec.Catalog.{Catalog}
use Rattle.mesa_shell.specs.Ports.{Ports}
use Rattle.mesa_shell.specs.ExitLines.{max_input}
use Rattle.mesa_shell.specs.StoreStart.{start_of}
use Rattle.mesa_shell.specs.Run.{Ran}
use Rattle.mesa_shell.specs.Alone.{RunsUnfailed, some_memory, tells_memory}
use Rattle.mesa_shell.specs.Completing.{AllQuiet, HasRoomToRun, IsInput, NothingFailed, is_quiet}
use Rattle.mesa_shell.specs.Exit.{Ends, EndsInput, EndsScript, EndsText}
use Rattle.mesa_shell.specs.declared.done.Devices.{Devices}
use Rattle.mesa_shell.specs.declared.done.Done.{Done}
use Rattle.mesa_shell.proofs.Completing.{err_ok, ok_same, opening_short, printed_short, quiet, same}
use Rattle.mesa_shell.proofs.Small.{scripts_small}

-- ---- one turn

either_quiet : (o : Outcome) → is_quiet o ≡ true → (o ≡ outcome.Stands) ⊎ (o ≡ outcome.Memory)
either_quiet outcome.Stands is = inl refl
either_quiet outcome.Memory is = inr refl
either_quiet outcome.ReadFault is = absurd cc
either_quiet outcome.WriteFault is = absurd cc
either_quiet outcome.Damaged is = absurd cc
either_quiet outcome.Skipped is = absurd cc

-- a turn that lacked memory prints that, but for a look
told_short : (position : ℕ) (s : State) (k : Kind) (stage : Stage) → k ≢ kind.Look → tells_memory (refused_turn position s k stage no.Memory).told ≡ true
told_short position s kind.Look stage not_look = absurd (not_look refl)
told_short position s kind.Decide stage not_look = refl
told_short position s kind.Close stage not_look = refl
told_short position s kind.Grant stage not_look = refl
told_short position s kind.Renew stage not_look = refl

stands : (script : Script) (r : Run) (e : Entry) → Fits script r e → is_quiet e.outcome ≡ true → tells_memory (told_by script r e) ≡ false → e.kind ≢ kind.Look → e.outcome ≡ outcome.Stands
stands script r e fits is none not_look = elim (either_quiet e.outcome is) [
  | inl fine ↦ fine
  | inr memory ↦
      let turn = due_turn script r e fits.due in
      let stage = (place_of r e.session).stage in
      let told = ap (λ (t : Turned). tells_memory t.told) (turned_is script r e turn.command turn.known ∙ ap (turn_of r turn.command e stage) memory) in
      let both : true ≡ false = sym (told ∙ told_short r.position r.state e.kind stage not_look) ∙ none in
      absurd cc
]

-- ---- all turns

neither : (a b : Bool) → (a || b) ≡ false → (a ≡ false) × (b ≡ false)
neither true b is = absurd cc
neither false b is = (refl, is)

all_stand : (script : Script) (r : Run) (h : List Entry) → AllFit script r h → AllQuiet h → some_memory script r h ≡ false → AllTurnsStand h
unfolding AllFit some_memory
all_stand script r [] fit are none = tt
all_stand script r (e ∷ h) fit are none =
    let parts = neither (tells_memory (told_by script r e)) (some_memory script (go script r e) h) none in
    (stands script r e fit.0 are.0 parts.0, all_stand script (go script r e) h fit.1 are.1 parts.1)

-- ---- a call

module _ {K D M B : Type 0} (ports : Ports K D M B) (g : Devices K D B) (done : Done K D B) (source_before source_now : ℕ) (nothing : NothingFailed ports g done source_before source_now) (c : Catalog) (rows : Rows) (room : HasRoomToRun ports g c rows) (enough : done.status ≢ 8) where
  -- the script was run, and the sink didn't fail
  abbrev HasRunWhole : Script → Type 0
  HasRunWhole script = (d : Catalog) × Ran ports g done script d false

  scripted : (script : Script) → EndsScript ports g done script → HasRunWhole script
  scripted script ends = elim ends [
    | inl p ↦ absurd (enough (opening_short ports g done source_before source_now nothing c rows room p.0 p.1))
    | inr rest ↦ elim rest [
      | inl p ↦ elim p.1 [ inl ran ↦ (p.0, ran.0) | inr failed ↦ absurd (nothing.sink failed.2) ]
      | inr p ↦ absurd (enough (printed_short ports g done source_before source_now nothing _ p.1))
    ]
  ]

  text : (bytes : List ℕ) (script : Script) → script_of bytes ≡ Ok script → EndsText ports g done bytes → HasRunWhole script
  text bytes script is ends = elim ends [
    | inl p ↦ absurd (err_ok _ p.0 script p.1 is)
    | inr rest ↦ elim rest [
      | inl p ↦ subst HasRunWhole (ok_same (script_of bytes) p.0 script p.1 is) (scripted p.0 p.2)
      | inr p ↦ absurd (enough (printed_short ports g done source_before source_now nothing _ p.1))
    ]
  ]

  read : (input : Option (List ℕ)) (script : Script) → IsInput input script → EndsInput ports g done input → HasRunWhole script
  read input script is ends = elim ends [
    | inl q ↦ absurd (let long : max_input < length is.bytes = subst (λ o. IfSome o (λ b. max_input < length b)) is.known q.0 in omega (arith, long, is.short))
    | inr more ↦ elim more [
      | inl q ↦ text q.0 script (ap script_of (sym (subst (λ o. IfSome o (λ all. all ≡ q.0)) is.known q.1)) ∙ is.read) q.3
      | inr q ↦ absurd (enough (printed_short ports g done source_before source_now nothing _ q.1))
    ]
  ]

  run : (input : Option (List ℕ)) (script : Script) → IsInput input script → Ends ports g done (Some form.Run) input source_before source_now → HasRunWhole script
  run input script is ends = elim ends [
    | inl p ↦ elim p [
      | inl q ↦ absurd (nothing.source q.0)
      | inr q ↦ read input script is q.1
    ]
    | inr p ↦ absurd (enough (printed_short ports g done source_before source_now nothing _ p.1.1))
  ]

pub runs_unfailed : {K D M B : Type 0} (ports : Ports K D M B) (given : Devices K D B) (done : Done K D B) (input : Option (List ℕ)) (before now : ℕ) → RunsUnfailed ports given done input before now
runs_unfailed ports given done input before now script c rows is ends room nothing enough none =
    let whole = run ports given done before now nothing c rows room enough input script is ends in
    let one : c ≡ whole.0 = same ports given done before now nothing c rows room whole.0 whole.1.reads in
    let ran : Ran ports given done script c false = subst (λ (d : Catalog). Ran ports given done script d false) (sym one) whole.1 in
    let are = quiet ports given done before now nothing c rows room script (scripts_small is.bytes script is.read) c ran in
    let stand : AllTurnsStand done.history.items = all_stand script (begins (start_of script c rows)) done.history.items (ran.anyhow rows).legal.each are none in
    (stand, λ alone. ran.alone rows room.sound nothing.clock refl alone stand)
