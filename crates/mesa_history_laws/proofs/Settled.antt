-- Turns that go as if they stood: those that stand, and looks for which memory was short.
use Rattle.std.proofs.Common.{◌≡◌, ◌⊎◌, inl, inr, ⊎_elim, List, [], ◌∷◌, Bool, true, false, IsTrue, refl, sym, ap, ◌∙◌, subst, Option, Some}
use Rattle.std.specs.Prelude.{◌≢◌}
use Rattle.std.proofs.lemmas.Bool.{false≢true}
use Rattle.std.specs.List.{AllByRecursion}
use Rattle.mesa_history_spec.specs.mesa_batch.declared.words.RowWords.{RowWords}
use Rattle.mesa_history_spec.specs.mesa_model.declared.commands.Command.{Command}
use Rattle.mesa_history_spec.specs.mesa_model.declared.commands.Command.TheVariants as command
use Rattle.mesa_history_spec.specs.mesa_model.declared.commands.Script.{Script}
use Rattle.mesa_history_spec.specs.mesa_model.declared.entries.Entry.{Entry}
use Rattle.mesa_history_spec.specs.mesa_model.declared.entries.Kind.{Kind}
use Rattle.mesa_history_spec.specs.mesa_model.declared.entries.Kind.TheVariants as kind
use Rattle.mesa_history_spec.specs.mesa_model.declared.entries.Outcome.{Outcome}
use Rattle.mesa_history_spec.specs.mesa_model.declared.entries.Outcome.TheVariants as outcome
use Rattle.mesa_history_spec.specs.mesa_model.declared.replies.Refusal.TheVariants as no
use Rattle.mesa_history_spec.specs.Legal.{AllFit, Fits, ends_well, fits_sink, is_due_at, outcome_fits, outcome_fits_in}
use Rattle.mesa_history_spec.specs.Replay.{is_skip, is_skipped, last_of, refused_turn, standing, turn_of, turned, go, runs}
use Rattle.mesa_history_spec.specs.Run.{Last, Run, Skipped, Stage, First, Looked, Answered, Granted, Renewed, Finished, CutOff, Told, place_of}
use Rattle.mesa_history_spec.proofs.Due.{due_turn}
use Rattle.mesa_history_spec.proofs.More.{last_after}
use Rattle.mesa_history_laws.specs.Alone.{AllTurnsStand, outcome_told}

-- An entry's turn stands, or it is a look that lacked memory.
abbrev pub IsSettledAs : Kind → Outcome → Type 0
IsSettledAs k o = (o ≡ outcome.Stands) ⊎ ((k ≡ kind.Look) × (o ≡ outcome.Memory))

abbrev pub IsSettled : Entry → Type 0
IsSettled e = IsSettledAs e.kind e.outcome

abbrev pub AllSettled : List Entry → Type 0
AllSettled h = AllByRecursion IsSettled h

-- ---- which outcomes a look may have

-- a look is due of a load alone
load_looks : (c : Command) (stage : Stage) → IsTrue (is_due_at c stage kind.Look) → (rows : List RowWords) × (c ≡ command.Load rows)
load_looks (command.Load rows) First due = (rows, refl)
load_looks c First due = absurd cc
load_looks c Looked due = absurd cc
load_looks c (Answered at answer) due = absurd cc
load_looks c (Granted claim) due = absurd cc
load_looks c (Renewed claim) due = absurd cc
load_looks c Finished due = absurd cc
load_looks c CutOff due = absurd cc

look_outcome : (rows : List RowWords) (o : Outcome) → IsTrue (outcome_fits (command.Load rows) kind.Look o) → is_skip o ≡ false → (o ≡ outcome.Stands) ⊎ (o ≡ outcome.Memory)
look_outcome rows outcome.Stands fits done = inl refl
look_outcome rows outcome.Memory fits done = inr refl
look_outcome rows outcome.ReadFault fits done = absurd cc
look_outcome rows outcome.WriteFault fits done = absurd cc
look_outcome rows outcome.Damaged fits done = absurd cc
look_outcome rows outcome.Skipped fits done = absurd cc

by_kind : (k : Kind) (o : Outcome) → (k ≢ kind.Look → o ≡ outcome.Stands) → (k ≡ kind.Look → (o ≡ outcome.Stands) ⊎ (o ≡ outcome.Memory)) → IsSettledAs k o
by_kind kind.Look o stands looks = ⊎_elim inl (λ memory. inr (refl, memory)) (looks refl)
by_kind kind.Decide o stands looks = inl (stands (λ is. absurd cc))
by_kind kind.Close o stands looks = inl (stands (λ is. absurd cc))
by_kind kind.Grant o stands looks = inl (stands (λ is. absurd cc))
by_kind kind.Renew o stands looks = inl (stands (λ is. absurd cc))

settled : (script : Script) (r : Run) (e : Entry) → Fits script r e → is_skipped e ≡ false → (e.kind ≢ kind.Look → e.outcome ≡ outcome.Stands) → IsSettled e
settled script r e fits done stands = by_kind e.kind e.outcome stands (λ look.
    let turn = due_turn script r e fits.due in
    let load = load_looks turn.command (place_of r e.session).stage (subst (λ (k : Kind). IsTrue (is_due_at turn.command (place_of r e.session).stage k)) look turn.due) in
    let known = turn.known ∙ ap (λ (c : Command). Some c) load.1 in
    look_outcome load.0 e.outcome
    (subst (λ (k : Kind). IsTrue (outcome_fits (command.Load load.0) k e.outcome)) look
    (subst (λ (o : Option Command). IsTrue (outcome_fits_in o e)) known fits.outcome)) done)

-- ---- no entry is skipped where the sink didn't fail

skipped_last : (b : Bool) (told : Option Told) → b ≡ true → last_of b told ≡ Skipped
skipped_last true told is = refl
skipped_last false told is = absurd cc

skips_on : (l : Last) (b : Bool) → l ≡ Skipped → IsTrue (fits_sink l b) → b ≡ true
skips_on l b is fits = subst (λ k. IsTrue (fits_sink k b)) is fits

stays_skipped : (script : Script) (r : Run) (h : List Entry) → r.last ≡ Skipped → AllFit script r h → (runs script r h).last ≡ Skipped
unfolding runs AllFit
stays_skipped script r [] is fit = is
stays_skipped script r (e ∷ h) is fit =
    stays_skipped script (go script r e) h (last_after script r e ∙ skipped_last (is_skipped e) (turned script r e).told (skips_on r.last (is_skipped e) is fit.0.sink)) fit.1

either : (b : Bool) → (b ≡ true) ⊎ (b ≡ false)
either true = inl refl
either false = inr refl

-- No entry is skipped where the last one isn't.
pub none_skipped : (script : Script) (r : Run) (h : List Entry) → AllFit script r h → ((runs script r h).last ≡ Skipped → ⊥) → AllByRecursion (λ (e : Entry). is_skipped e ≡ false) h
unfolding runs AllFit
none_skipped script r [] fit ends = tt
none_skipped script r (e ∷ h) fit ends = (
  ⊎_elim (λ is. absurd (ends (stays_skipped script (go script r e) h (last_after script r e ∙ skipped_last (is_skipped e) (turned script r e).told is) fit.1))) (λ isnt. isnt) (either (is_skipped e)),
  none_skipped script (go script r e) h fit.1 ends,
)

-- A history that ended well, whose sink didn't fail, wasn't skipped.
pub ends_unskipped : (script : Script) (r : Run) → IsTrue (ends_well false script r) → r.last ≡ Skipped → ⊥
ends_unskipped script r ends is = false≢true (subst (λ l. IsTrue (ends_well false script (record r { last = l }))) is ends)

-- ---- all entries

pub all_settled : (script : Script) (r : Run) (h : List Entry) → AllFit script r h → AllByRecursion (λ (e : Entry). is_skipped e ≡ false) h → AllTurnsStand h → AllSettled h
unfolding AllFit
all_settled script r [] fit done stand = tt
all_settled script r (e ∷ h) fit done stand = (settled script r e fit.0 done.0 stand.0, all_settled script (go script r e) h fit.1 done.1 stand.1)

-- ---- what a settled turn makes

look_goes : (r : Run) (c : Command) (e : Entry) (stage : Stage) → e.kind ≡ kind.Look → turn_of r c e stage outcome.Memory ≡ turn_of r c e stage outcome.Stands
look_goes r c e stage look = ap (λ (k : Kind). refused_turn r.position r.state k stage no.Memory) look ∙ sym (ap (λ (k : Kind). standing r.position r.state e.session c k stage) look)

-- It goes as if it stood.
pub settled_goes : (r : Run) (c : Command) (e : Entry) (stage : Stage) → IsSettled e → turn_of r c e stage e.outcome ≡ turn_of r c e stage outcome.Stands
settled_goes r c e stage is = ⊎_elim (λ stands. ap (turn_of r c e stage) stands) (λ look. ap (turn_of r c e stage) look.1 ∙ look_goes r c e stage look.0) is

-- So it is told.
pub settled_told : (k : Kind) (o : Outcome) → IsSettledAs k o → outcome_told k o ≡ outcome.Stands
settled_told k o is = ⊎_elim (λ stands. ap (outcome_told k) stands ∙ stands_told k) (λ look. ap (λ (x : Kind). outcome_told x o) look.0) is
  where
    stands_told : (x : Kind) → outcome_told x outcome.Stands ≡ outcome.Stands
    stands_told kind.Look = refl
    stands_told kind.Decide = refl
    stands_told kind.Close = refl
    stands_told kind.Grant = refl
    stands_told kind.Renew = refl
