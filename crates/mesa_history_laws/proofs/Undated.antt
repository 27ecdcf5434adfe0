-- A run and what it prints don't hang on the moments of turns that go as if they stood, nor on the outcomes of looks.
use Rattle.std.proofs.Common.{◌≡◌, ◌⊎◌, inl, inr, ⊎_elim, ℕ, List, [], ◌∷◌, ◌++◌, map, Bool, refl, sym, ap, ◌∙◌, subst, Option, None, Some}
use Rattle.mesa_history_spec.specs.mesa_model.declared.commands.Command.{Command}
use Rattle.mesa_history_spec.specs.mesa_model.declared.commands.Script.{Script}
use Rattle.mesa_history_spec.specs.mesa_model.declared.entries.Entry.{Entry}
use Rattle.mesa_history_spec.specs.mesa_model.declared.entries.Outcome.{Outcome}
use Rattle.mesa_history_spec.specs.mesa_model.declared.entries.Outcome.TheVariants as outcome
use Rattle.mesa_history_spec.specs.Replay.{Turned, turned, told_by, turn_of, turn_as, is_skip, is_skipped, last_of, after, go}
use Rattle.mesa_history_spec.specs.Run.{Told, Run, place_of, command_of}
use Rattle.mesa_history_spec.specs.Output.{block, IsBlockAs, IsOutput, output}
use Rattle.mesa_history_laws.specs.Alone.{AreAlike, undated}
use Rattle.mesa_history_laws.proofs.Settled.{AllSettled, IsSettled, settled_goes, settled_told}

-- a run without the moment of its last turn
abbrev pub undated_run : Run → Run
undated_run r = record r { moment = None }

-- ---- one turn

pub undated_stands : (e : Entry) → IsSettled e → (undated e).outcome ≡ outcome.Stands
undated_stands e is = settled_told e.kind e.outcome is

turned_undated : (script : Script) (r : Run) (e : Entry) → IsSettled e → turned script r e ≡ turned script (undated_run r) (undated e)
unfolding turned place_of
turned_undated script r e is = by (command_of script e)
  where
    by : (c : Option Command) → turn_as r e c ≡ turn_as (undated_run r) (undated e) c
    by None = refl
    by (Some c) =
        settled_goes r c e (place_of r e.session).stage is
        ∙ sym (ap (turn_of (undated_run r) c (undated e) (place_of r e.session).stage) (undated_stands e is))

-- neither is skipped
same_skip : (e : Entry) → IsSettled e → is_skipped e ≡ is_skipped (undated e)
same_skip e is = ⊎_elim (λ stands. ap is_skip stands) (λ memory. ap is_skip memory.1) is ∙ sym (ap is_skip (undated_stands e is))

go_undated : (script : Script) (r : Run) (e : Entry) → IsSettled e → undated_run (go script r e) ≡ undated_run (go script (undated_run r) (undated e))
unfolding go place_of
go_undated script r e is =
    let t : Turned = turned script (undated_run r) (undated e) in
    ap (λ (x : Turned). undated_run (after r e x)) (turned_undated script r e is)
    ∙ ap (λ (skipped : Bool). undated_run (record (after r e t) { last = last_of skipped t.told })) (same_skip e is)

module _ (script : Script) (r q : Run) (e f : Entry) (same : undated_run r ≡ undated_run q) (alike : undated e ≡ undated f) (is : IsSettled e) (too : IsSettled f) where
  pub turned_same : turned script r e ≡ turned script q f
  turned_same = turned_undated script r e is ∙ (λ i. turned script (same i) (alike i)) ∙ sym (turned_undated script q f too)

  pub go_same : undated_run (go script r e) ≡ undated_run (go script q f)
  go_same = go_undated script r e is ∙ (λ i. undated_run (go script (same i) (alike i))) ∙ sym (go_undated script q f too)

block_undated : (e : Entry) (told : Option Told) → block e told ≡ block (undated e) told
unfolding block
block_undated e None = refl
block_undated e (Some t) = refl

-- ---- what is printed

-- an entry once more without its moment
twice : (e : Entry) → IsSettled e → undated e ≡ undated (undated e)
twice e is = λ i. record (undated e) { outcome = (undated_stands e is ∙ sym (settled_told e.kind (undated e).outcome (inl (undated_stands e is)))) i }

outputs_undated : (script : Script) (h : List Entry) (r q : Run) → undated_run r ≡ undated_run q → AllSettled h → output script r h ≡ output script q (map undated h)
unfolding output go
outputs_undated script [] r q same all = refl
outputs_undated script (e ∷ h) r q same all =
    let d : Entry = undated e in
    let stands : IsSettled d = inl (undated_stands e all.0) in
    let turn = turned_same script r q e d same (twice e all.0) all.0 stands in
    (λ i. (block_undated e (turn i).told i) ++ outputs_undated script h (go script r e) (go script q d) (go_same script r q e d same (twice e all.0) all.0 stands) all.1 i)

-- Histories of settled turns print one text where they have the same entries, but for their moments and the outcomes of looks.
pub outputs_alike : (script : Script) (r : Run) (h other : List Entry) → AllSettled h → AllSettled other → AreAlike h other → output script r h ≡ output script r other
outputs_alike script r h other all too alike =
    outputs_undated script h r r refl all
    ∙ ap (output script r) alike
    ∙ sym (outputs_undated script other r r refl too)

-- what is printed of an entry that isn't damaged is its block
one_block : (o : Outcome) (e : Entry) (told : Option Told) (piece : List ℕ) → (o ≡ outcome.Stands) ⊎ (o ≡ outcome.Memory) → IsBlockAs o e told piece → piece ≡ block e told
one_block o e told piece is block_is = ⊎_elim (λ stands. subst (λ (x : Outcome). IsBlockAs x e told piece) stands block_is) (λ memory. subst (λ (x : Outcome). IsBlockAs x e told piece) memory block_is) is

-- What a history of settled turns prints is determined.
pub output_is_one : (script : Script) (r : Run) (h : List Entry) (text : List ℕ) → AllSettled h → IsOutput script r h text → text ≡ output script r h
unfolding output IsOutput go
output_is_one script r [] text all is = is
output_is_one script r (e ∷ h) text all is =
    let piece = is.0 in
    let rest = is.1.0 in
    let first : piece ≡ block e (told_by script r e) = one_block e.outcome e (told_by script r e) piece (⊎_elim (λ stands. inl stands) (λ memory. inr memory.1) all.0) is.1.1.0 in
    is.1.1.2 ∙ (λ i. first i ++ output_is_one script (go script r e) h rest all.1 is.1.1.1 i)
