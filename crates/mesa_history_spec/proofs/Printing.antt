-- What is printed with one entry more at a history's end.
use Rattle.std.proofs.Common.{◌≡◌, ℕ, List, [], ◌∷◌, ◌++◌, refl, sym, ap, ◌∙◌, append_assoc, append-nil, arith, Option, Some, None}
use Rattle.mesa_script.specs.mesa_model.declared.commands.Command.{Command}
use Rattle.mesa_script.specs.mesa_model.declared.commands.Script.{Script}
use Rattle.mesa_script.specs.mesa_model.declared.entries.Entry.{Entry}
use Rattle.mesa_script.specs.mesa_model.declared.entries.Kind.{Kind}
use Rattle.mesa_script.specs.mesa_model.declared.entries.Kind.TheVariants as kind
use Rattle.mesa_script.specs.mesa_model.declared.entries.Outcome.{Outcome}
use Rattle.mesa_script.specs.mesa_model.declared.entries.Outcome.TheVariants as outcome
use Rattle.mesa_script.specs.mesa_model.declared.replies.Refusal.TheVariants as no
use Rattle.mesa_history_spec.specs.Run.{Stage, Run, place_of, command_of}
use Rattle.mesa_history_spec.specs.Replay.{refused_turn, some_damage, turn_of, turn_as, turned, told_by, go, runs}
use Rattle.mesa_history_spec.specs.Output.{block, retold, IsDamage, IsBlock, IsBlockAs, IsOutput, output}

-- what a history printed, and the block of one entry more
pub output_more : (script : Script) (r : Run) (h : List Entry) (e : Entry) (text piece : List ℕ)
    → IsOutput script r h text → IsBlock e (told_by script (runs script r h) e) piece → IsOutput script r (h ++ e ∷ []) (text ++ piece)
unfolding runs IsOutput
output_more script r [] e text piece was more = (piece, ([], (more, refl, ap (λ l. l ++ piece) was ∙ sym (append-nil piece))))
output_more script r (x ∷ h) e text piece was more =
    (was.0, (was.1.0 ++ piece, (was.1.1.0, output_more script (go script r x) h e was.1.0 piece was.1.1.1 more, ap (λ l. l ++ piece) was.1.1.2 ∙ append_assoc was.0 was.1.0 piece)))

-- ---- computed

-- what is computed of a history with one entry more
pub computed_more : (script : Script) (r : Run) (h : List Entry) (e : Entry) → output script r (h ++ e ∷ []) ≡ output script r h ++ block e (told_by script (runs script r h) e)
unfolding runs output go
computed_more script r [] e = append-nil _
computed_more script r (x ∷ h) e = ap (λ (t : List ℕ). block x (told_by script r x) ++ t) (computed_more script (go script r x) h e) ∙ sym (append_assoc (block x (told_by script r x)) _ _)

-- what a computed block tells is such damage
some_is_damage : IsDamage some_damage
some_is_damage = record { file = omega arith; place = omega arith; want = tt; found = tt; differ = λ same. cc }

damaged_again : (r : Run) (e : Entry) (k : Kind) (stage : Stage)
    → block e (refused_turn r.position r.state k stage (no.Damaged some_damage)).told ≡ block e (retold some_damage (refused_turn r.position r.state k stage (no.Damaged some_damage)).told)
damaged_again r e kind.Look stage = refl
damaged_again r e kind.Decide stage = refl
damaged_again r e kind.Close stage = refl
damaged_again r e kind.Grant stage = refl
damaged_again r e kind.Renew stage = refl

block_of_turn : (r : Run) (c : Command) (e : Entry) (stage : Stage) (o : Outcome) → IsBlockAs o e (turn_of r c e stage o).told (block e (turn_of r c e stage o).told)
block_of_turn r c e stage outcome.Stands = refl
block_of_turn r c e stage outcome.Memory = refl
block_of_turn r c e stage outcome.ReadFault = refl
block_of_turn r c e stage outcome.WriteFault = refl
block_of_turn r c e stage outcome.Damaged = record { damage = some_damage; is = some_is_damage; same = damaged_again r e e.kind stage }
block_of_turn r c e stage outcome.Skipped = refl

block_without : (e : Entry) (o : Outcome) → IsBlockAs o e None (block e None)
block_without e outcome.Stands = refl
block_without e outcome.Memory = refl
block_without e outcome.ReadFault = refl
block_without e outcome.WriteFault = refl
block_without e outcome.Damaged = record { damage = some_damage; is = some_is_damage; same = refl }
block_without e outcome.Skipped = refl

block_is : (r : Run) (e : Entry) (c : Option Command) → IsBlock e (turn_as r e c).told (block e (turn_as r e c).told)
block_is r e None = block_without e e.outcome
block_is r e (Some c) = block_of_turn r c e (place_of r e.session).stage e.outcome

-- The computed output is one.
pub output_is : (script : Script) (r : Run) (h : List Entry) → IsOutput script r h (output script r h)
unfolding output IsOutput go turned
output_is script r [] = refl
output_is script r (e ∷ h) =
    (block e (told_by script r e), (output script (go script r e) h, (block_is r e (command_of script e), output_is script (go script r e) h, refl)))
