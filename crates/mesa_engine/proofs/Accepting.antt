-- What one entry more does to what stands written, and to the schemas.
use Rattle.std.proofs.Common.{◌≡◌, ℕ, ◌+◌, List, [], ◌∷◌, ◌++◌, false, refl, ap, ◌∙◌, arith, Option, None, Some}
use Rattle.mesa_model.specs.declared.commands.Command.{Command}
use Rattle.mesa_model.specs.declared.commands.Script.{Script}
use Rattle.mesa_model.specs.declared.entries.Entry.{Entry}
use Rattle.mesa_model.specs.declared.replies.Reply.{Reply}
use Rattle.mesa_model.specs.declared.replies.Reply.TheVariants as reply
use Rattle.mesa_model.specs.Warehouse.{Store}
use Rattle.mesa_invariant_spec.specs.mesa_history_spec.Counting.{one_if}
use Rattle.mesa_invariant_spec.specs.mesa_history_spec.Law.{Leaves, writing_as, writing_by, writing_if_told, written_in, written_through}
use Rattle.mesa_invariant_spec.specs.mesa_history_spec.Legal.{is_written, wrote}
use Rattle.mesa_invariant_spec.specs.mesa_history_spec.Replay.{told_by, go, runs}
use Rattle.mesa_invariant_spec.specs.mesa_history_spec.Run.{Run, Stage, Told, command_of, place_of}
use Rattle.mesa_invariant_spec.specs.mesa_history_spec.Sources.{Written}
use Rattle.mesa_invariant_spec.proofs.mesa_history_spec.Counting.{count_more}
use Rattle.mesa_invariant_spec.specs.Sight.{is_of_schemas, tells_of_schemas, changes_schemas, schema_changes}

-- what stands written behind one entry more
pub written_more : (script : Script) (r : Run) (h : List Entry) (e : Entry) (number : ℕ) (found : List Written)
    → written_in script r (h ++ e ∷ []) number found ≡ written_through (runs script r h).state.warehouse.store (writing_by script (runs script r h) e) number (written_in script r h number found)
unfolding written_in runs
written_more script r [] e number found = refl
written_more script r (x ∷ h) e number found = written_more script (go script r x) h e number (written_through r.state.warehouse.store (writing_by script r x) number found)

-- ---- an entry that wrote nothing

unwritten_as : (s : Store) (c : Command) (stage : Stage) (r : Reply) → is_written r ≡ false → writing_as s c stage r ≡ Leaves
unwritten_as s c stage (reply.Loaded v rows) is = cc
unwritten_as s c stage (reply.Recast table epoch) is = cc
unwritten_as s c stage (reply.Table name) is = refl
unwritten_as s c stage (reply.View name) is = refl
unwritten_as s c stage (reply.Altered table epoch) is = refl
unwritten_as s c stage (reply.Page page) is = refl
unwritten_as s c stage (reply.Rows rows v more) is = refl
unwritten_as s c stage (reply.Spans spans by) is = refl
unwritten_as s c stage (reply.Pinned token v) is = refl
unwritten_as s c stage (reply.Released token) is = refl
unwritten_as s c stage (reply.Expired table oldest) is = refl
unwritten_as s c stage (reply.Swapped from to) is = refl
unwritten_as s c stage reply.Idle is = refl
unwritten_as s c stage (reply.Busy lease) is = refl
unwritten_as s c stage (reply.Refused refusal) is = refl

unwritten_told : (s : Store) (c : Option Command) (stage : Stage) (told : Option Told) → wrote told ≡ false → writing_if_told s c stage told ≡ Leaves
unwritten_told s None stage told is = refl
unwritten_told s (Some c) stage None is = refl
unwritten_told s (Some c) stage (Some told) is = unwritten_as s c stage told.reply is

schemas_stay : (r : Reply) → is_written r ≡ false → is_of_schemas r ≡ false
schemas_stay (reply.Table name) is = cc
schemas_stay (reply.View name) is = cc
schemas_stay (reply.Altered table epoch) is = cc
schemas_stay (reply.Loaded v rows) is = refl
schemas_stay (reply.Page page) is = refl
schemas_stay (reply.Rows rows v more) is = refl
schemas_stay (reply.Spans spans by) is = refl
schemas_stay (reply.Pinned token v) is = refl
schemas_stay (reply.Released token) is = refl
schemas_stay (reply.Expired table oldest) is = refl
schemas_stay (reply.Swapped from to) is = refl
schemas_stay (reply.Recast table epoch) is = cc
schemas_stay reply.Idle is = refl
schemas_stay (reply.Busy lease) is = refl
schemas_stay (reply.Refused refusal) is = refl

schemas_told : (told : Option Told) → wrote told ≡ false → tells_of_schemas told ≡ false
schemas_told None is = refl
schemas_told (Some told) is = schemas_stay told.reply is

module _ (script : Script) (r : Run) (h : List Entry) (e : Entry) where
  -- leaves what stands written
  pub silent_leaves : wrote (told_by script (runs script r h) e) ≡ false → (found : ℕ → List Written) → ◌≡◌ {A = ℕ → List Written} (λ number. written_in script r (h ++ e ∷ []) number (found number)) (λ number. written_in script r h number (found number))
  silent_leaves is found = λ i number.
      (written_more script r h e number (found number)
      ∙ ap (λ x. written_through (runs script r h).state.warehouse.store x number (written_in script r h number (found number))) (unwritten_told (runs script r h).state.warehouse.store (command_of script e) (place_of (runs script r h) e.session).stage (told_by script (runs script r h) e) is)) i

  pub changes_more : schema_changes script r (h ++ e ∷ []) ≡ schema_changes script r h + one_if (tells_of_schemas (told_by script (runs script r h) e))
  changes_more = count_more (changes_schemas script) script r h e

  -- and changes no schema
  pub silent_changes : wrote (told_by script (runs script r h) e) ≡ false → schema_changes script r (h ++ e ∷ []) ≡ schema_changes script r h
  silent_changes is = let more = changes_more ∙ ap (λ b. schema_changes script r h + one_if b) (schemas_told (told_by script (runs script r h) e) is) in omega (arith, more)
