-- How a look keeps a vault.
use Rattle.std.proofs.Common.{◌≡◌, ℕ, ◌<◌, ◌^◌, List, [], ◌∷◌, ◌++◌, Bool, true, false, refl, subst, Option, IsTrue}
use Rattle.mesa_batch.specs.declared.words.RowWords.{RowWords}
use Rattle.mesa_disk.specs.Story.{Story}
use Rattle.mesa_model.specs.declared.commands.Command.{Command}
use Rattle.mesa_model.specs.declared.commands.Command.TheVariants as command
use Rattle.mesa_model.specs.declared.entries.Entry.{Entry}
use Rattle.mesa_model.specs.declared.entries.Kind.TheVariants as kind
use Rattle.mesa_engine.specs.mesa_history_spec.Replay.{is_skip}
use Rattle.mesa_engine.specs.mesa_history_spec.Run.{First}
use Rattle.mesa_engine.specs.mesa_history_spec.Turns.{IsDue}
use Rattle.mesa_engine.specs.mesa_invariant_spec.Turns.{entry, is_load, looking}
use Rattle.mesa_engine.specs.mesa_invariant_spec.Invariant.{Outset, run_of}
use Rattle.mesa_engine.proofs.mesa_invariant_spec.Reading.{look_turn}
use Rattle.mesa_engine.proofs.mesa_invariant_spec.Turning.{stays}
use Rattle.mesa_engine.specs.EngineState.{EngineState, books_of}
use Rattle.mesa_engine.specs.Vault.{Origin, IsVault}
use Rattle.mesa_engine.proofs.Staying.{still_vault}

-- what a command that loads is
pub load_of : (c : Command) → IsTrue (is_load c) → (rows : List RowWords) × (c ≡ command.Load rows)
load_of (command.Load rows) is = (rows, refl)
load_of (command.Table words) is = absurd cc
load_of (command.View words) is = absurd cc
load_of (command.Alter words) is = absurd cc
load_of (command.Query words) is = absurd cc
load_of (command.Explain words) is = absurd cc
load_of (command.Pin asked) is = absurd cc
load_of (command.Release token) is = absurd cc
load_of (command.Expire table version) is = absurd cc
load_of (command.Work words) is = absurd cc
load_of (command.Recast words) is = absurd cc

-- a look isn't skipped while the sink hasn't failed
pub skips : (found : Bool) → is_skip (looking true found) ≡ false
skips true = refl
skips false = refl

pub looked_vault : (o : Outset) (g : Origin) (sound : Bool) (l : EngineState) (story : Story) (held : Option (List ℕ)) (h : List Entry) (running refused : Bool) → IsVault o g sound l story held h running refused
    → (s number : ℕ) → s < 2 ^ 16 → number < 2 ^ 32 → (m : ℕ) → m ≡ story.moment → running ≡ true → (rows : List RowWords) → IsDue o.script (run_of o h) s number (command.Load rows) First → (found : Bool)
    → IsVault o g sound l story held (h ++ entry s number kind.Look (looking true found) m ∷ []) running refused
looked_vault o g sound l story held h running refused v s number low few m moment ran rows due found =
    subst (λ (b : Bool). IsVault o g sound l story held (h ++ entry s number kind.Look (looking b found) m ∷ []) running refused) ran
    (still_vault o g sound l story held h running refused v (entry s number kind.Look (looking running found) m) story held running refused (stays story)
    (look_turn o sound (books_of v.rows l) story held h running refused v.invariant s number low few m moment rows due found))
