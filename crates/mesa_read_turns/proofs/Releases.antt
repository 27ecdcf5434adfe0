-- How a release keeps a vault.
use Rattle.std.proofs.Common.{◌≡◌, ℕ, ◌<◌, ◌^◌, List, [], ◌∷◌, ◌++◌, map, length, cond, Bool, true, false, ◌||◌, refl, ap, ◌∙◌, Option, None, Some, Ok, Err}
use Rattle.std.specs.Prelude.{find, is_none, option_map}
use Rattle.mesa_disk.specs.Story.{Story}
use Rattle.mesa_model.specs.Pins.{pin_of, release_pin, is_pin}
use Rattle.mesa_pick_files.specs.mesa_list.Checks.{◌>>◌, refuse_if}
use Rattle.mesa_model.specs.Refusals.{refuse_closed}
use Rattle.mesa_model.specs.Warehouse.{Warehouse}
use Rattle.mesa_model.specs.declared.commands.Command.TheVariants as command
use Rattle.mesa_model.specs.declared.entries.Entry.{Entry}
use Rattle.mesa_model.specs.declared.entries.Kind.TheVariants as kind
use Rattle.mesa_model.specs.declared.entries.Outcome.TheVariants as outcome
use Rattle.mesa_model.specs.declared.replies.Refusal.TheVariants as no
use Rattle.mesa_model.specs.declared.replies.Reply.TheVariants as reply
use Rattle.mesa_engine.specs.mesa_history_spec.Run.{First}
use Rattle.mesa_engine.specs.mesa_history_spec.Turns.{IsDue}
use Rattle.mesa_engine.specs.mesa_history_spec.Output.{block}
use Rattle.mesa_engine.specs.mesa_history_spec.Rows.{Rows}
use Rattle.mesa_engine.specs.mesa_invariant_spec.Books.{without_pin}
use Rattle.mesa_engine.specs.mesa_invariant_spec.Causes.{told_at}
use Rattle.mesa_engine.specs.mesa_invariant_spec.Changes.{ReleasesPin}
use Rattle.mesa_engine.specs.mesa_invariant_spec.Printing.{IsPut}
use Rattle.mesa_engine.specs.mesa_invariant_spec.Turns.{entry}
use Rattle.mesa_engine.specs.mesa_invariant_spec.Invariant.{Outset, run_of}
use Rattle.mesa_engine.proofs.mesa_invariant_spec.Pinning.{release_turn}
use Rattle.mesa_engine.proofs.mesa_invariant_spec.Turning.{stays}
use Rattle.mesa_engine.specs.EngineState.{HeldPin, EngineState, bare_held, books_of}
use Rattle.mesa_engine.specs.Turned.{is_held_pin, released_state}
use Rattle.mesa_engine.specs.Vault.{Origin, IsVault}
use Rattle.mesa_engine.proofs.Staying.{released_vault}

-- a pin without rows is found exactly where the state has it
found_bare : (s token : ℕ) (pins : List HeldPin) → is_none (find (is_pin s token) (map bare_held pins)) ≡ is_none (find (is_held_pin s token) pins)
found_bare s token [] = refl
found_bare s token (p ∷ pins) = by (found_bare s token pins) (is_held_pin s token p)
  where
    by : is_none (find (is_pin s token) (map bare_held pins)) ≡ is_none (find (is_held_pin s token) pins) → (b : Bool) → is_none (cond b (Some (bare_held p)) (find (is_pin s token) (map bare_held pins))) ≡ is_none (cond b (Some p) (find (is_held_pin s token) pins))
    by rest true = refl
    by rest false = rest

module _ (rows : Rows) (l : EngineState) (s token : ℕ) where
  abbrev w : Warehouse
  w = (books_of rows l).bare

  pub refuses_closed : (p : ℕ) → l.closed ≡ Some p → release_pin (books_of rows l).bare s token ≡ Err (no.Closed p)
  refuses_closed p shut = λ i. (refuse_closed (shut i) >> (refuse_if (is_none (pin_of w s token)) (no.NoPin token) >> Ok (record w { pins = without_pin s token w.pins }, reply.Released token)))

  pub refuses_absent : l.closed ≡ None → is_none (find (is_held_pin s token) l.pins) ≡ true → release_pin (books_of rows l).bare s token ≡ Err (no.NoPin token)
  refuses_absent open' none =
      λ i. (refuse_closed (open' i) >> (refuse_if ((found_bare s token l.pins ∙ none) i) (no.NoPin token) >> Ok (record w { pins = without_pin s token w.pins }, reply.Released token)))

  pub releases : l.closed ≡ None → is_none (find (is_held_pin s token) l.pins) ≡ false → ReleasesPin (books_of rows l) s token
  releases open' there =
      λ i. (refuse_closed (open' i) >> (refuse_if ((found_bare s token l.pins ∙ there) i) (no.NoPin token) >> Ok (record w { pins = without_pin s token w.pins }, reply.Released token)))

-- the vault without the pin
pub without_vault : (o : Outset) (g : Origin) (sound : Bool) (l : EngineState) (story : Story) (held : Option (List ℕ)) (h : List Entry) (running refused : Bool) → IsVault o g sound l story held h running refused
    → (s number : ℕ) → s < 2 ^ 16 → number < 2 ^ 32 → (m : ℕ) → m ≡ story.moment → running ≡ true → (at : ℕ) → at ≡ length h → l.closed ≡ None → (token : ℕ) (a : Rows) → IsDue o.script (run_of o h) s number (command.Release token) First → ReleasesPin (books_of a l) s token
    → (now : Bool) (new_held : Option (List ℕ)) → IsPut (block (entry s number kind.Decide outcome.Stands m) (Some (told_at at (reply.Released token)))) now held new_held
    → IsVault o g sound (released_state l s token) story new_held (h ++ entry s number kind.Decide outcome.Stands m ∷ []) now (refused || false)
without_vault o g sound l story held h running refused v s number low few m moment ran at place was_open token a due releases now new_held put =
    released_vault o g sound l story held h running refused v (entry s number kind.Decide outcome.Stands m) story new_held now (refused || false) (stays story) s token
    (release_turn o sound (books_of v.rows l) story held h running refused v.invariant s number low few m moment ran at place was_open token due releases now new_held put)

-- an option is none where what is made of it is none
pub none_as : {A B : Type 0} (f : A → B) (x : Option A) (y : Option B) → option_map f x ≡ y → is_none x ≡ is_none y
none_as f None y is = ap is_none is
none_as f (Some a) y is = ap is_none is
