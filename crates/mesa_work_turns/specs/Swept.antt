-- When a close of a work or a recast is done, and what it leaves of files.
use Rattle.std.specs.Prelude.{◌≡◌, ◌⊎◌, ◌++◌, ◌∷◌, [], ℕ, List, map, Option, None, Some, Ok}
use Rattle.mesa_disk.specs.Image.{Image, file_of}
use Rattle.mesa_write_turns.specs.mesa_history_spec.Machine.{Claim, claim_checked}
use Rattle.mesa_engine.specs.mesa_store_spec.Catalog.{Catalog}
use Rattle.mesa_engine.specs.mesa_store_spec.Ids.{named}
use Rattle.mesa_engine.specs.EngineState.{EngineState, books_of, holders, ids_held}
use Rattle.mesa_engine.specs.Vault.{IsFiled}
use Rattle.mesa_write_turns.specs.mesa_invariant_spec.Turns.{Shown, entry}
use Rattle.mesa_model.specs.declared.entries.Entry.{Entry}
use Rattle.mesa_model.specs.declared.entries.Kind.TheVariants as kind
use Rattle.mesa_model.specs.declared.entries.Outcome.TheVariants as outcome
use Rattle.mesa_write_turns.specs.mesa_history_spec.Rows.{no_rows}
use Rattle.mesa_engine.specs.mesa_commit.Holding.{Among, IsHad}

-- The turn that closes a session's command stands: the entry that it added says so.
abbrev pub HasStood : Shown → Shown → ℕ → ℕ → Type 0
HasStood old new session number = (moment : ℕ) × (new.history ≡ old.history ++ entry session number kind.Close outcome.Stands moment ∷ [])

-- A claim holds in the turn at a position: the vault is open, and the claim's lease is its table's last one, hasn't ended, and holds there.
abbrev pub ClaimHolds : EngineState → ℕ → Claim → Type 0
ClaimHolds l position claim = claim_checked (books_of no_rows l).bare (books_of no_rows l).machine position claim ≡ Ok tt

-- Each file that a read finds is wanted: the catalogue names it, or the catalogue does that a held pin copied, or the one that an open query saw at its position. The holds agree with these catalogues.
pub record IsSwept (told : Option Image) (l : EngineState) (h : List Entry) : Type 0 where
  pub seen : ℕ → Catalog
  pub filed : IsFiled seen l h
  pub wanted : (i : Image) → told ≡ Some i → (id : ℕ) → (file_of i id ≡ None → ⊥) → Among id (named l.catalogue) ⊎ IsHad id (map ids_held (holders seen l))
