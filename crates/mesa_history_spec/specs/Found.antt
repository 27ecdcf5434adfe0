-- Found: what a store that is reopened after a crash holds.
use Rattle.std.specs.Prelude.{◌≡◌, ℕ, ◌<◌, ◌⊎◌, List, ◌∷◌, ◌++◌, true}
use Rattle.std.specs.List.{AllByRecursion}
use Rattle.mesa_span.specs.declared.ranges.Ranges.{Ranges}
use Rattle.mesa_script.specs.mesa_model.declared.commands.Script.{Script}
use Rattle.mesa_script.specs.mesa_model.declared.entries.Entry.{Entry}
use Rattle.mesa_script.specs.mesa_model.Warehouse.{Store}
use Rattle.mesa_history_spec.specs.Run.{State, Run}
use Rattle.mesa_history_spec.specs.Replay.{closes, stood, go, runs}

-- What a store keeps of a state: the tables with their contents, how many versions there were, and the ranges; no pins, no leases, and not whether it closed.
pub record Kept : Type 0 where
  pub store : Store
  pub next : ℕ
  pub ranges : List Ranges

-- what a store keeps of a state
abbrev pub kept_of : State → Kept
kept_of s = record { store = s.warehouse.store; next = s.warehouse.next; ranges = s.machine.ranges }

-- what a store keeps after some turns
unfoldable pub kept_in : Run → Kept
kept_in r = kept_of r.state

-- This stood after a front of the history, behind which every entry is later than t.
pub record StoodAfter (script : Script) (start : Run) (h : List Entry) (t : ℕ) (kept : Kept) : Type 0 where
  pub past : List Entry
  pub rest : List Entry
  pub split : h ≡ past ++ rest
  pub later : AllByRecursion (λ e. t < e.moment) rest
  pub same : kept ≡ kept_in (runs script start past)

-- An entry that closes tried to make this.
pub record WasTried (script : Script) (start : Run) (h : List Entry) (kept : Kept) : Type 0 where
  pub past : List Entry
  pub entry : Entry
  pub rest : List Entry
  pub split : h ≡ past ++ entry ∷ rest
  pub closing : closes (runs script start past).moment entry ≡ true
  pub same : kept ≡ kept_in (go script (runs script start past) (stood entry))

-- Found: what an image stands for is what stood after a front of the history that has every entry of moment at most t, or what the entry that closed tried to make.
pub record Found {Image : Type 0} (stands : Image → Kept → Type 0) (script : Script) (start : Run) (h : List Entry) (t : ℕ) (image : Image) : Type 0 where
  pub kept : Kept
  pub is : stands image kept
  pub how : StoodAfter script start h t kept ⊎ WasTried script start h kept
