-- Pins that a history gave.
use Rattle.std.specs.Prelude.{◌≡◌, ◌<◌, ◌≤◌, List, ◌∷◌, ◌++◌, Some}
use Rattle.mesa_history_spec.specs.mesa_model.declared.commands.Script.{Script}
use Rattle.mesa_history_spec.specs.mesa_model.declared.entries.Entry.{Entry}
use Rattle.mesa_history_spec.specs.mesa_model.declared.replies.Reply.TheVariants as reply
use Rattle.mesa_history_spec.specs.mesa_model.Warehouse.{Pin, Warehouse}
use Rattle.mesa_history_spec.specs.mesa_model.Pins.{store_at}
use Rattle.mesa_history_spec.specs.mesa_model.Versions.{common_oldest}
use Rattle.mesa_history_spec.specs.Run.{State, Told, begins}
use Rattle.mesa_history_spec.specs.Replay.{runs, told_by}

-- the warehouse after a history
abbrev pub warehouse_after : Script → State → List Entry → Warehouse
warehouse_after script start h = (runs script (begins start) h).state.warehouse

-- A pin was given in a history: an entry of its session was told of it, and what it holds are the tables as they stood there, each with its content at the pin's version, at which every one of them could be queried there.
pub record WasGiven (script : Script) (start : State) (h : List Entry) (pin : Pin) : Type 0 where
  pub before : List Entry
  pub entry : Entry
  pub more : List Entry
  pub told : Told
  pub parts : before ++ entry ∷ more ≡ h
  pub session : entry.session ≡ pin.session
  pub tells : told_by script (runs script (begins start) before) entry ≡ Some told
  pub reply : told.reply ≡ reply.Pinned pin.token pin.version
  pub store : pin.store ≡ store_at (warehouse_after script start before).store pin.version
  pub above : common_oldest (warehouse_after script start before).store ≤ pin.version
  pub below : pin.version < (warehouse_after script start before).next
