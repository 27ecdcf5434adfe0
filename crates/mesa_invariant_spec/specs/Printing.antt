-- What a run has put on its sink.
use Rattle.std.specs.Prelude.{◌≡◌, ◌<◌, ℕ, List, [], ◌∷◌, ◌++◌, Bool, true, false, Option, None, Some, IsTrue, option_map, take}
use Rattle.std.specs.Io.KnownBytes.{Appends}
use Rattle.mesa_disk.specs.mesa_io.Causes.{last}
use Rattle.mesa_history_spec.specs.mesa_model.declared.commands.Script.{Script}
use Rattle.mesa_history_spec.specs.mesa_model.declared.entries.Entry.{Entry}
use Rattle.mesa_history_spec.specs.Run.{Run, Told}
use Rattle.mesa_history_spec.specs.Replay.{told_by, runs, go}
use Rattle.mesa_history_spec.specs.Bare.{bare_told}
use Rattle.mesa_history_spec.specs.Output.{IsBlock, IsOutput}

-- The sink was given the blocks of all these entries.
pub record HasAll (script : Script) (start : Run) (h : List Entry) (at_start now : Option (List ℕ)) : Type 0 where
  pub text : List ℕ
  pub output : IsOutput script start h text
  pub held : Appends at_start now text

-- The sink failed in the block of an entry: it was given the blocks of those before it whole, a front of its own, and nothing of those behind it.
pub record HasFront (script : Script) (start : Run) (h : List Entry) (at_start now : Option (List ℕ)) : Type 0 where
  pub past : List Entry
  pub entry : Entry
  pub rest : List Entry
  pub split : h ≡ past ++ entry ∷ rest
  pub text : List ℕ
  pub output : IsOutput script start past text
  pub piece : List ℕ
  pub block : IsBlock entry (told_by script (runs script start past) entry) piece
  pub count : ℕ
  pub held : Appends at_start now (text ++ take count piece)

-- PrintedOutput: while no print has failed the sink has the output of the history, and else whole blocks of it and a front of one.
abbrev pub IsPrinted : Script → Run → List Entry → Bool → Option (List ℕ) → Option (List ℕ) → Type 0
IsPrinted script start h true at_start now = HasAll script start h at_start now
IsPrinted script start h false at_start now = HasFront script start h at_start now

-- ---- on any store

-- The text is the block of an entry that tells this, but for the rows of a page: it is the block of what tells the same without rows. Of a damaged entry all is fixed but the damage, as everywhere.
pub record IsBlockButRows (e : Entry) (told : Option Told) (text : List ℕ) : Type 0 where
  pub shown : Option Told
  pub alike : option_map bare_told shown ≡ option_map bare_told told
  pub block : IsBlock e shown text

-- The text is such blocks of a history's entries, in their order.
unfoldable pub IsOutputButRows : Script → Run → List Entry → List ℕ → Type 0
IsOutputButRows script r [] text = text ≡ []
IsOutputButRows script r (e ∷ h) text =
    (piece : List ℕ) × ((rest : List ℕ) × (IsBlockButRows e (told_by script r e) piece × IsOutputButRows script (go script r e) h rest × (text ≡ piece ++ rest)))

-- The sink was given such blocks of all these entries.
pub record HasAllButRows (script : Script) (start : Run) (h : List Entry) (at_start now : Option (List ℕ)) : Type 0 where
  pub text : List ℕ
  pub output : IsOutputButRows script start h text
  pub held : Appends at_start now text

-- The sink failed in such a block of an entry: it was given those before it whole, a front of its own, and nothing of those behind it.
pub record HasFrontButRows (script : Script) (start : Run) (h : List Entry) (at_start now : Option (List ℕ)) : Type 0 where
  pub past : List Entry
  pub entry : Entry
  pub rest : List Entry
  pub split : h ≡ past ++ entry ∷ rest
  pub text : List ℕ
  pub output : IsOutputButRows script start past text
  pub piece : List ℕ
  pub block : IsBlockButRows entry (told_by script (runs script start past) entry) piece
  pub count : ℕ
  pub held : Appends at_start now (text ++ take count piece)

-- PrintedOutput but for the rows of pages, which are as the files give them.
abbrev pub IsPrintedButRows : Script → Run → List Entry → Bool → Option (List ℕ) → Option (List ℕ) → Type 0
IsPrintedButRows script start h true at_start now = HasAllButRows script start h at_start now
IsPrintedButRows script start h false at_start now = HasFrontButRows script start h at_start now

-- ---- one turn

-- A block was put on a sink: all of it, or a front where the sink failed.
abbrev pub IsPut : List ℕ → Bool → Option (List ℕ) → Option (List ℕ) → Type 0
IsPut piece true before now = Appends before now piece
IsPut piece false before now = (count : ℕ) × Appends before now (take count piece)

-- What a turn put on a sink that hadn't failed: on any store the block of what it tells, but for the rows of a page; and on a sound one that block itself, while the clock is below its last value.
pub record Puts (sound : Bool) (e : Entry) (told : Told) (running : Bool) (before now : Option (List ℕ)) : Type 0 where
  pub piece : List ℕ
  pub anyhow : IsBlockButRows e (Some told) piece
  pub block : IsTrue sound → e.moment < last → IsBlock e (Some told) piece
  pub put : IsPut piece running before now

-- What a turn did to the sink: nothing where it tells nothing, and else the sink hadn't failed and was given its block.
abbrev pub Prints : Bool → Entry → Option Told → (before now : Bool) → (held new_held : Option (List ℕ)) → Type 0
Prints sound e None before now held new_held = (now ≡ before) × (new_held ≡ held)
Prints sound e (Some told) before now held new_held = (before ≡ true) × Puts sound e told now held new_held
