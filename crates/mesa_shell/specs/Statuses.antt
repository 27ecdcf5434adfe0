-- What the status of a call tells.
use Rattle.std.specs.Prelude.{◌≡◌, ◌≢◌, ◌⊎◌, ◌↔◌, ◌<◌, ◌≤◌, ℕ, List, length, Option, None, Some, IfSome, Ok, Err, false}
use Rattle.std.specs.Io.KnownBytes.{Appends}
use Rattle.mesa_io.specs.Causes.{Rose}
use Rattle.mesa_disk.specs.Image.{Image}
use Rattle.mesa_disk.specs.Story.{Unmoved}
use Rattle.mesa_file.specs.declared.damage.Damage.{Damage}
use Rattle.mesa_model.specs.declared.commands.Script.{Script}
use Rattle.mesa_script.specs.declared.script.ScriptError.{ScriptError}
use Rattle.mesa_script.specs.Generated.{generated}
use Rattle.mesa_script.specs.Script.{script_of}
use Rattle.mesa_parse.specs.declared.forms.Form.{Form}
use Rattle.mesa_parse.specs.declared.forms.Form.TheVariants as form
use Rattle.mesa_session.specs.mesa_history_spec.Rows.{Rows}
use Rattle.mesa_engine.specs.mesa_store_spec.Catalog.{Catalog}
use Rattle.mesa_engine.specs.mesa_store_spec.Sound.{IsSound}
use Rattle.mesa_recover.specs.declared.error.OpenError.{OpenError}
use Rattle.mesa_recover.specs.declared.error.OpenError.TheVariants as open_error
use Rattle.mesa_recover.specs.Opening.{HasReason, ReadsAs}
use Rattle.mesa_check.specs.Faults.{Fault}
use Rattle.mesa_check.specs.Verdict.{IsFirstFault}
use Rattle.mesa_store_digest.specs.Latest.{relation_named}
use Rattle.mesa_store_digest.specs.Looked.{IsDigestOf}
use Rattle.mesa_shell.specs.Ports.{Ports}
use Rattle.mesa_shell.specs.ExitLines.{digest_line, max_input, refused_status, usage_status, script_status, source_status, sink_status, length_status, open_status, status_of, verdict_status}
use Rattle.mesa_shell.specs.StoreStart.{start_of}
use Rattle.mesa_shell.specs.Run.{Ran}
use Rattle.mesa_shell.specs.Unopened.{HasSameCounts}
use Rattle.mesa_shell.specs.Exit.{HasFailed, IsDamagedWithin, IsWhole, RanInMemory}
use Rattle.mesa_shell.specs.declared.done.Devices.{Devices}
use Rattle.mesa_shell.specs.declared.done.Done.{Done}

-- these bytes are no script that the program runs
abbrev pub IsNoScript : List ℕ → Type 0
IsNoScript bytes = (error : ScriptError) × (script_of bytes ≡ Err error)

module _ {K D M B : Type 0} (ports : Ports K D M B) (given : Devices K D B) (done : Done K D B) where
  -- These bytes are a script, which was run to its end, and the status tells whether some reply is a refusal.
  pub record WasRun (bytes : List ℕ) : Type 0 where
    pub script : Script
    pub catalogue : Catalog
    pub read : script_of bytes ≡ Ok script
    pub ran : Ran ports given done script catalogue false
    pub status : (rows : Rows) → done.status ≡ status_of script (start_of script catalogue rows) done.history.items

  -- The script of a seed was run to its end on a sink in memory, and the status tells the same.
  pub record WasGenerated (seed versions : ℕ) : Type 0 where
    pub script : Script
    pub catalogue : Catalog
    pub text : List ℕ
    pub read : script_of (generated seed versions) ≡ Ok script
    pub ran : RanInMemory ports given done script catalogue false text
    pub status : (rows : Rows) → done.status ≡ status_of script (start_of script catalogue rows) done.history.items

  -- The store was checked: it reads as a catalogue, of which this is the first fault, if there is one, and the status tells whether there is; it is 0 exactly where what the disk reads is a sound image; and no count of the disk's faults rose.
  pub record WasChecked : Type 0 where
    pub catalogue : Catalog
    pub fault : Option Fault
    pub reads : ReadsAs (ports.story given.disk) catalogue
    pub first : IsFirstFault (ports.story given.disk) catalogue fault
    pub status : done.status ≡ verdict_status fault
    pub sound : (i : Image) → (ports.story given.disk).told ≡ Some i → (done.status ≡ 0) ↔ IsSound i
    pub quiet : HasSameCounts (ports.story given.disk) (ports.story done.disk)

  -- A name was looked up in the store, which reads as a catalogue, and no count of the disk's faults rose: at status 1 no relation has it, or there is no version; at status 0 the line of its digests at the newest version was printed.
  pub record WasLookedUp (name : List ℕ) : Type 0 where
    pub catalogue : Catalog
    pub reads : ReadsAs (ports.story given.disk) catalogue
    pub refused : done.status ≡ refused_status → (relation_named catalogue name ≡ None) ⊎ (catalogue.next ≡ 0)
    pub told : done.status ≡ 0 → (version : ℕ) × (rows : ℕ) × (ordered : List ℕ) × (set : ℕ) × IsDigestOf (ports.story given.disk) catalogue name version rows ordered set × Appends (ports.held given.out) (ports.held done.out) (digest_line name version rows ordered set)
    pub quiet : HasSameCounts (ports.story given.disk) (ports.story done.disk)

  -- what words of this form ask for was done: a script was run to its end, the store was checked, or a name was looked up in it
  abbrev pub WasAsked : Option Form → Option (List ℕ) → Type 0
  WasAsked None input = ⊥
  WasAsked (Some form.Run) input = IfSome input WasRun
  WasAsked (Some form.Check) input = WasChecked
  WasAsked (Some (form.Gen seed versions)) input = WasGenerated seed versions
  WasAsked (Some (form.Digest name)) input = WasLookedUp name

  -- why the store wasn't opened
  abbrev pub HasOpeningReason : OpenError → Type 0
  HasOpeningReason e = HasReason (ports.story given.disk) (ports.story done.disk) e

  -- a digest met damage in a file of its relation, in a store that reads as a catalogue; words of another form ask for none
  abbrev pub HasMetDamage : Option Form → Type 0
  HasMetDamage None = ⊥
  HasMetDamage (Some form.Run) = ⊥
  HasMetDamage (Some form.Check) = ⊥
  HasMetDamage (Some (form.Gen seed versions)) = ⊥
  HasMetDamage (Some (form.Digest name)) = (c : Catalog) × (d : Damage) × ReadsAs (ports.story given.disk) c × IsDamagedWithin ports given done c d

  -- no image of the store moved, and no count of the disk's faults rose
  abbrev pub IsUntouched : Type 0
  IsUntouched = Unmoved (ports.story given.disk) (ports.story done.disk) × HasSameCounts (ports.story given.disk) (ports.story done.disk)

  -- What a status tells, by the form of the words: at 0 and 1 the script that they ask for was run to its end, the store was checked, or the name was looked up; at 2 they have no form, at 3 the input is no script, at 4 the source's count of faults rose, at 5 the sink's did, at 6 one of the disk's; at 7 the store is damaged, or a digest met damage in a file of its relation; at 9 the input is too long, or the store has had the last run that may be. The sink's count stays at any status but 5, and the source's at any but 4 and 5; at 2, 3 and 4 the disk wasn't called, and at 7 and 9 the store is untouched, whatever it is.
  pub record Tells (asked : Option Form) (input : Option (List ℕ)) (before now : ℕ) : Type 0 where
    pub ran : done.status ≤ refused_status → WasAsked asked input
    pub usage : done.status ≡ usage_status → asked ≡ None
    pub refused : done.status ≡ script_status → IfSome input IsNoScript
    pub source : done.status ≡ source_status → Rose before now
    pub source_quiet : done.status ≢ source_status → done.status ≢ sink_status → now ≡ before
    pub sink : done.status ≡ sink_status → HasFailed ports given done
    pub sink_quiet : done.status ≢ sink_status → IsWhole ports given done
    pub disk : done.status ≡ 6 → HasOpeningReason open_error.Fault
    pub damaged : done.status ≡ 7 → ((e : OpenError) × (open_status e ≡ 7) × HasOpeningReason e) ⊎ HasMetDamage asked
    pub full : done.status ≡ length_status → IfSome input (λ bytes. max_input < length bytes) ⊎ HasOpeningReason open_error.RunsFull
    pub uncalled : (done.status ≡ usage_status) ⊎ (done.status ≡ script_status) ⊎ (done.status ≡ source_status) → done.disk ≡ given.disk
    pub untouched : (done.status ≡ 7) ⊎ (done.status ≡ length_status) → IsUntouched
