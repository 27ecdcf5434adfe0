-- How a call of the program may end over a store.
use Rattle.std.specs.Prelude.{◌≡◌, ◌≢◌, ◌⊎◌, ◌<◌, ◌≤◌, ℕ, Bool, true, false, List, [], ◌++◌, length, take, Option, None, Some, IfSome, IsTrue, Ok, Err, is_some}
use Rattle.std.specs.Io.KnownBytes.{Appends}
use Rattle.mesa_io.specs.Causes.{Rose, last}
use Rattle.mesa_disk.specs.Story.{Unmoved}
use Rattle.mesa_file.specs.declared.damage.Damage.{Damage}
use Rattle.mesa_model.specs.declared.commands.Script.{Script}
use Rattle.mesa_script.specs.declared.script.ScriptError.{ScriptError}
use Rattle.mesa_session.specs.mesa_history_spec.Run.{begins}
use Rattle.mesa_script.specs.Generated.{generated}
use Rattle.mesa_script.specs.Script.{script_of}
use Rattle.mesa_parse.specs.declared.forms.Form.{Form}
use Rattle.mesa_parse.specs.declared.forms.Form.TheVariants as form
use Rattle.mesa_generate.specs.Excerpt.{IsExcerpt, IsExcerptButRows, before_last_three}
use Rattle.mesa_session.specs.mesa_history_spec.Rows.{Rows}
use Rattle.mesa_engine.specs.mesa_store_spec.Catalog.{Catalog}
use Rattle.mesa_recover.specs.declared.error.OpenError.{OpenError}
use Rattle.mesa_recover.specs.declared.error.OpenError.TheVariants as open_error
use Rattle.mesa_recover.specs.Opening.{IsSoundStart, ReadsAs}
use Rattle.mesa_check.specs.Faults.{Fault}
use Rattle.mesa_check.specs.Verdict.{IsFirstFault}
use Rattle.mesa_store_digest.specs.Latest.{CanBeLookedAt, relation_named}
use Rattle.mesa_store_digest.specs.Looked.{IsDigestOf}
use Rattle.mesa_shell.specs.Ports.{Ports, in_memory}
use Rattle.mesa_shell.specs.ExitLines.{answered_status, digest_line, gen_line, no_table_line, no_version_line, refused_status, max_input, status_of, sink_status, usage_status, usage_line, source_status, source_line, length_status, length_line, script_status, script_line, open_status, open_line, verdict_status, verdict_line, memory_status, memory_line}
use Rattle.mesa_shell.specs.StoreStart.{AreTold, IsSoundStore, start_of}
use Rattle.mesa_shell.specs.Run.{Ran}
use Rattle.mesa_shell.specs.Unopened.{HasSameCounts, IsUnopened, IsUnread, StaysSound}
use Rattle.mesa_shell.specs.declared.done.Devices.{Devices}
use Rattle.mesa_shell.specs.declared.done.Done.{Done}

module _ {K D M B : Type 0} (ports : Ports K D M B) (given : Devices K D B) (done : Done K D B) where
  -- the sink's count of faults stays
  abbrev pub IsWhole : Type 0
  IsWhole = ports.sink_faults done.out ≡ ports.sink_faults given.out

  -- the sink's count of faults rose
  abbrev pub HasFailed : Type 0
  HasFailed = Rose (ports.sink_faults given.out) (ports.sink_faults done.out)

  -- The sink has the text, its count of faults stays and the status is this; or the count rose, the status is that of a sink that failed, and the sink has a front of the text.
  abbrev pub Prints : ℕ → List ℕ → Type 0
  Prints status text =
      ((done.status ≡ status) × IsWhole × Appends (ports.held given.out) (ports.held done.out) text)
      ⊎ ((done.status ≡ sink_status) × HasFailed × (n : ℕ) × Appends (ports.held given.out) (ports.held done.out) (take n text))

  -- nothing was run, the benches are as they were, and the line of this status was due
  abbrev pub Ended : ℕ → List ℕ → Type 0
  Ended status line = (done.history.items ≡ []) × (done.benches.items ≡ given.benches.items) × Prints status line

  -- nothing was run, and the disk wasn't called
  abbrev pub EndedBefore : ℕ → List ℕ → Type 0
  EndedBefore status line = (done.disk ≡ given.disk) × Ended status line

  -- from a sound start the store stands for what it stood for, whatever crash comes, and is read still
  abbrev pub KeepsStore : Type 0
  KeepsStore = StaysSound (ports.story given.disk) (ports.story done.disk)

  -- The store isn't opened, for a reason: it keeps what it had, and where it is damaged, or has had the last run that may be, nothing moved.
  abbrev pub EndedOpening : OpenError → Type 0
  EndedOpening e = IsUnopened (ports.story given.disk) (ports.story done.disk) e × Ended (open_status e) (open_line e)

  -- The script was run to its end, the status tells whether some reply is a refusal, and the sink's count stays; or the count rose.
  abbrev pub HasRun : Script → Catalog → Type 0
  HasRun script c =
      (Ran ports given done script c false × ((rows : Rows) → done.status ≡ status_of script (start_of script c rows) done.history.items) × IsWhole)
      ⊎ (Ran ports given done script c true × (done.status ≡ sink_status) × HasFailed)

  -- Want of memory once the store was opened: no turn was taken, and where finished files tell their bytes the store keeps what it had.
  abbrev pub LacksMemory : Type 0
  LacksMemory = (AreTold ports.bytes → KeepsStore) × Ended memory_status memory_line

  -- How a call ends that has a script: its store isn't opened, or the script was run; or memory was short.
  abbrev pub EndsScript : Script → Type 0
  EndsScript script = ((e : OpenError) × EndedOpening e) ⊎ ((c : Catalog) × HasRun script c) ⊎ LacksMemory

  -- How a call ends that has read its input: the bytes are no script, or they are one; or memory was short.
  abbrev pub EndsText : List ℕ → Type 0
  EndsText bytes =
      ((error : ScriptError) × (script_of bytes ≡ Err error) × EndedBefore script_status (script_line error))
      ⊎ ((script : Script) × (script_of bytes ≡ Ok script) × EndsScript script)
      ⊎ EndedBefore memory_status memory_line

  -- How a call ends whose source didn't fail: its bytes are too many, or they were read; or memory was short.
  abbrev pub EndsInput : Option (List ℕ) → Type 0
  EndsInput input =
      (IfSome input (λ bytes. max_input < length bytes) × EndedBefore length_status length_line)
      ⊎ ((bytes : List ℕ) × IfSome input (λ all. all ≡ bytes) × (length bytes ≤ max_input) × EndsText bytes)
      ⊎ EndedBefore memory_status memory_line

  -- How a call ends whose word is `run` alone: the source's count of faults rose from `before` to `now`; or it stays, and the input decides.
  abbrev pub EndsRun : Option (List ℕ) → ℕ → ℕ → Type 0
  EndsRun input before now = (Rose before now × EndedBefore source_status source_line) ⊎ ((now ≡ before) × EndsInput input)

  -- ---- the script of a seed

  -- The script was run on a sink in memory, which was empty and holds this text.
  abbrev pub RanInMemory : Script → Catalog → Bool → List ℕ → Type 0
  RanInMemory script c failed text =
      Ran (in_memory ports) (record { out = []; disk = given.disk; benches = given.benches })
      (record { status = done.status; out = text; disk = done.disk; benches = done.benches; history = done.history }) script c failed

  -- The sink has the line of the seed, and what the run printed for the script's last three commands: over a sound store their output, and over any store that but for the rows of pages and the fields of damages; the status tells whether some reply is a refusal.
  pub record Shows (seed versions : ℕ) (script : Script) (c : Catalog) : Type 0 where
    pub excerpt : List ℕ
    pub last_three : (rows : Rows) → IsSoundStore ports.bytes (ports.story given.disk) c rows → (ports.story done.disk).moment < last
        → IsExcerpt script (begins (start_of script c rows)) done.history.items (before_last_three script) excerpt
    pub anyhow : (rows : Rows) → IsExcerptButRows script (begins (start_of script c rows)) done.history.items (before_last_three script) excerpt
    pub status : ℕ
    pub tells : (rows : Rows) → status ≡ status_of script (start_of script c rows) done.history.items
    pub prints : Prints status (gen_line seed versions ++ excerpt)

  -- The script of a seed was run to its end in memory, and the sink has what it printed last; or the sink in memory failed, which is want of memory.
  abbrev pub HasShown : ℕ → ℕ → Script → Catalog → List ℕ → Type 0
  HasShown seed versions script c text =
      (RanInMemory script c false text × Shows seed versions script c)
      ⊎ (RanInMemory script c true text × Prints memory_status memory_line)

  -- How a call ends that has the script of a seed: its store isn't opened, or the script was run; or memory was short.
  abbrev pub EndsShown : ℕ → ℕ → Script → Type 0
  EndsShown seed versions script = ((e : OpenError) × EndedOpening e) ⊎ ((c : Catalog) × (text : List ℕ) × HasShown seed versions script c text) ⊎ LacksMemory

  -- How a call ends whose words are `gen` with a seed and a number of versions: it has their script; or memory was short.
  abbrev pub EndsGenerated : ℕ → ℕ → Type 0
  EndsGenerated seed versions = ((script : Script) × (script_of (generated seed versions) ≡ Ok script) × EndsShown seed versions script) ⊎ EndedBefore memory_status memory_line

  -- ---- the store is read, and stays as it is

  -- The store isn't read, for a reason, and nothing moved: neither an area nor a file changed, nor what a crash may leave.
  abbrev pub EndedReading : OpenError → Type 0
  EndedReading e = IsUnread (ports.story given.disk) (ports.story done.disk) e × Ended (open_status e) (open_line e)

  -- ---- the verdict on a store

  -- The store reads as a catalogue, of which this is the first fault, if there is one; no count of the disk's faults rose, nothing moved, and the line of this verdict was due.
  pub record HasVerdict (c : Catalog) (fault : Option Fault) : Type 0 where
    pub reads : ReadsAs (ports.story given.disk) c
    pub first : IsFirstFault (ports.story given.disk) c fault
    pub quiet : HasSameCounts (ports.story given.disk) (ports.story done.disk)
    pub unmoved : Unmoved (ports.story given.disk) (ports.story done.disk)
    pub ended : Ended (verdict_status fault) (verdict_line fault)

  -- How a call ends whose word is `check`: the disk failed, the journal or a file is damaged, or memory was short, in opening the store or behind it; or the store has a verdict. How many runs it has had is nothing to a check.
  abbrev pub EndsCheck : Type 0
  EndsCheck = ((e : OpenError) × (e ≢ open_error.RunsFull) × EndedReading e) ⊎ ((c : Catalog) × (fault : Option Fault) × HasVerdict c fault)

  -- ---- the digests of a relation

  -- A file in which the relation's rows stand, or a sum over them, is damaged in a way that opening the store doesn't find: what was found isn't what is wanted, and over a sound store it never comes.
  pub record IsDamagedWithin (c : Catalog) (d : Damage) : Type 0 where
    pub differs : d.want ≢ d.found
    pub never : (rows : Rows) → IsSoundStart (ports.story given.disk) c rows → ⊥

  -- How a call ends over a store that reads as this catalogue: no relation has the name; or one has it and there is no version; or there is one, and a file of the relation is damaged, or the line of its digests at the newest version was due.
  abbrev pub EndsNamed : Catalog → List ℕ → Type 0
  EndsNamed c name =
      ((relation_named c name ≡ None) × Ended refused_status no_table_line)
      ⊎ (IsTrue (is_some (relation_named c name)) × (c.next ≡ 0) × Ended refused_status no_version_line)
      ⊎ (CanBeLookedAt c name × (d : Damage) × IsDamagedWithin c d × Ended (open_status (open_error.File d)) (open_line (open_error.File d)))
      ⊎ ((version : ℕ) × (rows : ℕ) × (ordered : List ℕ) × (set : ℕ) × IsDigestOf (ports.story given.disk) c name version rows ordered set × Ended answered_status (digest_line name version rows ordered set))

  -- The store reads as a catalogue, no count of the disk's faults rose, nothing moved, and the catalogue decides.
  pub record HasLooked (c : Catalog) (name : List ℕ) : Type 0 where
    pub reads : ReadsAs (ports.story given.disk) c
    pub quiet : HasSameCounts (ports.story given.disk) (ports.story done.disk)
    pub unmoved : Unmoved (ports.story given.disk) (ports.story done.disk)
    pub ended : EndsNamed c name

  -- How a call ends whose words are `digest` with a name: the disk failed, the journal or a file is damaged, or memory was short, in opening the store or behind it; or the name was looked up. How many runs the store has had is nothing to a digest.
  abbrev pub EndsDigest : List ℕ → Type 0
  EndsDigest name = ((e : OpenError) × (e ≢ open_error.RunsFull) × EndedReading e) ⊎ ((c : Catalog) × HasLooked c name)

  -- ---- the four forms

  -- How a call ends whose words have this form: only `run` calls the source.
  abbrev pub EndsForm : Option Form → Option (List ℕ) → ℕ → ℕ → Type 0
  EndsForm None input before now = (now ≡ before) × EndedBefore usage_status usage_line
  EndsForm (Some form.Run) input before now = EndsRun input before now
  EndsForm (Some form.Check) input before now = (now ≡ before) × EndsCheck
  EndsForm (Some (form.Gen seed versions)) input before now = (now ≡ before) × EndsGenerated seed versions
  EndsForm (Some (form.Digest name)) input before now = (now ≡ before) × EndsDigest name

  -- How a call ends: by the form of its words; for `run` by its source's count of faults and by its bytes, where the source tells them. Or memory was too short to read the words.
  abbrev pub Ends : Option Form → Option (List ℕ) → ℕ → ℕ → Type 0
  Ends asked input before now = EndsForm asked input before now ⊎ ((now ≡ before) × EndedBefore memory_status memory_line)
