-- What a call's run was to the store that the call was given.
use Rattle.std.proofs.Common.{◌≡◌, ℕ, ◌+◌, ◌<◌, [], refl, sym, ◌∙◌, ap, subst, arith, inl, inr, ◌∷◌, ◌++◌, List}
use Rattle.std.specs.Prelude.{if◌then◌else◌}
use Rattle.mesa_io.specs.Causes.{last}
use Rattle.mesa_disk.specs.Image.{Image}
use Rattle.mesa_disk.specs.Story.{Story}
use Rattle.mesa_model.specs.declared.commands.Script.{Script}
use Rattle.mesa_model.specs.declared.entries.Entry.{Entry}
use Rattle.mesa_session.specs.mesa_history_spec.Found.{Found, kept_in}
use Rattle.mesa_session.specs.mesa_history_spec.Refused.{some_refused}
use Rattle.mesa_session.specs.mesa_history_spec.Replay.{runs}
use Rattle.mesa_session.specs.mesa_history_spec.Run.{begins}
use Rattle.mesa_session.specs.mesa_history_laws.Printed.{AnswersFromTheFold}
use Rattle.mesa_session.proofs.mesa_history_laws.ReachedAnswers.{pages_fold}
use Rattle.mesa_session.specs.mesa_history_spec.Rows.{Rows}
use Rattle.mesa_engine.specs.mesa_store_spec.Catalog.{Catalog}
use Rattle.mesa_engine.specs.mesa_store_spec.Contents.{kept_of}
use Rattle.mesa_engine.specs.mesa_store_spec.Sound.{StandsFor}
use Rattle.mesa_engine.proofs.mesa_store_spec.Wholes.{catalog_whole}
use Rattle.mesa_recover.specs.Opening.{IsSoundStart, Keeps}
use Rattle.mesa_engine.specs.mesa_catalog.declared.begun.Begun.{Begun}
use Rattle.mesa_shell.specs.Counting.{HasBenchCounts}
use Rattle.mesa_shell.specs.Ports.{Ports}
use Rattle.mesa_shell.specs.Run.{Ran, RanAnyhow, RanSoundly}
use Rattle.mesa_shell.specs.StoreStart.{AreTold, IsSoundStore, start_of}
use Rattle.mesa_shell.specs.Unopened.{StaysSound}
use Rattle.mesa_shell.specs.Exit.{EndsScript}
use Rattle.mesa_shell.specs.declared.done.Devices.{Devices}
use Rattle.mesa_shell.specs.declared.done.Done.{Done}
use Rattle.mesa_shell.proofs.Alike.{kept_begun, start_begun}
use Rattle.mesa_shell.proofs.Alone.{alone_appends}
use Rattle.mesa_shell.proofs.Ends.{run_ended}
use Rattle.mesa_shell.proofs.Readable.{reads_same}
use Rattle.mesa_shell.proofs.WellFormed.{well_formed_start}
use Rattle.mesa_shell.specs.Begun.{HasBegun, IsSoundBegun}
use Rattle.mesa_shell.specs.Ran.{HasNotRun, RanFrom}
use Rattle.mesa_shell.specs.declared.running.Left.{Left}

nil_split : (past rest : List Entry) → [] ≡ past ++ rest → past ≡ []
nil_split [] rest is = refl
nil_split (e ∷ past) rest is = absurd (let no : [] ≡ e ∷ (past ++ rest) = is in cc no)

no_middle : (past : List Entry) (e : Entry) (rest : List Entry) → [] ≡ past ++ e ∷ rest → ⊥
no_middle [] e rest is = let no : [] ≡ e ∷ rest = is in cc no
no_middle (x ∷ past) e rest is = let no : [] ≡ x ∷ (past ++ e ∷ rest) = is in cc no

kept_first : (script : Script) (c : Catalog) (rows : Rows) → kept_in (runs script (begins (start_of script c rows)) []) ≡ kept_of rows c
unfolding kept_of kept_in runs
kept_first script c rows = refl

-- what is found of no turns is what stood at the start
found_none : (script : Script) (c : Catalog) (rows : Rows) (t : ℕ) (x : Image) → Found StandsFor script (begins (start_of script c rows)) [] t x → StandsFor x (kept_of rows c)
found_none script c rows t x f = elim f.how [
  | inl stood ↦ subst (StandsFor x) (stood.same ∙ ap (λ h. kept_in (runs script (begins (start_of script c rows)) h)) (nil_split stood.past stood.rest stood.split) ∙ kept_first script c rows) f.is
  | inr tried ↦ absurd (no_middle tried.past tried.entry tried.rest tried.split)
]

module _ {K D M B : Type 0} (ports : Ports K D M B) (given : Devices K D B) (script : Script) (b : Begun D) (has : HasBegun ports.story (ports.story given.disk) b) where
  applied_same : (rows : Rows) → kept_of rows b.catalog.catalogue ≡ kept_of rows has.catalogue
  applied_same rows = ap (kept_of rows) has.applies ∙ kept_begun rows has.catalogue b.run

  module _ (files : AreTold ports.bytes) (k : Catalog) (rows : Rows) (start : IsSoundStart (ports.story given.disk) k rows) where
    same : k ≡ has.catalogue
    same = reads_same (ports.story given.disk) k has.catalogue rows start has.reads

    begun : IsSoundStart (ports.story given.disk) has.catalogue rows
    begun = subst (λ (y : Catalog). IsSoundStart (ports.story given.disk) y rows) same start

    sound : IsSoundBegun ports.bytes b.since (ports.story b.disk) b.area b.end b.catalog.catalogue rows
    sound = record {
      files = files;
      held = has.held rows begun;
      read = has.told begun.image begun.told;
      found = λ below t x from to left. subst (StandsFor x) (sym (applied_same rows)) (has.keeps has.catalogue rows begun below t x (omega (arith, from, has.since)) to left);
    }

  unrun_keeps : (d : Devices K D B) → HasNotRun ports script b given.out given.benches.items d → AreTold ports.bytes → Keeps (ports.story given.disk) (ports.story d.disk)
  unrun_keeps d unrun files k rows start below t x from to left =
      let found = found_none script b.catalog.catalogue rows t x (unrun.found rows (sound files k rows start) below t x (omega (arith, from, has.since)) to left) in
      subst (λ (y : Catalog). StandsFor x (kept_of rows y)) (sym (same files k rows start)) (subst (StandsFor x) (applied_same rows) found)

  -- a store on which no turn was taken keeps what it had, and is read still
  pub unrun_sound : (d : Devices K D B) → HasNotRun ports script b given.out given.benches.items d → AreTold ports.bytes → StaysSound (ports.story given.disk) (ports.story d.disk)
  unrun_sound d unrun files = (unrun_keeps d unrun files, λ k rows start below. unrun.read rows (sound files k rows start))

module _ {K D M B : Type 0} (ports : Ports K D M B) (given : Devices K D B) (script : Script) (b : Begun D) (l : Left K D B) (has : HasBegun ports.story (ports.story given.disk) b)
    (ran : RanFrom ports script b given.out given.benches.items l) where
  abbrev old : Story
  old = ports.story given.disk

  abbrev c : Catalog
  c = has.catalogue

  -- the start over the catalogue with the run's record is the one over the catalogue that was read
  same_start : (rows : Rows) → start_of script b.catalog.catalogue rows ≡ start_of script c rows
  same_start rows = ap (λ d. start_of script d rows) has.applies ∙ start_begun script c b.run rows

  same_kept : (rows : Rows) → kept_of rows b.catalog.catalogue ≡ kept_of rows c
  same_kept rows = ap (kept_of rows) has.applies ∙ kept_begun rows c b.run

  abbrev counted : ℕ
  counted = (ports.story b.disk).faults + (ports.story b.disk).read_faults

  same_counts : counted ≡ old.faults + old.read_faults
  same_counts = omega (arith, has.faults, has.read_faults)

  anyhow : (rows : Rows) → RanAnyhow script (start_of script c rows) l.history.items l.failed old.moment (old.faults + old.read_faults) (ports.story l.disk) (ports.held given.out) (ports.held l.out)
  anyhow rows =
      subst (λ n. RanAnyhow script (start_of script c rows) l.history.items l.failed old.moment n (ports.story l.disk) (ports.held given.out) (ports.held l.out)) same_counts
      (subst (λ m. RanAnyhow script (start_of script c rows) l.history.items l.failed m counted (ports.story l.disk) (ports.held given.out) (ports.held l.out)) has.since
      (subst (λ s. RanAnyhow script s l.history.items l.failed b.since counted (ports.story l.disk) (ports.held given.out) (ports.held l.out)) (same_start rows) (ran.anyhow rows)))

  sound_begun : (rows : Rows) → IsSoundStore ports.bytes old c rows → IsSoundBegun ports.bytes b.since (ports.story b.disk) b.area b.end b.catalog.catalogue rows
  sound_begun rows s = record {
    files = s.files;
    held = has.held rows s.start;
    read = has.told s.start.image s.start.told;
    found = λ below t x from to left. subst (StandsFor x) (sym (same_kept rows)) (has.keeps c rows s.start below t x (omega (arith, from, has.since)) to left);
  }

  soundly : (rows : Rows) → IsSoundStore ports.bytes old c rows → (ports.story l.disk).moment < last
      → RanSoundly script (start_of script c rows) l.history.items l.failed old.moment (old.faults + old.read_faults) (ports.story l.disk) (ports.held given.out) (ports.held l.out)
  soundly rows s below =
      subst (λ n. RanSoundly script (start_of script c rows) l.history.items l.failed old.moment n (ports.story l.disk) (ports.held given.out) (ports.held l.out)) same_counts
      (subst (λ m. RanSoundly script (start_of script c rows) l.history.items l.failed m counted (ports.story l.disk) (ports.held given.out) (ports.held l.out)) has.since
      (subst (λ x. RanSoundly script x l.history.items l.failed b.since counted (ports.story l.disk) (ports.held given.out) (ports.held l.out)) (same_start rows) (ran.soundly rows (sound_begun rows s) below)))

  answers : (rows : Rows) → IsSoundStore ports.bytes old c rows → AnswersFromTheFold script (start_of script c rows) l.history.items
  answers rows s before more e told page parts tells pages =
      let read = has.reads.3 in
      pages_fold script (start_of script c rows) (well_formed_start script c rows (catalog_whole has.reads.0 has.reads.1 c read.bytes read.records).shaped s.start.sound.rows_are) refl_pins before e told page tells pages
    where
      refl_pins : (start_of script c rows).warehouse.pins ≡ []
      refl_pins = refl

  -- whether some reply is a refusal
  pub refused_told : (rows : Rows) → l.refused ≡ some_refused script (begins (start_of script c rows)) l.history.items
  refused_told rows = subst (λ s. l.refused ≡ some_refused script (begins s) l.history.items) (same_start rows) (ran.told rows)

  module _ (status : ℕ) (is : status ≡ (if l.failed then 5 else (if l.refused then 1 else 0))) where
    abbrev done : Done K D B
    done = record { status = status; out = l.out; disk = l.disk; benches = l.benches; history = l.history }

    pub whole_run : Ran ports given done script c l.failed
    whole_run = record {
      reads = has.reads;
      number = has.number;
      returned = ran.returned;
      anyhow = anyhow;
      benches = λ rows. subst (λ s. HasBenchCounts ports.bench_faults (ports.story l.disk) script (begins s) l.history.items given.benches.items l.benches.items) (same_start rows) (ran.counted rows);
      answers = answers;
      soundly = soundly;
      alone = λ rows s below fine one stand.
          alone_appends (start_of script c rows) script l.history.items l.failed (ports.held given.out) (ports.held l.out) refl (anyhow rows).legal (soundly rows s below).output fine one stand;
    }

    pub script_ran : EndsScript ports given done script
    script_ran = run_ended ports given done script c l.failed l.refused whole_run refused_told ran.broken ran.whole is
