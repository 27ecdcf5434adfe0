-- A call leaves a sound store sound, unless a fault closed it.
use Rattle.std.proofs.Common.{◌≡◌, ◌⊎◌, inl, inr, ◌≤◌, ◌<◌, ℕ, List, [], ◌∷◌, ◌++◌, Bool, true, false, refl, sym, ◌∙◌, ap, subst, arith, Option, Some, None, Result, Ok, Err}
use Rattle.std.specs.List.{AllByRecursion}
use Rattle.std.specs.Prelude.{IfSome}
use Rattle.mesa_io.specs.Causes.{last}
use Rattle.mesa_disk.specs.Image.{Image}
use Rattle.mesa_disk.specs.Story.{Story, Unmoved}
use Rattle.mesa_model.specs.declared.commands.Script.{Script}
use Rattle.mesa_model.specs.declared.entries.Entry.{Entry}
use Rattle.mesa_session.specs.mesa_history_spec.Found.{Kept, kept_in}
use Rattle.mesa_session.specs.mesa_history_spec.Replay.{runs}
use Rattle.mesa_session.specs.mesa_history_spec.Run.{begins}
use Rattle.mesa_script.specs.declared.script.ScriptError.{ScriptError}
use Rattle.mesa_script.specs.Generated.{generated}
use Rattle.mesa_script.specs.Script.{script_of}
use Rattle.mesa_parse.specs.declared.forms.Form.{Form}
use Rattle.mesa_parse.specs.declared.forms.Form.TheVariants as form
use Rattle.mesa_session.specs.mesa_history_spec.Rows.{Rows}
use Rattle.mesa_session.specs.mesa_invariant_spec.Invariant.{run_at}
use Rattle.mesa_engine.specs.mesa_store_spec.Catalog.{Catalog}
use Rattle.mesa_engine.specs.mesa_store_spec.Contents.{kept_of}
use Rattle.mesa_engine.specs.mesa_store_spec.Sound.{StandsFor}
use Rattle.mesa_recover.specs.declared.error.OpenError.{OpenError}
use Rattle.mesa_recover.specs.Opening.{IsSoundStart}
use Rattle.mesa_shell.specs.Ports.{Ports, in_memory}
use Rattle.mesa_shell.specs.StoreStart.{AreTold, IsSoundStore, start_of}
use Rattle.mesa_shell.specs.Run.{Ran}
use Rattle.mesa_shell.specs.Unopened.{StaysSound}
use Rattle.mesa_shell.specs.Exit.{EndedOpening, Ends, EndsCheck, EndsDigest, EndsForm, EndsGenerated, EndsNamed, EndsRun, EndsScript, EndsText, HasRun, HasShown, LacksMemory}
use Rattle.mesa_shell.specs.Completing.{AsksFor}
use Rattle.mesa_shell.specs.Life.{kept_next}
use Rattle.mesa_shell.specs.Next.{CrashLeavesFront, GoesOn, HasFront, IsSoundWith, LeavesSound, OpensSound, RestLeavesSound, RunLeavesSound}
use Rattle.mesa_shell.specs.declared.done.Devices.{Devices}
use Rattle.mesa_shell.specs.declared.done.Done.{Done}
use Rattle.mesa_shell.proofs.Closed.{found_last, none_tried}
use Rattle.mesa_shell.proofs.Readable.{reads_same}
use Rattle.mesa_shell.proofs.StatusTells.{uncalled}
use Rattle.mesa_shell.proofs.Unmoved.{keeps_unmoved, sound_after}

err_ok : (r : Result Script ScriptError) (e : ScriptError) (s : Script) → r ≡ Err e → r ≡ Ok s → ⊥
err_ok r e s a b = let both : Err e ≡ Ok s = sym a ∙ b in cc both

ok_same : (r : Result Script ScriptError) (s t : Script) → r ≡ Ok s → r ≡ Ok t → s ≡ t
ok_same r s t a b = let both : Ok s ≡ Ok t = sym a ∙ b in cc both

by_all : (h : List Entry) (since until : ℕ) → AllByRecursion (λ (e : Entry). (since ≤ e.moment) × (e.moment ≤ until)) h → AllByRecursion (λ (e : Entry). e.moment ≤ until) h
by_all [] since until all = tt
by_all (e ∷ h) since until all = (all.0.1, by_all h since until all.1)

-- behind no turn the store keeps what it had
kept_first : (script : Script) (c : Catalog) (rows : Rows) → kept_in (run_at script (start_of script c rows) []) ≡ kept_of rows c
unfolding kept_of kept_in runs
kept_first script c rows = refl

open_first : (script : Script) (c : Catalog) (rows : Rows) → (run_at script (start_of script c rows) []).state.warehouse.closed ≡ None
unfolding runs
open_first script c rows = refl

none_before : (past rest : List Entry) → [] ≡ past ++ rest → past ≡ []
none_before [] rest is = refl
none_before (e ∷ past) rest is = cc

-- what a disk promises of the images that a crash may leave: what a read gives is one; this moment is one of those since an earlier one; and since this moment there is no other, while the clock is below its last value
pub record HasImages (story : Story) : Type 0 where
  pub read_is_left : (i : Image) → story.told ≡ Some i → story.may_leave i
  pub counts_now : (t : ℕ) (x : Image) → t ≤ story.moment → story.may_leave x → story.may_have_left t x
  pub only_now : (x : Image) → story.moment < last → story.may_have_left story.moment x → story.may_leave x

module _ {M : Type 0} (bytes : M → Option (List ℕ)) (story : Story) (images : HasImages story) (files : AreTold bytes) where
  -- a store is sound whose images all stand for one thing
  stands_sound : (kept : Kept) (i : Image) → story.told ≡ Some i → ((x : Image) → story.may_leave x → StandsFor x kept) → IsSoundWith bytes story kept
  stands_sound kept i told all =
      let s = all i (images.read_is_left i told) in
      record {
        catalogue = s.catalogue;
        rows = s.rows;
        sound = record {
          files = files;
          start = record { image = i; told = told; bodies = s.bodies; sound = s.is; left = λ x may. subst (StandsFor x) s.same (all x may) };
        };
        same = sym s.same;
      }

  -- as it is where a store stays sound
  stays_sound : (old : Story) (c : Catalog) (rows : Rows) → IsSoundStart old c rows → old.moment ≤ story.moment → story.moment < last → StaysSound old story → IsSoundWith bytes story (kept_of rows c)
  stays_sound old c rows start later below stays =
      let read = stays.1 c rows start below in
      stands_sound (kept_of rows c) read.0 read.1 (λ x may. stays.0 c rows start below story.moment x later (omega arith) (images.counts_now story.moment x (omega arith) may))

-- a disk opened from one image
pub opens_sound : {M : Type 0} (bytes : M → Option (List ℕ)) (story : Story) → HasImages story → OpensSound bytes story
opens_sound bytes story images kept x files told only stands =
    stands_sound bytes story images files kept x told (λ y may. subst (λ (z : Image). StandsFor z kept) (sym (only y may)) stands)

module _ {K D M B : Type 0} (ports : Ports K D M B) (given : Devices K D B) (done : Done K D B) (images : HasImages (ports.story done.disk)) where
  abbrev old : Story
  old = ports.story given.disk

  abbrev new : Story
  new = ports.story done.disk

  -- what a run leaves, and what a crash leaves of it
  abbrev RunSound : Script → Type 0
  RunSound script =
      (c : Catalog) (rows : Rows) → IsSoundStore ports.bytes old c rows → new.moment < last → (run_at script (start_of script c rows) done.history.items).state.warehouse.closed ≡ None
      → LeavesSound ports given done (kept_next (kept_of rows c) (record { script = script; turns = done.history.items }))

  abbrev RunFront : Script → Type 0
  RunFront script =
      (c : Catalog) (rows : Rows) → IsSoundStore ports.bytes old c rows → new.moment < last → (run_at script (start_of script c rows) done.history.items).state.warehouse.closed ≡ None
      → (t : ℕ) (x : Image) → old.moment ≤ t → t ≤ new.moment → new.may_have_left t x → HasFront script (kept_of rows c) done.history.items t x

  abbrev RunLeaves : Script → Type 0
  RunLeaves script = RunSound script × RunFront script

  -- the same of a call that took no turn
  abbrev RestSound : Type 0
  RestSound = (c : Catalog) (rows : Rows) → IsSoundStore ports.bytes old c rows → GoesOn ports given done → LeavesSound ports given done (kept_of rows c)

  abbrev RestFront : Type 0
  RestFront = (c : Catalog) (rows : Rows) → IsSoundStore ports.bytes old c rows → new.moment < last → (t : ℕ) (x : Image) → old.moment ≤ t → t ≤ new.moment → new.may_have_left t x → StandsFor x (kept_of rows c)

  abbrev RestLeaves : Type 0
  RestLeaves = RestSound × RestFront

  ran_sound : (script : Script) (k : Catalog) (failed : Bool) → Ran ports given done script k failed → RunSound script
  ran_sound script k failed was c rows s below unclosed =
      let ran : Ran ports given done script c failed = subst (λ (x : Catalog). Ran ports given done script x failed) (sym (reads_same old c k rows s.start was.reads)) was in
      let start = start_of script c rows in
      let well = ran.soundly rows s below in
      let any = ran.anyhow rows in
      let read = well.reads unclosed in
      stands_sound ports.bytes new images s.files (kept_in (run_at script start done.history.items)) read.0 read.1
      (λ x may. found_last StandsFor script start done.history.items new.moment x any.legal.each (by_all done.history.items old.moment new.moment any.moments) unclosed
      (well.crash below new.moment x any.clock (omega arith) (images.counts_now new.moment x (omega arith) may)))

  ran_front : (script : Script) (k : Catalog) (failed : Bool) → Ran ports given done script k failed → RunFront script
  ran_front script k failed was c rows s below unclosed t x from to left =
      let ran : Ran ports given done script c failed = subst (λ (y : Catalog). Ran ports given done script y failed) (sym (reads_same old c k rows s.start was.reads)) was in
      let f = (ran.soundly rows s below).crash below t x from to left in
      elim f.how [
        | inl stood ↦ record { past = stood.past; rest = stood.rest; split = stood.split; later = stood.later; stands = subst (StandsFor x) stood.same f.is }
        | inr tried ↦ absurd (none_tried script (begins (start_of script c rows)) done.history.items f.kept (ran.anyhow rows).legal.each unclosed tried)
      ]

  ran_leaves : (script : Script) (k : Catalog) (failed : Bool) → Ran ports given done script k failed → RunLeaves script
  ran_leaves script k failed ran = (ran_sound script k failed ran, ran_front script k failed ran)

  stays_leave : StaysSound old new → RestLeaves
  stays_leave stays = (
    λ c rows s goes. stays_sound ports.bytes new images s.files old c rows s.start goes.0 goes.1 stays,
    λ c rows s below t x from to left. stays.0 c rows s.start below t x from to left,
  )

  unmoved_leaves : Unmoved old new → RestLeaves
  unmoved_leaves still = (
    λ c rows s goes. record { catalogue = c; rows = rows; sound = record { files = s.files; start = sound_after old new still c rows s.start }; same = refl },
    λ c rows s below t x from to left. keeps_unmoved old new still images.only_now c rows s.start below t x from to left,
  )

  uncalled_leaves : done.disk ≡ given.disk → RestLeaves
  uncalled_leaves is = unmoved_leaves (uncalled ports given done is).0

-- ---- by how a call ends

module _ {K D M B : Type 0} (ports : Ports K D M B) (given : Devices K D B) (done : Done K D B) (images : HasImages (ports.story done.disk)) (input : Option (List ℕ)) (before now : ℕ) where
  -- A call took no turn; or it ran a script, which is the one that it was asked for.
  abbrev Leaves : Option Form → Type 0
  Leaves asked = ((done.history.items ≡ []) × RestLeaves ports given done images) ⊎ ((script : Script) × ((s : Script) → AsksFor asked input s → s ≡ script) × RunLeaves ports given done images script)

  opening_leaves : (asked : Option Form) → ((e : OpenError) × EndedOpening ports given done e) → Leaves asked
  opening_leaves asked p = inl (p.1.1.0, stays_leave ports given done images p.1.0.keeps)

  lacking_leaves : (asked : Option Form) → LacksMemory ports given done → Leaves asked
  lacking_leaves asked p = inl (
    p.1.0,
    (
      (λ c rows s goes. (stays_leave ports given done images (p.0 s.files)).0 c rows s goes),
      (λ c rows s below t x from to left. (stays_leave ports given done images (p.0 s.files)).1 c rows s below t x from to left),
    ),
  )

  run_leaves : (asked : Option Form) (script : Script) → ((s : Script) → AsksFor asked input s → s ≡ script) → (c : Catalog) → HasRun ports given done script c → Leaves asked
  run_leaves asked script same c has = inr (
    script,
    same,
    elim has [
      | inl p ↦ ran_leaves ports given done images script c false p.0
      | inr p ↦ ran_leaves ports given done images script c true p.0
    ],
  )

  script_leaves : (asked : Option Form) (script : Script) → ((s : Script) → AsksFor asked input s → s ≡ script) → EndsScript ports given done script → Leaves asked
  script_leaves asked script same ends = elim ends [
    | inl p ↦ opening_leaves asked p
    | inr rest ↦ elim rest [
      | inl p ↦ run_leaves asked script same p.0 p.1
      | inr p ↦ lacking_leaves asked p
    ]
  ]

  text_leaves : (bytes : List ℕ) → IfSome input (λ all. all ≡ bytes) → EndsText ports given done bytes → Leaves (Some form.Run)
  text_leaves bytes known ends = elim ends [
    | inl p ↦ inl (p.2.1.0, uncalled_leaves ports given done images p.2.0)
    | inr rest ↦ elim rest [
      | inl p ↦ script_leaves (Some form.Run) p.0 (λ s asks. let same = subst (λ (o : Option (List ℕ)). IfSome o (λ all. all ≡ bytes)) asks.known known in ok_same (script_of bytes) s p.0 (ap script_of (sym same) ∙ asks.read) p.1) p.2
      | inr p ↦ inl (p.1.0, uncalled_leaves ports given done images p.0)
    ]
  ]

  source_leaves : EndsRun ports given done input before now → Leaves (Some form.Run)
  source_leaves ends = elim ends [
    | inl p ↦ inl (p.1.1.0, uncalled_leaves ports given done images p.1.0)
    | inr p ↦ elim p.1 [
      | inl q ↦ inl (q.1.1.0, uncalled_leaves ports given done images q.1.0)
      | inr rest ↦ elim rest [
        | inl q ↦ text_leaves q.0 q.1 q.3
        | inr q ↦ inl (q.1.0, uncalled_leaves ports given done images q.0)
      ]
    ]
  ]

  shown_leaves : (seed versions : ℕ) (script : Script) → script_of (generated seed versions) ≡ Ok script → (c : Catalog) (text : List ℕ) → HasShown ports given done seed versions script c text → Leaves (Some (form.Gen seed versions))
  shown_leaves seed versions script is c text has =
      let memory = in_memory ports in
      let g : Devices (List ℕ) D B = record { out = []; disk = given.disk; benches = given.benches } in
      let d : Done (List ℕ) D B = record { status = done.status; out = text; disk = done.disk; benches = done.benches; history = done.history } in
      inr (
        script,
        (λ s asks. ok_same (script_of (generated seed versions)) s script asks is),
        elim has [
          | inl p ↦ ran_leaves memory g d images script c false p.0
          | inr p ↦ ran_leaves memory g d images script c true p.0
        ],
      )

  generated_leaves : (seed versions : ℕ) → EndsGenerated ports given done seed versions → Leaves (Some (form.Gen seed versions))
  generated_leaves seed versions ends = elim ends [
    | inl p ↦ elim p.2 [
      | inl q ↦ opening_leaves (Some (form.Gen seed versions)) q
      | inr rest ↦ elim rest [
        | inl q ↦ shown_leaves seed versions p.0 p.1 q.0 q.1 q.2
        | inr q ↦ lacking_leaves (Some (form.Gen seed versions)) q
      ]
    ]
    | inr p ↦ inl (p.1.0, uncalled_leaves ports given done images p.0)
  ]

  check_leaves : EndsCheck ports given done → Leaves (Some form.Check)
  check_leaves ends = elim ends [
    | inl p ↦ inl (p.2.1.0, unmoved_leaves ports given done images p.2.0.unmoved)
    | inr p ↦ inl (p.2.ended.0, unmoved_leaves ports given done images p.2.unmoved)
  ]

  looked_ends : (c : Catalog) (name : List ℕ) → EndsNamed ports given done c name → done.history.items ≡ []
  looked_ends c name ends = elim ends [
    | inl p ↦ p.1.0
    | inr rest ↦ elim rest [
      | inl p ↦ p.2.0
      | inr more ↦ elim more [ inl p ↦ p.3.0 | inr p ↦ p.5.0 ]
    ]
  ]

  digest_leaves : (name : List ℕ) → EndsDigest ports given done name → Leaves (Some (form.Digest name))
  digest_leaves name ends = elim ends [
    | inl p ↦ inl (p.2.1.0, unmoved_leaves ports given done images p.2.0.unmoved)
    | inr p ↦ inl (looked_ends p.0 name p.1.ended, unmoved_leaves ports given done images p.1.unmoved)
  ]

  form_leaves : (asked : Option Form) → EndsForm ports given done asked input before now → Leaves asked
  form_leaves None p = inl (p.1.1.0, uncalled_leaves ports given done images p.1.0)
  form_leaves (Some form.Run) p = source_leaves p
  form_leaves (Some form.Check) p = check_leaves p.1
  form_leaves (Some (form.Digest name)) p = digest_leaves name p.1
  form_leaves (Some (form.Gen seed versions)) p = generated_leaves seed versions p.1

  all_leaves : (asked : Option Form) → Ends ports given done asked input before now → Leaves asked
  all_leaves asked ends = elim ends [
    | inl p ↦ form_leaves asked p
    | inr p ↦ inl (p.1.1.0, uncalled_leaves ports given done images p.1.0)
  ]

  pub run_leaves_sound : (asked : Option Form) → RunLeavesSound ports given done asked input before now
  run_leaves_sound asked script c rows asks ends s goes unclosed = elim (all_leaves asked ends) [
    | inl p ↦ subst (LeavesSound ports given done) (sym (ap (λ (h : List Entry). kept_in (run_at script (start_of script c rows) h)) p.0 ∙ kept_first script c rows)) (p.1.0 c rows s (goes.0 p.0, goes.1))
    | inr p ↦
        let same = p.1 script asks in
        subst (λ (x : Script). LeavesSound ports given done (kept_in (run_at x (start_of x c rows) done.history.items))) (sym same)
        (p.2.0 c rows s goes.1 (subst (λ (x : Script). (run_at x (start_of x c rows) done.history.items).state.warehouse.closed ≡ None) same unclosed))
  ]

  pub crash_leaves_front : (asked : Option Form) → CrashLeavesFront ports given done asked input before now
  crash_leaves_front asked script c rows asks ends s below unclosed t x from to left = elim (all_leaves asked ends) [
    | inl p ↦ record { past = []; rest = []; split = p.0; later = tt; stands = subst (StandsFor x) (sym (kept_first script c rows)) (p.1.1 c rows s below t x from to left) }
    | inr p ↦
        let same = p.1 script asks in
        subst (λ (y : Script). HasFront y (kept_of rows c) done.history.items t x) (sym same)
        (p.2.1 c rows s below (subst (λ (y : Script). (run_at y (start_of y c rows) done.history.items).state.warehouse.closed ≡ None) same unclosed) t x from to left)
  ]

  -- and each image that a crash amid a call without turns left has what there was
  pub rest_leaves_front : (asked : Option Form) (c : Catalog) (rows : Rows) → Ends ports given done asked input before now → done.history.items ≡ [] → IsSoundStore ports.bytes (ports.story given.disk) c rows → (ports.story done.disk).moment < last
      → (t : ℕ) (x : Image) → (ports.story given.disk).moment ≤ t → t ≤ (ports.story done.disk).moment → (ports.story done.disk).may_have_left t x → StandsFor x (kept_of rows c)
  rest_leaves_front asked c rows ends none s below t x from to left = elim (all_leaves asked ends) [
    | inl p ↦ p.1.1 c rows s below t x from to left
    | inr p ↦
        let script = p.0 in
        let unclosed = subst (λ (h : List Entry). (run_at script (start_of script c rows) h).state.warehouse.closed ≡ None) (sym none) (open_first script c rows) in
        let front : HasFront script (kept_of rows c) done.history.items t x = p.2.1 c rows s below unclosed t x from to left in
        subst (StandsFor x) (ap (λ (h : List Entry). kept_in (run_at script (start_of script c rows) h)) (none_before front.past front.rest (sym none ∙ front.split)) ∙ kept_first script c rows) front.stands
  ]

  pub rest_leaves_sound : (asked : Option Form) → RestLeavesSound ports given done asked input before now
  rest_leaves_sound asked c rows ends none s goes = elim (all_leaves asked ends) [
    | inl p ↦ p.1.0 c rows s goes
    | inr p ↦
        let script = p.0 in
        let unclosed = subst (λ (h : List Entry). (run_at script (start_of script c rows) h).state.warehouse.closed ≡ None) (sym none) (open_first script c rows) in
        subst (LeavesSound ports given done) (ap (λ (h : List Entry). kept_in (run_at script (start_of script c rows) h)) none ∙ kept_first script c rows) (p.2.0 c rows s goes.1 unclosed)
  ]
