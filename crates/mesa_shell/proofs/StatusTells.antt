-- What a status tells follows from how calls end.
use Rattle.std.proofs.Common.{◌≡◌, ◌⊎◌, inl, inr, ◌≤◌, ◌<◌, ℕ, List, length, Bool, true, false, refl, sym, ◌∙◌, subst, arith, Option, Some, None}
use Rattle.std.specs.Prelude.{◌≢◌, IfSome, Ok, if◌then◌else◌}
use Rattle.mesa_io.specs.Causes.{Rose}
use Rattle.mesa_disk.specs.Story.{Unmoved}
use Rattle.mesa_file.specs.declared.damage.Damage.{Damage}
use Rattle.mesa_model.specs.declared.commands.Script.{Script}
use Rattle.mesa_session.specs.mesa_history_spec.Refused.{some_refused}
use Rattle.mesa_session.specs.mesa_history_spec.Run.{begins}
use Rattle.mesa_script.specs.Generated.{generated}
use Rattle.mesa_script.specs.Script.{script_of}
use Rattle.mesa_parse.specs.declared.forms.Form.{Form}
use Rattle.mesa_parse.specs.declared.forms.Form.TheVariants as form
use Rattle.mesa_session.specs.mesa_history_spec.Rows.{no_rows}
use Rattle.mesa_engine.specs.mesa_store_spec.Catalog.{Catalog}
use Rattle.mesa_recover.specs.declared.error.OpenError.{OpenError}
use Rattle.mesa_recover.specs.declared.error.OpenError.TheVariants as open_error
use Rattle.mesa_store_digest.specs.Latest.{relation_named}
use Rattle.mesa_recover.specs.Opening.{ReadsAs}
use Rattle.mesa_check.specs.Faults.{Fault}
use Rattle.mesa_shell.specs.Ports.{Ports}
use Rattle.mesa_shell.specs.ExitLines.{max_input, memory_line, memory_status, open_status, usage_line, usage_status}
use Rattle.mesa_shell.specs.StoreStart.{start_of}
use Rattle.mesa_shell.specs.Exit.{EndedBefore, EndedOpening, Ends, EndsCheck, EndsDigest, EndsForm, EndsGenerated, EndsInput, EndsRun, EndsScript, EndsText, HasLooked, HasRun, HasShown, HasVerdict, IsDamagedWithin, IsWhole, Prints}
use Rattle.mesa_shell.specs.Unopened.{HasSameCounts}
use Rattle.mesa_shell.specs.Statuses.{HasMetDamage, HasOpeningReason, IsNoScript, IsUntouched, Tells, WasAsked, WasChecked, WasGenerated, WasLookedUp, WasRun}
use Rattle.mesa_shell.specs.declared.done.Devices.{Devices}
use Rattle.mesa_shell.specs.declared.done.Done.{Done}
use Rattle.mesa_shell.proofs.Checked.{low_verdict, sound_exactly}

-- what holds of the bytes that are known holds of the input
known_as : (P : List ℕ → Type 0) (input : Option (List ℕ)) (bytes : List ℕ) → IfSome input (λ all. all ≡ bytes) → P bytes → IfSome input P
known_as P None bytes known holds = tt
known_as P (Some all) bytes known holds = subst P (sym known) holds

one_or_none : (b : Bool) → (if b then 1 else 0) ≤ 1
one_or_none true = omega arith
one_or_none false = omega arith

-- one of three statuses
abbrev Early : ℕ → Type 0
Early n = (n ≡ 2) ⊎ (n ≡ 3) ⊎ (n ≡ 4)

not_early : (n : ℕ) → 5 ≤ n → Early n → ⊥
not_early n le (inl is) = omega (arith, le, is)
not_early n le (inr (inl is)) = omega (arith, le, is)
not_early n le (inr (inr is)) = omega (arith, le, is)

low_early : (n : ℕ) → n ≤ 1 → Early n → ⊥
low_early n le (inl is) = omega (arith, le, is)
low_early n le (inr (inl is)) = omega (arith, le, is)
low_early n le (inr (inr is)) = omega (arith, le, is)

-- one of two statuses
abbrev Late : ℕ → Type 0
Late n = (n ≡ 7) ⊎ (n ≡ 9)

not_late : (n : ℕ) → (n < 7) ⊎ (n ≡ 8) → Late n → ⊥
not_late n (inl lt) (inl is) = omega (arith, lt, is)
not_late n (inl lt) (inr is) = omega (arith, lt, is)
not_late n (inr eight) (inl is) = omega (arith, eight, is)
not_late n (inr eight) (inr is) = omega (arith, eight, is)

-- a disk that wasn't called is untouched
pub uncalled : {K D M B : Type 0} (ports : Ports K D M B) (given : Devices K D B) (done : Done K D B) → done.disk ≡ given.disk → IsUntouched ports given done
uncalled ports given done is = subst (λ d. Unmoved (ports.story given.disk) (ports.story d) × HasSameCounts (ports.story given.disk) (ports.story d)) (sym is) (
  record { told = refl; len = λ area. refl; moment = refl; may_leave = λ x. ((λ may. may), (λ may. may)); may_have_left = λ t x. ((λ may. may), (λ may. may)) },
  (refl, refl),
)

module _ {K D M B : Type 0} (ports : Ports K D M B) (given : Devices K D B) (done : Done K D B) (asked : Option Form) (input : Option (List ℕ)) (before now : ℕ) where
  abbrev Told : Type 0
  Told = Tells ports given done asked input before now

  abbrev Unopened : OpenError → Type 0
  Unopened e = HasOpeningReason ports given done e

  abbrev Untouched : Type 0
  Untouched = IsUntouched ports given done

  abbrev Met : Type 0
  Met = HasMetDamage ports given done asked

  -- what a status would tell that a call ends with which runs nothing
  record Would (n : ℕ) : Type 0 where
    two : 2 ≤ n
    five : n ≢ 5
    usage : n ≡ 2 → asked ≡ None
    refused : n ≡ 3 → IfSome input IsNoScript
    source : n ≡ 4 → Rose before now
    quiet : n ≢ 4 → now ≡ before
    disk : n ≡ 6 → Unopened open_error.Fault
    damaged : n ≡ 7 → ((e : OpenError) × (open_status e ≡ 7) × Unopened e) ⊎ Met
    full : n ≡ 9 → IfSome input (λ bytes. max_input < length bytes) ⊎ Unopened open_error.RunsFull
    uncalled : Early n → done.disk ≡ given.disk
    untouched : Late n → Untouched

  failed_tells : (done.status ≢ 4 → done.status ≢ 5 → now ≡ before) → done.status ≡ 5 → Rose (ports.sink_faults given.out) (ports.sink_faults done.out) → Told
  failed_tells quiet is rose = record {
    ran = λ le. absurd (omega (arith, le, is));
    usage = λ e. absurd (omega (arith, e, is));
    refused = λ e. absurd (omega (arith, e, is));
    source = λ e. absurd (omega (arith, e, is));
    source_quiet = quiet;
    sink = λ e. rose;
    sink_quiet = λ other. absurd (other is);
    disk = λ e. absurd (omega (arith, e, is));
    damaged = λ e. absurd (omega (arith, e, is));
    full = λ e. absurd (omega (arith, e, is));
    uncalled = λ e. absurd (not_early done.status (omega (arith, is)) e);
    untouched = λ e. absurd (not_late done.status (inl (omega (arith, is))) e);
  }

  line_tells : (n : ℕ) (text : List ℕ) → Would n → Prints ports given done n text → Told
  line_tells n text w prints = elim prints [
    | inl p ↦ record {
      ran = λ le. absurd (omega (arith, le, p.0, w.two));
      usage = λ e. w.usage (sym p.0 ∙ e);
      refused = λ e. w.refused (sym p.0 ∙ e);
      source = λ e. w.source (sym p.0 ∙ e);
      source_quiet = λ four other. w.quiet (λ e. four (p.0 ∙ e));
      sink = λ e. absurd (w.five (sym p.0 ∙ e));
      sink_quiet = λ other. p.1;
      disk = λ e. w.disk (sym p.0 ∙ e);
      damaged = λ e. w.damaged (sym p.0 ∙ e);
      full = λ e. w.full (sym p.0 ∙ e);
      uncalled = λ e. w.uncalled (subst Early p.0 e);
      untouched = λ e. w.untouched (subst Late p.0 e);
    }
    | inr p ↦ failed_tells (λ four other. absurd (other p.0)) p.0 p.1
  ]

  -- a status that tells of an opening, or of want of memory
  late : (n : ℕ) → 6 ≤ n → now ≡ before → (n ≡ 6 → Unopened open_error.Fault) → (n ≡ 7 → ((e : OpenError) × (open_status e ≡ 7) × Unopened e) ⊎ Met)
      → (n ≡ 9 → IfSome input (λ bytes. max_input < length bytes) ⊎ Unopened open_error.RunsFull) → (Late n → Untouched) → Would n
  late n le quiet disk damaged full untouched = record {
    two = omega (arith, le);
    five = λ e. omega (arith, e, le);
    usage = λ e. absurd (omega (arith, e, le));
    refused = λ e. absurd (omega (arith, e, le));
    source = λ e. absurd (omega (arith, e, le));
    quiet = λ other. quiet;
    disk = disk;
    damaged = damaged;
    full = full;
    uncalled = λ e. absurd (not_early n (omega (arith, le)) e);
    untouched = untouched;
  }

  memory : now ≡ before → Would 8
  memory quiet = late 8 (omega arith) quiet (λ e. absurd (omega (arith, e))) (λ e. absurd (omega (arith, e))) (λ e. absurd (omega (arith, e))) (λ e. absurd (not_late 8 (inr refl) e))

  unopened : now ≡ before → (e : OpenError) → Unopened e → (e ≢ open_error.Fault → e ≢ open_error.Memory → Untouched) → Would (open_status e)
  unopened quiet open_error.Fault why left = late 6 (omega arith) quiet (λ e. why) (λ e. absurd (omega (arith, e))) (λ e. absurd (omega (arith, e))) (λ e. absurd (not_late 6 (inl (omega arith)) e))
  unopened quiet (open_error.Journal area at want found) why left =
      late 7 (omega arith) quiet (λ e. absurd (omega (arith, e))) (λ e. inl (open_error.Journal area at want found, refl, why)) (λ e. absurd (omega (arith, e))) (λ e. left (λ fault. absurd cc) (λ memory. absurd cc))
  unopened quiet (open_error.File d) why left =
      late 7 (omega arith) quiet (λ e. absurd (omega (arith, e))) (λ e. inl (open_error.File d, refl, why)) (λ e. absurd (omega (arith, e))) (λ e. left (λ fault. absurd cc) (λ memory. absurd cc))
  unopened quiet open_error.RunsFull why left =
      late 9 (omega arith) quiet (λ e. absurd (omega (arith, e))) (λ e. absurd (omega (arith, e))) (λ e. inr why) (λ e. left (λ fault. absurd cc) (λ memory. absurd cc))
  unopened quiet open_error.Memory why left = memory quiet

  opening_tells : now ≡ before → (e : OpenError) → EndedOpening ports given done e → Told
  opening_tells quiet e p = line_tells (open_status e) _ (unopened quiet e p.0.reason (λ fault memory. (p.0.unmoved fault memory, p.0.quiet fault))) p.1.2

  memory_tells : now ≡ before → EndedBefore ports given done memory_status memory_line → Told
  memory_tells quiet p = line_tells 8 _ (memory quiet) p.1.2

  -- a run to its end
  ended_tells : now ≡ before → done.status ≤ 1 → WasAsked ports given done asked input → IsWhole ports given done → Told
  ended_tells quiet low was whole = record {
    ran = λ le. was;
    usage = λ e. absurd (omega (arith, e, low));
    refused = λ e. absurd (omega (arith, e, low));
    source = λ e. absurd (omega (arith, e, low));
    source_quiet = λ four other. quiet;
    sink = λ e. absurd (omega (arith, e, low));
    sink_quiet = λ other. whole;
    disk = λ e. absurd (omega (arith, e, low));
    damaged = λ e. absurd (omega (arith, e, low));
    full = λ e. absurd (omega (arith, e, low));
    uncalled = λ e. absurd (low_early done.status low e);
    untouched = λ e. absurd (not_late done.status (inl (omega (arith, low))) e);
  }

  -- words that have no form
  usage_tells : now ≡ before → asked ≡ None → EndedBefore ports given done usage_status usage_line → Told
  usage_tells quiet formless p = line_tells 2 _ (record {
    two = omega arith;
    five = λ e. omega (arith, e);
    usage = λ e. formless;
    refused = λ e. absurd (omega (arith, e));
    source = λ e. absurd (omega (arith, e));
    quiet = λ other. quiet;
    disk = λ e. absurd (omega (arith, e));
    damaged = λ e. absurd (omega (arith, e));
    full = λ e. absurd (omega (arith, e));
    uncalled = λ e. p.0;
    untouched = λ e. absurd (not_late 2 (inl (omega arith)) e);
  }) p.1.2

  -- the verdict on a store
  module _ (meant : WasChecked ports given done → WasAsked ports given done asked input) where
    verdict_tells : now ≡ before → (c : Catalog) (fault : Option Fault) → HasVerdict ports given done c fault → Told
    verdict_tells quiet c fault v = elim v.ended.2 [
      | inl q ↦
          let low = low_verdict fault in
          ended_tells quiet (omega (arith, low, q.0)) (meant (record {
            catalogue = c;
            fault = fault;
            reads = v.reads;
            first = v.first;
            status = q.0;
            sound = sound_exactly (ports.story given.disk) c fault done.status q.0 v.reads v.first;
            quiet = v.quiet;
          })) q.1
      | inr q ↦ failed_tells (λ four other. quiet) q.0 q.1
    ]

    check_tells : now ≡ before → EndsCheck ports given done → Told
    check_tells quiet ends = elim ends [
      | inl p ↦ line_tells (open_status p.0) _ (unopened quiet p.0 p.2.0.reason (λ fault memory. (p.2.0.unmoved, p.2.0.quiet fault))) p.2.1.2
      | inr p ↦ verdict_tells quiet p.0 p.1 p.2
    ]

  -- the digests of a relation
  module _ (name : List ℕ) (meant : WasLookedUp ports given done name → WasAsked ports given done asked input) (met : (c : Catalog) (d : Damage) → ReadsAs (ports.story given.disk) c → IsDamagedWithin ports given done c d → Met) where
    refused_tells : now ≡ before → (c : Catalog) (line : List ℕ) → ReadsAs (ports.story given.disk) c → HasSameCounts (ports.story given.disk) (ports.story done.disk)
        → (relation_named c name ≡ None) ⊎ (c.next ≡ 0) → Prints ports given done 1 line → Told
    refused_tells quiet c line reads same why prints = elim prints [
      | inl q ↦ ended_tells quiet (omega (arith, q.0)) (meant (record { catalogue = c; reads = reads; refused = λ e. why; told = λ e. absurd (omega (arith, e, q.0)); quiet = same })) q.1
      | inr q ↦ failed_tells (λ four other. quiet) q.0 q.1
    ]

    looked_tells : now ≡ before → (c : Catalog) → HasLooked ports given done c name → Told
    looked_tells quiet c h = elim h.ended [
      | inl p ↦ refused_tells quiet c _ h.reads h.quiet (inl p.0) p.1.2
      | inr rest ↦ elim rest [
        | inl p ↦ refused_tells quiet c _ h.reads h.quiet (inr p.1) p.2.2
        | inr more ↦ elim more [
          | inl p ↦ line_tells 7 _ (late 7 (omega arith) quiet (λ e. absurd (omega (arith, e))) (λ e. inr (met c p.1 h.reads p.2)) (λ e. absurd (omega (arith, e))) (λ e. (h.unmoved, h.quiet))) p.3.2
          | inr p ↦ elim p.5.2 [
            | inl q ↦ ended_tells quiet (omega (arith, q.0)) (meant (record { catalogue = c; reads = h.reads; refused = λ e. absurd (omega (arith, e, q.0)); told = λ e. (p.0, p.1, p.2, p.3, p.4, q.2); quiet = h.quiet })) q.1
            | inr q ↦ failed_tells (λ four other. quiet) q.0 q.1
          ]
        ]
      ]
    ]

    digest_tells : now ≡ before → EndsDigest ports given done name → Told
    digest_tells quiet ends = elim ends [
      | inl p ↦ line_tells (open_status p.0) _ (unopened quiet p.0 p.2.0.reason (λ fault memory. (p.2.0.unmoved, p.2.0.quiet fault))) p.2.1.2
      | inr p ↦ looked_tells quiet p.0 p.1
    ]

  -- the script of a seed
  module _ (seed versions : ℕ) (meant : WasGenerated ports given done seed versions → WasAsked ports given done asked input) where
    shown_tells : (script : Script) → script_of (generated seed versions) ≡ Ok script → now ≡ before → (c : Catalog) (text : List ℕ) → HasShown ports given done seed versions script c text → Told
    shown_tells script is quiet c text has = elim has [
      | inl p ↦ elim p.1.prints [
        | inl q ↦
            let le = one_or_none (some_refused script (begins (start_of script c no_rows)) done.history.items) in
            ended_tells quiet (omega (arith, le, q.0, p.1.tells no_rows)) (meant (record { script = script; catalogue = c; text = text; read = is; ran = p.0; status = λ rows. q.0 ∙ p.1.tells rows })) q.1
        | inr q ↦ failed_tells (λ four other. quiet) q.0 q.1
      ]
      | inr p ↦ line_tells 8 _ (memory quiet) p.1
    ]

    generated_tells : now ≡ before → EndsGenerated ports given done seed versions → Told
    generated_tells quiet ends = elim ends [
      | inl p ↦ elim p.2 [
        | inl q ↦ opening_tells quiet q.0 q.1
        | inr rest ↦ elim rest [
          | inl q ↦ shown_tells p.0 p.1 quiet q.0 q.1 q.2
          | inr q ↦ line_tells 8 _ (memory quiet) q.1.2
        ]
      ]
      | inr p ↦ memory_tells quiet p
    ]

  -- the input's script
  module _ (meant : IfSome input (WasRun ports given done) → WasAsked ports given done asked input) where
    run_tells : (bytes : List ℕ) → IfSome input (λ all. all ≡ bytes) → (script : Script) → script_of bytes ≡ Ok script → now ≡ before → (c : Catalog) → HasRun ports given done script c → Told
    run_tells bytes known script is quiet c has = elim has [
      | inl p ↦
          let le = one_or_none (some_refused script (begins (start_of script c no_rows)) done.history.items) in
          ended_tells quiet (omega (arith, le, p.1 no_rows)) (meant (known_as (WasRun ports given done) input bytes known (record { script = script; catalogue = c; read = is; ran = p.0; status = p.1 }))) p.2
      | inr p ↦ failed_tells (λ four other. quiet) p.1 p.2
    ]

    script_tells : (bytes : List ℕ) → IfSome input (λ all. all ≡ bytes) → (script : Script) → script_of bytes ≡ Ok script → now ≡ before → EndsScript ports given done script → Told
    script_tells bytes known script is quiet ends = elim ends [
      | inl p ↦ opening_tells quiet p.0 p.1
      | inr rest ↦ elim rest [
        | inl p ↦ run_tells bytes known script is quiet p.0 p.1
        | inr p ↦ line_tells 8 _ (memory quiet) p.1.2
      ]
    ]

    text_tells : (bytes : List ℕ) → IfSome input (λ all. all ≡ bytes) → now ≡ before → EndsText ports given done bytes → Told
    text_tells bytes known quiet ends = elim ends [
      | inl p ↦ line_tells 3 _ (record {
        two = omega arith;
        five = λ e. omega (arith, e);
        usage = λ e. absurd (omega (arith, e));
        refused = λ e. known_as IsNoScript input bytes known (p.0, p.1);
        source = λ e. absurd (omega (arith, e));
        quiet = λ other. quiet;
        disk = λ e. absurd (omega (arith, e));
        damaged = λ e. absurd (omega (arith, e));
        full = λ e. absurd (omega (arith, e));
        uncalled = λ e. p.2.0;
        untouched = λ e. absurd (not_late 3 (inl (omega arith)) e);
      }) p.2.1.2
      | inr rest ↦ elim rest [
        | inl p ↦ script_tells bytes known p.0 p.1 quiet p.2
        | inr p ↦ line_tells 8 _ (memory quiet) p.1.2
      ]
    ]

    input_tells : now ≡ before → EndsInput ports given done input → Told
    input_tells quiet ends = elim ends [
      | inl p ↦ line_tells 9 _ (late 9 (omega arith) quiet (λ e. absurd (omega (arith, e))) (λ e. absurd (omega (arith, e))) (λ e. inl p.0) (λ e. uncalled ports given done p.1.0)) p.1.1.2
      | inr rest ↦ elim rest [
        | inl p ↦ text_tells p.0 p.1 quiet p.3
        | inr p ↦ line_tells 8 _ (memory quiet) p.1.2
      ]
    ]

    source_tells : EndsRun ports given done input before now → Told
    source_tells ends = elim ends [
      | inl p ↦ line_tells 4 _ (record {
        two = omega arith;
        five = λ e. omega (arith, e);
        usage = λ e. absurd (omega (arith, e));
        refused = λ e. absurd (omega (arith, e));
        source = λ e. p.0;
        quiet = λ other. absurd (other refl);
        disk = λ e. absurd (omega (arith, e));
        damaged = λ e. absurd (omega (arith, e));
        full = λ e. absurd (omega (arith, e));
        uncalled = λ e. p.1.0;
        untouched = λ e. absurd (not_late 4 (inl (omega arith)) e);
      }) p.1.1.2
      | inr p ↦ input_tells p.0 p.1
    ]

module _ {K D M B : Type 0} (ports : Ports K D M B) (given : Devices K D B) (done : Done K D B) (input : Option (List ℕ)) (before now : ℕ) where
  form_tells : (asked : Option Form) → EndsForm ports given done asked input before now → Tells ports given done asked input before now
  form_tells None p = usage_tells ports given done None input before now p.0 refl p.1
  form_tells (Some form.Run) p = source_tells ports given done (Some form.Run) input before now (λ was. was) p
  form_tells (Some form.Check) p = check_tells ports given done (Some form.Check) input before now (λ was. was) p.0 p.1
  form_tells (Some (form.Digest name)) p = digest_tells ports given done (Some (form.Digest name)) input before now name (λ was. was) (λ c d reads within. (c, d, reads, within)) p.0 p.1
  form_tells (Some (form.Gen seed versions)) p = generated_tells ports given done (Some (form.Gen seed versions)) input before now seed versions (λ was. was) p.0 p.1

  pub all_tells : (asked : Option Form) → Ends ports given done asked input before now → Tells ports given done asked input before now
  all_tells asked ends = elim ends [
    | inl p ↦ form_tells asked p
    | inr p ↦ memory_tells ports given done asked input before now p.0 p.1
  ]
