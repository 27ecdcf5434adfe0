-- Completeness follows from how calls end.
use Rattle.std.proofs.Common.{◌≡◌, ⊎_elim, inl, inr, ◌≤◌, ◌<◌, ◌+◌, ℕ, List, [], length, Bool, true, false, sym, ◌∙◌, ap, subst, arith, Option, Some, None}
use Rattle.std.specs.Prelude.{IfSome, Result, Ok, Err, if◌then◌else◌}
use Rattle.mesa_io.specs.Causes.{Rose}
use Rattle.mesa_model.specs.declared.commands.Script.{Script}
use Rattle.mesa_session.specs.mesa_history_spec.Counting.{count_in, is_disk_fault, is_bench_fault}
use Rattle.mesa_session.specs.mesa_history_spec.Refused.{some_refused}
use Rattle.mesa_session.specs.mesa_history_spec.Run.{Run, begins}
use Rattle.mesa_script.specs.declared.script.ScriptError.{ScriptError}
use Rattle.mesa_script.specs.Generated.{generated}
use Rattle.mesa_script.specs.Script.{script_of}
use Rattle.mesa_parse.specs.declared.forms.Form.{Form}
use Rattle.mesa_parse.specs.declared.forms.Form.TheVariants as form
use Rattle.mesa_session.specs.mesa_history_spec.Rows.{Rows}
use Rattle.mesa_engine.specs.mesa_store_spec.Catalog.{Catalog}
use Rattle.mesa_recover.specs.declared.error.OpenError.{OpenError}
use Rattle.mesa_recover.specs.declared.error.OpenError.TheVariants as open_error
use Rattle.mesa_recover.specs.Opening.{ReadsAs}
use Rattle.mesa_shell.specs.Ports.{Ports, in_memory}
use Rattle.mesa_shell.specs.ExitLines.{max_input}
use Rattle.mesa_shell.specs.Scripts.{IsSmall}
use Rattle.mesa_shell.specs.StoreStart.{IsSoundStore, start_of}
use Rattle.mesa_shell.specs.Run.{Ran}
use Rattle.mesa_shell.specs.Exit.{Ended, EndedOpening, Ends, EndsForm, EndsGenerated, EndsInput, EndsScript, EndsText, HasRun, HasShown, Prints}
use Rattle.mesa_shell.specs.Completing.{AllQuiet, AsksFor, Completes, HasRoomToRun, NothingFailed}
use Rattle.mesa_shell.specs.declared.done.Devices.{Devices}
use Rattle.mesa_shell.specs.declared.done.Done.{Done}
use Rattle.mesa_session.proofs.mesa_history_laws.Settled.{ends_unskipped, none_skipped}
use Rattle.mesa_shell.proofs.NoFaults.{all_quiet, not_risen, sessions_there}
use Rattle.mesa_shell.proofs.Readable.{reads_same, sound_fits, sound_whole}
use Rattle.mesa_shell.proofs.Small.{scripts_small}
use Rattle.mesa_shell.proofs.Undamaged.{sound_undamaged}

one_or_none : (b : Bool) → (if b then 1 else 0) ≤ 1
one_or_none true = omega arith
one_or_none false = omega arith

pub err_ok : (r : Result Script ScriptError) (e : ScriptError) (s : Script) → r ≡ Err e → r ≡ Ok s → ⊥
err_ok r e s a b = let both : Err e ≡ Ok s = sym a ∙ b in cc both

pub ok_same : (r : Result Script ScriptError) (s t : Script) → r ≡ Ok s → r ≡ Ok t → s ≡ t
ok_same r s t a b = let both : Ok s ≡ Ok t = sym a ∙ b in cc both

counts_none : (n faults reads f r : ℕ) → faults + reads + n ≤ f + r → f ≤ faults → r ≤ reads → n ≡ 0
counts_none n faults reads f r le a b = omega (arith, le, a, b)

bench_none : (before n after : ℕ) → before + n ≤ after → after ≤ before → n ≡ 0
bench_none before n after le a = omega (arith, le, a)

-- a count that isn't one doesn't rise
never : Rose 0 0 → ⊥
never rose = omega (arith, rose)

module _ {K D M B : Type 0} (ports : Ports K D M B) (g : Devices K D B) (done : Done K D B) (source_before source_now : ℕ) (nothing : NothingFailed ports g done source_before source_now) where
  pub printed_short : (line : List ℕ) → Ended ports g done 8 line → done.status ≡ 8
  printed_short line ended = ⊎_elim (λ p. p.0) (λ p. absurd (nothing.sink p.1)) ended.2

  printed : (line : List ℕ) → Ended ports g done 8 line → Completes done
  printed line ended = inl (printed_short line ended)

  module _ (c : Catalog) (rows : Rows) (room : HasRoomToRun ports g c rows) where
    pub same : (d : Catalog) → ReadsAs (ports.story g.disk) d → c ≡ d
    same d reads = reads_same (ports.story g.disk) c d rows room.sound.start reads

    -- a store that isn't opened lacked memory
    pub opening_short : (e : OpenError) → EndedOpening ports g done e → done.status ≡ 8
    opening_short open_error.Fault p = absurd (⊎_elim nothing.disk nothing.reads p.0.reason)
    opening_short (open_error.Journal area at want found) p =
        let s = room.sound.start in
        absurd (⊎_elim (sound_whole s.image s.bodies c rows p.0.reason.0 at want found s.sound) (sound_fits s.image s.bodies c rows p.0.reason.0 at want found s.sound) (p.0.reason.2 s.image s.told))
    opening_short (open_error.File d) p = let s = room.sound.start in absurd (sound_undamaged s.image s.bodies c rows s.sound d (p.0.reason.0 s.image s.told))
    opening_short open_error.RunsFull p = absurd (let is = ap (λ (x : Catalog). x.run) (same p.0.reason.0 p.0.reason.1) in omega (arith, is, room.number, p.0.reason.2))
    opening_short open_error.Memory p = printed_short _ p.1

    opening : (e : OpenError) → EndedOpening ports g done e → Completes done
    opening e p = inl (opening_short e p)

    module _ (script : Script) (small : IsSmall script) (d : Catalog) (ran : Ran ports g done script d false) where
      abbrev from : Run
      from = begins (start_of script d rows)

      on_disk : count_in is_disk_fault script from done.history.items ≡ 0
      on_disk =
          let f = not_risen (ports.story g.disk).faults (ports.story done.disk).faults nothing.disk in
          let r = not_risen (ports.story g.disk).read_faults (ports.story done.disk).read_faults nothing.reads in
          counts_none _ _ _ _ _ ((ran.anyhow rows).counts nothing.clock f.1 r.1) f.0 r.0

      on_benches : (s : ℕ) → s < length script.sessions → count_in (is_bench_fault s) script from done.history.items ≡ 0
      on_benches s lt =
          let b = nothing.benches s (omega (arith, lt, small.few)) in
          let still = not_risen (ports.bench_faults b.before) (ports.bench_faults b.after) b.still in
          bench_none _ _ _ (ran.benches rows nothing.clock s b.before b.after b.was b.is still.1) still.0

      pub quiet : AllQuiet done.history.items
      quiet =
          let legal = (ran.anyhow rows).legal in
          all_quiet script from done.history.items (sessions_there script from done.history.items legal.each) on_disk on_benches
          (ran.soundly rows (subst (λ x. IsSoundStore ports.bytes (ports.story g.disk) x rows) (same d ran.reads) room.sound) nothing.clock).undamaged
          (none_skipped script from done.history.items legal.each (ends_unskipped script _ legal.ends))

    run : (script : Script) → IsSmall script → (d : Catalog) → HasRun ports g done script d → Completes done
    run script small d has = ⊎_elim
        (λ p. (let le = one_or_none (some_refused script (begins (start_of script d rows)) done.history.items) in inr (omega (arith, le, p.1 rows), quiet script small d p.0)))
        (λ p. absurd (nothing.sink p.2)) has

    scripted : (script : Script) → IsSmall script → EndsScript ports g done script → Completes done
    scripted script small ends = elim ends [
      | inl p ↦ opening p.0 p.1
      | inr rest ↦ elim rest [
        | inl p ↦ run script small p.0 p.1
        | inr p ↦ printed _ p.1
      ]
    ]

    text : (bytes : List ℕ) (script : Script) → script_of bytes ≡ Ok script → EndsText ports g done bytes → Completes done
    text bytes script is ends = elim ends [
      | inl p ↦ absurd (err_ok _ p.0 script p.1 is)
      | inr rest ↦ elim rest [
        | inl p ↦ scripted p.0 (scripts_small bytes p.0 p.1) p.2
        | inr p ↦ printed _ p.1
      ]
    ]

    read : (input : Option (List ℕ)) (bytes : List ℕ) (script : Script) → input ≡ Some bytes → length bytes ≤ max_input → script_of bytes ≡ Ok script → EndsInput ports g done input → Completes done
    read input bytes script known short is ends = elim ends [
      | inl q ↦ absurd (let long : max_input < length bytes = subst (λ o. IfSome o (λ b. max_input < length b)) known q.0 in omega (arith, long, short))
      | inr more ↦ elim more [
        | inl q ↦ text q.0 script (ap script_of (sym (subst (λ o. IfSome o (λ all. all ≡ q.0)) known q.1)) ∙ is) q.3
        | inr q ↦ printed _ q.1
      ]
    ]

module _ {K D M B : Type 0} (ports : Ports K D M B) (g : Devices K D B) (done : Done K D B) (source_before source_now : ℕ) (nothing : NothingFailed ports g done source_before source_now) where
  ends_printed : (line : List ℕ) → Prints ports g done 8 line → Completes done
  ends_printed line prints = elim prints [ inl q ↦ inl q.0 | inr q ↦ absurd (nothing.sink q.1) ]

  module _ (c : Catalog) (rows : Rows) (room : HasRoomToRun ports g c rows) where
    -- the script of a seed
    generated_run : (script : Script) → IsSmall script → (d : Catalog) (out : List ℕ) (seed versions : ℕ) → HasShown ports g done seed versions script d out → Completes done
    generated_run script small d out seed versions has = elim has [
      | inl p ↦ elim p.1.prints [
        | inl q ↦ inr (
          (let le = one_or_none (some_refused script (begins (start_of script d rows)) done.history.items) in omega (arith, le, q.0, p.1.tells rows)),
          quiet (in_memory ports) (record { out = []; disk = g.disk; benches = g.benches })
              (record { status = done.status; out = out; disk = done.disk; benches = done.benches; history = done.history }) source_before source_now
              (record { source = nothing.source; sink = λ rose. never rose; disk = nothing.disk; reads = nothing.reads; benches = nothing.benches; clock = nothing.clock })
              c rows (record { sound = room.sound; number = room.number }) script small d p.0,
        )
        | inr q ↦ absurd (nothing.sink q.1)
      ]
      | inr p ↦ ends_printed _ p.1
    ]

    generated_ends : (script : Script) (seed versions : ℕ) → script_of (generated seed versions) ≡ Ok script → EndsGenerated ports g done seed versions → Completes done
    generated_ends script seed versions is ends = elim ends [
      | inl p ↦ elim p.2 [
        | inl q ↦ opening ports g done source_before source_now nothing c rows room q.0 q.1
        | inr rest ↦ elim rest [
          | inl q ↦ generated_run p.0 (scripts_small (generated seed versions) p.0 p.1) q.0 q.1 seed versions q.2
          | inr q ↦ ends_printed _ q.1.2
        ]
      ]
      | inr p ↦ ends_printed _ p.1.2
    ]

    form_ends : (asked : Option Form) (input : Option (List ℕ)) (script : Script) → AsksFor asked input script → EndsForm ports g done asked input source_before source_now → Completes done
    form_ends None input script asks p = absurd asks
    form_ends (Some form.Run) input script asks p = elim p [
      | inl q ↦ absurd (nothing.source q.0)
      | inr q ↦ read ports g done source_before source_now nothing c rows room input asks.bytes script asks.known asks.short asks.read q.1
    ]
    form_ends (Some form.Check) input script asks p = absurd asks
    form_ends (Some (form.Digest name)) input script asks p = absurd asks
    form_ends (Some (form.Gen seed versions)) input script asks p = generated_ends script seed versions asks p.1

    -- Where a script is asked for, the store is sound and may have a run more, and nothing failed, every reply is the reference warehouse's, or memory.
    pub completes : (asked : Option Form) (input : Option (List ℕ)) (script : Script) → AsksFor asked input script → Ends ports g done asked input source_before source_now → Completes done
    completes asked input script asks ends = elim ends [
      | inl p ↦ form_ends asked input script asks p
      | inr p ↦ ends_printed _ p.1.1.2
    ]
