-- A run of the script of a seed on a sink in memory, and what is shown of it.
use Rattle.std.proofs.Common.{◌≡◌, ℕ, ◌+◌, ◌++◌, List, [], Bool, true, false, refl, sym, ap, subst, inl, inr, Option, Some, Ok}
use Rattle.std.specs.Prelude.{if◌then◌else◌}
use Rattle.std.specs.Io.KnownBytes.{Appends}
use Rattle.mesa_session.specs.mesa_history_laws.Alone.{output_alone}
use Rattle.mesa_disk.specs.Story.{Story}
use Rattle.mesa_model.specs.declared.commands.Script.{Script}
use Rattle.mesa_session.specs.mesa_history_spec.Refused.{some_refused}
use Rattle.mesa_session.specs.mesa_history_spec.Run.{begins}
use Rattle.mesa_script.specs.Generated.{generated}
use Rattle.mesa_script.specs.Script.{script_of}
use Rattle.mesa_session.specs.mesa_history_spec.Rows.{Rows}
use Rattle.mesa_session.specs.mesa_invariant_spec.Printing.{HasAll, HasAllButRows, IsOutputButRows}
use Rattle.mesa_session.specs.mesa_history_spec.Output.{IsOutput}
use Rattle.mesa_engine.specs.mesa_store_spec.Catalog.{Catalog}
use Rattle.mesa_generate.specs.Excerpt.{CutsOut, HasPlainNames}
use Rattle.mesa_shell.specs.Ports.{ports}
use Rattle.mesa_shell.specs.ExitLines.{gen_line, memory_line, memory_status}
use Rattle.mesa_shell.specs.Run.{Ran, RanAnyhow, RanSoundly}
use Rattle.mesa_shell.specs.StoreStart.{start_of}
use Rattle.mesa_shell.specs.Exit.{EndsShown, HasShown, Prints, RanInMemory, Shows}
use Rattle.mesa_shell.specs.declared.done.Devices.{Devices}
use Rattle.mesa_shell.specs.declared.done.Done.{Done}
use Rattle.mesa_shell.proofs.Named.{start_plain}
use Rattle.mesa_shell.specs.declared.running.Left.{Left}

module _ {K S D M B : Type 0} (held : K → Option (List ℕ)) (faults : K → ℕ) (kept : S → Option (List ℕ)) (kept_faults : S → ℕ) (story : D → Story) (bytes : M → Option (List ℕ)) (bench_faults : B → ℕ)
    (g : Devices K D B) (empty : S) (l : Left S D B) (text : List ℕ) (status : ℕ) (out : K) (seed versions : ℕ) (script : Script) (c : Catalog)
    (was : kept empty ≡ Some []) (is : kept l.out ≡ Some text) where
  abbrev done : Done K D B
  done = record { status = status; out = out; disk = l.disk; benches = l.benches; history = l.history }

  -- the run, as one on a sink in memory
  in_memory_ran : (n : ℕ) (failed : Bool)
      → Ran (ports kept kept_faults story bytes bench_faults) (record { out = empty; disk = g.disk; benches = g.benches }) (record { status = n; out = l.out; disk = l.disk; benches = l.benches; history = l.history }) script c failed
      → RanInMemory (ports held faults story bytes bench_faults) g done script c failed text
  in_memory_ran n failed ran = record {
    reads = ran.reads;
    number = ran.number;
    returned = ran.returned;
    anyhow = λ rows.
        subst (λ o. RanAnyhow script (start_of script c rows) l.history.items failed (story g.disk).moment ((story g.disk).faults + (story g.disk).read_faults) (story l.disk) (Some []) o) is
        (subst (λ o. RanAnyhow script (start_of script c rows) l.history.items failed (story g.disk).moment ((story g.disk).faults + (story g.disk).read_faults) (story l.disk) o (kept l.out)) was (ran.anyhow rows));
    benches = ran.benches;
    answers = ran.answers;
    soundly = λ rows sound below.
        subst (λ o. RanSoundly script (start_of script c rows) l.history.items failed (story g.disk).moment ((story g.disk).faults + (story g.disk).read_faults) (story l.disk) (Some []) o) is
        (subst (λ o. RanSoundly script (start_of script c rows) l.history.items failed (story g.disk).moment ((story g.disk).faults + (story g.disk).read_faults) (story l.disk) o (kept l.out)) was (ran.soundly rows sound below));
    alone = λ rows sound below fine one stand.
        subst (λ o. Appends (Some []) o (output_alone (start_of script c rows) script)) is
        (subst (λ o. Appends o (kept l.out) (output_alone (start_of script c rows) script)) was (ran.alone rows sound below fine one stand));
  }

  -- what is shown of a run to its end
  shows : RanInMemory (ports held faults story bytes bench_faults) g done script c false text → script_of (generated seed versions) ≡ Ok script
      → ((rows : Rows) → l.refused ≡ some_refused script (begins (start_of script c rows)) l.history.items)
      → (shown : List ℕ) → CutsOut script text shown → Prints (ports held faults story bytes bench_faults) g done (if l.refused then 1 else 0) (gen_line seed versions ++ shown)
      → Shows (ports held faults story bytes bench_faults) g done seed versions script c
  shows ran read told shown cuts prints = record {
    excerpt = shown;
    last_three = λ rows sound below.
        let well = ran.soundly rows sound below in
        let all : HasAll script (begins (start_of script c rows)) l.history.items (Some []) (Some text) = well.output in
        cuts.whole seed versions (start_of script c rows) l.history.items read (plain rows) (ran.anyhow rows).legal.each
        (subst (IsOutput script (begins (start_of script c rows)) l.history.items) (sym all.held) all.output);
    anyhow = λ rows.
        let all : HasAllButRows script (begins (start_of script c rows)) l.history.items (Some []) (Some text) = (ran.anyhow rows).printed in
        cuts.anyhow seed versions (start_of script c rows) l.history.items read (plain rows) (ran.anyhow rows).legal.each
        (subst (IsOutputButRows script (begins (start_of script c rows)) l.history.items) (sym all.held) all.output);
    status = if l.refused then 1 else 0;
    tells = λ rows. ap (λ (b : Bool). if b then 1 else 0) (told rows);
    prints = prints;
  }
    where
      plain : (rows : Rows) → HasPlainNames (start_of script c rows).warehouse.store
      plain rows = start_plain script c rows ran.reads.0 ran.reads.1 ran.reads.3.bytes ran.reads.3.records

  pub shown_ended : (n : ℕ)
      → Ran (ports kept kept_faults story bytes bench_faults) (record { out = empty; disk = g.disk; benches = g.benches }) (record { status = n; out = l.out; disk = l.disk; benches = l.benches; history = l.history }) script c l.failed
      → script_of (generated seed versions) ≡ Ok script
      → ((rows : Rows) → l.refused ≡ some_refused script (begins (start_of script c rows)) l.history.items)
      → (l.failed ≡ false → (shown : List ℕ) × CutsOut script text shown × Prints (ports held faults story bytes bench_faults) g done (if l.refused then 1 else 0) (gen_line seed versions ++ shown))
      → (l.failed ≡ true → Prints (ports held faults story bytes bench_faults) g done memory_status memory_line)
      → EndsShown (ports held faults story bytes bench_faults) g done seed versions script
  shown_ended n ran read told whole broken = inr (inl (c, text, by l.failed refl))
    where
      by : (failed : Bool) → l.failed ≡ failed → HasShown (ports held faults story bytes bench_faults) g done seed versions script c text
      by true is_so =
          inr (in_memory_ran n true (subst (Ran (ports kept kept_faults story bytes bench_faults) _ _ script c) is_so ran), broken is_so)
      by false is_so =
          let mine = in_memory_ran n false (subst (Ran (ports kept kept_faults story bytes bench_faults) _ _ script c) is_so ran) in
          let show = whole is_so in
          inl (mine, shows mine read told show.0 show.1 show.2)
