use Rattle.std.proofs.Common.{◌≡◌, [], length, true, false, not, refl, sym, ◌∙◌, ap, subst, arith, Bool}
use Rattle.mesa_io.specs.Causes.{Rose}
use Rattle.mesa_model.specs.declared.commands.Script.{Script}
use Rattle.mesa_model.specs.Warehouse.{Warehouse}
use Rattle.mesa_session.specs.mesa_core.Passes.{turns_of}
use Rattle.mesa_session.specs.mesa_history_spec.Rows.{no_rows}
use Rattle.mesa_session.specs.mesa_core.Vault.{Stand}
use Rattle.mesa_session.specs.mesa_history_spec.Refused.{some_refused}
use Rattle.mesa_session.specs.mesa_history_spec.Run.{begins}
use Rattle.mesa_session.specs.mesa_invariant_spec.Printing.{IsPrinted, IsPrintedButRows}
use Rattle.mesa_session.specs.mesa_invariant_spec.Invariant.{AllFound}
use Rattle.mesa_engine.specs.mesa_catalog.declared.begun.Begun.{Begun}
use Rattle.mesa_engine.specs.Vault.{IsRead}
use Rattle.mesa_shell.specs.Run.{RanAnyhow, RanSoundly, outset_from}
use Rattle.mesa_shell.proofs.Small.{session_small}
use Rattle.mesa_shell.proofs.Parts.{benches_counted, fits_room, ran_anyhow, read_first, refilled}
use Rattle.mesa_shell.proofs.running.run_named.Goals as goal

-- ---- the vault is made, and put into its lock

pub start-requires-clause-script : goal.start-requires-clause-script
start-requires-clause-script g c lives bounds = c.requires.script

pub start-requires-clause-begun : goal.start-requires-clause-begun
start-requires-clause-begun g c lives bounds = c.requires.begun

pub start-requires-clause-told : goal.start-requires-clause-told
start-requires-clause-told g c lives bounds = c.requires.files

pub start-requires-clause-faults : goal.start-requires-clause-faults
start-requires-clause-faults g c lives bounds = c.requires.faults

pub start-requires-clause-run : goal.start-requires-clause-run
start-requires-clause-run g c lives bounds = c.requires.run

pub start-requires-clause-free : goal.start-requires-clause-free
start-requires-clause-free g c lives bounds = c.requires.free

pub start-requires-clause-room : goal.start-requires-clause-room
start-requires-clause-room g c lives bounds = c.requires.room

pub start-requires-clause-few : goal.start-requires-clause-few
start-requires-clause-few g c lives bounds = c.requires.few

pub serve-requires-clause-few : goal.serve-requires-clause-few
serve-requires-clause-few g c lives bounds = (c.requires.small.some, c.requires.small.few)

pub serve-requires-clause-commands : goal.serve-requires-clause-commands
serve-requires-clause-commands g c lives bounds s = let most = session_small g.N.Naming.script s in omega (arith, most, c.requires.small.commands)

pub serve-requires-clause-empty : goal.serve-requires-clause-empty
serve-requires-clause-empty g c lives bounds = ap (λ (s : Stand). s.shown.history) c.in-Ok.ensures.started

pub serve-requires-clause-room : goal.serve-requires-clause-room
serve-requires-clause-room g c lives bounds = fits_room _ _ _ _ (c.turns_of-room.ensures ∙ ap (λ (s : Script). turns_of s.sessions) c.requires.script) c.requires.room c.requires.few (omega arith)

-- ---- no memory was there

pub returns-in-Err-clause-memory : goal.returns-in-Err-clause-memory
returns-in-Err-clause-memory g c =
    let back = c.in-Err.ensures.given_back.1 in
    (ap g.K.Sink.held back, ap g.K.Sink.faults back, refl)

pub returns-in-Err-clause-kept : goal.returns-in-Err-clause-kept
returns-in-Err-clause-kept g c w sound =
    let N = g.N.Naming in
    let same : c.disk_of-disk.result ≡ c.args.begun.disk = c.disk_of-disk.ensures ∙ ap (λ (b : Begun _). b.disk) c.in-Err.ensures.given_back.0 in
    subst (λ d. AllFound (outset_from N.script (N.start w) N.since N.counted N.at_start) [] (g.D.Disk.story d)) (sym same) ((c.requires.begun w true (λ is. sound)).found refl)

pub returns-in-Err-clause-read : goal.returns-in-Err-clause-read
returns-in-Err-clause-read g c w sound =
    let same : c.disk_of-disk.result ≡ c.args.begun.disk = c.disk_of-disk.ensures ∙ ap (λ (b : Begun _). b.disk) c.in-Err.ensures.given_back.0 in
    subst (λ d. IsRead (g.D.Disk.story d)) (sym same) ((c.requires.begun w true (λ is. sound)).read refl)

pub returns-in-Err-serve-clause-memory : goal.returns-in-Err-serve-clause-memory
returns-in-Err-serve-clause-memory g c =
    let s = c.stop-disk-in-Err-serve.ensures in
    let started = c.in-Err-serve.ensures.none ∙ c.in-Ok.ensures.started in
    let none = s.history ∙ ap (λ (s : Stand). s.shown.history) started in
    let begun = c.requires.begun no_rows false (λ is. absurd cc) in
    let lent = c.deref_mut.ensures.value in (
      s.first none ∙ sym begun.sink,
      s.whole (ap (λ (s : Stand). s.shown.running) started) ∙ sym c.requires.faults,
      refilled c.args.benches.len c.args.benches.items c.serve.new.benches c.args.benches.ok.0 (c.serve.auto.benches ∙ ap length lent) ∙ c.in-Err-serve.ensures.untouched ∙ lent,
    )

pub returns-in-Err-serve-clause-kept : goal.returns-in-Err-serve-clause-kept
returns-in-Err-serve-clause-kept g c w sound =
    let N = g.N.Naming in
    let s = c.stop-disk-in-Err-serve.ensures in
    let none = s.history ∙ ap (λ (s : Stand). s.shown.history) (c.in-Err-serve.ensures.none ∙ c.in-Ok.ensures.started) in
    subst (λ h. AllFound (outset_from N.script (N.start w) N.since N.counted N.at_start) h (g.D.Disk.story c.stop-disk-in-Err-serve.result.0)) none (s.found w sound)

pub returns-in-Err-serve-clause-read : goal.returns-in-Err-serve-clause-read
returns-in-Err-serve-clause-read g c w sound =
    let N = g.N.Naming in
    let s = c.stop-disk-in-Err-serve.ensures in
    let none = s.history ∙ ap (λ (s : Stand). s.shown.history) (c.in-Err-serve.ensures.none ∙ c.in-Ok.ensures.started) in
    let unclosed = ap (λ (x : Warehouse). x.closed) (c.requires.begun w true (λ is. sound)).state.projection in
    read_first N.script (N.start w) c.stop-disk-in-Err-serve.result.2.items (g.D.Disk.story c.stop-disk-in-Err-serve.result.0) none unclosed (s.reads w sound)

-- ---- the run

-- not of not is the same
not_not : (b : Bool) → not (not b) ≡ b
not_not true = refl
not_not false = refl

pub returns-in-Ok-serve-clause-anyhow : goal.returns-in-Ok-serve-clause-anyhow
returns-in-Ok-serve-clause-anyhow g c w =
    let N = g.N.Naming in
    let s = c.stop-disk.ensures in
    let v = c.in-Ok-serve.vault.shown in
    let h = c.stop-disk.result.2.items in
    let story = g.D.Disk.story c.stop-disk.result.0 in
    let held = g.K.Sink.held c.stop-disk.result.1 in
    subst (λ (running : Bool). RanAnyhow N.script (N.start w) h (not running) N.since N.counted story N.at_start held) (sym c.running-failed.ensures.running)
    (ran_anyhow N.script (N.start no_rows) (N.start w) (N.alike w) v.history h s.history v.running N.since N.counted story c.in-Ok-serve.ensures.legal s.later s.since s.until (s.counts w) N.at_start held
    (subst (λ (b : Bool). IsPrintedButRows N.script (begins (N.start w)) h b N.at_start held) (sym (not_not v.running)) (s.blocks w)))

pub returns-in-Ok-serve-clause-returned : goal.returns-in-Ok-serve-clause-returned
returns-in-Ok-serve-clause-returned g c =
    let lent = c.deref_mut.ensures.value in
    let long = c.serve.auto.benches ∙ ap length lent in
    ap length (refilled c.args.benches.len c.args.benches.items c.serve.new.benches c.args.benches.ok.0 long) ∙ long

pub returns-in-Ok-serve-clause-benches : goal.returns-in-Ok-serve-clause-benches
returns-in-Ok-serve-clause-benches g c w =
    let N = g.N.Naming in
    let s = c.stop-disk.ensures in
    benches_counted g.B.Bench.faults (g.D.Disk.story c.stop-disk.result.0) N.script (N.start no_rows) (N.start w) (N.alike w) c.in-Ok-serve.vault.shown.history c.stop-disk.result.2.items s.history s.until
    c.args.benches.len c.args.benches.items c.deref_mut.result.now c.serve.new.benches c.args.benches.ok.0 c.deref_mut.ensures.value c.serve.auto.benches c.in-Ok-serve.ensures.counted

pub returns-in-Ok-serve-clause-refused : goal.returns-in-Ok-serve-clause-refused
returns-in-Ok-serve-clause-refused g c w =
    let N = g.N.Naming in
    c.refused-refused.ensures w ∙ ap (some_refused N.script (begins (N.start w))) (sym c.stop-disk.ensures.history)

-- what not of is known
is_off : (b : Bool) → not b ≡ true → b ≡ false
is_off true is = sym is
is_off false is = refl

is_on : (b : Bool) → not b ≡ false → b ≡ true
is_on true is = refl
is_on false is = sym is

pub returns-in-Ok-serve-clause-failed : goal.returns-in-Ok-serve-clause-failed
returns-in-Ok-serve-clause-failed g c is =
    let off = sym c.running-failed.ensures.running ∙ is_off c.running-failed.result is in
    subst (λ n. Rose n (g.K.Sink.faults c.stop-disk.result.1)) (sym c.requires.faults) (c.stop-disk.ensures.failed off)

pub returns-in-Ok-serve-clause-whole : goal.returns-in-Ok-serve-clause-whole
returns-in-Ok-serve-clause-whole g c is =
    let on = sym c.running-failed.ensures.running ∙ is_on c.running-failed.result is in
    c.stop-disk.ensures.whole on ∙ sym c.requires.faults

pub returns-in-Ok-serve-clause-soundly : goal.returns-in-Ok-serve-clause-soundly
returns-in-Ok-serve-clause-soundly g c w sound below =
    let N = g.N.Naming in
    let s = c.stop-disk.ensures in
    let running = c.in-Ok-serve.vault.shown.running in
    let h = c.stop-disk.result.2.items in
    let story = g.D.Disk.story c.stop-disk.result.0 in
    let held = g.K.Sink.held c.stop-disk.result.1 in
    subst (λ (b : Bool). RanSoundly N.script (N.start w) h (not b) N.since N.counted story N.at_start held) (sym c.running-failed.ensures.running) (record {
      output = subst (λ (b : Bool). IsPrinted N.script (begins (N.start w)) h b N.at_start held) (sym (not_not running)) (s.printed w sound below);
      crash = s.found w sound;
      reads = s.reads w sound;
      undamaged = s.undamaged w sound;
    })
