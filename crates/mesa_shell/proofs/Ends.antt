-- How a call ends that has a script.
use Rattle.std.proofs.Common.{◌≡◌, inl, inr, ℕ, List, take, Bool, true, false, refl, sym, ◌∙◌, ap, subst}
use Rattle.std.specs.Prelude.{if◌then◌else◌}
use Rattle.std.specs.Io.KnownBytes.{Appends}
use Rattle.mesa_io.specs.Causes.{Rose}
use Rattle.mesa_model.specs.declared.commands.Script.{Script}
use Rattle.mesa_session.specs.mesa_history_spec.Refused.{some_refused}
use Rattle.mesa_session.specs.mesa_history_spec.Run.{begins}
use Rattle.mesa_session.specs.mesa_history_spec.Rows.{Rows}
use Rattle.mesa_engine.specs.mesa_store_spec.Catalog.{Catalog}
use Rattle.mesa_recover.specs.declared.error.OpenError.{OpenError}
use Rattle.mesa_shell.specs.Ports.{Ports}
use Rattle.mesa_shell.specs.ExitLines.{memory_status, memory_line, open_line, open_status}
use Rattle.mesa_shell.specs.StoreStart.{AreTold, start_of}
use Rattle.mesa_shell.specs.Run.{Ran}
use Rattle.mesa_shell.specs.Unopened.{IsUnopened, StaysSound}
use Rattle.mesa_shell.specs.Exit.{Ended, EndedOpening, EndsScript, LacksMemory}
use Rattle.mesa_shell.specs.declared.done.Devices.{Devices}
use Rattle.mesa_shell.specs.declared.done.Done.{Done}

-- what ended over a sink that was given as much and had failed as often, and over the same benches
pub ended_with : {K D M B : Type 0} (ports : Ports K D M B) (back g : Devices K D B) (done : Done K D B) → ports.held back.out ≡ ports.held g.out → ports.sink_faults back.out ≡ ports.sink_faults g.out → back.benches.items ≡ g.benches.items
    → (status : ℕ) (line : List ℕ) → Ended ports back done status line → Ended ports g done status line
ended_with ports back g done held faults benches status line ended = (
  ended.0,
  ended.1 ∙ benches,
  elim ended.2 [
    | inl p ↦ inl (p.0, p.1 ∙ faults, subst (λ h. Appends h (ports.held done.out) line) held p.2)
    | inr p ↦ inr (p.0, subst (λ n. Rose n (ports.sink_faults done.out)) faults p.1, p.2, subst (λ h. Appends h (ports.held done.out) (take p.2 line)) held p.3)
  ],
)

module _ {K D M B : Type 0} (ports : Ports K D M B) (g : Devices K D B) (done : Done K D B) where
  -- the store wasn't opened
  pub unopened : (disk : D) (e : OpenError) → done.disk ≡ disk → IsUnopened (ports.story g.disk) (ports.story disk) e → Ended ports g done (open_status e) (open_line e) → EndedOpening ports g done e
  unopened disk e is left ended = (subst (λ d. IsUnopened (ports.story g.disk) (ports.story d) e) (sym is) left, ended)

  -- no memory was there for the run
  pub short_of_memory : (disk : D) → done.disk ≡ disk → (AreTold ports.bytes → StaysSound (ports.story g.disk) (ports.story disk)) → Ended ports g done memory_status memory_line → LacksMemory ports g done
  short_of_memory disk is keeps ended = ((λ files. subst (λ d. StaysSound (ports.story g.disk) (ports.story d)) (sym is) (keeps files)), ended)

module _ {K D M B : Type 0} (ports : Ports K D M B) (g : Devices K D B) (done : Done K D B) (script : Script) where
  -- the store wasn't opened
  pub opening_failed : (disk : D) (e : OpenError) → done.disk ≡ disk → IsUnopened (ports.story g.disk) (ports.story disk) e → Ended ports g done (open_status e) (open_line e) → EndsScript ports g done script
  opening_failed disk e is left ended = inl (e, unopened ports g done disk e is left ended)

  -- no memory was there for the run
  pub lacked : (disk : D) → done.disk ≡ disk → (AreTold ports.bytes → StaysSound (ports.story g.disk) (ports.story disk)) → Ended ports g done memory_status memory_line → EndsScript ports g done script
  lacked disk is keeps ended = inr (inr (short_of_memory ports g done disk is keeps ended))

  -- the script was run, over a store that was begun from what the disk read
  pub run_ended : (c : Catalog) (failed refused : Bool) → Ran ports g done script c failed
      → ((rows : Rows) → refused ≡ some_refused script (begins (start_of script c rows)) done.history.items)
      → (failed ≡ true → Rose (ports.sink_faults g.out) (ports.sink_faults done.out)) → (failed ≡ false → ports.sink_faults done.out ≡ ports.sink_faults g.out)
      → done.status ≡ (if failed then 5 else (if refused then 1 else 0)) → EndsScript ports g done script
  run_ended c true refused ran told rose whole status = inr (inl (c, inr (ran, status, rose refl)))
  run_ended c false refused ran told rose whole status = inr (inl (c, inl (ran, (λ rows. status ∙ ap (λ (b : Bool). if b then 1 else 0) (told rows)), whole refl)))
