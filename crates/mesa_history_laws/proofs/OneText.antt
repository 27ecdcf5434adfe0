-- What a run prints of a script with one session alone.
use Rattle.std.proofs.Common.{◌≡◌, List, [], ℕ, None, false, ◌∙◌}
use Rattle.mesa_history_spec.specs.mesa_model.declared.commands.Script.{Script}
use Rattle.mesa_history_spec.specs.mesa_model.declared.entries.Entry.{Entry}
use Rattle.mesa_history_spec.specs.Alone.{history_alone}
use Rattle.mesa_history_spec.specs.Legal.{IsLegal}
use Rattle.mesa_history_spec.specs.Replay.{runs}
use Rattle.mesa_history_spec.specs.Run.{State, begins}
use Rattle.mesa_history_spec.specs.Output.{IsOutput}
use Rattle.mesa_history_laws.specs.Alone.{AllTurnsStand, AreAlike, IsAlone, output_alone}
use Rattle.mesa_history_laws.proofs.OneSession.{sessions_run_alone}
use Rattle.mesa_history_laws.proofs.Settled.{AllSettled, all_settled, ends_unskipped, none_skipped}
use Rattle.mesa_history_laws.proofs.Undated.{output_is_one, outputs_alike}
use Rattle.mesa_history_laws.proofs.Walking.{sessions_stand}

-- each turn of a legal run whose sink didn't fail is settled, where all but looks stand
legal_settled : (start : State) (script : Script) (h : List Entry) → IsLegal start script h false → AllTurnsStand h → AllSettled h
legal_settled start script h legal stand = all_settled script (begins start) h legal.each (none_skipped script (begins start) h legal.each (ends_unskipped script (runs script (begins start) h) legal.ends)) stand

-- Its history is the one without faults.
pub runs_alone : (start : State) (script : Script) (h : List Entry) → IsAlone script → start.warehouse.closed ≡ None → IsLegal start script h false → AllTurnsStand h → AreAlike h (history_alone start script)
runs_alone start script h alone none legal stand = sessions_run_alone start script h alone none legal (legal_settled start script h legal stand)

-- It is one text.
pub prints_alone : (start : State) (script : Script) (h : List Entry) (text : List ℕ) → IsAlone script → start.warehouse.closed ≡ None → IsLegal start script h false → AllTurnsStand h
    → IsOutput script (begins start) h text → text ≡ output_alone start script
prints_alone start script h text alone none legal stand is =
    let settled = legal_settled start script h legal stand in
    output_is_one script (begins start) h text settled is
    ∙ outputs_alike script (begins start) h (history_alone start script) settled (sessions_stand script 0 script.sessions (record { run = begins start; history = [] }) tt) (runs_alone start script h alone none legal stand)
