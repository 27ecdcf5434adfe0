-- What the sink was given by a run of one session alone.
use Rattle.std.proofs.Common.{◌≡◌, ℕ, List, Bool, false, not, subst, Option, None}
use Rattle.std.specs.Io.KnownBytes.{Appends}
use Rattle.mesa_session.specs.mesa_history_laws.Alone.{AllTurnsStand, IsAlone, output_alone}
use Rattle.mesa_session.proofs.mesa_history_laws.OneText.{prints_alone}
use Rattle.mesa_model.specs.declared.commands.Script.{Script}
use Rattle.mesa_model.specs.declared.entries.Entry.{Entry}
use Rattle.mesa_session.specs.mesa_history_spec.Legal.{IsLegal}
use Rattle.mesa_session.specs.mesa_history_spec.Run.{State, begins}
use Rattle.mesa_session.specs.mesa_invariant_spec.Printing.{HasAll, IsPrinted}

-- Where its sink didn't fail and every turn but a look stands, it is one text.
pub alone_appends : (start : State) (script : Script) (h : List Entry) (failed : Bool) (before now : Option (List ℕ)) → start.warehouse.closed ≡ None → IsLegal start script h failed → IsPrinted script (begins start) h (not failed) before now
    → failed ≡ false → IsAlone script → AllTurnsStand h → Appends before now (output_alone start script)
alone_appends start script h failed before now none legal printed fine alone stand =
    let all : HasAll script (begins start) h before now = subst (λ (b : Bool). IsPrinted script (begins start) h (not b) before now) fine printed in
    subst (Appends before now) (prints_alone start script h all.text alone none (subst (λ (b : Bool). IsLegal start script h b) fine legal) stand all.output) all.held
