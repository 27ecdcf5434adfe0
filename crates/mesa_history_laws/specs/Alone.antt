-- One session alone: what runs of it have in common.
use Rattle.std.specs.Prelude.{◌≡◌, ◌≢◌, ℕ, List, [], map, None, false}
use Rattle.std.specs.List.{AllByRecursion}
use Rattle.mesa_history_spec.specs.mesa_model.declared.commands.Script.{Script}
use Rattle.mesa_history_spec.specs.mesa_model.declared.entries.Entry.{Entry}
use Rattle.mesa_history_spec.specs.mesa_model.declared.entries.Kind.{Kind}
use Rattle.mesa_history_spec.specs.mesa_model.declared.entries.Kind.TheVariants as kind
use Rattle.mesa_history_spec.specs.mesa_model.declared.entries.Outcome.{Outcome}
use Rattle.mesa_history_spec.specs.mesa_model.declared.entries.Outcome.TheVariants as outcome
use Rattle.mesa_history_spec.specs.Alone.{history_alone}
use Rattle.mesa_history_spec.specs.Legal.{IsLegal}
use Rattle.mesa_history_spec.specs.Run.{State, begins, commands_of}
use Rattle.mesa_history_spec.specs.Output.{IsOutput, output}

-- At most one session of a script has commands, the prologue included.
abbrev pub IsAlone : Script → Type 0
IsAlone script = (s t : ℕ) → commands_of script s ≢ [] → commands_of script t ≢ [] → s ≡ t

-- Every turn stands but a look, which prints nothing.
abbrev pub AllTurnsStand : List Entry → Type 0
AllTurnsStand h = AllByRecursion (λ (e : Entry). e.kind ≢ kind.Look → e.outcome ≡ outcome.Stands) h

-- the outcome of a turn, as if it stood where it is a look
abbrev pub outcome_told : Kind → Outcome → Outcome
outcome_told kind.Look o = outcome.Stands
outcome_told kind.Decide o = o
outcome_told kind.Close o = o
outcome_told kind.Grant o = o
outcome_told kind.Renew o = o

-- an entry without its moment, and without its outcome where it is a look
abbrev pub undated : Entry → Entry
undated e = record e { outcome = outcome_told e.kind e.outcome; moment = 0 }

-- Two histories have the same entries, but for their moments and the outcomes of looks.
abbrev pub AreAlike : List Entry → List Entry → Type 0
AreAlike h other = map undated h ≡ map undated other

-- the text that a script prints whose sessions run one after another without a fault
abbrev pub output_alone : State → Script → List ℕ
output_alone start script = output script (begins start) (history_alone start script)

-- Of a script with one session alone, on a store that isn't closed, every run in which each turn but a look stands has the same entries, but for their moments and the outcomes of looks.
abbrev pub RunsAlone : Type 0
RunsAlone = (start : State) (script : Script) (h : List Entry) → IsAlone script → start.warehouse.closed ≡ None → IsLegal start script h false → AllTurnsStand h
    → AreAlike h (history_alone start script)

-- And what it prints is one text.
abbrev pub PrintsAlone : Type 0
PrintsAlone = (start : State) (script : Script) (h : List Entry) (text : List ℕ) → IsAlone script → start.warehouse.closed ≡ None → IsLegal start script h false → AllTurnsStand h
    → IsOutput script (begins start) h text → text ≡ output_alone start script
