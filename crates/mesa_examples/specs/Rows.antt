-- What a script prints over an empty store.
use Rattle.std.specs.Prelude.{◌≡◌, ℕ, zero, suc, ◌+◌, List, [], ◌∷◌, ◌++◌, Bool, true, false, Option, Some, None, Result, Ok, Err}
use Rattle.mesa_history_spec.specs.mesa_model.declared.commands.Script.{Script}
use Rattle.mesa_history_spec.specs.mesa_model.declared.entries.Entry.{Entry}
use Rattle.mesa_history_spec.specs.mesa_model.declared.entries.Kind.{Kind}
use Rattle.mesa_history_spec.specs.mesa_model.declared.entries.Outcome.{Outcome}
use Rattle.mesa_history_spec.specs.mesa_model.declared.entries.Outcome.TheVariants as outcome
use Rattle.mesa_history_spec.specs.Run.{Run, begins, nothing_there}
use Rattle.mesa_history_spec.specs.Replay.{told_by, is_skipped, go}
use Rattle.mesa_history_spec.specs.Legal.{fits_prologue, is_due, fits_renewal, fits_sink, fits_moment, fits_outcome, fits_reading, fits_writing, fits_closed, ends_well, is_legal}
use Rattle.mesa_history_spec.specs.Alone.{history_alone}
use Rattle.mesa_history_spec.specs.mesa_script.declared.script.ScriptError.{ScriptError}
use Rattle.mesa_history_spec.specs.mesa_script.Script.{script_of}
use Rattle.mesa_history_spec.specs.Output.{output}

-- the text of these lines, each with its line feed
abbrev pub lines : List (List ℕ) → List ℕ
lines [] = []
lines (line ∷ rest) = line ++ 10 ∷ lines rest

-- what a script prints, or why it is refused
abbrev printed_as : Result Script ScriptError → Result (List ℕ) ScriptError
printed_as (Err e) = Err e
printed_as (Ok script) = Ok (output script (begins (nothing_there script)) (history_alone (nothing_there script) script))

-- What the script of these bytes prints where no fault comes and its sessions run one after another.
abbrev pub printed_alone : List ℕ → Result (List ℕ) ScriptError
printed_alone bytes = printed_as (script_of bytes)

-- whether a script's run without faults is legal
abbrev legal_alone_as : Result Script ScriptError → Bool
legal_alone_as (Err e) = false
legal_alone_as (Ok script) = is_legal (nothing_there script) script (history_alone (nothing_there script) script) false

-- whether that run is legal
abbrev pub legal_alone : List ℕ → Bool
legal_alone bytes = legal_alone_as (script_of bytes)

-- A script of these lines prints these lines from an empty store and without faults, in a legal run.
pub record Prints (script text : List (List ℕ)) : Type 0 where
  pub prints : printed_alone (lines script) ≡ Ok (lines text)
  pub legal : legal_alone (lines script) ≡ true

-- so many lines, numbered from k on
abbrev pub many : ℕ → ℕ → (ℕ → List ℕ) → List (List ℕ)
many zero k line = []
many (suc n) k line = line k ∷ many n (k + 1) line

-- ---- runs whose history is written out

-- an entry whose turn stands
abbrev pub stands : ℕ → ℕ → Kind → ℕ → Entry
stands session command kind moment = record { session = session; command = command; kind = kind; outcome = outcome.Stands; moment = moment }

-- an entry whose turn ends so
abbrev pub ends : ℕ → ℕ → Kind → Outcome → ℕ → Entry
ends session command kind o moment = record { session = session; command = command; kind = kind; outcome = o; moment = moment }

-- what a script prints in a history
abbrev printed_in : List Entry → Result Script ScriptError → Result (List ℕ) ScriptError
printed_in h (Err e) = Err e
printed_in h (Ok script) = Ok (output script (begins (nothing_there script)) h)

-- A script of these lines prints these lines in a history.
abbrev pub PrintsIn : List (List ℕ) → List Entry → List (List ℕ) → Type 0
PrintsIn script h text = printed_in h (script_of (lines script)) ≡ Ok (lines text)

-- whether a script may have a history
abbrev legal_in : List Entry → Bool → Result Script ScriptError → Bool
legal_in h failed (Err e) = false
legal_in h failed (Ok script) = is_legal (nothing_there script) script h failed

-- Whether a script of these lines may have this history from an empty store; `failed` says whether the sink failed.
abbrev pub is_legal_run : List (List ℕ) → List Entry → Bool → Bool
is_legal_run script h failed = legal_in h failed (script_of (lines script))

-- ---- which rule a history breaks

-- the rules of an entry, in the order in which they are looked at, and that of a run's end
pub data Rule : Type 0 where
  Prologue : Rule
  Due : Rule
  Renewal : Rule
  Sink : Rule
  Moment : Rule
  ByOutcome : Rule
  Reading : Rule
  Writing : Rule
  Closed : Rule
  End : Rule

-- the rule where its test fails, else what comes after it
abbrev unless_kept : Bool → Rule → Option Rule → Option Rule
unless_kept true rule next = next
unless_kept false rule next = Some rule

-- the first rule that an entry breaks
abbrev broken_by : Script → Run → Entry → Option Rule
broken_by script r e =
    unless_kept (fits_prologue r e) Prologue (
    unless_kept (is_due script r e) Due (
    unless_kept (fits_renewal r e) Renewal (
    unless_kept (fits_sink r.last (is_skipped e)) Sink (
    unless_kept (fits_moment r.moment (told_by script r e) e) Moment (
    unless_kept (fits_outcome script e) ByOutcome (
    unless_kept (fits_reading script r e) Reading (
    unless_kept (fits_writing script r e) Writing (
    unless_kept (fits_closed r e) Closed None))))))))

-- the first rule that a history breaks from here on
abbrev broken_from : Bool → Script → Run → List Entry → Option Rule
broken_from failed script r [] = unless_kept (ends_well failed script r) End None
broken_from failed script r (e ∷ h) = elim (broken_by script r e) [ Some rule ↦ Some rule | None ↦ broken_from failed script (go script r e) h ]

-- the same of a script, if it is one
abbrev broken_in : List Entry → Bool → Result Script ScriptError → Option Rule
broken_in h failed (Err e) = None
broken_in h failed (Ok script) = broken_from failed script (begins (nothing_there script)) h

-- The first rule that a history of a script of these lines breaks.
abbrev pub broken_rule : List (List ℕ) → List Entry → Bool → Option Rule
broken_rule script h failed = broken_in h failed (script_of (lines script))
