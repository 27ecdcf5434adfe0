-- What a run prints for its last commands.
use Rattle.std.specs.Prelude.{Bool, true, false, Ok, ◌≡◌, ◌≤◌, ◌<◌, ◌-◌, ℕ, List, ◌++◌, length}
use Rattle.std.specs.List.{AllByRecursion}
use Rattle.mesa_invariant_spec.specs.mesa_columns.declared.columns.ValueColumn.{ValueColumn}
use Rattle.mesa_invariant_spec.specs.mesa_schema.Changes.{columns_of}
use Rattle.mesa_invariant_spec.specs.mesa_columns.Columns.{Columns}
use Rattle.mesa_model.specs.Warehouse.{Store, Table}
use Rattle.mesa_invariant_spec.specs.mesa_history_spec.Output.{IsOutput}
use Rattle.mesa_invariant_spec.specs.mesa_history_spec.Run.{Run, State, begins, commands_of}
use Rattle.mesa_invariant_spec.specs.mesa_history_spec.Legal.{AllFit}
use Rattle.mesa_invariant_spec.specs.mesa_script.Generated.{generated}
use Rattle.mesa_invariant_spec.specs.mesa_script.Script.{script_of}
use Rattle.mesa_invariant_spec.specs.Printing.{IsOutputButRows}
use Rattle.mesa_generate.specs.Lines.{IsUnbroken}
use Rattle.mesa_invariant_spec.specs.mesa_history_spec.Replay.{runs}
use Rattle.mesa_model.specs.declared.commands.Command.{Command}
use Rattle.mesa_model.specs.declared.commands.Command.TheVariants as command
use Rattle.mesa_model.specs.declared.commands.Script.{Script}
use Rattle.mesa_model.specs.declared.entries.Entry.{Entry}

-- What makes a text of the entries of a history.
abbrev pub Output : Type 1
Output = Script → Run → List Entry → List ℕ → Type 0

-- The text is what a history prints for the commands behind the first so many: the output of the entries of those commands.
pub record IsExcerptBy (is_output : Output) (script : Script) (r : Run) (h : List Entry) (first : ℕ) (text : List ℕ) : Type 0 where
  pub past : List Entry
  pub rest : List Entry
  pub split : h ≡ past ++ rest
  pub before : AllByRecursion (λ (e : Entry). e.command ≤ first) past
  pub behind : AllByRecursion (λ (e : Entry). first < e.command) rest
  pub output : is_output script (runs script r past) rest text

-- where all is told
abbrev pub IsExcerpt : Script → Run → List Entry → ℕ → List ℕ → Type 0
IsExcerpt = IsExcerptBy IsOutput

-- on any store: the same but for the rows of pages and the fields of damages
abbrev pub IsExcerptButRows : Script → Run → List Entry → ℕ → List ℕ → Type 0
IsExcerptButRows = IsExcerptBy IsOutputButRows

-- how many commands the prologue has before its last three
abbrev pub before_last_three : Script → ℕ
before_last_three script = length (commands_of script 0) - 3

-- a command that is no query: it makes a table, a view or a version, lets versions go, or asks for work
abbrev pub is_unasked : Command → Bool
is_unasked (command.Table words) = true
is_unasked (command.View words) = true
is_unasked (command.Load rows) = true
is_unasked (command.Expire table version) = true
is_unasked (command.Work words) = true
is_unasked c = false

-- a value column's name has no line break
abbrev pub IsPlainColumn : ValueColumn → Type 0
IsPlainColumn c = IsUnbroken c.name

abbrev pub ArePlainColumns : Columns → Type 0
ArePlainColumns s = AllByRecursion IsPlainColumn s.values

-- nor has a table's name, or a name of its value columns
abbrev pub IsPlainTable : Table → Type 0
IsPlainTable t = IsUnbroken t.name × ArePlainColumns (columns_of t.lineage)

-- nor has any of all the tables
abbrev pub HasPlainNames : Store → Type 0
HasPlainNames s = AllByRecursion IsPlainTable s.tables

-- Where the text is the output of a run of a generated script, over names without a line break, the piece is the excerpt of its last three commands.
abbrev pub CutsBy : Output → Script → List ℕ → List ℕ → Type 0
CutsBy is_output script text piece =
    (seed versions : ℕ) (start : State) (h : List Entry) → script_of (generated seed versions) ≡ Ok script → HasPlainNames start.warehouse.store → AllFit script (begins start) h
    → is_output script (begins start) h text → IsExcerptBy is_output script (begins start) h (before_last_three script) piece

-- A piece of a text, which is such an excerpt where all is told, and on any store.
pub record CutsOut (script : Script) (text piece : List ℕ) : Type 0 where
  pub whole : CutsBy IsOutput script text piece
  pub anyhow : CutsBy IsOutputButRows script text piece
