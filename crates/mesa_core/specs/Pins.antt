-- Queries whose files are handed out, and what they are answered with.
use Rattle.std.specs.Prelude.{◌≡◌, ℕ, List, ◌++◌, Bool, true, Option, Some, None, Result, Ok, Err}
use Rattle.mesa_open_files.specs.mesa_file.declared.damage.Damage.{Damage}
use Rattle.mesa_recast_turns.specs.mesa_columns.declared.rows.Row.{Row}
use Rattle.mesa_recast_turns.specs.mesa_columns.Columns.{Columns}
use Rattle.mesa_open_files.specs.mesa_fold.Folded.{rows_of}
use Rattle.mesa_filter.specs.declared.words.QueryWords.{QueryWords}
use Rattle.mesa_filter.specs.Query.{BuiltQuery, group_kinds}
use Rattle.mesa_model.specs.declared.commands.Script.{Script}
use Rattle.mesa_model.specs.declared.entries.Entry.{Entry}
use Rattle.mesa_model.specs.declared.entries.Kind.TheVariants as kind
use Rattle.mesa_model.specs.declared.replies.Page.{Page}
use Rattle.mesa_model.specs.Query.{Answer, Heading}
use Rattle.mesa_script.specs.declared.rendered.Rendered.{Rendered}
use Rattle.mesa_script.specs.Rows.{rendered}
use Rattle.mesa_recast_turns.specs.mesa_history_spec.Run.{State, Finished}
use Rattle.mesa_recast_turns.specs.mesa_history_spec.Rows.{Rows, no_rows}
use Rattle.mesa_recast_turns.specs.mesa_invariant_spec.Queries.{IsOpen}
use Rattle.mesa_recast_turns.specs.mesa_invariant_spec.Turns.{Shown, IsTurn, IsSeen, Takes}
use Rattle.mesa_recast_turns.specs.mesa_answer.Answering.{KeepsSums}
use Rattle.mesa_delta.specs.declared.error.FileError.{FileError}
use Rattle.mesa_recast_turns.specs.mesa_merge.Inputs.{Known, AreTold, knowns_of}
use Rattle.mesa_open_files.specs.GivingBack.{pinned_inputs}
use Rattle.mesa_open_files.specs.Pins.{IsPinned}
use Rattle.mesa_open_files.specs.declared.querying.Pinned.{Pinned}
use Rattle.mesa_recast_turns.specs.mesa_query.mesa_group_blocks.Moved.{inputs_in}
use Rattle.mesa_recast_turns.specs.mesa_query.Files.{owns_in}
use Rattle.mesa_recast_turns.specs.mesa_query.mesa_group_blocks.Ungrouped.{parts_ungrouped}
use Rattle.mesa_recast_turns.specs.mesa_query.Relation.{page_over, parts_pinned}
use Rattle.mesa_core.specs.Damages.{IsUnread}
use Rattle.mesa_open_files.specs.Errors.{Differs}

-- What is known of a query's files while they are handed out, however much of them was read.
pub record KnownPin : Type 0 where
  pub query : BuiltQuery
  pub version : ℕ
  pub view : Option ℕ
  pub at : ℕ
  pub files : List Known
  pub own : List Bool

abbrev pub known_pin : {R : Type 0} → (R → Option (List ℕ)) → Pinned R → KnownPin
known_pin bytes p = record { query = p.query; version = p.version; view = p.view; at = p.at; files = knowns_of bytes (inputs_in p.inputs.items); own = owns_in p.inputs.items }

-- they can be read: the query is one of a relation with some columns, and they are files of it
abbrev pub CanBeAnswered : {R : Type 0} → (R → Option (List ℕ)) → Pinned R → Type 0
CanBeAnswered bytes p = (s : Columns) × IsPinned bytes s p

-- ---- the first turn

-- A session's query was answered at a position and isn't closed yet; and what was handed out for it tells the answer that each start gives, as it was told somewhere in the history.
pub record IsOpenQuery (script : Script) (from : Rows → State) (h : List Entry) (session number position : ℕ) (tells : List Entry → Rows → Answer → Type 0) : Type 0 where
  pub words : QueryWords
  pub past : List Entry
  pub later : List Entry
  pub whole : past ++ later ≡ h
  pub opened : IsOpen script from h session number words position (tells past)

-- A query's first turn opened it.
pub record Opens (script : Script) (from : Rows → State) (old new : Shown) (session number position : ℕ) (tells : List Entry → Rows → Answer → Type 0) : Type 0 where
  pub turn : IsTurn old new session number kind.Decide
  pub seen : IsSeen script (from no_rows) new
  pub ran : old.running ≡ true
  pub opened : IsOpenQuery script from new.history session number position tells

-- A query's first turn handed out its files, or the query is over.
abbrev pub TakesQuery : {R : Type 0} → (R → Option (List ℕ)) → Script → (Rows → State) → (List Entry → KnownPin → Rows → Answer → Type 0) → Shown → Shown → ℕ → ℕ → Option (Pinned R) → Type 0
TakesQuery bytes script from tells old new session number (Some p) = Opens script from old new session number p.at (λ past. tells past (known_pin bytes p)) × CanBeAnswered bytes p
TakesQuery bytes script from tells old new session number None = Takes script (from no_rows) old new session number kind.Decide Finished

-- ---- the answer

-- A page is that of a query of a relation with these columns, over its files' rows, where these are told and the files' indexes are true of them.
abbrev pub IsPageOver : {R : Type 0} → (R → Option (List ℕ)) → Columns → Pinned R → Page → Type 0
IsPageOver bytes s p page = (contents : List (List Row)) → AreTold (knowns_of bytes (inputs_in p.inputs.items)) contents → page ≡ page_over s p.query (parts_pinned p.view p.inputs.items contents)

-- how a query's rows are printed
abbrev pub heading_in : BuiltQuery → Heading
heading_in q = record { kinds = group_kinds q; prefix = q.prefix }

-- Which damage a query's files may bring: what was found isn't what was wanted, and it never comes where all files are told and their indexes true of them, and no sum over their rows leaves its type.
pub record IsAnswerDamage {R : Type 0} (bytes : R → Option (List ℕ)) (s : Columns) (p : Pinned R) (d : Damage) : Type 0 where
  pub differs : Differs d
  pub never : (contents : List (List Row)) → AreTold (knowns_of bytes (inputs_in p.inputs.items)) contents → KeepsSums s (rows_of (parts_ungrouped p.view p.inputs.items contents)) → ⊥

-- A query's page as it is printed, or why there is none.
abbrev pub IsAnswer : {R : Type 0} → (R → Option (List ℕ)) → (R → ℕ) → Columns → Pinned R → Result Rendered FileError → Type 0
IsAnswer bytes faults s p (Ok text) = (page : Page) × IsPageOver bytes s p page × (text ≡ rendered (heading_in p.query) page)
IsAnswer bytes faults s p (Err e) = IsUnread faults (pinned_inputs p) (IsAnswerDamage bytes s p) e

-- What a query is closed with: its files, which can be read still, and what came of reading them.
abbrev pub HasAnswered : {R : Type 0} → (R → Option (List ℕ)) → (R → ℕ) → Pinned R → Result Rendered FileError → Type 0
HasAnswered bytes faults p answer = (s : Columns) × IsPinned bytes s p × IsAnswer bytes faults s p answer
