-- What the plain warehouse does.
use Rattle.std.specs.Prelude.{ℕ, ◌<◌, ◌≤◌, ◌^◌, Bool, true, false, Result, Ok, Err, ⊤}
use Rattle.mesa_filter.specs.Query.{BuiltQuery, group_kinds}
use Rattle.mesa_model.specs.declared.commands.Command.{Command}
use Rattle.mesa_model.specs.declared.commands.Command.TheVariants as command
use Rattle.mesa_model.specs.declared.replies.Page.{Page}
use Rattle.mesa_model.specs.declared.replies.Refusal.{Refusal}
use Rattle.mesa_model.specs.Pins.{count_at, next_token}
use Rattle.mesa_model.specs.Query.{Answer}
use Rattle.mesa_model.specs.Warehouse.{Warehouse}

-- whether the plain warehouse does a command
abbrev pub is_plain : Command → Bool
is_plain (command.Work words) = false
is_plain (command.Explain words) = false
is_plain c = true

-- A token has 32 bits: a pin that is asked has one left in its session.
abbrev pub HasToken : Warehouse → ℕ → Command → Type 0
HasToken w session (command.Pin version) = next_token w session < 2 ^ 32
HasToken w session c = ⊤

-- Each session was given at most so many tokens.
abbrev pub GaveAtMost : ℕ → Warehouse → Type 0
GaveAtMost count w = (session : ℕ) → count_at w.given session ≤ count

-- a page and its query as an answer
abbrev pub answer_of : Page × BuiltQuery → Answer
answer_of found = record { page = found.0; heading = record { kinds = group_kinds found.1; prefix = found.1.prefix } }

-- the same where it may be refused
abbrev pub answer_as : Result (Page × BuiltQuery) Refusal → Result Answer Refusal
answer_as (Ok found) = Ok (answer_of found)
answer_as (Err refusal) = Err refusal
