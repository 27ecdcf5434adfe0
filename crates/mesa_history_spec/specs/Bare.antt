-- Projections: a warehouse without its rows, by which commands are refused, and all of a reply but a page's rows.
use Rattle.std.specs.Prelude.{[], map, None, option_map, Result, Ok, Err}
use Rattle.mesa_script.specs.mesa_model.declared.replies.Page.{Page}
use Rattle.mesa_script.specs.mesa_model.declared.replies.Refusal.{Refusal}
use Rattle.mesa_script.specs.mesa_model.declared.replies.Reply.{Reply}
use Rattle.mesa_script.specs.mesa_model.declared.replies.Reply.TheVariants as reply
use Rattle.mesa_script.specs.mesa_model.Warehouse.{Table, Store, Pin, Warehouse}
use Rattle.mesa_script.specs.mesa_model.Query.{Answer}
use Rattle.mesa_history_spec.specs.Run.{State, Stage, First, Looked, Answered, Granted, Renewed, Finished, CutOff, Place, Run, Told}
use Rattle.mesa_history_spec.specs.Replay.{Turned}

-- a table without its contents
abbrev pub bare_table : Table → Table
bare_table t = record t { contents = [] }

-- the tables without their contents
abbrev pub bare_store : Store → Store
bare_store s = record { tables = map bare_table s.tables; floor = s.floor }

-- a pin without the contents that it keeps
abbrev pub bare_pin : Pin → Pin
bare_pin p = record p { store = bare_store p.store }

-- The warehouse without any rows.
abbrev pub bare : Warehouse → Warehouse
bare w = record w { store = bare_store w.store; pins = map bare_pin w.pins }

-- a page without its rows, and without the key of the last of them
abbrev pub bare_page : Page → Page
bare_page p = record { version = p.version; rows = []; resume = None }

-- an answer without its rows
abbrev pub bare_answer : Answer → Answer
bare_answer a = record { page = bare_page a.page; heading = a.heading }

-- a reply without its rows
abbrev pub bare_reply : Reply → Reply
bare_reply (reply.Page page) = reply.Page (bare_page page)
bare_reply r = r

-- what a command makes, without rows
abbrev pub bare_done : Warehouse × Reply → Warehouse × Reply
bare_done done = (bare done.0, bare_reply done.1)

-- an outcome without rows
abbrev pub bare_result : {A : Type 0} → (A → A) → Result A Refusal → Result A Refusal
bare_result f (Ok x) = Ok (f x)
bare_result f (Err e) = Err e

-- a state without rows
abbrev pub bare_state : State → State
bare_state s = record s { warehouse = bare s.warehouse }

-- a stage without the rows of an answer
abbrev pub bare_stage : Stage → Stage
bare_stage First = First
bare_stage Looked = Looked
bare_stage (Answered at answer) = Answered at (bare_answer answer)
bare_stage (Granted claim) = Granted claim
bare_stage (Renewed claim) = Renewed claim
bare_stage Finished = Finished
bare_stage CutOff = CutOff

-- what a turn prints, without rows
abbrev pub bare_told : Told → Told
bare_told t = record t { reply = bare_reply t.reply }

-- what a turn makes, without rows
abbrev pub bare_turned : Turned → Turned
bare_turned t = record { state = bare_state t.state; told = option_map bare_told t.told; stage = bare_stage t.stage }

-- a place without the rows of an answer
abbrev pub bare_place : Place → Place
bare_place p = record { number = p.number; stage = bare_stage p.stage }

-- A run without rows.
abbrev pub bare_run : Run → Run
bare_run r = record r { state = bare_state r.state; places = λ s. bare_place (r.places s) }
