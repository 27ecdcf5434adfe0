-- One command of a session on the reference warehouse.
use Rattle.std.specs.Prelude.{ℕ, Result, Ok, Err}
use Rattle.mesa_batch.specs.mesa_list.Checks.{◌>>◌}
use Rattle.mesa_model.specs.declared.commands.Command.{Command}
use Rattle.mesa_model.specs.declared.commands.Command.TheVariants as command
use Rattle.mesa_model.specs.declared.replies.Refusal.{Refusal}
use Rattle.mesa_model.specs.declared.replies.Reply.{Reply}
use Rattle.mesa_model.specs.declared.replies.Reply.TheVariants as reply
use Rattle.mesa_model.specs.Warehouse.{Warehouse}
use Rattle.mesa_model.specs.Refusals.{refuse_closed}
use Rattle.mesa_model.specs.Tables.{make_table, make_view, alter_table, recast_table}
use Rattle.mesa_model.specs.Load.{load_batch}
use Rattle.mesa_model.specs.Versions.{expire_to}
use Rattle.mesa_model.specs.Pins.{make_pin, release_pin}
use Rattle.mesa_model.specs.Query.{Answer, query_answer}

-- what was done, or the refusal, with which the warehouse stays as it is
abbrev pub done_or_refused : Warehouse → Result (Warehouse × Reply) Refusal → Warehouse × Reply
done_or_refused w (Ok done) = done
done_or_refused w (Err refusal) = (w, reply.Refused refusal)

-- a query's page, or the refusal; the warehouse stays as it is in both
abbrev pub reply_to_query : Result Answer Refusal → Reply
reply_to_query (Ok answer) = reply.Page answer.page
reply_to_query (Err refusal) = reply.Refused refusal

-- work and explain ask nothing of the warehouse's rows: the range machine answers them
abbrev pub nothing_done : Warehouse → Result (Warehouse × Reply) Refusal
nothing_done w = do
  refuse_closed w.closed
  Ok (w, reply.Idle)

-- Step: the warehouse after a command of a session, and the reply. The first refusal that applies is the reply, and then the warehouse stays as it was. A recast's is that of the turn which swaps the rewritten files in.
abbrev pub step : Warehouse → ℕ → Command → Warehouse × Reply
step w session (command.Table words) = done_or_refused w (make_table w words)
step w session (command.View words) = done_or_refused w (make_view w words)
step w session (command.Alter words) = done_or_refused w (alter_table w words)
step w session (command.Load rows) = done_or_refused w (load_batch w rows)
step w session (command.Query words) = (w, reply_to_query (query_answer w session words))
step w session (command.Explain words) = done_or_refused w (nothing_done w)
step w session (command.Pin version) = done_or_refused w (make_pin w session version)
step w session (command.Release token) = done_or_refused w (release_pin w session token)
step w session (command.Expire table version) = done_or_refused w (expire_to w table version)
step w session (command.Work words) = done_or_refused w (nothing_done w)
step w session (command.Recast words) = done_or_refused w (recast_table w words)
