-- Works and recasts that are granted next.
use Rattle.std.specs.Prelude.{ℕ, ◌+◌, Result}
use Rattle.mesa_write_turns.specs.mesa_list.Checks.{◌>>◌, refuse_unless}
use Rattle.mesa_write_turns.specs.mesa_schema.Changes.{epoch_of}
use Rattle.mesa_write_turns.specs.mesa_history_spec.Machine.{Claim, Errand, Merges, Recasts}
use Rattle.mesa_lease.specs.Book.{is_held, other_holder}
use Rattle.mesa_engine.specs.mesa_store_spec.Catalog.{meta_at}
use Rattle.mesa_engine.specs.EngineState.{EngineState}
use Rattle.mesa_open_files.specs.declared.opening.Unopened.{Unopened}
use Rattle.mesa_open_files.specs.declared.opening.Unopened.TheVariants as un
use Rattle.mesa_model.specs.Refusals.{refuse_closed}
use Rattle.mesa_model.specs.declared.replies.Refusal.{Refusal}
use Rattle.mesa_model.specs.declared.replies.Refusal.TheVariants as no
use Rattle.mesa_write_turns.specs.mesa_invariant_spec.Books.{Books}
use Rattle.mesa_write_turns.specs.mesa_invariant_spec.Causes.{Cause, NoMemory, Unread}
use Rattle.mesa_validate.specs.declared.recasting.Regrouping.{Regrouping}
use Rattle.mesa_work_turns.specs.declared.claiming.Claimed.{Claimed}

-- the claim of a work that is granted next
abbrev pub claim_as : EngineState → Claimed → Claim
claim_as l x = record { table = x.table; lease = l.leases.granted + 1; errand = Merges x.work }

-- the claim of a recast that is granted next
abbrev pub recast_claim_as : EngineState → Regrouping → Claim
recast_claim_as l x = record { table = x.table; lease = l.leases.granted + 1; errand = Recasts (epoch_of (meta_at l.catalogue x.table).lineage) (record { keys = x.names.keys; values = x.names.values }) }

-- why none is granted whose files weren't opened
abbrev pub cause_unopened : Unopened → Cause
cause_unopened un.Fault = Unread
cause_unopened un.Memory = NoMemory

-- what the books say of a claim, by its table and the number of its lease
abbrev pub lease_checked : Books → ℕ → ℕ → ℕ → Result (Unit {0}) Refusal
lease_checked books position table lease = do
  refuse_closed books.bare.closed
  refuse_unless (is_held books.machine.leases table lease position) (no.Lost lease (other_holder books.machine.leases table lease position))

-- a claim on a table, by the number of its lease
abbrev pub claim_with : ℕ → ℕ → Errand → Claim
claim_with table lease errand = record { table = table; lease = lease; errand = errand }
