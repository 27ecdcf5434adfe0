-- RangeMachine: each table's ranges of deltas and its lease, without any rows.
use Rattle.std.specs.Prelude.{ℕ, ◌+◌, ◌-◌, List, [], ◌∷◌, ◌++◌, ◌==◌, nat_lt, Option, Some, None, slice_index_or, slice_set, Result, Ok, Err}
use Rattle.std.specs.Option.{ok_or}
use Rattle.mesa_script.specs.mesa_list.Checks.{◌>>=◌, ◌>>◌, refuse_if, refuse_unless, refused_as}
use Rattle.mesa_span.specs.declared.ranges.Ranges.{Ranges}
use Rattle.mesa_span.specs.declared.works.Work.{Work}
use Rattle.mesa_span.specs.declared.works.Work.TheVariants as work
use Rattle.mesa_span.specs.Plan.{plan}
pub use Rattle.mesa_span.specs.Ranges.{new_ranges}
use Rattle.mesa_span.specs.Ranges.{start_of}
use Rattle.mesa_span.specs.Work.{next_work, swapped}
use Rattle.mesa_lease.specs.Book.{Book, begun, holder, is_held, other_holder, granted, renewed, ended}
use Rattle.mesa_script.specs.mesa_schema.Changes.{Lineage, epoch_of}
use Rattle.mesa_script.specs.mesa_schema.Recasts.{Recast, recast_checked}
use Rattle.mesa_script.specs.mesa_model.declared.commands.ExplainWords.{ExplainWords}
use Rattle.mesa_script.specs.mesa_model.declared.commands.RecastWords.{RecastWords}
use Rattle.mesa_script.specs.mesa_model.declared.commands.Script.{Script}
use Rattle.mesa_script.specs.mesa_model.declared.replies.Reply.{Reply}
use Rattle.mesa_script.specs.mesa_model.declared.replies.Reply.TheVariants as reply
use Rattle.mesa_script.specs.mesa_model.declared.replies.Refusal.{Refusal}
use Rattle.mesa_script.specs.mesa_model.declared.replies.Refusal.TheVariants as no
use Rattle.mesa_script.specs.mesa_model.Warehouse.{Warehouse, max_tables, newest_of, table_at}
use Rattle.mesa_script.specs.mesa_model.Relations.{table_number, relation_of}
use Rattle.mesa_script.specs.mesa_model.Orders.{order_asked}
use Rattle.mesa_script.specs.mesa_model.Refusals.{no_such_table, recast_refusal, refuse_closed}
use Rattle.mesa_script.specs.mesa_model.Tables.{recast_asked}
use Rattle.mesa_script.specs.mesa_model.Versions.{version_asked}

-- Each table's ranges, by the table's number, and the leases.
pub record Machine : Type 0 where
  pub ranges : List Ranges
  pub leases : Book

-- What a lease is for: a work, whose range is merged; or a recast, with the epoch that its table had.
pub data Errand : Type 0 where
  Merges : Work → Errand
  Recasts : ℕ → Recast → Errand

-- What a work or a recast was granted: its table, the number of its lease, and what the lease is for.
pub record Claim : Type 0 where
  pub table : ℕ
  pub lease : ℕ
  pub errand : Errand

-- the ranges of the table of a number
abbrev pub ranges_at : Machine → ℕ → Ranges
ranges_at m table = slice_index_or m.ranges table (new_ranges 0)

-- the machine of tables with these ranges, before any lease
abbrev pub machine_of : Script → List Ranges → Machine
machine_of script ranges = record { ranges = ranges; leases = begun max_tables script.lease }

-- the machine with a table more, which is made while this version is the floor
abbrev pub with_new_table : Machine → ℕ → Machine
with_new_table m floor = record m { ranges = m.ranges ++ new_ranges floor ∷ [] }

-- ---- grant

-- busy with the lease that holds
abbrev pub refuse_busy : Option ℕ → Result (Unit {0}) Reply
refuse_busy None = Ok tt
refuse_busy (Some lease) = Err (reply.Busy lease)

-- What a work at a position is granted, or the reply by which it isn't: closed, no such table, busy, or idle.
abbrev pub claim_of : Warehouse → Machine → ℕ → List ℕ → Result Claim Reply
claim_of w m position name = do
  refused_as reply.Refused (refuse_closed w.closed)
  table ← ok_or (table_number w.store name) (reply.Refused no_such_table)
  refuse_busy (holder m.leases table position)
  work ← ok_or (next_work (ranges_at m table) (table_at w.store table).oldest (newest_of w)) reply.Idle
  Ok (record { table = table; lease = m.leases.granted + 1; errand = Merges work })

-- how many singletons a table may have that is recast
abbrev pub max_deltas : ℕ
max_deltas = 1000000

-- how many singletons a table has: one for each version behind its base
abbrev pub singletons_of : Warehouse → Machine → ℕ → ℕ
singletons_of w m table = w.next - start_of (ranges_at m table)

-- What a recast at a position is granted, or the reply by which it isn't: closed, no such table, what the rules of recasts say, busy, or too many deltas.
abbrev pub recast_claim_of : Warehouse → Machine → ℕ → RecastWords → Result Claim Reply
recast_claim_of w m position words = do
  refused_as reply.Refused (refuse_closed w.closed)
  table ← ok_or (table_number w.store words.table) (reply.Refused no_such_table)
  refused_as reply.Refused (refused_as recast_refusal (recast_checked (table_at w.store table).lineage (recast_asked words)))
  refuse_busy (holder m.leases table position)
  refuse_if (nat_lt max_deltas (singletons_of w m table)) (reply.Refused (no.TooManyDeltas max_deltas))
  Ok (record { table = table; lease = m.leases.granted + 1; errand = Recasts (epoch_of (table_at w.store table).lineage) (recast_asked words) })

-- the machine once a claim is granted at a position
abbrev pub claimed : Machine → ℕ → Claim → Machine
claimed m position claim = record m { leases = granted claim.table position m.leases }

-- ---- renew and close

-- Refused where the warehouse is closed, or where the claim's lease isn't its table's last one, has ended, or doesn't hold at the position.
abbrev pub claim_checked : Warehouse → Machine → ℕ → Claim → Result (Unit {0}) Refusal
claim_checked w m position claim = do
  refuse_closed w.closed
  refuse_unless (is_held m.leases claim.table claim.lease position) (no.Lost claim.lease (other_holder m.leases claim.table claim.lease position))

-- the machine once a claim's lease holds anew from a position on
abbrev pub claim_renewed : Machine → ℕ → Claim → Machine
claim_renewed m position claim = record m { leases = renewed claim.table claim.lease position m.leases }

-- the machine once a claim's lease has ended, where it is its table's last one
abbrev pub claim_ended : Machine → Claim → Machine
claim_ended m claim = record m { leases = ended claim.table claim.lease m.leases }

-- the machine once a claim's range is swapped in, with which its lease ends
abbrev pub claim_merged : Machine → Claim → Work → Machine
claim_merged m claim work = record (claim_ended m claim) { ranges = slice_set m.ranges claim.table (swapped work (ranges_at m claim.table)) }

-- the reply to a work that is swapped in: its range
abbrev pub swapped_reply : Work → Reply
swapped_reply (work.Base to) = reply.Swapped 0 to
swapped_reply (work.Cumulative from to) = reply.Swapped from to

-- ---- the close of a recast

-- A recast is refused whose table has another epoch than it had at the grant, or that the rules of recasts don't allow any more: while the epoch is the same, that is where a view that came since loses a column.
abbrev pub still_checked : Lineage → ℕ → Recast → Result (Unit {0}) Refusal
still_checked l epoch r = do
  refuse_unless (epoch_of l == epoch) (no.Changed (epoch_of l))
  refused_as recast_refusal (recast_checked l r)

-- the ranges without the cumulatives
abbrev pub without_cumulatives : Ranges → Ranges
without_cumulatives ranges = record { base_to = ranges.base_to; cumulatives = [] }

-- the machine once a claim's table is recast: the table's cumulatives go, its base stays, and the lease ends
abbrev pub claim_recast : Machine → Claim → Machine
claim_recast m claim = record (claim_ended m claim) { ranges = slice_set m.ranges claim.table (without_cumulatives (ranges_at m claim.table)) }

-- ---- explain

-- The ranges that a query of the relation would read at the version asked, and where its filter is named the relation by which it would be answered, or the first refusal.
abbrev pub explained : Warehouse → Machine → ExplainWords → Result Reply Refusal
explained w m words = do
  refuse_closed w.closed
  relation ← ok_or (relation_of w.store words.relation) no_such_table
  by ← order_asked relation words.filter
  version ← version_asked w relation.table.oldest words.version
  Ok (reply.Spans (plan (ranges_at m relation.number) version) by)
