-- What stays of a claim while its lease does.
use Rattle.std.specs.Prelude.{◌≡◌, ℕ, ◌-◌, ◌<◌, ◌≤◌, length, Bool, true, false, ◌&&◌, ◌==◌, not, if◌then◌else◌, Option, None, Some, Ok}
use Rattle.mesa_span.specs.declared.ranges.Ranges.{Ranges}
use Rattle.mesa_span.specs.declared.works.Work.{Work}
use Rattle.mesa_span.specs.Work.{next_work}
use Rattle.mesa_script.specs.mesa_schema.Changes.{Lineage, columns_of, epoch_of}
use Rattle.mesa_script.specs.mesa_schema.Recasts.{Recast, recast_checked}
use Rattle.mesa_script.specs.mesa_model.Warehouse.{table_at}
use Rattle.mesa_lease.specs.declared.lease.Lease.{Lease}
use Rattle.mesa_lease.specs.Book.{Book, last_of}
use Rattle.mesa_history_spec.specs.Machine.{Machine, Claim, Errand, Merges, Recasts, ranges_at}
use Rattle.mesa_history_spec.specs.Run.{State, Stage, Granted, Renewed}

-- the lease has this number, and hasn't ended
abbrev pub is_live_as : ℕ → Option Lease → Bool
is_live_as number None = false
is_live_as number (Some lease) = (lease.number == number) && not lease.ended

-- the lease of this number is its table's last one, and hasn't ended
abbrev pub is_live : Book → ℕ → ℕ → Bool
is_live book table number = is_live_as number (last_of book table)

-- A claim was granted while its table had these ranges: the table has them still, as long as the claim's lease is its last one and hasn't ended.
pub record IsClaim (m : Machine) (claim : Claim) (was : Ranges) : Type 0 where
  pub number : claim.lease ≤ m.leases.granted
  pub there : claim.table < length m.ranges
  pub stays : is_live m.leases claim.table claim.lease ≡ true → ranges_at m claim.table ≡ was

-- A work's claim: its work is the next one for the ranges that its table had then, at an oldest version that the table had and a number of versions that the warehouse had; and the table isn't recast as long as the claim's lease is its last one and hasn't ended.
pub record HasClaim (s : State) (claim : Claim) (work : Work) : Type 0 where
  pub was : Ranges
  pub oldest : ℕ
  pub versions : ℕ
  pub begins : ℕ
  pub is : IsClaim s.machine claim was
  pub next : next_work was oldest (if versions == 0 then None else Some (versions - 1)) ≡ Some work
  pub later_oldest : oldest ≤ (table_at s.warehouse.store claim.table).oldest
  pub later_versions : versions ≤ s.warehouse.next
  pub unrecast : is_live s.machine.leases claim.table claim.lease ≡ true → (table_at s.warehouse.store claim.table).lineage.begins ≡ begins

-- A recast's claim: it was allowed of the columns that its table had in the claim's epoch, and as long as the table has that epoch it has those columns. So at the close only a view that came since can be against it.
pub record HasRecastClaim (s : State) (claim : Claim) (epoch : ℕ) (r : Recast) : Type 0 where
  pub was : Lineage
  pub there : claim.table < length s.machine.ranges
  pub epoch_was : epoch_of was ≡ epoch
  pub allowed : recast_checked was r ≡ Ok tt
  pub later_epoch : epoch ≤ epoch_of (table_at s.warehouse.store claim.table).lineage
  pub columns : epoch_of (table_at s.warehouse.store claim.table).lineage ≡ epoch → columns_of (table_at s.warehouse.store claim.table).lineage ≡ columns_of was

-- a claim for a work or a recast
abbrev pub HasErrand : State → Claim → Errand → Type 0
HasErrand s claim (Merges work) = HasClaim s claim work
HasErrand s claim (Recasts epoch r) = HasRecastClaim s claim epoch r

-- the claim of a session's work or recast, where it was granted one
abbrev pub HasClaimAt : State → Stage → Type 0
HasClaimAt s (Granted claim) = HasErrand s claim claim.errand
HasClaimAt s (Renewed claim) = HasErrand s claim claim.errand
HasClaimAt s stage = Unit {0}

-- Each table of the warehouse has its ranges in the range machine.
abbrev pub HasRanges : State → Type 0
HasRanges s = length s.machine.ranges ≡ length s.warehouse.store.tables
