-- Recasts whose files are handed out, and what their ranges are rewritten to.
use Rattle.std.specs.Prelude.{◌≡◌, ℕ, List, Option, None, IfSome, Result, Ok, Err, ⊤}
use Rattle.mesa_open_files.specs.mesa_file.declared.damage.Damage.{Damage}
use Rattle.mesa_recast_turns.specs.mesa_schema.Changes.{Lineage}
use Rattle.mesa_open_files.specs.Errors.{Differs}
use Rattle.mesa_open_files.specs.Recasts.{IsRecastTask, IsRecasted, recast_inputs, recast_table}
use Rattle.mesa_open_files.specs.declared.merging.CompactError.{CompactError}
use Rattle.mesa_open_files.specs.declared.merging.CompactError.TheVariants as compact
use Rattle.mesa_open_files.specs.declared.recasting.Recast.{Recast}
use Rattle.mesa_open_files.specs.declared.recasting.Recasted.{Recasted}
use Rattle.mesa_recast_turns.specs.mesa_copy.Copying.{IsRecastBounded, KnownRange, known_ranges}
use Rattle.mesa_core.specs.Damages.{IsUnread}

-- What is known of a recast while its files are handed out, however much of them was read.
pub record KnownRecast : Type 0 where
  pub table : ℕ
  pub lease : ℕ
  pub epoch : ℕ
  pub lineage : Lineage
  pub keys : List (List ℕ)
  pub values : List (List ℕ)
  pub ranges : List KnownRange
  pub damage : Option Damage

abbrev pub known_recast : {R : Type 0} → (R → Option (List ℕ)) → Recast R → KnownRecast
known_recast bytes t = record {
  table = t.table;
  lease = t.lease;
  epoch = t.epoch;
  lineage = recast_table t;
  keys = t.keys;
  values = t.values;
  ranges = known_ranges bytes t.ranges.items;
  damage = t.damage;
}

-- A recast whose ranges can be rewritten: its files are its table's, and damage that was met where they were opened differs from what was wanted.
pub record CanBeRegrouped {R : Type 0} (bytes : R → Option (List ℕ)) (t : Recast R) : Type 0 where
  pub task : IsRecastTask bytes t
  pub damage : IfSome t.damage Differs

-- Which damage a recast's files may bring: what was found isn't what was wanted, and unless it was met where they were opened, it never comes where all files are told, each that of its index, and no sum over their rows leaves its type.
pub record IsRegroupingDamage {R : Type 0} (bytes : R → Option (List ℕ)) (t : Recast R) (d : Damage) : Type 0 where
  pub differs : Differs d
  pub never : t.damage ≡ None → IsRecastBounded bytes t → ⊥

-- Why a recast's ranges aren't rewritten: a draft failed; or its files weren't read.
abbrev pub IsUnmade : {R : Type 0} → (R → Option (List ℕ)) → (R → ℕ) → Recast R → CompactError → Type 0
IsUnmade bytes faults t compact.Draft = ⊤
IsUnmade bytes faults t (compact.File e) = IsUnread faults (recast_inputs t) (IsRegroupingDamage bytes t) e

-- A recast's ranges rewritten, or why they aren't.
abbrev pub HasRegrouped : {M R : Type 0} → (M → Option (List ℕ)) → (M → ℕ) → (R → Option (List ℕ)) → (R → ℕ) → Recast R → Result (Recasted M) CompactError → Type 0
HasRegrouped bytes id_of read faults t (Ok made) = IsRecasted bytes id_of read t made
HasRegrouped bytes id_of read faults t (Err e) = IsUnmade read faults t e
