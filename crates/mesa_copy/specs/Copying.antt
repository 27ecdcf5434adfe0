-- Recasts that come back as they were, and the damage that their rewriting tells.
use Rattle.std.specs.Prelude.{◌≡◌, ◌⊎◌, ℕ, List, map, slice_get, Option, Some, None, option_map}
use Rattle.std.specs.List.{AllByRecursion}
use Rattle.mesa_file.specs.declared.damage.Damage.{Damage}
use Rattle.mesa_schema.specs.Changes.{columns_of}
use Rattle.mesa_compact.specs.mesa_columns.Columns.{Columns}
use Rattle.mesa_schema.specs.Recasts.{recast_keys, recast_values}
use Rattle.mesa_compact.specs.mesa_merge.Inputs.{Known, known_of, knowns_of}
use Rattle.mesa_open_files.specs.Recasts.{own, recast_in, recast_table}
use Rattle.mesa_open_files.specs.declared.recasting.Recast.{Recast}
use Rattle.mesa_open_files.specs.declared.recasting.RecastRange.{RecastRange}
use Rattle.mesa_compact.specs.Bounded.{AreBounded}
use Rattle.mesa_compact.specs.Regrouped.{IsRegroupDamage}

-- What is known of a range: its versions, and its file if it has one.
pub record KnownRange : Type 0 where
  pub from : ℕ
  pub to : ℕ
  pub file : Option Known

abbrev pub known_range : {R : Type 0} → (R → Option (List ℕ)) → RecastRange R → KnownRange
known_range bytes x = record { from = x.from; to = x.to; file = option_map (known_of bytes) x.input }

abbrev pub known_ranges : {R : Type 0} → (R → Option (List ℕ)) → List (RecastRange R) → List KnownRange
known_ranges bytes ranges = map (known_range bytes) ranges

-- A recast is the one that it was: to the same columns of the same table under the same lease, with readers of the same files.
pub record IsSameRecast {R : Type 0} (bytes : R → Option (List ℕ)) (old new : Recast R) : Type 0 where
  pub table : new.table ≡ old.table
  pub lease : new.lease ≡ old.lease
  pub epoch : new.epoch ≡ old.epoch
  pub evolving : new.evolving ≡ old.evolving
  pub keys : new.keys ≡ old.keys
  pub values : new.values ≡ old.values
  pub damage : new.damage ≡ old.damage
  pub ranges : known_ranges bytes new.ranges.items ≡ known_ranges bytes old.ranges.items

-- Of each of these ranges that has an input the bytes are told, they are the file of its index, and in each sum column the absolute values of its rows at present add up to at most 2^127 - 1.
abbrev pub AreRangesBounded : {R : Type 0} → (R → Option (List ℕ)) → Columns → List (RecastRange R) → Type 0
AreRangesBounded {R = R} bytes s ranges = AllByRecursion (λ (x : RecastRange R). AreBounded s (knowns_of bytes (own x))) ranges

-- so it is of each range of a recast
abbrev pub IsRecastBounded : {R : Type 0} → (R → Option (List ℕ)) → Recast R → Type 0
IsRecastBounded bytes t = AreRangesBounded bytes (columns_of (recast_table t)) t.ranges.items

-- Damage that is told where one of these ranges is merged and grouped, by the key columns and with the value columns at these places.
pub record IsRangesDamage {R : Type 0} (bytes : R → Option (List ℕ)) (size : R → ℕ) (s : Columns) (columns values : List ℕ) (ranges : List (RecastRange R)) (d : Damage) : Type 0 where
  pub at : ℕ
  pub range : RecastRange R
  pub one : slice_get ranges at ≡ Some range
  pub told : IsRegroupDamage bytes size s columns values (own range) d

-- Which damage the rewriting of a recast tells, by the recast before and after: the damage that was met when its files were opened, and only where there was none, one that was met in one of its ranges.
abbrev pub IsRecastDamage : {R : Type 0} → (R → Option (List ℕ)) → (R → ℕ) → Recast R → Recast R → Damage → Type 0
IsRecastDamage bytes size old new d =
    (old.damage ≡ Some d) ⊎ ((old.damage ≡ None)
    × IsRangesDamage bytes size (columns_of (recast_table old)) (recast_keys (columns_of (recast_table old)) (recast_in old)) (recast_values (columns_of (recast_table old)) (recast_in old)) new.ranges.items d)
