-- Asking for a version, and letting old ones go.
use Rattle.std.specs.Prelude.{ℕ, ◌-◌, List, [], ◌∷◌, map, drop, max, ◌==◌, nat_lt, nat_le, Option, Some, None, Result, Ok, Err}
use Rattle.std.specs.Option.{ok_or}
use Rattle.mesa_batch.specs.mesa_list.Checks.{◌>>=◌, ◌>>◌, refuse_if}
use Rattle.mesa_filter.specs.declared.words.VersionWord.{VersionWord}
use Rattle.mesa_filter.specs.declared.words.VersionWord.TheVariants as asks
use Rattle.mesa_model.specs.declared.replies.Refusal.{Refusal}
use Rattle.mesa_model.specs.declared.replies.Refusal.TheVariants as no
use Rattle.mesa_model.specs.declared.replies.Reply.{Reply}
use Rattle.mesa_model.specs.declared.replies.Reply.TheVariants as reply
use Rattle.mesa_model.specs.Warehouse.{Table, Store, Warehouse, newest_of, table_at, with_table}
use Rattle.mesa_model.specs.Relations.{table_number}
use Rattle.mesa_model.specs.Refusals.{no_such_table, refuse_closed}

-- ---- asking

-- the greatest of a number and of the tables' oldest versions
abbrev pub oldest_among : ℕ → List Table → ℕ
oldest_among floor [] = floor
oldest_among floor (t ∷ tables) = max t.oldest (oldest_among floor tables)

-- the first version at which all tables can be queried: the greatest of the floor and of each table's oldest
abbrev pub common_oldest : Store → ℕ
common_oldest s = oldest_among s.floor s.tables

-- a version that can be queried where this one is the oldest: stale below it, future above the newest or where there is no version
abbrev pub version_checked : Warehouse → ℕ → ℕ → Result (Unit {0}) Refusal
version_checked w oldest version = do
  refuse_if (nat_lt version oldest) (no.Stale version oldest)
  refuse_if (nat_le w.next version) (no.Future (asks.At version) (newest_of w))

-- The version that is asked for where this one is the oldest, or its refusal; a pin's version is asked of the pin.
abbrev pub version_asked : Warehouse → ℕ → VersionWord → Result ℕ Refusal
version_asked w oldest asks.Latest = do
  refuse_if (w.next == 0) (no.Future asks.Latest None)
  Ok (w.next - 1)
version_asked w oldest (asks.At version) = do
  version_checked w oldest version
  Ok version
version_asked w oldest (asks.Pin token) = Err (no.NoPin token)

-- ---- letting go

-- a table without its contents below a version
abbrev pub table_from : ℕ → Table → Table
table_from version t = record t { oldest = max t.oldest version; contents = drop (version - t.oldest) t.contents }

-- the store without the contents below a version, which is its floor from then on
abbrev pub store_from : Store → ℕ → Store
store_from s version = record { tables = map (table_from version) s.tables; floor = version }

-- The warehouse without the versions below this one, or the first refusal.
abbrev pub expire_all : Warehouse → ℕ → Result (Warehouse × Reply) Refusal
expire_all w version = do
  refuse_closed w.closed
  version_checked w w.store.floor version
  Ok (record w { store = store_from w.store version }, reply.Expired None version)

-- The warehouse where a table has no version below this one, or the first refusal.
abbrev pub expire_table : Warehouse → List ℕ → ℕ → Result (Warehouse × Reply) Refusal
expire_table w name version = do
  refuse_closed w.closed
  number ← ok_or (table_number w.store name) no_such_table
  version_checked w (table_at w.store number).oldest version
  Ok (with_table w number (table_from version (table_at w.store number)), reply.Expired (Some name) version)

-- The same of the table that is named, or of all where none is.
abbrev pub expire_to : Warehouse → Option (List ℕ) → ℕ → Result (Warehouse × Reply) Refusal
expire_to w None version = expire_all w version
expire_to w (Some name) version = expire_table w name version
