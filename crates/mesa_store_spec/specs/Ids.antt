-- The ids of the files that a catalogue names.
use Rattle.std.specs.Prelude.{◌≡◌, ℕ, ◌+◌, ◌-◌, ◌<◌, ◌≤◌, List, [], ◌∷◌, ◌++◌, map, take, flat_map, true, ◌==◌, Option, Some, None}
use Rattle.std.specs.List.{count_by}
use Rattle.mesa_record.specs.declared.record.Files.{Files}
use Rattle.mesa_record.specs.declared.record.Record.{Record}
use Rattle.mesa_record.specs.declared.record.Record.TheVariants as record_of
use Rattle.mesa_record.specs.declared.record.ViewRef.{ViewRef}
use Rattle.mesa_store_spec.specs.Catalog.{Catalog, Delta, TableMeta, start_in, meta_at}
use Rattle.mesa_store_spec.specs.Fitting.{base_deltas, brought, delta_in, run_of_id, live_files, live_id}

-- the ids of all files that a catalogue names
abbrev pub named : Catalog → List ℕ
named c = map live_id (live_files c)

-- the ids of the files that a record brings
abbrev pub brought_ids : Catalog → Record → List ℕ
brought_ids c r = map live_id (brought c r)

-- how often an id is among these
abbrev pub times : ℕ → List ℕ → ℕ
times id ids = count_by (λ n. id == n) ids

abbrev pub view_id : ViewRef → ℕ
view_id v = v.file.id

-- the ids of files, the table's first
abbrev pub file_ids : Option Files → List ℕ
file_ids None = []
file_ids (Some f) = f.file.id ∷ map view_id f.views

abbrev pub delta_ids : Delta → List ℕ
delta_ids d = file_ids d.files

-- the deltas that start at or before the end of a new base: the base, all cumulatives, and the singletons to it
abbrev pub dropped_deltas : TableMeta → ℕ → List Delta
dropped_deltas t to = base_deltas t.base ++ (map delta_in t.cumulatives ++ take (to + 1 - start_in t) t.singles)

-- the id of a table's own file, without its views'
abbrev pub own_id : Option Files → List ℕ
own_id None = []
own_id (Some f) = f.file.id ∷ []

abbrev pub own_delta_id : Delta → List ℕ
own_delta_id d = own_id d.files

-- the ids of the files that go with a recast of a table: the table's own of the base and the singletons, and all of the cumulatives
abbrev pub recast_dropped : TableMeta → List ℕ
recast_dropped t = flat_map own_delta_id (base_deltas t.base ++ t.singles) ++ flat_map delta_ids (map delta_in t.cumulatives)

-- The ids of the files that a record lets go: those of the deltas whose place a new base takes, and those that a recast takes the place of.
abbrev pub dropped_ids : Catalog → Record → List ℕ
dropped_ids c (record_of.Swap table true from to epoch files) = flat_map delta_ids (dropped_deltas (meta_at c table) to)
dropped_ids c (record_of.Recast k) = recast_dropped (meta_at c k.table)
dropped_ids c r = []

-- Each id is that of one file, and of a run up to the last one.
pub record HasOwnIds (c : Catalog) : Type 0 where
  pub once : (id : ℕ) → times id (named c) ≤ 1
  pub runs : (id : ℕ) → 0 < times id (named c) → run_of_id id ≤ c.run

-- What a record brings has an id of its own: it is brought once, it wasn't named, and it is of the last run.
pub record IsNewId (c : Catalog) (r : Record) (id : ℕ) : Type 0 where
  pub once : times id (brought_ids c r) ≡ 1
  pub new : times id (named c) ≡ 0
  pub run : run_of_id id ≡ c.run
