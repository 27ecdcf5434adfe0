-- The ids of the files that a table names.
use Rattle.std.specs.Prelude.{ℕ, List, [], ◌∷◌, ◌++◌, map, flat_map, filter, nat_le, Option, Some, None}
use Rattle.std.specs.declared.alloc.Global.{Global}
use Rattle.std.specs.declared.sync.Arc.{Arc}
use Rattle.mesa_record.specs.declared.record.Files.{Files}
use Rattle.mesa_record.specs.declared.record.ViewRef.{ViewRef}
use Rattle.mesa_store_spec.specs.Catalog.{Delta}
use Rattle.mesa_catalog_table.specs.declared.table.Base.{Base}
use Rattle.mesa_catalog_table.specs.declared.table.Loaded.{Loaded}
use Rattle.mesa_catalog_table.specs.declared.table.Table.{Table}

-- ---- ids of files

abbrev pub view_id : ViewRef → ℕ
view_id v = v.file.id

-- the table's own file, and then its views'
abbrev pub file_ids : Files → List ℕ
file_ids f = f.file.id ∷ map view_id f.views

abbrev pub ids_if_any : Option Files → List ℕ
ids_if_any None = []
ids_if_any (Some f) = file_ids f

abbrev pub delta_ids : Delta → List ℕ
delta_ids d = ids_if_any d.files

-- ---- ids of what is held

abbrev pub shared_ids : Arc Delta Global → List ℕ
shared_ids d = delta_ids d.value

abbrev pub shared_ids_if_any : Option (Arc Delta Global) → List ℕ
shared_ids_if_any None = []
shared_ids_if_any (Some d) = shared_ids d

abbrev pub base_ids : Option Base → List ℕ
base_ids None = []
base_ids (Some b) = shared_ids_if_any b.delta

abbrev pub single_ids : Loaded → List ℕ
single_ids l = shared_ids l.delta

-- The ids of the files of a table's deltas.
abbrev pub table_ids : Table → List ℕ
table_ids t = base_ids t.base ++ (flat_map shared_ids t.cumulatives.items ++ flat_map single_ids t.loaded.items)

-- ---- ids of a table's own files

-- the table's own file, without its views'
abbrev pub own_if_any : Option Files → List ℕ
own_if_any None = []
own_if_any (Some f) = f.file.id ∷ []

abbrev pub own_ids : Delta → List ℕ
own_ids d = own_if_any d.files

abbrev pub shared_own_if_any : Option (Arc Delta Global) → List ℕ
shared_own_if_any None = []
shared_own_if_any (Some d) = own_ids d.value

abbrev pub base_own : Option Base → List ℕ
base_own None = []
base_own (Some b) = shared_own_if_any b.delta

abbrev pub single_own : Loaded → List ℕ
single_own l = own_ids l.delta.value

-- The ids of the files that go with a recast: the table's own of the base and of what was loaded, and all of the cumulatives.
abbrev pub ids_recast : Table → List ℕ
ids_recast t = base_own t.base ++ (flat_map single_own t.loaded.items ++ flat_map shared_ids t.cumulatives.items)

-- ---- ids up to a version

-- what was loaded up to a version
abbrev pub through : ℕ → List Loaded → List Loaded
through to loaded = filter (λ (l : Loaded). nat_le l.version to) loaded

-- The ids of the files of the deltas that start at or before a version, where the base ends before it or at it.
abbrev pub ids_through : Table → ℕ → List ℕ
ids_through t to = base_ids t.base ++ (flat_map shared_ids t.cumulatives.items ++ flat_map single_ids (through to t.loaded.items))
