-- What a copy of a table has in common with it.
use Rattle.std.specs.Prelude.{ℕ}
use Rattle.std.specs.declared.alloc.Global.{Global}
use Rattle.std.specs.declared.sync.Arc.{Arc}
use Rattle.mesa_store_spec.specs.Catalog.{Delta}
use Rattle.mesa_catalog_table.specs.declared.table.Loaded.{Loaded}

-- the delta behind a pointer
abbrev pub value_in : Arc Delta Global → Delta
value_in d = d.value

-- what a version brought, whatever the pointer to it
abbrev pub loaded_as : Loaded → ℕ × Delta
loaded_as l = (l.version, l.delta.value)
