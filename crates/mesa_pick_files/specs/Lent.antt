-- Deltas that a table lends.
use denote.Bor.{Bor}
use Rattle.std.specs.Prelude.{ℕ, ◌≤◌, suc, zero, List, [], ◌∷◌, ◌++◌, map, filter, is_some, nat_le, Option, Some, None, slice_get}
use Rattle.std.specs.List.{AllByRecursion}
use Rattle.std.specs.declared.alloc.Global.{Global}
use Rattle.std.specs.declared.sync.Arc.{Arc}
use Rattle.mesa_validate.specs.mesa_store_spec.Catalog.{Delta}
use Rattle.mesa_catalog_table.specs.declared.table.Loaded.{Loaded}
use Rattle.mesa_pick_files.specs.declared.deltas.Deltas.{Deltas}

-- those of the deltas that have rows
abbrev pub with_rows : List Delta → List Delta
with_rows deltas = filter (λ (d : Delta). is_some d.files) deltas

abbrev pub lent_if_any : Option (Bor Delta) → List Delta
lent_if_any None = []
lent_if_any (Some d) = d.now ∷ []

abbrev pub single_delta : Loaded → Delta
single_delta l = l.delta.value

-- The deltas that are lent, in version order.
abbrev pub lent_in : Deltas → List Delta
lent_in d = lent_if_any d.base ++ (lent_if_any d.cumulative ++ map single_delta d.singles.now)

-- what was loaded from a version on
abbrev pub loaded_from : ℕ → List Loaded → List Loaded
loaded_from from loaded = filter (λ (l : Loaded). nat_le from l.version) loaded

abbrev pub shared_if_any : Option (Arc Delta Global) → List Delta
shared_if_any None = []
shared_if_any (Some d) = d.value ∷ []

-- the last of the first so many
abbrev pub ten_deltas : ℕ → List (Arc Delta Global) → List Delta
ten_deltas zero ds = []
ten_deltas (suc n) ds = shared_if_any (slice_get ds n)

-- the deltas with rows are of epochs up to this one
abbrev pub AreOfEpochs : ℕ → List Delta → Type 0
AreOfEpochs epoch deltas = AllByRecursion (λ (d : Delta). d.epoch ≤ epoch) (with_rows deltas)

abbrev pub now_if_any : {X : Type 0} → Option (Bor X) → Option X
now_if_any None = None
now_if_any (Some x) = Some x.now
