-- What a warehouse and a catalogue have in common, by which commands are refused.
use Rattle.std.specs.Prelude.{◌≡◌, ℕ, List, [], ◌∷◌, map, max, Option, None}
use Rattle.mesa_catalog.specs.mesa_columns.Columns.{place_of}
use Rattle.mesa_catalog.specs.mesa_batch.Glance.{Known}
use Rattle.mesa_model.specs.Warehouse.{Table, Store, Warehouse}
use Rattle.mesa_catalog.specs.mesa_store_spec.Catalog.{TableMeta, Catalog}
use Rattle.mesa_catalog.specs.Lookups.{known_as}

-- a table's name and its columns through its life, without what it holds
abbrev pub known_of : Table → Known
known_of t = record { name = t.name; lineage = t.lineage }

-- the same of a store's tables
abbrev pub known_in : Store → List Known
known_in s = map known_of s.tables

-- A warehouse is open, and has the catalogue's tables and versions, whatever rows and totals it has and whatever is pinned.
pub record HasCatalog (c : Catalog) (w : Warehouse) : Type 0 where
  pub opened : w.closed ≡ None
  pub tables : known_in w.store ≡ map known_as c.tables
  pub oldests : map (λ (t : Table). t.oldest) w.store.tables ≡ map (λ (t : TableMeta). t.oldest) c.tables
  pub floor : w.store.floor ≡ c.floor
  pub next : w.next ≡ c.next

-- the number of the catalogue's table of a name; a view is no table
abbrev pub number_of : Catalog → List ℕ → Option ℕ
number_of c name = place_of name (map (λ (t : TableMeta). t.name) c.tables)

-- the greatest of a number and of tables' oldest versions
abbrev pub greatest_in : ℕ → List TableMeta → ℕ
greatest_in floor [] = floor
greatest_in floor (t ∷ tables) = max t.oldest (greatest_in floor tables)
