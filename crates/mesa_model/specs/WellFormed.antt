-- What every warehouse keeps that a run may start from.
use Rattle.std.specs.Prelude.{◌≡◌, ◌≤◌, ℕ, ◌-◌, List, ◌∷◌, map, length, flat_map, Bool, ◌&&◌, ◌||◌, ◌==◌, nat_lt, is_none, IsTrue}
use Rattle.std.specs.List.{AllByRecursion}
use Rattle.mesa_columns.specs.declared.rows.Row.{Row}
use Rattle.mesa_columns.specs.declared.views.View.{View}
use Rattle.mesa_columns.specs.Names.{repeated}
use Rattle.mesa_columns.specs.Columns.{Columns}
use Rattle.mesa_columns.specs.Rows.{AreRowsOf, keys_rise}
use Rattle.mesa_batch.specs.mesa_schema.Changes.{columns_of}
use Rattle.mesa_batch.specs.mesa_schema.Lineages.{IsLineage}
use Rattle.mesa_model.specs.Warehouse.{Table, Store, Warehouse}

-- A content: rows of the form of the columns, whose keys rise strictly.
pub record IsContent (s : Columns) (rows : List Row) : Type 0 where
  pub forms : AreRowsOf s rows
  pub order : IsTrue (keys_rise rows)

-- an oldest version is one of those that were there, where there were so many
abbrev pub is_kept : ℕ → ℕ → Bool
is_kept next oldest = nat_lt oldest next || ((oldest == 0) && (next == 0))

-- A table's columns followed the rules through its life, its oldest version is one that is there and isn't below the floor, and it has a content for each version that can be queried.
pub record IsTable (w : Warehouse) (t : Table) : Type 0 where
  pub lineage : IsLineage t.lineage
  pub above : w.store.floor ≤ t.oldest
  pub oldest : IsTrue (is_kept w.next t.oldest)
  pub versions : length t.contents ≡ w.next - t.oldest
  pub contents : AllByRecursion (IsContent (columns_of t.lineage)) t.contents

-- a table's name, and the names of its views
abbrev names_in : Table → List (List ℕ)
names_in t = t.name ∷ map (λ (v : View). v.name) t.lineage.views

-- the names of all tables and views
abbrev pub relation_names : Store → List (List ℕ)
relation_names s = flat_map names_in s.tables

-- A warehouse is well formed: each table is, no two relations have one name, and the floor is a version that is there.
pub record IsWellFormed (w : Warehouse) : Type 0 where
  pub tables : AllByRecursion (IsTable w) w.store.tables
  pub names : IsTrue (is_none (repeated (relation_names w.store)))
  pub floor : IsTrue (is_kept w.next w.store.floor)
