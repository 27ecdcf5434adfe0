-- Tables found by their names.
use Rattle.std.specs.Prelude.{◌≡◌, ◌≤◌, ◌^◌, ℕ, List, length, map, Vec, Option}
use Rattle.std.specs.Map.{lookup}
use Rattle.std.specs.Ordering.{is_eq}
use Rattle.std.specs.declared.alloc.Global.{Global}
use Rattle.mesa_schema.specs.mesa_key.Order.{byte_cmp}
use Rattle.mesa_schema.specs.mesa_columns.Columns.{place_of}
use Rattle.mesa_batch.specs.declared.glance.Glanced.{Glanced}
use Rattle.mesa_batch.specs.Glance.{Known}

-- a table as contracts see it
abbrev pub known_of : Glanced → Known
known_of table = record { name = table.name; lineage = table.evolving.value }

-- the number that entries have at a name
abbrev pub number_at : List ℕ → List (Vec ℕ Global × ℕ) → Option ℕ
number_at name entries = lookup (λ (k : Vec ℕ Global). is_eq (byte_cmp name k.items)) entries

-- There are not too many tables, and entries have the number of each table at its name.
pub record AreNumbered (tables : List Glanced) (entries : List (Vec ℕ Global × ℕ)) : Type 0 where
  pub few : length tables ≤ 2 ^ 16
  pub numbers : (name : List ℕ) → number_at name entries ≡ place_of name (map (λ (t : Glanced). t.name) tables)
