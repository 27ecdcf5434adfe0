-- Columns that are named.
use Rattle.std.proofs.Common.{◌≡◌, ◌∙◌, ℕ, List, Some, map, sym}
use Rattle.std.proofs.Math.ListN.{get_or-map}
use Rattle.mesa_binding.proofs.mesa_columns.Places.{place_named}
use Rattle.mesa_model.specs.Relations.{table_number}
use Rattle.mesa_model.specs.Warehouse.{Store, Table, no_table, table_at}

-- and so has a table
pub table_named : (store : Store) (word : List ℕ) (number : ℕ) → table_number store word ≡ Some number → (table_at store number).name ≡ word
table_named store word number found = sym (get_or-map (λ (t : Table). t.name) store.tables number no_table) ∙ (place_named word (map (λ (t : Table). t.name) store.tables) number no_table.name found).1
