-- Columns that are named.
use Rattle.std.proofs.Common.{◌≡◌, ◌∙◌, ℕ, List, Some, ap, get_or, map, sym}
use Rattle.std.proofs.Math.ListN.{get_or-map}
use Rattle.mesa_model.specs.mesa_columns.Columns.{place_of}
use Rattle.mesa_model.proofs.mesa_columns.Places.{place_named}

-- a column that is found by a word has it as its name
pub column_named : {C : Type 0} (name_of : C → List ℕ) (columns : List C) (word : List ℕ) (place : ℕ) (column : C) → place_of word (map name_of columns) ≡ Some place → column ≡ get_or columns place column → name_of column ≡ word
column_named name_of columns word place column found is = ap name_of is ∙ sym (get_or-map name_of columns place column) ∙ (place_named word (map name_of columns) place (name_of column) found).1
