-- The rows of a load, one behind the other.
use Rattle.std.specs.Prelude.{ℕ, List, [], ◌∷◌, map}
use Rattle.mesa_list.specs.Pieces.{pieces}
use Rattle.mesa_batch.specs.declared.words.RowWords.{RowWords}

-- A row of its words: the first is its table's name, and its fields come behind it.
abbrev pub row_from : List (List ℕ) → RowWords
row_from [] = record { table = []; fields = [] }
row_from (table ∷ fields) = record { table = table; fields = fields }

-- rows whose words stand one behind the other, by where each row ends
abbrev pub rows_in : List (List ℕ) → List ℕ → List RowWords
rows_in words ends = map row_from (pieces words 0 ends)
