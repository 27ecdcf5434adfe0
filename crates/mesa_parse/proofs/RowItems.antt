-- The words of a row.
use Rattle.std.proofs.Common.{◌≡◌, ℕ, List, [], ◌∷◌, drop, refl, ap, Ok}
use Rattle.mesa_batch.specs.declared.words.RowWords.{RowWords}
use Rattle.mesa_batch.specs.Load.{row_from}
use Rattle.mesa_script.specs.Records.{Row, field}
use Rattle.mesa_script.specs.Items.{RowOf, item_of}

row_words : (fields : List (List ℕ)) → record { table = field 1 fields; fields = drop 2 fields } ≡ row_from (drop 1 fields)
row_words [] = refl
row_words (a ∷ []) = refl
row_words (a ∷ b ∷ fields) = refl

-- A row's record says the row of its fields behind the first.
pub row_item : (fields : List (List ℕ)) → item_of Row fields ≡ Ok (RowOf (row_from (drop 1 fields)))
row_item fields = ap (λ (row : RowWords). Ok (RowOf row)) (row_words fields)
