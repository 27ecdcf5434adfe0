-- Pages of an answer.
use Rattle.std.specs.Prelude.{ℕ, List, [], ◌∷◌, filter, take, length, nat_lt, if◌then◌else◌, Option, Some, None}
use Rattle.std.specs.Ordering.{is_lt}
use Rattle.mesa_batch.specs.mesa_key.Order.{byte_cmp}
use Rattle.mesa_columns.specs.declared.rows.Row.{Row}
use Rattle.mesa_model.specs.declared.replies.Page.{Page}

-- the rows whose key is greater than the resume key
abbrev pub rows_after : Option (List ℕ) → List Row → List Row
rows_after None rows = rows
rows_after (Some key) rows = filter (λ row. is_lt (byte_cmp key row.key)) rows

-- the key of the last row
abbrev pub last_key : List Row → List ℕ
last_key [] = []
last_key (row ∷ []) = row.key
last_key (row ∷ next ∷ rows) = last_key (next ∷ rows)

-- the first rows up to the limit, and where a further one is there the key of the last of them
abbrev pub page_from : ℕ → ℕ → List Row → Page
page_from version limit rows = record { version = version; rows = take limit rows; resume = if nat_lt limit (length rows) then Some (last_key (take limit rows)) else None }

-- PageOf: the first rows up to the limit whose group key is greater than the resume key, and the key after which a further one is there.
abbrev pub page_of : ℕ → ℕ → Option (List ℕ) → List Row → Page
page_of version limit resume rows = page_from version limit (rows_after resume rows)
