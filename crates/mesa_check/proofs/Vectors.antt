-- Stores and their first faults.
use Rattle.std.proofs.Common.{◌≡◌, refl, ℕ, List, [], ◌∷◌, ◌++◌, Option, Some, None}
use Rattle.std.specs.Prelude.{pos, codes, ◌==◌, if◌then◌else◌, replicate}
use Rattle.mesa_pick_files.specs.mesa_value.declared.Agg.TheVariants as agg
use Rattle.mesa_schema.specs.mesa_key.declared.Format.TheVariants as format
use Rattle.mesa_schema.specs.mesa_key.declared.KeyType.TheVariants as kind
use Rattle.mesa_pick_files.specs.mesa_columns.declared.rows.Row.{Row}
use Rattle.mesa_schema.specs.Changes.{Lineage}
use Rattle.mesa_delta.specs.mesa_file.declared.file_ref.FileRef.{FileRef}
use Rattle.mesa_record.specs.declared.record.ViewRef.{ViewRef}
use Rattle.mesa_store_spec.specs.Catalog.{Catalog, Delta, empty_delta}
use Rattle.mesa_check.specs.Found.{Found}
use Rattle.mesa_check.specs.Faults.{Fault, first_fault}

-- the key of a small number
abbrev key : ℕ → List ℕ
key n = 128 ∷ 0 ∷ 0 ∷ 0 ∷ 0 ∷ 0 ∷ 0 ∷ n ∷ []

abbrev row : ℕ → ℕ → ℕ → Row
row j k v = record { key = key j ++ key k; values = pos v ∷ [] }

abbrev row_seen : ℕ → ℕ → Row
row_seen k v = record { key = key k; values = pos v ∷ [] }

-- table,t,j int;k int,v sum and view,w,t,k,v
abbrev lineage : Lineage
lineage = record {
  begins = 0;
  first = record { keys = record { name = codes "j"; kind = kind.Int } ∷ record { name = codes "k"; kind = kind.Int } ∷ []; values = record { name = codes "v"; agg = agg.Sum } ∷ [] };
  changes = [];
  views = record { name = codes "w"; keys = codes "k" ∷ []; values = codes "v" ∷ [] } ∷ [];
}

-- what a file's reference says besides its id doesn't matter here
abbrev file : ℕ → FileRef
file id = record { format = format.Two; id = id; len = 0; rows = 1; blocks = 1; first = []; last = []; aggregates = pos 0 ∷ []; digest = [] }

abbrev seen : ℕ → ViewRef
seen id = record { view = 0; file = file id }

abbrev single : ℕ → ℕ → ℕ → Delta
single id own total = record { epoch = 0; files = Some (record { file = file id; views = seen own ∷ [] }); totals = Some (total ∷ []) }

abbrev merged : ℕ → ℕ → Delta
merged id own = record { epoch = 0; files = Some (record { file = file id; views = seen own ∷ [] }); totals = None }

-- ten versions, the first two of which brought rows, and their cumulative
abbrev store : ℕ → Catalog
store total = record {
  tables = record {
    name = codes "t";
    lineage = lineage;
    totals = total ∷ [];
    oldest = 0;
    base = None;
    cumulatives = record { to = 9; delta = merged 30 31 } ∷ [];
    singles = single 10 11 5 ∷ single 20 21 13 ∷ replicate 8 empty_delta;
  } ∷ [];
  floor = 0;
  next = 10;
  run = 1;
}

-- the files of the first version, of the second, and of the cumulative, each with its view's
abbrev found : List Row → List Row → Found
found cumulative its_view id =
    if id == 10 then Some (row 1 1 5 ∷ [])
    else if id == 11 then Some (row_seen 1 5 ∷ [])
    else if id == 20 then Some (row 1 1 6 ∷ row 2 1 7 ∷ [])
    else if id == 21 then Some (row_seen 1 13 ∷ [])
    else if id == 30 then Some cumulative
    else if id == 31 then Some its_view
    else None

abbrev whole : List Row
whole = row 1 1 11 ∷ row 2 1 7 ∷ []

abbrev whole_view : List Row
whole_view = row_seen 1 18 ∷ []

abbrev at : ℕ → ℕ → Option (List ℕ) → Option Fault
at from to key = Some (record { table = codes "t"; from = from; to = to; key = key })

sound : first_fault (found whole whole_view) (store 18) ≡ None
sound = refl

-- row check_verdicts: the file of the first version isn't the recorded one
damaged : first_fault (λ id. if id == 10 then None else found whole whole_view id) (store 18) ≡ at 0 0 None
damaged = refl

-- a cumulative with one value changed is told by its key; with a row less, by that row's
value_changed : first_fault (found (row 1 1 11 ∷ row 2 1 8 ∷ []) whole_view) (store 18) ≡ at 0 9 (Some (key 2 ++ key 1))
value_changed = refl

row_less : first_fault (found (row 2 1 7 ∷ []) whole_view) (store 18) ≡ at 0 9 (Some (key 1 ++ key 1))
row_less = refl

-- a view file with another row, or none, is told by its group key
view_changed : first_fault (found whole (row_seen 1 18 ∷ row_seen 2 0 ∷ [])) (store 18) ≡ at 0 9 (Some (key 2))
view_changed = refl

view_less : first_fault (found whole []) (store 18) ≡ at 0 9 (Some (key 1))
view_less = refl

-- totals that are too low are told at the first singleton with rows, where there is no base
too_low : first_fault (found whole whole_view) (store 17) ≡ at 0 0 None
too_low = refl

-- a singleton's recorded totals aren't those of its rows: it is told at its range, and the table's totals aren't asked
false_totals : first_fault (λ id. if id == 20 then Some (row 1 1 6 ∷ row 2 1 8 ∷ []) else if id == 21 then Some (row_seen 1 14 ∷ []) else found (row 1 1 11 ∷ row 2 1 8 ∷ []) (row_seen 1 19 ∷ []) id) (store 18) ≡ at 1 1 None
false_totals = refl

-- where a singleton isn't the recorded file, its cumulative isn't asked, but the cumulative's view file is
single_damaged : first_fault (λ id. if id == 20 then None else found (row 1 1 12 ∷ []) (row_seen 1 12 ∷ []) id) (store 18) ≡ at 1 1 None
single_damaged = refl

its_view_differs : first_fault (λ id. if id == 20 then None else found (row 1 1 12 ∷ []) (row_seen 1 13 ∷ []) id) (store 18) ≡ at 0 9 (Some (key 1))
its_view_differs = refl
