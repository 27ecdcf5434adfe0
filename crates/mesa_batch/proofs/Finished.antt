-- A batch of rows in their order.
use Rattle.std.proofs.Common.{◌≡◌, ℕ, zero, suc, ◌<◌, List, [], ◌∷◌, length, map, get_or, refl, sym, ◌∙◌, ap, subst, arith, cond, true, false, None, Some}
use Rattle.std.specs.Prelude.{◌==◌, filter, option_map, slice_get, slice_index_or}
use Rattle.std.specs.List.{All, range_with_len}
use Rattle.std.specs.List.Sorted.{IsPermutation, IsStrictlySortedBy}
use Rattle.std.proofs.lemmas.List.{get_or-map, length-map}
use Rattle.std.proofs.lemmas.Option.{slice_get-get_or, slice_get-map}
use Rattle.std.proofs.lemmas.List.FromFn.{fill_by_all}
use Rattle.std.proofs.lemmas.List.Sorted.{IsPermutation-map}
use Rattle.mesa_schema.specs.mesa_value.declared.Agg.{Agg}
use Rattle.mesa_schema.specs.mesa_columns.declared.rows.Row.{Row}
use Rattle.mesa_schema.specs.mesa_columns.Columns.{Columns}
use Rattle.mesa_schema.specs.mesa_fold.Folded.{folded}
use Rattle.mesa_batch.specs.Batch.{Placed, rows_for}
use Rattle.mesa_batch.specs.declared.spots.Spot.{Spot}
use Rattle.mesa_batch.specs.Flat.{IsFirstTwice, placed_at, placed_cmp, rows_over}
use Rattle.mesa_batch.specs.Heads.{IsSpot, place_of, places_for}
use Rattle.mesa_batch.specs.Gathered.{Batched, rows_at}
use Rattle.mesa_batch.specs.Totals.{abs_totals}
use Rattle.mesa_batch.proofs.Reordered.{filter_map, sorted-fold, sorted-folded, sorted-totals}
use Rattle.mesa_batch.proofs.Twice.{IsOrder, in_range, strict_order}

-- the rows of all tables in their order
abbrev in_order : List Placed → List ℕ → List Placed
in_order rows order = map (placed_at rows) order

reordered : (rows : List Placed) (order : List ℕ) → IsOrder rows order → IsPermutation rows (in_order rows order)
reordered rows order ordered =
    let all : rows ≡ map (placed_at rows) (range_with_len 0 (length rows)) = fill_by_all (placed_at rows) rows (length rows) (record { table = 0; row = record { key = []; values = [] } }) refl (λ k h. refl) in
    subst (λ l. IsPermutation l (in_order rows order)) (sym all) (IsPermutation-map (placed_at rows) (range_with_len 0 (length rows)) order ordered.0)

mapped-at : (rows : List Placed) (tables : List (List ℕ)) (table : ℕ) → get_or (map (rows_over rows) tables) table [] ≡ rows_over rows (get_or tables table [])
mapped-at rows [] table = refl
mapped-at rows (places ∷ tables) zero = refl
mapped-at rows (places ∷ tables) (suc table) = mapped-at rows tables table

rows-again : (rows : List Placed) (places : List ℕ) → rows_over rows places ≡ map (λ (p : Placed). p.row) (in_order rows places)
rows-again rows [] = refl
rows-again rows (place ∷ places) = ap (λ l. (placed_at rows place).row ∷ l) (rows-again rows places)

-- the row of a table at a place
pub row_there : (rows : List Placed) (tables : List (List ℕ)) (table place : ℕ) (places : List ℕ) → places ≡ slice_index_or tables table [] → place < length (slice_index_or (map (rows_over rows) tables) table [])
    → slice_get (slice_index_or (map (rows_over rows) tables) table []) place ≡ Some ((placed_at rows (get_or places place 0)).row)
row_there rows tables table place places e h =
    let row : ℕ → Row = λ place. (placed_at rows place).row in
    let whole : get_or (map (rows_over rows) tables) table [] ≡ rows_over rows places = mapped-at rows tables table ∙ ap (rows_over rows) (sym e) in
    let within : place < length places = omega (arith, h, ap length whole, length-map places row) in
    ap (λ l. slice_get l place) whole ∙ slice_get-map row places place ∙ ap (option_map row) (slice_get-get_or places place 0 within)

-- the places of each table's rows, in this order
abbrev pub AreParts : List Placed → List ℕ → List (List ℕ) → Type 0
AreParts rows order tables = (table : ℕ) → slice_index_or tables table [] ≡ filter (λ place. (placed_at rows place).table == table) order

module _ (rows : List Placed) (order : List ℕ) (tables : List (List ℕ)) (b : Batched) (ordered : IsOrder rows order) (first : IsFirstTwice rows order (length order) None) (parts : AreParts rows order tables) (made : b.tables ≡ map (rows_over rows) tables) where
  strict : IsStrictlySortedBy placed_cmp (in_order rows order)
  strict = strict_order rows order ordered first

  has : (table : ℕ) → rows_at table b ≡ rows_for table (in_order rows order)
  has table =
      ap (λ (l : List (List Row)). slice_index_or l table []) made
      ∙ mapped-at rows tables table
      ∙ ap (rows_over rows) (parts table)
      ∙ rows-again rows (filter (λ place. (placed_at rows place).table == table) order)
      ∙ ap (map (λ (p : Placed). p.row)) (sym (filter_map (placed_at rows) (λ (p : Placed). p.table == table) order))

  pub finished-rows : (table : ℕ) (aggs : List Agg) → rows_at table b ≡ folded aggs (rows_for table rows ∷ [])
  finished-rows table aggs = has table ∙ sym (sorted-folded table aggs rows (in_order rows order) (reordered rows order ordered) strict)

  pub finished-fold : (table : ℕ) (aggs : List Agg) → folded aggs (rows_at table b ∷ []) ≡ rows_at table b
  finished-fold table aggs = ap (λ rs. folded aggs (rs ∷ [])) (has table) ∙ sorted-fold table aggs (in_order rows order) strict ∙ sym (has table)

  pub finished-totals : (table : ℕ) (s : Columns) → abs_totals s (rows_at table b) ≡ abs_totals s (rows_for table rows)
  finished-totals table s = ap (abs_totals s) (has table) ∙ sorted-totals s table rows (in_order rows order) (reordered rows order ordered)

-- each row's table is there
pub spots-there : (count : ℕ) (rows : List Placed) (spots : List Spot) → IsOrder rows (map place_of spots) → All (IsSpot rows) spots → All (λ (p : Placed). p.table < count) rows → All (λ (s : Spot). s.table < count) spots
spots-there count rows spots ordered are all = λ k d h.
    let s : Spot = get_or spots k d in
    let there : get_or (map place_of spots) k 0 < length rows = in_range rows (map place_of spots) ordered k (omega (arith, h, length-map spots place_of)) in
    let within : s.place < length rows = subst (λ n. n < length rows) (get_or-map place_of spots k d 0 h) there in
    subst (λ n. n < count) (sym (are k d h).table) (all s.place _ within)

-- the places of a table's spots are those of its rows
pub places-parted : (rows : List Placed) (table : ℕ) (spots : List Spot) → All (IsSpot rows) spots → places_for table spots ≡ filter (λ place. (placed_at rows place).table == table) (map place_of spots)
places-parted rows table [] are = refl
places-parted rows table (s ∷ spots) are =
    let rest : places_for table spots ≡ filter (λ place. (placed_at rows place).table == table) (map place_of spots) = places-parted rows table spots (λ k d h. are (suc k) d (omega (arith, h))) in
    let is : IsSpot rows s = are 0 s (omega arith) in
    let mine : List Spot = filter (λ (s : Spot). s.table == table) spots in
    let its : List ℕ = filter (λ place. (placed_at rows place).table == table) (map place_of spots) in
    ap (λ t. map place_of (cond (t == table) (s ∷ mine) mine)) is.table
    ∙ elim ((placed_at rows s.place).table == table) as (λ b. map place_of (cond b (s ∷ mine) mine) ≡ cond b (s.place ∷ its) its) [ true ↦ ap (λ l. s.place ∷ l) rest | false ↦ rest ]
