-- The faults of a store, and which of them is the first.
use lib.Pointwise.{pointwise}
use Rattle.std.specs.Prelude.{ℕ, ◌+◌, ◌-◌, List, [], ◌∷◌, ◌++◌, map, take, flat_map, Bool, true, false, not, ◌&&◌, ◌||◌, if◌then◌else◌, nat_eq, nat_le, nat_lt, Option, Some, None, is_some, slice_get}
use Rattle.std.specs.List.{list_all}
use Rattle.mesa_pick_files.specs.mesa_columns.declared.rows.Row.{Row}
use Rattle.mesa_pick_files.specs.mesa_columns.declared.views.View.{View}
use Rattle.mesa_pick_files.specs.mesa_columns.Columns.{Columns, aggs_of}
use Rattle.mesa_schema.specs.Changes.{Lineage, columns_at, columns_of}
use Rattle.mesa_schema.specs.Views.{view_rows}
use Rattle.mesa_schema.specs.mesa_fold.Folded.{folded, rows_of}
use Rattle.mesa_batch.specs.Totals.{abs_totals, sum_bound}
use Rattle.mesa_record.specs.declared.record.Files.{Files}
use Rattle.mesa_record.specs.declared.record.ViewRef.{ViewRef}
use Rattle.mesa_compare.specs.Difference.{first_difference}
use Rattle.mesa_store_spec.specs.Catalog.{Catalog, Delta, TableMeta, start_in}
use Rattle.mesa_store_spec.specs.Fitting.{base_deltas}
use Rattle.mesa_store_spec.specs.Contents.{present, rows_in}
use Rattle.mesa_store_spec.specs.Sound.{all_parts}
use Rattle.mesa_check.specs.Found.{Found, rows_found}
use Rattle.mesa_check.specs.Ranges.{Range, checked_ranges, is_range, totals_range}
use Rattle.mesa_check.specs.Ranges.{Base, Single, Cumulative}

-- A fault: the table's name, the range of versions, and the key that shows it, if a single one does.
pub record Fault : Type 0 where
  pub table : List ℕ
  pub from : ℕ
  pub to : ℕ
  pub key : Option (List ℕ)

-- ---- what is asked of files, totals and rows

-- a view's file is the recorded one, and the view is there
abbrev pub is_view_found : Found → Lineage → ViewRef → Bool
is_view_found found l v = is_some (slice_get l.views v.view) && is_some (found v.file.id)

abbrev pub are_files_found : Found → Lineage → Option Files → Bool
are_files_found found l None = true
are_files_found found l (Some f) = is_some (found f.file.id) && list_all (is_view_found found l) f.views

-- Each of a delta's files is the recorded one.
abbrev pub is_found : Found → Lineage → Delta → Bool
is_found found l d = are_files_found found l d.files

abbrev pub agrees_if_any : Option (List ℕ) → List ℕ → Bool
agrees_if_any None totals = true
agrees_if_any (Some recorded) totals = pointwise nat_eq recorded totals

-- A singleton's recorded totals are those of its rows.
abbrev pub is_totalled : Found → Lineage → Delta → Bool
is_totalled found l d = agrees_if_any d.totals (abs_totals (columns_at l d.epoch) (rows_in (rows_found found) d))

-- both of a singleton: its files are the recorded ones, and its totals true
abbrev pub is_true : Found → Lineage → Delta → Bool
is_true found l d = is_found found l d && is_totalled found l d

-- as many totals, each at most the other
abbrev pub are_at_most : List ℕ → List ℕ → Bool
are_at_most [] [] = true
are_at_most [] (y ∷ ys) = false
are_at_most (x ∷ xs) [] = false
are_at_most (x ∷ xs) (y ∷ ys) = nat_le x y && are_at_most xs ys

-- The absolute values of the rows of the base and of all singletons, at present, add up to more than the table's totals. It is asked where their files are the recorded ones and the singletons' totals true.
abbrev pub exceeds_totals : Found → TableMeta → Bool
exceeds_totals found t =
    list_all (is_found found t.lineage) (base_deltas t.base) && list_all (is_true found t.lineage) t.singles
    && not (are_at_most (abs_totals (columns_of t.lineage) (rows_of (all_parts (rows_found found) t))) t.totals)

-- in each sum column the absolute values of the rows add up to less than the bound, so that each sum of them is a value
abbrev pub keep_bound : Columns → List Row → Bool
keep_bound s rows = list_all (λ total. nat_lt total sum_bound) (abs_totals s rows)

-- ---- the faults of a range

-- totals are recorded with singletons alone
abbrev pub has_false_totals : Found → TableMeta → Range → Bool
has_false_totals found t r = elim (r.kind) [ Base ↦ false | Single ↦ not (is_totalled found t.lineage r.delta) | Cumulative ↦ false ]

-- A range has a fault that no single key shows: a file of it isn't the recorded one, its totals aren't those of its rows, or it tells of the table's totals and the rows exceed them.
abbrev pub fails : Found → TableMeta → Range → Bool
fails found t r = not (is_found found t.lineage r.delta) || has_false_totals found t r || (is_range (totals_range t) r && exceeds_totals found t)

-- a key where it is asked for
abbrev pub key_if : Bool → Option (List ℕ) → List (List ℕ)
key_if true (Some key) = key ∷ []
key_if true None = []
key_if false key = []

-- the singletons of a cumulative's range
abbrev pub merged_singles : TableMeta → ℕ → List Delta
merged_singles t to = take (to + 1 - start_in t) t.singles

-- It is asked whether the cumulative that ends at a version differs: where the files of its range's singletons are the recorded ones, and their rows keep the bound.
abbrev pub is_asked : Found → TableMeta → ℕ → Bool
is_asked found t to = list_all (is_found found t.lineage) (merged_singles t to) && keep_bound (columns_of t.lineage) (rows_of (map (present (rows_found found) t.lineage) (merged_singles t to)))

-- where that is asked, the least key at which a cumulative differs from the fold of its range's singletons, both at present
abbrev pub merged_key : Found → TableMeta → ℕ → Delta → List (List ℕ)
merged_key found t to d =
    key_if (is_asked found t to)
    (first_difference (folded (aggs_of (columns_of t.lineage)) (map (present (rows_found found) t.lineage) (merged_singles t to))) (present (rows_found found) t.lineage d))

abbrev pub merged_keys : Found → TableMeta → Range → List (List ℕ)
merged_keys found t r = elim (r.kind) [ Base ↦ [] | Single ↦ [] | Cumulative ↦ merged_key found t r.to r.delta ]

abbrev pub view_key : Found → Lineage → Delta → ViewRef → Option View → List (List ℕ)
view_key found l d v None = []
view_key found l d v (Some view) = key_if (keep_bound (columns_of l) (present (rows_found found) l d)) (first_difference (view_rows (columns_of l) view (present (rows_found found) l d)) (rows_found found v.file.id))

abbrev pub view_keys_in : Found → Lineage → Delta → Option Files → List (List ℕ)
view_keys_in found l d None = []
view_keys_in found l d (Some f) = flat_map (λ (v : ViewRef). view_key found l d v (slice_get l.views v.view)) f.views

-- For each view with a file, by its number, the least group key at which the file differs from the rows of its delta at present, grouped. It is asked where these rows keep the bound.
abbrev pub view_keys : Found → Lineage → Delta → List (List ℕ)
view_keys found l d = view_keys_in found l d d.files

-- the keys that show faults of a range: where a cumulative differs, and then where view files do
abbrev pub keys_shown : Found → TableMeta → Range → List (List ℕ)
keys_shown found t r = merged_keys found t r ++ view_keys found t.lineage r.delta

abbrev pub fault_of : TableMeta → Range → Option (List ℕ) → Fault
fault_of t r key = record { table = t.name; from = r.from; to = r.to; key = key }

-- The faults of a range in their order: first what no single key shows.
abbrev pub range_faults : Found → TableMeta → Range → List Fault
range_faults found t r = map (fault_of t r) ((if fails found t r then None ∷ [] else []) ++ map Some (keys_shown found t r))

-- ---- the first fault

-- the faults of a table, range by range
abbrev pub table_faults : Found → TableMeta → List Fault
table_faults found t = flat_map (range_faults found t) (checked_ranges t)

-- the faults of a store, table by table
abbrev pub faults : Found → Catalog → List Fault
faults found c = flat_map (table_faults found) c.tables

-- FirstFault: the first of them, if there is one.
abbrev pub first_fault : Found → Catalog → Option Fault
first_fault found c = slice_get (faults found c) 0
