-- What a catalogue stands for after a batch, a merged range, an expiry and a run's beginning.
use Rattle.std.proofs.Common.{◌≡◌, ℕ, zero, suc, ◌+◌, ◌-◌, ◌<◌, ◌≤◌, List, [], ◌∷◌, map, length, drop, Option, Some, None, true, false, refl, sym, ◌∙◌, ap, arith, slice_index_or, slice_set}
use Rattle.std.proofs.lemmas.List.{map-append, map-set}
use Rattle.std.specs.Prelude.{Bool, max}
use Rattle.std.specs.List.{AllByRecursion, range_with_len}
use Rattle.mesa_history_spec.specs.mesa_columns.declared.rows.Row.{Row}
use Rattle.mesa_history_spec.specs.mesa_columns.Columns.{aggs_of}
use Rattle.mesa_history_spec.specs.mesa_schema.Changes.{columns_of}
use Rattle.mesa_history_spec.proofs.mesa_columns.Lists.{map_at}
use Rattle.mesa_history_spec.specs.mesa_batch.Batch.{Placed, rows_for}
use Rattle.mesa_history_spec.specs.mesa_batch.Totals.{abs_total, abs_totals, sum_places, totals_with}
use Rattle.mesa_history_spec.specs.mesa_span.Work.{swapped}
use Rattle.mesa_history_spec.specs.mesa_model.Load.{table_loaded, tables_loaded}
use Rattle.mesa_history_spec.specs.mesa_model.Versions.{table_from}
use Rattle.mesa_record.specs.declared.record.Part.{Part}
use Rattle.mesa_record.specs.declared.record.Files.{Files}
use Rattle.mesa_record.specs.declared.record.Record.TheVariants as record_of
use Rattle.mesa_store_spec.specs.Catalog.{Delta, TableMeta, Catalog, start_in, end_in, ranges_of, part_of, meta_from, meta_loaded, metas_loaded, meta_swapped, meta_at, no_meta, merged_delta, applied}
use Rattle.mesa_store_spec.specs.Contents.{Rows, content, table_of, kept_of}
use Rattle.mesa_store_spec.specs.Shape.{IsShaped, IsCatalog}
use Rattle.mesa_store_spec.specs.Brought.{BringsAll, BringsIfAny, Replaces, merged_of}
use Rattle.mesa_store_spec.specs.Moves.{kept_expired, kept_loaded, kept_swapped, work_of}
use Rattle.mesa_store_spec.proofs.Contents.{contents_loaded, content_based}

-- ---- a batch

no_more : (places totals : List ℕ) → length totals ≡ length places → totals_with totals (map (λ c. abs_total c []) places) ≡ totals
no_more [] [] e = refl
no_more [] (t ∷ totals) e = absurd (omega (arith, e))
no_more (c ∷ places) [] e = absurd (omega (arith, e))
no_more (c ∷ places) (t ∷ totals) e = λ i. (let z : t + 0 ≡ t = omega arith in z i) ∷ no_more places totals (omega (arith, e)) i

pub totals_are : (rows : Rows) (t : TableMeta) (floor next : ℕ) → IsShaped floor next t → (p : Option Part) (batch : List Row) → BringsIfAny rows t p batch
    → (meta_loaded t p).totals ≡ totals_with t.totals (abs_totals (columns_of t.lineage) batch)
totals_are rows t floor next shaped None batch is =
    sym (ap (λ b. totals_with t.totals (abs_totals (columns_of t.lineage) b)) is ∙ no_more (sum_places 0 (aggs_of (columns_of t.lineage))) t.totals shaped.totals)
totals_are rows t floor next shaped (Some p) batch is = ap (totals_with t.totals) is.totals

name_same : (t : TableMeta) (p : Option Part) → (meta_loaded t p).name ≡ t.name
name_same t None = refl
name_same t (Some p) = refl

lineage_same : (t : TableMeta) (p : Option Part) → (meta_loaded t p).lineage ≡ t.lineage
lineage_same t None = refl
lineage_same t (Some p) = refl

ranges_same : (t : TableMeta) (p : Option Part) → ranges_of (meta_loaded t p) ≡ ranges_of t
ranges_same t None = refl
ranges_same t (Some p) = refl

oldest_same : (t : TableMeta) (p : Option Part) → (meta_loaded t p).oldest ≡ t.oldest
oldest_same t None = refl
oldest_same t (Some p) = refl

table_is : (rows : Rows) (floor next : ℕ) (t : TableMeta) → IsShaped floor next t → (p : Option Part) (batch : List Row) → BringsIfAny rows t p batch
    → table_of rows (next + 1) (meta_loaded t p) ≡ table_loaded (table_of rows next t) batch
table_is rows floor next t shaped p batch is = λ i. record {
  name = name_same t p i;
  lineage = lineage_same t p i;
  totals = totals_are rows t floor next shaped p batch is i;
  oldest = oldest_same t p i;
  contents = (ap (λ oldest. map (content rows (meta_loaded t p)) (range_with_len oldest (next + 1 - oldest))) (oldest_same t p) ∙ contents_loaded rows t floor next shaped p batch is) i;
}

tables_are : (rows : Rows) (floor next : ℕ) (parts : List Part) (batch : List Placed) (number : ℕ) (tables : List TableMeta) → AllByRecursion (IsShaped floor next) tables
    → BringsAll rows parts batch number tables → map (table_of rows (next + 1)) (metas_loaded parts number tables) ≡ tables_loaded batch number (map (table_of rows next) tables)
tables_are rows floor next parts batch number [] shaped all = refl
tables_are rows floor next parts batch number (t ∷ tables) shaped all = λ i.
    table_is rows floor next t shaped.0 (part_of number parts) (rows_for number batch) all.0 i ∷ tables_are rows floor next parts batch (number + 1) tables shaped.1 all.1 i

ranges_are : (parts : List Part) (number : ℕ) (tables : List TableMeta) → map ranges_of (metas_loaded parts number tables) ≡ map ranges_of tables
ranges_are parts number [] = refl
ranges_are parts number (t ∷ tables) = λ i. ranges_same t (part_of number parts) i ∷ ranges_are parts (number + 1) tables i

-- A batch: the catalogue stands for the loaded state.
pub publish_moves : (rows : Rows) (c : Catalog) (version : ℕ) (parts : List Part) (batch : List Placed) → IsCatalog c → BringsAll rows parts batch 0 c.tables
    → kept_of rows (applied c (record_of.Publish version parts)) ≡ kept_loaded (kept_of rows c) batch
unfolding kept_of
publish_moves rows c version parts batch is all = λ i. record {
  store = record { tables = tables_are rows c.floor c.next parts batch 0 c.tables is.tables all i; floor = c.floor };
  next = c.next + 1;
  ranges = ranges_are parts 0 c.tables i;
}

-- ---- an expiry

dropped_range : (from n k : ℕ) → k ≤ n → drop k (range_with_len from n) ≡ range_with_len (from + k) (n - k)
dropped_range from n zero le = λ i. range_with_len ((let e : from ≡ from + 0 = omega arith in e) i) ((let e : n ≡ n - 0 = omega arith in e) i)
dropped_range from zero (suc k) le = absurd (omega (arith, le))
dropped_range from (suc n) (suc k) le =
    let e : n - k ≡ suc n - suc k = omega arith in
    let f : from + 1 + k ≡ from + suc k = omega arith in
    dropped_range (from + 1) n k (omega (arith, le)) ∙ (λ i. range_with_len (f i) (e i))

drop-map : {A B : Type 0} (f : A → B) (k : ℕ) (xs : List A) → map f (drop k xs) ≡ drop k (map f xs)
drop-map f zero xs = refl
drop-map f (suc k) [] = refl
drop-map f (suc k) (x ∷ xs) = drop-map f k xs

-- A table without versions below one, as it is kept.
pub from_is : (rows : Rows) (next version : ℕ) (t : TableMeta) → version ≤ next → table_of rows next (meta_from version t) ≡ table_from version (table_of rows next t)
from_is rows next version t le =
    let k = version - t.oldest in
    let from : t.oldest + k ≡ max t.oldest version = omega arith in
    let n : next - t.oldest - k ≡ next - max t.oldest version = omega arith in
    let range : range_with_len (max t.oldest version) (next - max t.oldest version) ≡ drop k (range_with_len t.oldest (next - t.oldest)) =
    sym (dropped_range t.oldest (next - t.oldest) k (omega (arith, le)) ∙ (λ i. range_with_len (from i) (n i))) in
    let contents = ap (map (content rows t)) range ∙ drop-map (content rows t) k (range_with_len t.oldest (next - t.oldest)) in
    λ i. record { name = t.name; lineage = t.lineage; totals = t.totals; oldest = max t.oldest version; contents = contents i }

expired_tables : (rows : Rows) (next version : ℕ) (tables : List TableMeta) → version ≤ next → map (table_of rows next) (map (meta_from version) tables) ≡ map (table_from version) (map (table_of rows next) tables)
expired_tables rows next version [] le = refl
expired_tables rows next version (t ∷ tables) le = λ i. from_is rows next version t le i ∷ expired_tables rows next version tables le i

expired_ranges : (version : ℕ) (tables : List TableMeta) → map ranges_of (map (meta_from version) tables) ≡ map ranges_of tables
expired_ranges version [] = refl
expired_ranges version (t ∷ tables) = ap (λ rs. ranges_of t ∷ rs) (expired_ranges version tables)

pub expire_moves : (rows : Rows) (c : Catalog) (version : ℕ) → version < c.next → kept_of rows (applied c (record_of.Expire version)) ≡ kept_expired (kept_of rows c) version
unfolding kept_of
expire_moves rows c version lt = λ i. record {
  store = record { tables = expired_tables rows c.next version c.tables (omega (arith, lt)) i; floor = version };
  next = c.next;
  ranges = expired_ranges version c.tables i;
}

-- ---- a run

pub run_moves : (rows : Rows) (c : Catalog) (number : ℕ) → kept_of rows (applied c (record_of.Run number)) ≡ kept_of rows c
unfolding kept_of
run_moves rows c number = refl

-- ---- a merged range

same_contents : (f g : ℕ → List Row) (from n : ℕ) → ((v : ℕ) → from ≤ v → f v ≡ g v) → map f (range_with_len from n) ≡ map g (range_with_len from n)
same_contents f g from zero same = refl
same_contents f g from (suc n) same = λ i. same from (omega arith) i ∷ same_contents f g (from + 1) n (λ v le. same v (omega (arith, le))) i

-- a base lies behind the present one, and ends at the table's oldest version or before it
abbrev pub IsWithin : Bool → TableMeta → ℕ → Type 0
IsWithin true t to = (start_in t ≤ to) × (to ≤ t.oldest)
IsWithin false t to = Unit {0}

swapped_table : (rows : Rows) (next : ℕ) (t : TableMeta) (base : Bool) (to : ℕ) (d : Delta) → IsWithin base t to → Replaces rows t.lineage d (merged_of t base to)
    → table_of rows next (meta_swapped t base to d) ≡ table_of rows next t
swapped_table rows next t true to d within replaces =
    let contents = same_contents (content rows (meta_swapped t true to d)) (content rows t) t.oldest (next - t.oldest) (λ v from. content_based rows t to d v within.0 (omega (arith, within.1, from)) replaces) in
    λ i. record { name = t.name; lineage = t.lineage; totals = t.totals; oldest = t.oldest; contents = contents i }
swapped_table rows next t false to d within replaces = refl

-- set where it was changes nothing
pub set_same : {A : Type 0} (xs : List A) (n : ℕ) (d : A) → slice_set xs n (slice_index_or xs n d) ≡ xs
set_same [] n d = refl
set_same (y ∷ xs) zero d = refl
set_same (y ∷ xs) (suc n) d = ap (λ zs. y ∷ zs) (set_same xs n d)

-- The ranges after a swap are those of the range machine.
pub ranges_swapped : (t : TableMeta) (base : Bool) (from to : ℕ) (d : Delta) → ranges_of (meta_swapped t base to d) ≡ swapped (work_of base from to) (ranges_of t)
ranges_swapped t true from to d = refl
ranges_swapped t false from to d = λ i. record { base_to = (ranges_of t).base_to; cumulatives = map-append end_in t.cumulatives (record { to = to; delta = d } ∷ []) i }

-- A merged range: contents stay, and the ranges are swapped.
pub swap_moves : (rows : Rows) (c : Catalog) (table : ℕ) (base : Bool) (from to epoch : ℕ) (files : Option Files) → IsWithin base (meta_at c table) to → Replaces rows (meta_at c table).lineage (merged_delta epoch files) (merged_of (meta_at c table) base to)
    → kept_of rows (applied c (record_of.Swap table base from to epoch files)) ≡ kept_swapped (kept_of rows c) table (work_of base from to)
unfolding kept_of
swap_moves rows c table base from to epoch files within replaces =
    let t = meta_at c table in
    let d = merged_delta epoch files in
    let new = meta_swapped t base to d in
    let tables : map (table_of rows c.next) (slice_set c.tables table new) ≡ map (table_of rows c.next) c.tables =
    map-set (table_of rows c.next) c.tables table new
    ∙ ap (slice_set (map (table_of rows c.next) c.tables) table) (swapped_table rows c.next t base to d within replaces)
    ∙ sym (map-set (table_of rows c.next) c.tables table t)
    ∙ ap (map (table_of rows c.next)) (set_same c.tables table no_meta) in
    let its : ranges_of new ≡ swapped (work_of base from to) (slice_index_or (map ranges_of c.tables) table (ranges_of no_meta)) =
    ranges_swapped t base from to d ∙ ap (swapped (work_of base from to)) (sym (map_at ranges_of c.tables table no_meta)) in
    let ranges = map-set ranges_of c.tables table new ∙ ap (slice_set (map ranges_of c.tables) table) its in
    λ i. record { store = record { tables = tables i; floor = c.floor }; next = c.next; ranges = ranges i }
