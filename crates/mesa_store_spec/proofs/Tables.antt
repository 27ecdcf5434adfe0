-- A table that is made: it stands for one without rows.
use Rattle.std.proofs.Common.{◌≡◌, ℕ, zero, suc, ◌+◌, ◌-◌, List, [], ◌∷◌, ◌++◌, map, length, take, Option, Some, None, refl, sym, ◌∙◌, ap, subst, arith, replicate}
use Rattle.std.proofs.lemmas.List.{map-append}
use Rattle.std.specs.Prelude.{option_map}
use Rattle.std.specs.List.{AllByRecursion, range_with_len}
use Rattle.mesa_delta_format.specs.mesa_value.declared.Agg.{Agg}
use Rattle.mesa_history_spec.specs.mesa_columns.declared.rows.Row.{Row}
use Rattle.mesa_history_spec.specs.mesa_columns.declared.columns.KeyColumn.{KeyColumn}
use Rattle.mesa_history_spec.specs.mesa_columns.declared.columns.ValueColumn.{ValueColumn}
use Rattle.mesa_history_spec.specs.mesa_columns.Columns.{Columns, aggs_of}
use Rattle.mesa_history_spec.specs.mesa_schema.Changes.{Lineage, epoch_of, lifted}
use Rattle.mesa_history_spec.specs.mesa_fold.Folded.{folded, folded_at, keys_of, rows_of}
use Rattle.mesa_history_spec.proofs.mesa_columns.Lists.{all_append, all_replicate, all_so}
use Rattle.mesa_history_spec.specs.mesa_batch.Totals.{AreAtMost, abs_total, abs_totals, sum_places}
use Rattle.mesa_history_spec.specs.mesa_span.Ranges.{base_before}
use Rattle.mesa_record.specs.declared.record.Files.{Files}
use Rattle.mesa_record.specs.declared.record.Record.TheVariants as record_of
use Rattle.mesa_store_spec.specs.Catalog.{Delta, TableMeta, Catalog, applied, empty_base, empty_delta, end_in, new_meta, ranges_of, start_in}
use Rattle.mesa_store_spec.specs.Fitting.{LiveFile, base_deltas, delta_live, deltas_of, live_files, meta_live}
use Rattle.mesa_store_spec.specs.Contents.{Rows, content, deltas_to, kept_of, present, rows_in, table_of}
use Rattle.mesa_store_spec.specs.Sound.{AreGrouped, HaveSoundRows, HasSoundRows, IsTold, IsTotalled}
use Rattle.mesa_store_spec.specs.Moves.{kept_made}
use Rattle.mesa_store_spec.proofs.Lists.{all_flat, all_unflat}

-- ---- deltas without files

abbrev pub IsEmpty : Delta → Type 0
IsEmpty d = d.files ≡ None

-- they have no rows
pub no_rows : (rows : Rows) (l : Lineage) (ds : List Delta) → AllByRecursion IsEmpty ds → rows_of (map (present rows l) ds) ≡ []
no_rows rows l [] all = refl
no_rows rows l (d ∷ ds) all =
    ap (λ (files : Option Files). map (lifted l d.epoch (epoch_of l)) (rows_in rows (record d { files = files })) ++ rows_of (map (present rows l) ds)) all.0 ∙ no_rows rows l ds all.1

pub folds_nothing : (aggs : List Agg) (parts : List (List Row)) → rows_of parts ≡ [] → folded aggs parts ≡ []
folds_nothing aggs parts is = ap (λ rs. map (folded_at aggs rs) (keys_of rs)) is

all_copies : (n k : ℕ) → AllByRecursion IsEmpty (take k (replicate n empty_delta))
all_copies zero zero = tt
all_copies zero (suc k) = tt
all_copies (suc n) zero = tt
all_copies (suc n) (suc k) = (refl, all_copies n k)

pub base_is_empty : (o : Option ℕ) → AllByRecursion IsEmpty (base_deltas (option_map empty_base o))
base_is_empty None = tt
base_is_empty (Some to) = (refl, tt)

pub new_deltas : (c : Catalog) (name : List ℕ) (s : Columns) → AllByRecursion IsEmpty (deltas_of (new_meta c name s))
new_deltas c name s = all_append IsEmpty (base_deltas (new_meta c name s).base) (replicate (c.next - c.floor) empty_delta) (base_is_empty (base_before c.floor)) (all_replicate IsEmpty empty_delta (c.next - c.floor) refl)

none_live : (P : LiveFile → Type 0) (l : Lineage) (d : Delta) → IsEmpty d → AllByRecursion P (delta_live l d)
none_live P l d is = subst (λ (files : Option Files). AllByRecursion P (delta_live l (record d { files = files }))) (sym is) tt

none_grouped : (rows : Rows) (l : Lineage) (d : Delta) → IsEmpty d → AreGrouped rows l d
none_grouped rows l d is = subst (λ (files : Option Files). AreGrouped rows l (record d { files = files })) (sym is) tt

-- ---- what is kept

nothing_yet : (rows : Rows) (t : TableMeta) (from n : ℕ) → ((v : ℕ) → content rows t v ≡ []) → map (content rows t) (range_with_len from n) ≡ replicate n []
nothing_yet rows t from zero none = refl
nothing_yet rows t from (suc n) none = λ i. none from i ∷ nothing_yet rows t (from + 1) n none i

pub same_ends : (o : Option ℕ) → option_map end_in (option_map empty_base o) ≡ o
same_ends None = refl
same_ends (Some to) = refl

pub table_moves : (rows : Rows) (c : Catalog) (name : List ℕ) (keys : List KeyColumn) (values : List ValueColumn)
    → kept_of rows (applied c (record_of.Table name keys values)) ≡ kept_made (kept_of rows c) name (record { keys = keys; values = values })
unfolding kept_of
table_moves rows c name keys values =
    let s : Columns = record { keys = keys; values = values } in
    let t = new_meta c name s in
    let none = λ (v : ℕ). folds_nothing (aggs_of s) (map (present rows t.lineage) (deltas_to t v))
    (no_rows rows t.lineage (deltas_to t v) (all_append IsEmpty (base_deltas t.base) _ (base_is_empty (base_before c.floor)) (all_copies (c.next - c.floor) (v + 1 - start_in t)))) in
    let contents = nothing_yet rows t c.floor (c.next - c.floor) none in
    λ i. record {
      store = record {
        tables = (map-append (table_of rows c.next) c.tables (t ∷ []) ∙ (λ j. map (table_of rows c.next) c.tables ++ record { name = name; lineage = t.lineage; totals = t.totals; oldest = c.floor; contents = contents j } ∷ [])) i;
        floor = c.floor;
      };
      next = c.next;
      ranges = (map-append ranges_of c.tables (t ∷ []) ∙ (λ j. map ranges_of c.tables ++ record { base_to = same_ends (base_before c.floor) j; cumulatives = [] } ∷ [])) i;
    }

-- ---- what holds of its rows

zeros : (places : List ℕ) → AreAtMost (map (λ c. abs_total c []) places) (replicate (length places) 0)
zeros [] = tt
zeros (c ∷ places) = (omega arith, zeros places)

new_sound_rows : (rows : Rows) (c : Catalog) (name : List ℕ) (s : Columns) → HasSoundRows rows (new_meta c name s)
new_sound_rows rows c name s =
    let t = new_meta c name s in
    record {
      files = all_flat (IsTold rows) (delta_live t.lineage) (deltas_of t) (all_so IsEmpty (λ d. AllByRecursion (IsTold rows) (delta_live t.lineage d)) (deltas_of t) (none_live (IsTold rows) t.lineage) (new_deltas c name s));
      merged = tt;
      grouped = all_so IsEmpty (AreGrouped rows t.lineage) (deltas_of t) (none_grouped rows t.lineage) (new_deltas c name s);
      totals = all_replicate (IsTotalled rows t.lineage) empty_delta (c.next - c.floor) tt;
      bound = subst (λ rs. AreAtMost (abs_totals s rs) t.totals) (sym (no_rows rows t.lineage (deltas_of t) (new_deltas c name s))) (zeros (sum_places 0 (aggs_of s)));
    }

pub table_sound_rows : (rows : Rows) (c : Catalog) (name : List ℕ) (keys : List KeyColumn) (values : List ValueColumn) → HaveSoundRows rows c → HaveSoundRows rows (applied c (record_of.Table name keys values))
table_sound_rows rows c name keys values is = all_append (HasSoundRows rows) c.tables _ is (new_sound_rows rows c name (record { keys = keys; values = values }), tt)

-- ---- the files that are named

pub named_table : (P : LiveFile → Type 0) (c : Catalog) (name : List ℕ) (keys : List KeyColumn) (values : List ValueColumn) → AllByRecursion P (live_files c) → AllByRecursion P (live_files (applied c (record_of.Table name keys values)))
named_table P c name keys values all =
    let s : Columns = record { keys = keys; values = values } in
    let t = new_meta c name s in
    let none = all_flat P (delta_live t.lineage) (deltas_of t) (all_so IsEmpty (λ d. AllByRecursion P (delta_live t.lineage d)) (deltas_of t) (none_live P t.lineage) (new_deltas c name s)) in
    all_flat P meta_live (c.tables ++ t ∷ []) (all_append (λ u. AllByRecursion P (meta_live u)) c.tables (t ∷ []) (all_unflat P meta_live c.tables all) (none, tt))
