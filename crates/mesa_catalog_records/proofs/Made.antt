-- The pieces of records.
use Rattle.std.proofs.Common.{◌≡◌, ℕ, zero, suc, ◌+◌, ◌-◌, ◌≤◌, ◌<◌, List, [], ◌∷◌, ◌++◌, length, map, refl, sym, ◌∙◌, ap, subst, arith, true, false, cond}
use Rattle.std.specs.Prelude.{◌==◌, replicate, Option, Some, None, option_map}
use Rattle.std.specs.List.{range_with_len}
use Rattle.std.proofs.lemmas.Bool.Decides.{nat_tests}
use Rattle.std.proofs.lemmas.List.{length_push, take_all, take-append-le}
use Rattle.std.proofs.lemmas.List.FromFn.{map-range_with_len_more}
use Rattle.mesa_table_records.specs.mesa_columns.declared.changes.Change.{Change}
use Rattle.mesa_table_records.specs.mesa_columns.declared.changes.Change.TheVariants.{DropValue}
use Rattle.mesa_table_records.specs.mesa_columns.declared.views.View.{View}
use Rattle.mesa_table_records.specs.mesa_columns.Columns.{aggs_of}
use Rattle.mesa_table_records.specs.mesa_columns.Changes.{columns_after}
use Rattle.mesa_schema.specs.Changes.{Lineage, columns_at, columns_of, epoch_of, with_change}
use Rattle.mesa_schema.specs.Views.{with_view}
use Rattle.mesa_table_records.specs.mesa_batch.Totals.{sums_in}
use Rattle.mesa_table_records.specs.mesa_span.Ranges.{base_before, start_behind}
use Rattle.mesa_table_records.specs.mesa_record.declared.record.Record.TheVariants as record_of
use Rattle.mesa_table_records.specs.mesa_store_spec.Catalog.{Catalog, empty_base, end_in, new_meta, meta_at}
use Rattle.mesa_table_records.specs.mesa_store_spec.Fitting.{alter_fits, is_there, view_fits}
use Rattle.mesa_catalog_records.specs.declared.catalog_tables.CatalogTables.{CatalogTables}
use Rattle.mesa_table_records.specs.mesa_catalog_table.declared.table.Base.{Base}
use Rattle.mesa_table_records.specs.mesa_catalog_table.declared.table.Table.{Table}
use Rattle.mesa_table_records.specs.mesa_catalog_table.Meaning.{AreLoaded, IsTable, ending_of, singles_from, start_of_base, meta_of, tens_from, widths_of}
use Rattle.mesa_catalog_records.specs.Meaning.{AreCatalogTables, catalogue_of}
use Rattle.mesa_catalog_records.specs.Readied.{last_change, last_or, last_view}
use Rattle.mesa_table_records.proofs.mesa_catalog_table.Tens.{base_ends}
use Rattle.mesa_table_records.proofs.mesa_catalog_table.Tests.{both}

last_pushed : {X : Type 0} (d : X) (xs : List X) (x : X) → last_or d (xs ++ x ∷ []) ≡ x
last_pushed d [] x = refl
last_pushed d (y ∷ ys) x = last_pushed y ys x

-- ---- views

pub view_last : (e l : Lineage) (v : View) → e ≡ with_view l v → last_view e ≡ v
view_last e l v is = ap last_view is ∙ last_pushed (record { name = []; keys = []; values = [] }) l.views v

pub view_record : (table : ℕ) (e l : Lineage) (v w : View) → e ≡ with_view l v → v ≡ w → record_of.View table (last_view e).name (last_view e).keys (last_view e).values ≡ record_of.View table w.name w.keys w.values
view_record table e l v w is same = let last = view_last e l v is ∙ same in λ i. record_of.View table (last i).name (last i).keys (last i).values

pub view_made : (e l m : Lineage) (v : View) → e ≡ with_view l v → l ≡ m → e ≡ with_view m (last_view e)
view_made e l m v is same = let last = sym (view_last e l v is) in is ∙ (λ i. with_view (same i) (last i))

pub view_there : (c : Catalog) (table : ℕ) (name : List ℕ) (keys values : List (List ℕ)) → view_fits c table name keys values ≡ true → (is_there c table ≡ true) × (length (meta_at c table).lineage.views < 8)
view_there c table name keys values fits =
    let room = both _ _ fits in
    let first = both _ _ (both _ _ room.0).0 in
    let few = room.1 in
    (first.0, grind (arith, nat_tests))

-- ---- changes

pub change_last : (e l : Lineage) (c : Change) → e ≡ with_change l c → last_change e ≡ c
change_last e l c is = ap last_change is ∙ last_pushed (DropValue []) l.changes c

pub change_record : (table : ℕ) (e l : Lineage) (c d : Change) → e ≡ with_change l c → c ≡ d → record_of.Alter table (last_change e) ≡ record_of.Alter table d
change_record table e l c d is same = ap (record_of.Alter table) (change_last e l c is ∙ same)

pub change_made : (e l m : Lineage) (c : Change) → e ≡ with_change l c → l ≡ m → e ≡ with_change m (last_change e)
change_made e l m c is same = let last = sym (change_last e l c is) in is ∙ (λ i. with_change (same i) (last i))

pub change_there : (c : Catalog) (table : ℕ) (change : Change) → alter_fits c table change ≡ true → is_there c table ≡ true
change_there c table change fits = (both _ _ fits).0

-- the columns of earlier epochs stay
columns_stay : (l : Lineage) (c : Change) (epoch : ℕ) → epoch ≤ epoch_of l → columns_at (with_change l c) epoch ≡ columns_at l epoch
columns_stay l c epoch h = ap (columns_after l.first) (take-append-le (epoch - l.begins) l.changes (c ∷ []) (omega (arith, h)))

widths_stay : (l : Lineage) (c : Change) (from n : ℕ) → from + n ≤ epoch_of l + 1
    → map (λ e. length (columns_at (with_change l c) e).values) (range_with_len from n) ≡ map (λ e. length (columns_at l e).values) (range_with_len from n)
widths_stay l c from zero h = refl
widths_stay l c from (suc n) h = (λ i. length (columns_stay l c from (omega arith) i).values ∷ widths_stay l c (from + 1) n (omega arith) i)

pub widths_changed : (l : Lineage) (c : Change) → widths_of (with_change l c) ≡ widths_of l ++ length (columns_of (with_change l c)).values ∷ []
widths_changed l c =
    let more : length (l.changes ++ c ∷ []) ≡ length l.changes + 1 = length_push l.changes c in
    let count : epoch_of (with_change l c) + 1 ≡ epoch_of l + 1 + 1 = omega (arith, more) in
    let now : columns_at (with_change l c) (epoch_of l + 1) ≡ columns_of (with_change l c) = ap (columns_after l.first) (take_all (epoch_of l + 1 - l.begins) (l.changes ++ c ∷ []) (omega (arith, more))) in
    ap (λ n. map (λ e. length (columns_at (with_change l c) e).values) (range_with_len 0 n)) count
    ∙ map-range_with_len_more (λ e. length (columns_at (with_change l c) e).values) 0 (epoch_of l + 1) (epoch_of l + 1) (omega arith)
    ∙ (λ i. widths_stay l c 0 (epoch_of l + 1) (omega arith) i ++ length (now i).values ∷ [])

-- ---- totals

-- a base to the version before the oldest
start_new : (b : Option Base) (oldest : ℕ) → option_map ending_of b ≡ option_map empty_base (base_before oldest) → start_of_base b ≡ oldest
start_new b oldest e =
    ap start_behind (sym (base_ends b)) ∙ ap (λ o. start_behind (option_map end_in o)) e
    ∙ elim (oldest == 0) as (λ t. oldest == 0 ≡ t → start_behind (option_map end_in (option_map empty_base (cond t None (Some (oldest - 1))))) ≡ oldest) [
      | true ↦ λ h. grind (arith, nat_tests)
      | false ↦ λ h. grind (arith, nat_tests)
    ] refl

-- a table without rows
pub record IsNew (s : CatalogTables) (t : Table) : Type 0 where
  pub lineage : t.evolving.value ≡ record { begins = 0; first = t.evolving.value.first; changes = []; views = [] }
  pub oldest : t.oldest ≡ s.floor
  pub totals : t.totals ≡ replicate (sums_in (aggs_of t.evolving.value.first)) 0
  pub base : option_map ending_of t.base ≡ option_map empty_base (base_before s.floor)
  pub cumulatives : t.cumulatives.items ≡ []
  pub loaded : t.loaded.items ≡ []
  pub widths : t.widths ≡ length t.evolving.value.first.values ∷ []

pub new_made : (s : CatalogTables) (t : Table) → AreCatalogTables s → IsNew s t → (meta_of s.next t ≡ new_meta (catalogue_of s) t.name t.evolving.value.first) × IsTable s.next t
new_made s t live_files new =
    let start = start_new t.base s.floor new.base in
    let below : s.floor ≤ s.next = let h = live_files.floor in omega arith in (
      λ i. record {
        name = t.name;
        lineage = new.lineage i;
        totals = new.totals i;
        oldest = new.oldest i;
        base = new.base i;
        cumulatives = tens_from (start i) (new.cumulatives i);
        singles = singles_from (start i) s.next (new.loaded i);
      },
      record {
        tens = let count = ap length new.cumulatives in omega arith;
        loaded = subst (AreLoaded (start_of_base t.base) s.next) (sym new.loaded) tt;
        oldest = let first = live_files.floor in omega (arith, first, new.oldest);
        widths = new.widths ∙ ap widths_of (sym new.lineage);
      },
    )
