-- A view that is made of a table: what is kept has it too, and files stay under their columns.
use Rattle.std.proofs.Common.{◌≡◌, ℕ, zero, suc, ◌<◌, ◌≤◌, List, [], ◌∷◌, ◌++◌, map, length, flat_map, Option, Some, None, refl, sym, ◌∙◌, ap, subst, slice_get, slice_index_or, slice_set, arith}
use Rattle.std.proofs.lemmas.List.{map-set}
use Rattle.std.specs.List.{AllByRecursion}
use Rattle.mesa_history_spec.specs.mesa_columns.declared.views.View.{View}
use Rattle.mesa_history_spec.specs.mesa_schema.Changes.{Lineage, columns_at, columns_of}
use Rattle.mesa_history_spec.specs.mesa_schema.Views.{with_view}
use Rattle.mesa_history_spec.proofs.mesa_columns.Lists.{all_set, all_so, map_at}
use Rattle.mesa_history_spec.specs.mesa_model.Warehouse.{no_table, table_at}
use Rattle.mesa_record.specs.declared.record.Files.{Files}
use Rattle.mesa_record.specs.declared.record.ViewRef.{ViewRef}
use Rattle.mesa_record.specs.declared.record.Record.TheVariants as record_of
use Rattle.mesa_store_spec.specs.Catalog.{Delta, TableMeta, Catalog, applied, no_meta, ranges_of, meta_at, meta_viewed}
use Rattle.mesa_store_spec.specs.Fitting.{columns_seen, delta_live, deltas_of, live_files, meta_live, view_live}
use Rattle.mesa_store_spec.specs.Contents.{Rows, kept_of, table_of}
use Rattle.mesa_store_spec.specs.Sound.{AreGrouped, HaveSoundRows, IsGrouped, IsGroupedAs, HasSoundRows, IsTold}
use Rattle.mesa_store_spec.specs.Moves.{kept_viewed, table_viewed}
use Rattle.mesa_store_spec.proofs.Lists.{meta_found}
use Rattle.mesa_store_spec.proofs.Kept.{set_same}

got_more : (views : List View) (w : View) (n : ℕ) (view : View) → slice_get views n ≡ Some view → slice_get (views ++ w ∷ []) n ≡ Some view
got_more [] w n view e = cc
got_more (v ∷ views) w zero view e = e
got_more (v ∷ views) w (suc n) view e = got_more views w n view e

-- a view that a file is of is there, and stays
still_there : (rows : Rows) (l : Lineage) (d : Delta) (v : ViewRef) (w : View) (o : Option View) → slice_get l.views v.view ≡ o → IsGroupedAs rows l d o v → slice_get (l.views ++ w ∷ []) v.view ≡ slice_get l.views v.view
still_there rows l d v w None e is = absurd is
still_there rows l d v w (Some view) e is = got_more l.views w v.view view e ∙ sym e

module _ (rows : Rows) (l : Lineage) (w : View) where
  abbrev m : Lineage
  m = with_view l w

  same_view : (d : Delta) (v : ViewRef) → IsGrouped rows l d v → view_live (with_view l w) v ≡ view_live l v
  same_view d v is = ap (λ o. record { columns = columns_seen (columns_of l) o; file = v.file }) (still_there rows l d v w (slice_get l.views v.view) refl is)

  same_views : (d : Delta) (vs : List ViewRef) → AllByRecursion (IsGrouped rows l d) vs → map (view_live (with_view l w)) vs ≡ map (view_live l) vs
  same_views d [] all = refl
  same_views d (v ∷ vs) all = λ i. same_view d v all.0 i ∷ same_views d vs all.1 i

  same_delta : (d : Delta) → AreGrouped rows l d → delta_live (with_view l w) d ≡ delta_live l d
  same_delta d is = by d.files d.epoch d.totals is
    where
      by : (files : Option Files) (epoch : ℕ) (totals : Option (List ℕ)) → AreGrouped rows l (record { epoch = epoch; files = files; totals = totals })
          → delta_live (with_view l w) (record { epoch = epoch; files = files; totals = totals }) ≡ delta_live l (record { epoch = epoch; files = files; totals = totals })
      by None epoch totals is = refl
      by (Some f) epoch totals is = ap (λ xs. record { columns = columns_at l epoch; file = f.file } ∷ xs) (same_views (record { epoch = epoch; files = Some f; totals = totals }) f.views is)

  pub same_live_files : (ds : List Delta) → AllByRecursion (AreGrouped rows l) ds → flat_map (delta_live (with_view l w)) ds ≡ flat_map (delta_live l) ds
  same_live_files [] all = refl
  same_live_files (d ∷ ds) all = λ i. same_delta d all.0 i ++ same_live_files ds all.1 i

  grouped_still : (d : Delta) (v : ViewRef) → IsGrouped rows l d v → IsGrouped rows (with_view l w) d v
  grouped_still d v is = subst (λ o. IsGroupedAs rows l d o v) (sym (still_there rows l d v w (slice_get l.views v.view) refl is)) is

  delta_still : (d : Delta) → AreGrouped rows l d → AreGrouped rows (with_view l w) d
  delta_still d is = by d.files d.epoch d.totals is
    where
      by : (files : Option Files) (epoch : ℕ) (totals : Option (List ℕ)) → AreGrouped rows l (record { epoch = epoch; files = files; totals = totals }) → AreGrouped rows (with_view l w) (record { epoch = epoch; files = files; totals = totals })
      by None epoch totals is = tt
      by (Some f) epoch totals is = all_so (IsGrouped rows l (record { epoch = epoch; files = Some f; totals = totals })) (IsGrouped rows (with_view l w) (record { epoch = epoch; files = Some f; totals = totals })) f.views (grouped_still (record { epoch = epoch; files = Some f; totals = totals })) is

pub viewed_sound_rows : (rows : Rows) (t : TableMeta) (name : List ℕ) (keys values : List (List ℕ)) → HasSoundRows rows t → HasSoundRows rows (meta_viewed t name keys values)
viewed_sound_rows rows t name keys values is =
    let w : View = record { name = name; keys = keys; values = values } in
    record {
      files = subst (AllByRecursion (IsTold rows)) (sym (same_live_files rows t.lineage w (deltas_of t) is.grouped)) is.files;
      merged = is.merged;
      grouped = all_so (AreGrouped rows t.lineage) (AreGrouped rows (with_view t.lineage w)) (deltas_of t) (delta_still rows t.lineage w) is.grouped;
      totals = is.totals;
      bound = is.bound;
    }

-- ---- on a whole catalogue

-- A table of other columns and views leaves the ranges.
pub ranges_same : (c : Catalog) (table : ℕ) → slice_set (map ranges_of c.tables) table (ranges_of (meta_at c table)) ≡ map ranges_of c.tables
ranges_same c table = ap (slice_set (map ranges_of c.tables) table) (sym (map_at ranges_of c.tables table no_meta)) ∙ set_same (map ranges_of c.tables) table (ranges_of no_meta)

-- an element of a mapped list, where it is there
pub map_within : {A B : Type 0} (f : A → B) (xs : List A) (n : ℕ) (none : B) (d : A) → n < length xs → slice_index_or (map f xs) n none ≡ f (slice_index_or xs n d)
map_within f [] n none d lt = absurd (omega (arith, lt))
map_within f (x ∷ xs) zero none d lt = refl
map_within f (x ∷ xs) (suc n) none d lt = map_within f xs n none d (omega (arith, lt))

-- the table of a number, as it is kept
pub meta_table : (rows : Rows) (c : Catalog) (table : ℕ) → table < length c.tables → slice_index_or (map (table_of rows c.next) c.tables) table no_table ≡ table_of rows c.next (meta_at c table)
meta_table rows c table lt = map_within (table_of rows c.next) c.tables table no_table no_meta lt

-- the same of the store that is kept; past the tables there is none
pub kept_at : (rows : Rows) (c : Catalog) (table : ℕ) → table < length c.tables → table_at (kept_of rows c).store table ≡ table_of rows c.next (meta_at c table)
unfolding kept_of
kept_at rows c table lt = meta_table rows c table lt

pub kept_past : (rows : Rows) (c : Catalog) (table : ℕ) → length c.tables ≤ table → table_at (kept_of rows c).store table ≡ no_table
unfolding kept_of
kept_past rows c table le = past c.tables table le
  where
    past : (tables : List TableMeta) (i : ℕ) → length tables ≤ i → slice_index_or (map (table_of rows c.next) tables) i no_table ≡ no_table
    past [] i le = refl
    past (t ∷ tables) zero le = absurd (omega (arith, le))
    past (t ∷ tables) (suc i) le = past tables i (omega (arith, le))

-- Files under the same columns, where one table's are.
pub set_live : (tables : List TableMeta) (n : ℕ) (t : TableMeta) → meta_live t ≡ meta_live (slice_index_or tables n no_meta) → flat_map meta_live (slice_set tables n t) ≡ flat_map meta_live tables
set_live [] n t same = refl
set_live (x ∷ tables) zero t same = ap (λ xs. xs ++ flat_map meta_live tables) same
set_live (x ∷ tables) (suc n) t same = ap (λ xs. meta_live x ++ xs) (set_live tables n t same)

module _ (rows : Rows) (c : Catalog) (table : ℕ) (name : List ℕ) (keys values : List (List ℕ)) (there : table < length c.tables) where
  abbrev w : View
  w = record { name = name; keys = keys; values = values }

  pub view_moves : kept_of rows (applied c (record_of.View table name keys values)) ≡ kept_viewed (kept_of rows c) table w
  unfolding kept_of
  view_moves =
      let table_is = table_of rows c.next in
      let u = meta_viewed (meta_at c table) name keys values in
      let tables = map-set table_is c.tables table u ∙ ap (λ t. slice_set (map table_is c.tables) table (table_viewed t w)) (sym (meta_table rows c table there)) in
      λ i. record {
        store = record { tables = tables i; floor = c.floor };
        next = c.next;
        ranges = (map-set ranges_of c.tables table u ∙ ranges_same c table) i;
      }

  pub view_sound_rows : HaveSoundRows rows c → HaveSoundRows rows (applied c (record_of.View table name keys values))
  view_sound_rows is = all_set (HasSoundRows rows) c.tables table (meta_viewed (meta_at c table) name keys values) (viewed_sound_rows rows (meta_at c table) name keys values (meta_found (HasSoundRows rows) c.tables table there is)) is

  pub view_catalog_tables : HaveSoundRows rows c → live_files (applied c (record_of.View table name keys values)) ≡ live_files c
  view_catalog_tables is =
      let t = meta_at c table in
      set_live c.tables table (meta_viewed t name keys values) (same_live_files rows t.lineage w (deltas_of t) (meta_found (HasSoundRows rows) c.tables table there is).grouped)
