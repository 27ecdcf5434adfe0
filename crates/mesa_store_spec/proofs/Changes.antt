-- A change of a table's columns: what is kept is lifted, files stay under their columns, and rows stay as sound.
use Rattle.std.proofs.Common.{◌≡◌, ℕ, zero, suc, ◌+◌, ◌-◌, ◌<◌, ◌≤◌, List, [], ◌∷◌, ◌++◌, map, length, take, flat_map, Option, Some, None, is_ok, true, refl, sym, ◌∙◌, ap, subst, arith, slice_get, slice_set}
use Rattle.std.proofs.lemmas.List.{take-append-le, map-append, map-set}
use Rattle.std.specs.Prelude.{IfSome}
use Rattle.std.specs.List.{AllByRecursion, range_with_len}
use Rattle.mesa_history_spec.specs.mesa_columns.declared.rows.Row.{Row}
use Rattle.mesa_history_spec.specs.mesa_columns.declared.views.View.{View}
use Rattle.mesa_history_spec.specs.mesa_columns.declared.changes.Change.{Change}
use Rattle.mesa_history_spec.specs.mesa_columns.Changes.{columns_after, lifted_once}
use Rattle.mesa_history_spec.specs.mesa_schema.Changes.{Lineage, change_checked, columns_at, columns_of, epoch_of, rule_checked, with_change}
use Rattle.mesa_history_spec.specs.mesa_schema.Views.{view_columns, view_rows}
use Rattle.mesa_history_spec.specs.mesa_schema.Lineages.{HasDefault}
use Rattle.mesa_history_spec.specs.mesa_schema.Laws.{Outlives}
use Rattle.mesa_history_spec.specs.mesa_columns.Rows.{AreRowsOf}
use Rattle.mesa_history_spec.specs.mesa_fold.Folded.{rows_of}
use Rattle.mesa_history_spec.proofs.mesa_columns.Lists.{all_both, all_got, all_set, all_so}
use Rattle.mesa_history_spec.proofs.mesa_schema.Passing.{passed_first}
use Rattle.mesa_history_spec.proofs.mesa_schema.PresentRows.{columns_more}
use Rattle.mesa_history_spec.proofs.mesa_schema.ViewChanges.{views_outlive}
use Rattle.mesa_history_spec.specs.mesa_batch.Totals.{AreAtMost, abs_totals, totals_after}
use Rattle.mesa_history_spec.proofs.mesa_batch.LastTotals.{totals_last}
use Rattle.mesa_history_spec.specs.mesa_model.Tables.{table_changed}
use Rattle.mesa_record.specs.declared.record.Files.{Files}
use Rattle.mesa_record.specs.declared.record.ViewRef.{ViewRef}
use Rattle.mesa_record.specs.declared.record.Record.TheVariants as record_of
use Rattle.mesa_record.specs.mesa_record_fields.Rules.{IsTypedChange}
use Rattle.mesa_store_spec.specs.Catalog.{Delta, Ending, TableMeta, Catalog, applied, ranges_of, start_in, meta_at, meta_changed}
use Rattle.mesa_store_spec.specs.Fitting.{alter_fits, base_deltas, columns_seen, delta_in, delta_live, deltas_of, is_there, live_files, meta_live, view_live}
use Rattle.mesa_store_spec.specs.Contents.{Rows, content, kept_of, present, rows_in, table_of}
use Rattle.mesa_store_spec.specs.Sound.{AreGrouped, HaveSoundRows, IsGrouped, IsGroupedAs, IsMerged, HasSoundRows, IsTold, IsTotalled}
use Rattle.mesa_store_spec.specs.Shape.{IsCatalog, IsShaped}
use Rattle.mesa_store_spec.specs.Moves.{kept_altered}
use Rattle.mesa_store_spec.proofs.Lists.{all_back, all_front, all_take, all_unflat, all_unmap, both_true, is_less, meta_found}
use Rattle.mesa_store_spec.proofs.Formed.{AreOfEpochs, all_formed, rows_formed, up_to, without_merged}
use Rattle.mesa_store_spec.proofs.Altered.{content_altered, present_more, replaces_altered}
use Rattle.mesa_store_spec.proofs.Defaults.{default_read}
use Rattle.mesa_store_spec.proofs.Views.{ranges_same, set_live, meta_table}

-- ---- files stay under their columns

module _ (l : Lineage) (c : Change) (last : AllByRecursion (Outlives (columns_of l) c) l.views) where
  seen : (o : Option View) → ((view : View) → o ≡ Some view → Outlives (columns_of l) c view) → columns_seen (columns_of (with_change l c)) o ≡ columns_seen (columns_of l) o
  seen None f = refl
  seen (Some view) f = ap (λ s. view_columns s view) (columns_more l c) ∙ (f view refl).columns

  same_view : (v : ViewRef) → view_live (with_change l c) v ≡ view_live l v
  same_view v = ap (λ columns. record { columns = columns; file = v.file }) (seen (slice_get l.views v.view) (λ view at. all_got (Outlives (columns_of l) c) l.views v.view view at last))

  same_views : (vs : List ViewRef) → map (view_live (with_change l c)) vs ≡ map (view_live l) vs
  same_views [] = refl
  same_views (v ∷ vs) = λ i. same_view v i ∷ same_views vs i

  same_delta : (d : Delta) → d.epoch ≤ epoch_of l → delta_live (with_change l c) d ≡ delta_live l d
  same_delta d le = by d.files d.epoch d.totals le
    where
      by : (files : Option Files) (epoch : ℕ) (totals : Option (List ℕ)) → epoch ≤ epoch_of l
          → delta_live (with_change l c) (record { epoch = epoch; files = files; totals = totals }) ≡ delta_live l (record { epoch = epoch; files = files; totals = totals })
      by None epoch totals le = refl
      by (Some f) epoch totals le = λ i. record { columns = columns_after l.first (take-append-le (epoch - l.begins) l.changes (c ∷ []) (omega (arith, le)) i); file = f.file } ∷ same_views f.views i

  same_deltas : (ds : List Delta) → AreOfEpochs (epoch_of l) ds → flat_map (delta_live (with_change l c)) ds ≡ flat_map (delta_live l) ds
  same_deltas [] all = refl
  same_deltas (d ∷ ds) all = λ i. same_delta d all.0 i ++ same_deltas ds all.1 i

changed_live : (floor next : ℕ) (t : TableMeta) (c : Change) → IsShaped floor next t → is_ok (rule_checked t.lineage c) ≡ true → meta_live (meta_changed t c) ≡ meta_live t
changed_live floor next t c is rule = same_deltas t.lineage c (views_outlive t.lineage c rule is.lineage.views) (deltas_of t) is.epochs

-- ---- contents are lifted

changed_contents : (rows : Rows) (t : TableMeta) (ch : Change) (from n : ℕ) → ((v : ℕ) → content rows (meta_changed t ch) v ≡ map (lifted_once (columns_of t.lineage) ch) (content rows t v))
    → map (content rows (meta_changed t ch)) (range_with_len from n) ≡ map (map (lifted_once (columns_of t.lineage) ch)) (map (content rows t) (range_with_len from n))
changed_contents rows t ch from zero same = refl
changed_contents rows t ch from (suc n) same = λ i. same from i ∷ changed_contents rows t ch (from + 1) n same i

-- A sound table after a change stands for the changed one.
changed_table : (rows : Rows) (floor next : ℕ) (t : TableMeta) (ch : Change) → IsShaped floor next t → HasSoundRows rows t → HasDefault ch
    → table_of rows next (meta_changed t ch) ≡ table_changed (table_of rows next t) ch
changed_table rows floor next t ch shaped sound_rows default =
    let told = all_unflat (IsTold rows) (delta_live t.lineage) (deltas_of t) sound_rows.files in
    let formed = λ (v : ℕ). up_to (λ (d : Delta). AreRowsOf (columns_of t.lineage) (present rows t.lineage d)) t v (all_formed rows t.lineage (deltas_of t) shaped.lineage told) in
    let epochs = λ (v : ℕ). up_to (λ (d : Delta). d.epoch ≤ epoch_of t.lineage) t v shaped.epochs in
    let contents = changed_contents rows t ch t.oldest (next - t.oldest) (λ v. content_altered rows t ch v default (epochs v) (formed v)) in
    λ i. record { name = t.name; lineage = with_change t.lineage ch; totals = totals_after (columns_of t.lineage) ch t.totals; oldest = t.oldest; contents = contents i }

-- ---- rows stay as sound

map-rows : (f : Row → Row) (xs ys : List Row) → map f xs ++ map f ys ≡ map f (xs ++ ys)
map-rows f xs ys = sym (map-append f xs ys)

rows_more : (rows : Rows) (l : Lineage) (c : Change) (ds : List Delta) → AreOfEpochs (epoch_of l) ds → rows_of (map (present rows (with_change l c)) ds) ≡ map (lifted_once (columns_of l) c) (rows_of (map (present rows l) ds))
rows_more rows l c [] all = refl
rows_more rows l c (d ∷ ds) all = (λ i. present_more rows l c d all.0 i ++ rows_more rows l c ds all.1 i) ∙ map-rows (lifted_once (columns_of l) c) (present rows l d) (rows_of (map (present rows l) ds))

module _ (rows : Rows) (l : Lineage) (c : Change) (last : AllByRecursion (Outlives (columns_of l) c) l.views) where
  view_still : (d : Delta) (v : ViewRef) → d.epoch ≤ epoch_of l → AreRowsOf (columns_of l) (present rows l d) → IsGrouped rows l d v → IsGrouped rows (with_change l c) d v
  view_still d v le formed is = by (slice_get l.views v.view) refl is
    where
      by : (o : Option View) → slice_get l.views v.view ≡ o → IsGroupedAs rows l d o v → IsGroupedAs rows (with_change l c) d o v
      by None at is = is
      by (Some view) at is =
          is ∙ sym ((all_got (Outlives (columns_of l) c) l.views v.view view at last).rows (present rows l d) formed)
          ∙ (λ i. view_rows (sym (columns_more l c) i) view (sym (present_more rows l c d le) i))

  delta_still : (d : Delta) → d.epoch ≤ epoch_of l → AreRowsOf (columns_of l) (present rows l d) → AreGrouped rows l d → AreGrouped rows (with_change l c) d
  delta_still d le formed is = by d.files d.epoch d.totals le formed is
    where
      by : (files : Option Files) (epoch : ℕ) (totals : Option (List ℕ)) → epoch ≤ epoch_of l → AreRowsOf (columns_of l) (present rows l (record { epoch = epoch; files = files; totals = totals }))
          → AreGrouped rows l (record { epoch = epoch; files = files; totals = totals }) → AreGrouped rows (with_change l c) (record { epoch = epoch; files = files; totals = totals })
      by None epoch totals le formed is = tt
      by (Some f) epoch totals le formed is =
          let d : Delta = record { epoch = epoch; files = Some f; totals = totals } in
          all_so (IsGrouped rows l d) (IsGrouped rows (with_change l c) d) f.views (λ v g. view_still d v le formed g) is

totalled_still : (rows : Rows) (l : Lineage) (c : Change) (d : Delta) → d.epoch ≤ epoch_of l → IsTotalled rows l d → IsTotalled rows (with_change l c) d
totalled_still rows l c d le is = by d.totals is
  where
    by : (o : Option (List ℕ)) → IfSome o (λ totals. totals ≡ abs_totals (columns_at l d.epoch) (rows_in rows d)) → IfSome o (λ totals. totals ≡ abs_totals (columns_at (with_change l c) d.epoch) (rows_in rows d))
    by None is = is
    by (Some totals) is = is ∙ ap (λ changes. abs_totals (columns_after l.first changes) (rows_in rows d)) (sym (take-append-le (d.epoch - l.begins) l.changes (c ∷ []) (omega (arith, le))))

module _ (rows : Rows) (floor next : ℕ) (t : TableMeta) (c : Change) (shaped : IsShaped floor next t) (is : HasSoundRows rows t) (default : HasDefault c) (rule : is_ok (rule_checked t.lineage c) ≡ true) where
  abbrev l : Lineage
  l = t.lineage

  -- of an epoch that the table had
  abbrev E : Delta → Type 0
  E d = d.epoch ≤ epoch_of t.lineage

  -- of the present form
  abbrev F : Delta → Type 0
  F d = AreRowsOf (columns_of t.lineage) (present rows t.lineage d)

  outlive : AllByRecursion (Outlives (columns_of t.lineage) c) t.lineage.views
  outlive = views_outlive t.lineage c rule shaped.lineage.views

  formed : AllByRecursion F (deltas_of t)
  formed = all_formed rows t.lineage (deltas_of t) shaped.lineage (all_unflat (IsTold rows) (delta_live t.lineage) (deltas_of t) is.files)

  merged_part : (P : Delta → Type 0) → AllByRecursion P (deltas_of t) → AllByRecursion P (map delta_in t.cumulatives)
  merged_part P all = all_front P (map delta_in t.cumulatives) t.singles (all_back P (base_deltas t.base) (map delta_in t.cumulatives ++ t.singles) all)

  single_part : (P : Delta → Type 0) → AllByRecursion P (deltas_of t) → AllByRecursion P t.singles
  single_part P all = all_back P (map delta_in t.cumulatives) t.singles (all_back P (base_deltas t.base) (map delta_in t.cumulatives ++ t.singles) all)

  still_merged : (e : Ending) → e.delta.epoch ≤ epoch_of t.lineage → IsMerged rows t e → IsMerged rows (meta_changed t c) e
  still_merged e le m =
      let n = e.to + 1 - start_in t in
      replaces_altered rows t.lineage c e.delta (take n t.singles) default le (all_take E n t.singles (single_part E shaped.epochs)) (all_take F n t.singles (single_part F formed)) m

  still_bound : AreAtMost (abs_totals (columns_of (with_change t.lineage c)) (rows_of (map (present rows (with_change t.lineage c)) (base_deltas t.base ++ t.singles)))) (totals_after (columns_of t.lineage) c t.totals)
  still_bound =
      let parts = base_deltas t.base ++ t.singles in
      let forms = rows_formed rows l parts (without_merged F t formed) in
      subst (λ xs. AreAtMost xs (totals_after (columns_of l) c t.totals)) (λ i. abs_totals (sym (columns_more l c) i) (sym (rows_more rows l c parts (without_merged E t shaped.epochs)) i))
      (totals_last (columns_of l) c (rows_of (map (present rows l) parts)) t.totals default forms is.bound)

  altered_sound_rows : HasSoundRows rows (meta_changed t c)
  altered_sound_rows = record {
    files = subst (AllByRecursion (IsTold rows)) (sym (changed_live floor next t c shaped rule)) is.files;
    merged = all_both (λ (e : Ending). E (delta_in e)) (IsMerged rows t) (IsMerged rows (meta_changed t c)) t.cumulatives still_merged (all_unmap E delta_in t.cumulatives (merged_part E shaped.epochs)) is.merged;
    grouped = all_both (λ (d : Delta). E d × F d) (AreGrouped rows l) (AreGrouped rows (with_change l c)) (deltas_of t) (λ d both g. delta_still rows l c outlive d both.0 both.1 g)
        (all_both E F (λ d. E d × F d) (deltas_of t) (λ d e f. (e, f)) shaped.epochs formed) is.grouped;
    totals = all_both E (IsTotalled rows l) (IsTotalled rows (with_change l c)) t.singles (λ d le m. totalled_still rows l c d le m) (single_part E shaped.epochs) is.totals;
    bound = still_bound;
  }

-- ---- on a whole catalogue

module _ (c : Catalog) (table : ℕ) (change : Change) (is : IsCatalog c) (fit : alter_fits c table change ≡ true) where
  both : (is_there c table ≡ true) × (is_ok (change_checked (meta_at c table).lineage change) ≡ true)
  both = both_true (is_there c table) (is_ok (change_checked (meta_at c table).lineage change)) fit

  pub there : table < length c.tables
  there = is_less table (length c.tables) both.0

  pub rule : is_ok (rule_checked (meta_at c table).lineage change) ≡ true
  rule = (passed_first (rule_checked (meta_at c table).lineage change) _ both.1).0

  shape : IsShaped c.floor c.next (meta_at c table)
  shape = meta_found (IsShaped c.floor c.next) c.tables table there is.tables

  -- A change leaves the files that are named, and their columns.
  pub alter_catalog_tables : live_files (applied c (record_of.Alter table change)) ≡ live_files c
  alter_catalog_tables = set_live c.tables table (meta_changed (meta_at c table) change) (changed_live c.floor c.next (meta_at c table) change shape rule)

  module _ (rows : Rows) (sound_rows : HaveSoundRows rows c) (typed : IsTypedChange change) where
    sound : HasSoundRows rows (meta_at c table)
    sound = meta_found (HasSoundRows rows) c.tables table there sound_rows

    default : HasDefault change
    default = default_read (meta_at c table).lineage change typed rule

    pub alter_moves : kept_of rows (applied c (record_of.Alter table change)) ≡ kept_altered (kept_of rows c) table change
    unfolding kept_of
    alter_moves =
        let table_is = table_of rows c.next in
        let u = meta_changed (meta_at c table) change in
        let one = changed_table rows c.floor c.next (meta_at c table) change shape sound default in
        let tables = map-set table_is c.tables table u ∙ ap (slice_set (map table_is c.tables) table) (one ∙ ap (λ t. table_changed t change) (sym (meta_table rows c table there))) in
        λ i. record {
          store = record { tables = tables i; floor = c.floor };
          next = c.next;
          ranges = (map-set ranges_of c.tables table u ∙ ranges_same c table) i;
        }

    pub alter_sound_rows : HaveSoundRows rows (applied c (record_of.Alter table change))
    alter_sound_rows = all_set (HasSoundRows rows) c.tables table (meta_changed (meta_at c table) change) (altered_sound_rows rows c.floor c.next (meta_at c table) change shape sound default rule) sound_rows
