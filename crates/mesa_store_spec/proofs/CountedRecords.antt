-- Every record that fits keeps what makes a checkpoint fit.
use Rattle.std.proofs.Common.{◌≡◌, ℕ, zero, suc, ◌+◌, ◌-◌, ◌<◌, ◌≤◌, List, [], ◌∷◌, ◌++◌, map, length, replicate, Bool, true, false, ◌&&◌, ◌==◌, nat_le, nat_lt, is_ok, is_none, Option, Some, None, Result, cond, refl, sym, ◌∙◌, ap, subst, arith, slice_get, slice_index_or, slice_set}
use Rattle.std.proofs.lemmas.List.{take-append-le, take_all, map-append}
use Rattle.std.specs.Prelude.{option_map, IfSome}
use Rattle.std.specs.List.{AllByRecursion, list_all}
use Rattle.mesa_history_spec.specs.mesa_columns.declared.changes.Change.{Change}
use Rattle.mesa_history_spec.specs.mesa_columns.declared.changes.Change.TheVariants.{AddKey, AddValue, DropValue}
use Rattle.mesa_history_spec.specs.mesa_columns.declared.changes.ChangeError.{ChangeError}
use Rattle.mesa_history_spec.specs.mesa_columns.declared.changes.ChangeError.TheVariants as no
use Rattle.mesa_history_spec.specs.mesa_columns.declared.views.View.{View}
use Rattle.mesa_history_spec.specs.mesa_columns.Names.{has_name}
use Rattle.mesa_history_spec.specs.mesa_columns.Columns.{Columns, aggs_of, value_names}
use Rattle.mesa_history_spec.specs.mesa_columns.Changes.{changed, columns_after}
use Rattle.mesa_history_spec.specs.mesa_schema.Changes.{Lineage, change_checked, columns_at, columns_of, epoch_of, refuse_used, rule_checked, with_change}
use Rattle.mesa_history_spec.specs.mesa_schema.Views.{view_columns, with_view}
use Rattle.mesa_history_spec.specs.mesa_schema.Laws.{Outlives}
use Rattle.mesa_history_spec.proofs.mesa_columns.Lists.{all_append, all_drop, all_got, all_map, all_replicate, all_so, all_both}
use Rattle.mesa_history_spec.proofs.mesa_schema.Passing.{passed_first, passed_unless}
use Rattle.mesa_history_spec.proofs.mesa_schema.PresentRows.{columns_more}
use Rattle.mesa_history_spec.proofs.mesa_schema.ViewChanges.{views_outlive}
use Rattle.mesa_history_spec.specs.mesa_batch.Totals.{over_bound, sum_bound, sums_in}
use Rattle.mesa_history_spec.specs.mesa_list.Checks.{◌>>◌, refuse_unless}
use Rattle.mesa_history_spec.specs.mesa_span.Ranges.{base_before}
use Rattle.mesa_history_spec.specs.mesa_file.declared.file_ref.FileRef.{FileRef}
use Rattle.mesa_record.specs.declared.record.Files.{Files}
use Rattle.mesa_record.specs.declared.record.Part.{Part}
use Rattle.mesa_record.specs.declared.record.ViewRef.{ViewRef}
use Rattle.mesa_record.specs.declared.record.Record.{Record}
use Rattle.mesa_record.specs.declared.record.Record.TheVariants as record_of
use Rattle.mesa_store_spec.specs.Catalog.{Delta, TableMeta, Catalog, empty_base, empty_delta, merged_delta, new_meta, no_meta, part_delta, part_of, start_in, meta_at, meta_changed, meta_from, meta_loaded, meta_recast, meta_swapped, meta_viewed, metas_loaded, applied}
use Rattle.mesa_store_spec.specs.Fitting.{base_deltas, counts_columns, counts_view, delta_in, deltas_of, files_fit, files_fit_if_any, fits, has_epoch, is_there, is_view_ref, kind_fits, brings_new_files, max_runs, may_be_work, part_fits, swap_fits}
use Rattle.mesa_store_spec.specs.Shape.{IsCatalog, IsShaped}
use Rattle.mesa_store_spec.proofs.Lists.{all_back, all_front, both_true, is_at_most, is_equal, is_less, meta_found}
use Rattle.mesa_history_spec.specs.mesa_columns.Schema.{is_schema}
use Rattle.mesa_history_spec.specs.mesa_schema.Changes.{max_changes}
use Rattle.mesa_history_spec.specs.mesa_schema.Views.{max_views}
use Rattle.mesa_history_spec.specs.mesa_schema.Lineages.{is_view_of}
use Rattle.mesa_history_spec.specs.mesa_model.Warehouse.{max_tables, max_versions}
use Rattle.mesa_record.specs.declared.checkpoint.CheckpointRange.{CheckpointRange}
use Rattle.mesa_record.specs.declared.checkpoint.CheckpointSingle.{CheckpointSingle}
use Rattle.mesa_record.specs.declared.checkpoint.CheckpointTable.{CheckpointTable}
use Rattle.mesa_record.specs.declared.checkpoint.Checkpoint.{Checkpoint}
use Rattle.mesa_store_spec.specs.Checkpoint.{lineage_stated, range_stated, single_stated, singles_stated, start_stated, meta_stated, stated}
use Rattle.mesa_store_spec.specs.CheckpointFits.{plain, changes_pass, lineage_fits, delta_fits, range_fits, base_fits, are_tens, are_singles, single_fits, totals_fit, ranges_fit, singles_fit, starts_fit, table_fits, names_differ, ids_fit, oldest_fits, counts_fit, tables_fit}
use Rattle.mesa_store_spec.specs.Countable.{CountsFiles, CountsTotals, IsCounted, AreCounted}
use Rattle.mesa_store_spec.proofs.ShapedRecasts.{recast_counted, recast_its, recast_shape}

two_true : (a b : Bool) → a ≡ true → b ≡ true → (a && b) ≡ true
two_true true b e f = f
two_true false b e f = absurd (let g : false ≡ true = e in cc)

-- ---- columns

-- a change that is allowed beside views is allowed without them
alone : (l : Lineage) (c : Change) → is_ok (rule_checked l c) ≡ true → is_ok (rule_checked (plain (columns_of l)) c) ≡ true
alone l (AddValue column default) e = e
alone l (AddKey column default) e = e
alone l (DropValue name) e =
    let first = passed_unless (has_name name (value_names (columns_of l))) no.NoColumn _ e in
    let last = (passed_first (refuse_used _) _ first.1).1 in
    unless_ok (has_name name (value_names (columns_of l))) _ first.0 last
  where
    unless_ok : (b : Bool) (rest : Result (Unit {0}) ChangeError) → b ≡ true → is_ok rest ≡ true → is_ok (refuse_unless b no.NoColumn >> rest) ≡ true
    unless_ok true rest e f = f
    unless_ok false rest e f = absurd (let g : false ≡ true = e in cc)

pass_more : (s : Columns) (cs : List Change) (c : Change) → changes_pass s cs ≡ true → is_ok (rule_checked (plain (columns_after s cs)) c) ≡ true → changes_pass s (cs ++ c ∷ []) ≡ true
pass_more s [] c e rule = two_true (is_ok (rule_checked (plain s) c)) true rule refl
pass_more s (d ∷ cs) c e rule =
    let both = both_true (is_ok (rule_checked (plain s) d)) (changes_pass (changed s d) cs) e in
    two_true (is_ok (rule_checked (plain s) d)) (changes_pass (changed s d) (cs ++ c ∷ [])) both.0 (pass_more (changed s d) cs c both.1 rule)

-- ---- files and totals, of a table that changes

module _ (l : Lineage) (c : Change) (last : AllByRecursion (Outlives (columns_of l) c) l.views) where
  seen_same : (o : Option View) (v : ViewRef) → ((view : View) → o ≡ Some view → Outlives (columns_of l) c view) → counts_view (columns_of (with_change l c)) o v.file ≡ counts_view (columns_of l) o v.file
  seen_same None v f = refl
  seen_same (Some view) v f = ap (λ s. counts_columns s v.file) (ap (λ s. view_columns s view) (columns_more l c) ∙ (f view refl).columns)

  views_same : (vs : List ViewRef) → list_all (is_view_ref (with_change l c)) vs ≡ list_all (is_view_ref l) vs
  views_same [] = refl
  views_same (v ∷ vs) = λ i. seen_same (slice_get l.views v.view) v (λ view at. all_got (Outlives (columns_of l) c) l.views v.view view at last) i && views_same vs i

  files_same : (d : Delta) → d.epoch ≤ epoch_of l → CountsFiles l d → CountsFiles (with_change l c) d
  files_same d le is = by d.files is
    where
      by : (o : Option Files) → files_fit_if_any l d.epoch o ≡ true → files_fit_if_any (with_change l c) d.epoch o ≡ true
      by None e = refl
      by (Some f) e = (λ i. counts_columns (columns_after l.first (take-append-le (d.epoch - l.begins) l.changes (c ∷ []) (omega (arith, le)) i)) f.file && views_same f.views i) ∙ e

  totals_same : (d : Delta) → d.epoch ≤ epoch_of l → CountsTotals l d → CountsTotals (with_change l c) d
  totals_same d le is = by d.totals is
    where
      by : (o : Option (List ℕ)) → IfSome o (λ totals. length totals ≡ sums_in (aggs_of (columns_at l d.epoch))) → IfSome o (λ totals. length totals ≡ sums_in (aggs_of (columns_at (with_change l c) d.epoch)))
      by None is = is
      by (Some totals) is = is ∙ ap (λ changes. sums_in (aggs_of (columns_after l.first changes))) (sym (take-append-le (d.epoch - l.begins) l.changes (c ∷ []) (omega (arith, le))))

changed_counted : (oldest next : ℕ) (t : TableMeta) (c : Change) → IsShaped oldest next t → is_ok (rule_checked t.lineage c) ≡ true → IsCounted t → IsCounted (meta_changed t c)
changed_counted oldest next t c shaped rule is =
    let last = views_outlive t.lineage c rule shaped.lineage.views in
    let E = λ (d : Delta). d.epoch ≤ epoch_of t.lineage in
    let epochs = all_back E (map delta_in t.cumulatives) t.singles (all_back E (base_deltas t.base) (map delta_in t.cumulatives ++ t.singles) shaped.epochs) in
    record {
      changes = pass_more t.lineage.first t.lineage.changes c is.changes (alone t.lineage c rule);
      files = all_both E (CountsFiles t.lineage) (CountsFiles (with_change t.lineage c)) (deltas_of t) (files_same t.lineage c last) shaped.epochs is.files;
      totals = all_both E (CountsTotals t.lineage) (CountsTotals (with_change t.lineage c)) t.singles (totals_same t.lineage c last) epochs is.totals;
    }

-- ---- of a table with a view more

got_more : (vs : List View) (w : View) (n : ℕ) (f : FileRef) (s : Columns) → counts_view s (slice_get vs n) f ≡ true → counts_view s (slice_get (vs ++ w ∷ []) n) f ≡ true
got_more [] w n f s e = absurd (let g : false ≡ true = e in cc)
got_more (v ∷ vs) w zero f s e = e
got_more (v ∷ vs) w (suc n) f s e = got_more vs w n f s e

refs_more : (l : Lineage) (w : View) (vs : List ViewRef) → list_all (is_view_ref l) vs ≡ true → list_all (is_view_ref (with_view l w)) vs ≡ true
refs_more l w [] e = refl
refs_more l w (v ∷ vs) e =
    let both = both_true (is_view_ref l v) (list_all (is_view_ref l) vs) e in
    two_true (is_view_ref (with_view l w) v) (list_all (is_view_ref (with_view l w)) vs) (got_more l.views w v.view v.file (columns_of l) both.0) (refs_more l w vs both.1)

files_more : (l : Lineage) (w : View) (d : Delta) → CountsFiles l d → CountsFiles (with_view l w) d
files_more l w d is = by d.files is
  where
    by : (o : Option Files) → files_fit_if_any l d.epoch o ≡ true → files_fit_if_any (with_view l w) d.epoch o ≡ true
    by None e = refl
    by (Some f) e =
        let both = both_true (counts_columns (columns_at l d.epoch) f.file) (list_all (is_view_ref l) f.views) e in
        two_true (counts_columns (columns_at l d.epoch) f.file) (list_all (is_view_ref (with_view l w)) f.views) both.0 (refs_more l w f.views both.1)

viewed_counted : (t : TableMeta) (name : List ℕ) (keys values : List (List ℕ)) → IsCounted t → IsCounted (meta_viewed t name keys values)
viewed_counted t name keys values is =
    let w : View = record { name = name; keys = keys; values = values } in
    record { changes = is.changes; files = all_so (CountsFiles t.lineage) (CountsFiles (with_view t.lineage w)) (deltas_of t) (files_more t.lineage w) is.files; totals = is.totals }

-- ---- of a new table

empty_files : (l : Lineage) (n : ℕ) → AllByRecursion (CountsFiles l) (replicate n empty_delta)
empty_files l n = all_replicate (CountsFiles l) empty_delta n refl

new_counted : (c : Catalog) (name : List ℕ) (s : Columns) → IsCounted (new_meta c name s)
new_counted c name s = record {
  changes = refl;
  files = all_append (CountsFiles (plain s)) (base_deltas (option_map empty_base (base_before c.floor))) _ (base_files (base_before c.floor)) (empty_files (plain s) (c.next - c.floor));
  totals = all_replicate (CountsTotals (plain s)) empty_delta (c.next - c.floor) tt;
}
  where
    base_files : (o : Option ℕ) → AllByRecursion (CountsFiles (plain s)) (base_deltas (option_map empty_base o))
    base_files None = tt
    base_files (Some to) = (refl, tt)

-- ---- of a batch

abbrev MayLoad : TableMeta → Option Part → Type 0
MayLoad t None = Unit {0}
MayLoad t (Some p) = part_fits t p ≡ true

deltas_more : (t : TableMeta) (d : Delta) → CountsFiles t.lineage d → AllByRecursion (CountsFiles t.lineage) (deltas_of t) → AllByRecursion (CountsFiles t.lineage) (base_deltas t.base ++ (map delta_in t.cumulatives ++ (t.singles ++ d ∷ [])))
deltas_more t d is all =
    let P = CountsFiles t.lineage in
    let rest = all_back P (base_deltas t.base) (map delta_in t.cumulatives ++ t.singles) all in
    all_append P (base_deltas t.base) _ (all_front P (base_deltas t.base) (map delta_in t.cumulatives ++ t.singles) all)
    (all_append P (map delta_in t.cumulatives) _ (all_front P (map delta_in t.cumulatives) t.singles rest) (all_append P t.singles (d ∷ []) (all_back P (map delta_in t.cumulatives) t.singles rest) (is, tt)))

loaded_counted : (t : TableMeta) (p : Option Part) → MayLoad t p → IsCounted t → IsCounted (meta_loaded t p)
loaded_counted t None may is = record {
  changes = is.changes;
  files = deltas_more t empty_delta refl is.files;
  totals = all_append (CountsTotals t.lineage) t.singles (empty_delta ∷ []) is.totals (tt, tt);
}
loaded_counted t (Some p) may is =
    let last = both_true _ (is_none (over_bound t.totals p.totals)) may in
    let third = both_true _ (length p.totals == sums_in (aggs_of (columns_of t.lineage))) last.0 in
    let first = both_true (p.epoch == epoch_of t.lineage) (files_fit t.lineage p.epoch p.files) third.0 in
    let present : columns_at t.lineage p.epoch ≡ columns_of t.lineage = ap (λ changes. columns_after t.lineage.first changes) (take_all (p.epoch - t.lineage.begins) t.lineage.changes (let e = is_equal p.epoch (epoch_of t.lineage) first.0 in omega (arith, e))) in
    record {
      changes = is.changes;
      files = deltas_more t (part_delta p) first.1 is.files;
      totals = all_append (CountsTotals t.lineage) t.singles (part_delta p ∷ []) is.totals
          (is_equal (length p.totals) (sums_in (aggs_of (columns_of t.lineage))) third.1 ∙ ap (λ s. sums_in (aggs_of s)) (sym present), tt);
    }

-- ---- of a merged range

swapped_counted : (t : TableMeta) (base : Bool) (to epoch : ℕ) (files : Option Files) → files_fit_if_any t.lineage epoch files ≡ true → IsCounted t → IsCounted (meta_swapped t base to (merged_delta epoch files))
swapped_counted t true to epoch files e is =
    let P = CountsFiles t.lineage in
    let singles = all_back P (map delta_in t.cumulatives) t.singles (all_back P (base_deltas t.base) (map delta_in t.cumulatives ++ t.singles) is.files) in
    record {
      changes = is.changes;
      files = (e, all_drop P (to + 1 - start_in t) t.singles singles);
      totals = all_drop (CountsTotals t.lineage) (to + 1 - start_in t) t.singles is.totals;
    }
swapped_counted t false to epoch files e is =
    let P = CountsFiles t.lineage in
    let d = merged_delta epoch files in
    let rest = all_back P (base_deltas t.base) (map delta_in t.cumulatives ++ t.singles) is.files in
    record {
      changes = is.changes;
      files = all_append P (base_deltas t.base) _ (all_front P (base_deltas t.base) (map delta_in t.cumulatives ++ t.singles) is.files)
          (all_append P (map delta_in (t.cumulatives ++ record { to = to; delta = d } ∷ [])) t.singles
          (subst (AllByRecursion P) (sym (map-append delta_in t.cumulatives (record { to = to; delta = d } ∷ []))) (all_append P (map delta_in t.cumulatives) (d ∷ []) (all_front P (map delta_in t.cumulatives) t.singles rest) (e, tt)))
          (all_back P (map delta_in t.cumulatives) t.singles rest));
      totals = is.totals;
    }

-- ---- all tables

abbrev fits_its : Catalog → Part → Bool
fits_its c p = is_there c p.table && part_fits (meta_at c p.table) p

may_first : (c : Catalog) (number : ℕ) (q : Part) (qs : List Part) → part_fits (meta_at c q.table) q ≡ true → MayLoad (meta_at c number) (part_of number qs) → (b : Bool) → (q.table == number) ≡ b → MayLoad (meta_at c number) (cond b (Some q) (part_of number qs))
may_first c number q qs own rest true e = subst (λ n. part_fits (meta_at c n) q ≡ true) (is_equal q.table number e) own
may_first c number q qs own rest false e = rest

may_found : (c : Catalog) (number : ℕ) (parts : List Part) → list_all (fits_its c) parts ≡ true → MayLoad (meta_at c number) (part_of number parts)
may_found c number [] e = tt
may_found c number (q ∷ qs) e =
    let both = both_true (fits_its c q) (list_all (fits_its c) qs) e in
    may_first c number q qs (both_true (is_there c q.table) (part_fits (meta_at c q.table) q) both.0).1 (may_found c number qs both.1) (q.table == number) refl

all_counted : (c : Catalog) (parts : List Part) (number : ℕ) (tables : List TableMeta) → list_all (fits_its c) parts ≡ true → ((i : ℕ) → i < length tables → meta_at c (number + i) ≡ slice_index_or tables i no_meta)
    → AllByRecursion IsCounted tables → AllByRecursion IsCounted (metas_loaded parts number tables)
all_counted c parts number [] e at all = tt
all_counted c parts number (t ∷ tables) e at all =
    let here : meta_at c number ≡ t = (let n : number ≡ number + 0 = omega arith in ap (meta_at c) n) ∙ at 0 (omega arith) in (
      loaded_counted t (part_of number parts) (subst (λ (s : TableMeta). MayLoad s (part_of number parts)) here (may_found c number parts e)) all.0,
      all_counted c parts (number + 1) tables e (λ i lt. (let n : number + 1 + i ≡ number + suc i = omega arith in ap (meta_at c) n) ∙ at (suc i) (omega (arith, lt))) all.1,
    )

set_counted : (c : Catalog) (table : ℕ) (t : TableMeta) → AreCounted c → (IsCounted (meta_at c table) → IsCounted t) → AllByRecursion IsCounted (slice_set c.tables table t)
set_counted c table t is f = by c.tables table is.tables f
  where
    by : (tables : List TableMeta) (n : ℕ) → AllByRecursion IsCounted tables → (IsCounted (slice_index_or tables n no_meta) → IsCounted t) → AllByRecursion IsCounted (slice_set tables n t)
    by [] n all f = tt
    by (x ∷ tables) zero all f = (f all.0, all.1)
    by (x ∷ tables) (suc n) all f = (all.0, by tables n all.1 f)

from_counted : (version : ℕ) (t : TableMeta) → IsCounted t → IsCounted (meta_from version t)
from_counted version t is = record { changes = is.changes; files = is.files; totals = is.totals }

kind_counted : (c : Catalog) (r : Record) → IsCatalog c → AreCounted c → kind_fits c r ≡ true → AreCounted (applied c r)
kind_counted c (record_of.Run number) shaped is e = record { tables = is.tables; run = is_at_most number max_runs (both_true (number == c.run + 1) (nat_le number max_runs) e).1 }
kind_counted c (record_of.Table name keys values) shaped is e = record { tables = all_append IsCounted c.tables (new_meta c name (record { keys = keys; values = values }) ∷ []) is.tables (new_counted c name (record { keys = keys; values = values }), tt); run = is.run }
kind_counted c (record_of.View table name keys values) shaped is e = record { tables = set_counted c table (meta_viewed (meta_at c table) name keys values) is (viewed_counted (meta_at c table) name keys values); run = is.run }
kind_counted c (record_of.Alter table change) shaped is e =
    let both = both_true (is_there c table) (is_ok (change_checked (meta_at c table).lineage change)) e in
    let rule = (passed_first (rule_checked (meta_at c table).lineage change) _ both.1).0 in
    let shape = meta_found (IsShaped c.floor c.next) c.tables table (is_less table (length c.tables) both.0) shaped.tables in
    record { tables = set_counted c table (meta_changed (meta_at c table) change) is (changed_counted c.floor c.next (meta_at c table) change shape rule); run = is.run }
kind_counted c (record_of.Publish version parts) shaped is e =
    let last = both_true _ (list_all (fits_its c) parts) e in
    record { tables = all_counted c parts 0 c.tables last.1 (λ i lt. (let n : 0 + i ≡ i = omega arith in ap (meta_at c) n)) is.tables; run = is.run }
kind_counted c (record_of.Swap table base from to epoch files) shaped is e =
    let t = meta_at c table in
    let both = both_true (is_there c table) (swap_fits c t base from to epoch files) e in
    let last = both_true (may_be_work c t base from to && has_epoch t.lineage epoch) (files_fit_if_any t.lineage epoch files) both.1 in
    record { tables = set_counted c table (meta_swapped t base to (merged_delta epoch files)) is (swapped_counted t base to epoch files last.1); run = is.run }
kind_counted c (record_of.Expire version) shaped is e = record { tables = all_map IsCounted (meta_from version) c.tables (all_so IsCounted (λ t. IsCounted (meta_from version t)) c.tables (from_counted version) is.tables); run = is.run }
kind_counted c (record_of.ExpireTable table version) shaped is e = record { tables = set_counted c table (meta_from version (meta_at c table)) is (from_counted version (meta_at c table)); run = is.run }
kind_counted c (record_of.Checkpoint k) shaped is e = absurd (let g : false ≡ true = e in cc)
kind_counted c (record_of.Recast k) shaped is e =
    record { tables = set_counted c k.table (meta_recast c.next (meta_at c k.table) k) is (λ was. recast_counted c.floor c.next (meta_at c k.table) k (recast_shape c k shaped e) (recast_its c k shaped e)); run = is.run }

-- A record that fits keeps it.
pub fits_counted : (c : Catalog) (r : Record) → IsCatalog c → AreCounted c → fits c r ≡ true → AreCounted (applied c r)
unfolding fits
fits_counted c r shaped is e = kind_counted c r shaped is (both_true (kind_fits c r) (brings_new_files c r) e).0

-- ---- what a checkpoint that fits states

all_true : {A : Type 0} (p : A → Bool) (xs : List A) → list_all p xs ≡ true → AllByRecursion (λ x. p x ≡ true) xs
all_true p [] e = tt
all_true p (x ∷ xs) e = let both = both_true (p x) (list_all p xs) e in (both.0, all_true p xs both.1)

module _ (l : Lineage) where
  delta_files : (epoch : ℕ) (files : Option Files) → delta_fits l epoch files ≡ true → files_fit_if_any l epoch files ≡ true
  delta_files epoch files e = (both_true (has_epoch l epoch) (files_fit_if_any l epoch files) e).1

  ranges_counted : (next : ℕ) (rs : List CheckpointRange) → list_all (range_fits l next) rs ≡ true → AllByRecursion (CountsFiles l) (map delta_in (map range_stated rs))
  ranges_counted next [] e = tt
  ranges_counted next (r ∷ rs) e =
      let both = both_true (range_fits l next r) (list_all (range_fits l next) rs) e in
      (delta_files r.epoch r.files (both_true (nat_lt r.to next) (delta_fits l r.epoch r.files) both.0).1, ranges_counted next rs both.1)

  base_counted : (oldest next : ℕ) (o : Option CheckpointRange) → base_fits l oldest next o ≡ true → AllByRecursion (CountsFiles l) (base_deltas (option_map range_stated o))
  base_counted oldest next None e = tt
  base_counted oldest next (Some r) e =
      let both = both_true (nat_le r.to oldest) (range_fits l next r) e in
      (delta_files r.epoch r.files (both_true (nat_lt r.to next) (delta_fits l r.epoch r.files) both.1).1, tt)

  singles_files : (from next : ℕ) (ss : List CheckpointSingle) → list_all (single_fits l) ss ≡ true → AllByRecursion (CountsFiles l) (singles_stated from next ss)
  singles_files from next [] e = empty_files l (next - from)
  singles_files from next (s ∷ ss) e =
      let both = both_true (single_fits l s) (list_all (single_fits l) ss) e in
      let fit = both_true (delta_fits l s.epoch (Some s.files)) _ both.0 in
      all_append (CountsFiles l) (replicate (s.version - from) empty_delta) (single_stated s ∷ singles_stated (s.version + 1) next ss) (empty_files l (s.version - from)) (delta_files s.epoch (Some s.files) fit.0, singles_files (s.version + 1) next ss both.1)

  singles_totals : (from next : ℕ) (ss : List CheckpointSingle) → list_all (single_fits l) ss ≡ true → AllByRecursion (CountsTotals l) (singles_stated from next ss)
  singles_totals from next [] e = all_replicate (CountsTotals l) empty_delta (next - from) tt
  singles_totals from next (s ∷ ss) e =
      let both = both_true (single_fits l s) (list_all (single_fits l) ss) e in
      let fit = both_true (delta_fits l s.epoch (Some s.files)) (totals_fit (columns_at l s.epoch) s.totals) both.0 in
      let totals = both_true (length s.totals == sums_in (aggs_of (columns_at l s.epoch))) (list_all (λ total. nat_lt total sum_bound) s.totals) fit.1 in
      all_append (CountsTotals l) (replicate (s.version - from) empty_delta) (single_stated s ∷ singles_stated (s.version + 1) next ss) (all_replicate (CountsTotals l) empty_delta (s.version - from) tt)
      (is_equal (length s.totals) (sums_in (aggs_of (columns_at l s.epoch))) totals.0, singles_totals (s.version + 1) next ss both.1)

table_counted : (floor next : ℕ) (t : CheckpointTable) → table_fits floor next t ≡ true → IsCounted (meta_stated next t)
table_counted floor next t e =
    let l = lineage_stated t in
    let stands = both_true (lineage_fits l && totals_fit (columns_of l) t.totals && ranges_fit l next t && singles_fit l next t) (starts_fit floor next t) e in
    let last = both_true (lineage_fits l && totals_fit (columns_of l) t.totals && ranges_fit l next t) (singles_fit l next t) stands.0 in
    let third = both_true (lineage_fits l && totals_fit (columns_of l) t.totals) (ranges_fit l next t) last.0 in
    let lineage = (both_true (lineage_fits l) (totals_fit (columns_of l) t.totals) third.0).0 in
    let views = both_true (is_schema l.first && changes_pass l.first l.changes && nat_le (epoch_of l) max_changes && list_all (is_view_of (columns_of l)) l.views) (nat_le (length l.views) max_views) lineage in
    let few = both_true (is_schema l.first && changes_pass l.first l.changes && nat_le (epoch_of l) max_changes) (list_all (is_view_of (columns_of l)) l.views) views.0 in
    let changes = both_true (is_schema l.first && changes_pass l.first l.changes) (nat_le (epoch_of l) max_changes) few.0 in
    let ranges = both_true (base_fits l t.oldest next t.base && are_tens (start_stated t) t.cumulatives) (list_all (range_fits l next) t.cumulatives) third.1 in
    let bases = both_true (base_fits l t.oldest next t.base) (are_tens (start_stated t) t.cumulatives) ranges.0 in
    let singles = both_true (are_singles (start_stated t) next t.singles) (list_all (single_fits l) t.singles) last.1 in
    record {
      changes = (both_true (is_schema l.first) (changes_pass l.first l.changes) changes.0).1;
      files = all_append (CountsFiles l) (base_deltas (option_map range_stated t.base)) _ (base_counted l t.oldest next t.base bases.0)
          (all_append (CountsFiles l) (map delta_in (map range_stated t.cumulatives)) _ (ranges_counted l next t.cumulatives ranges.1) (singles_files l (start_stated t) next t.singles singles.1));
      totals = singles_totals l (start_stated t) next t.singles singles.1;
    }

tables_counted : (floor next : ℕ) (ts : List CheckpointTable) → list_all (table_fits floor next) ts ≡ true → AllByRecursion IsCounted (map (meta_stated next) ts)
tables_counted floor next [] e = tt
tables_counted floor next (t ∷ ts) e =
    let both = both_true (table_fits floor next t) (list_all (table_fits floor next) ts) e in
    (table_counted floor next t both.0, tables_counted floor next ts both.1)

pub stated_counted : (k : Checkpoint) → counts_fit k ≡ true → tables_fit k ≡ true → AreCounted (stated k)
stated_counted k counts tables =
    let last = both_true (nat_le (length k.tables) max_tables && nat_le k.versions max_versions && nat_le k.run max_runs) (oldest_fits k.floor k.versions) counts in
    let third = both_true (nat_le (length k.tables) max_tables && nat_le k.versions max_versions) (nat_le k.run max_runs) last.0 in
    let named = both_true (list_all (table_fits k.floor k.versions) k.tables && names_differ (stated k)) (ids_fit (stated k)) tables in
    let all = both_true (list_all (table_fits k.floor k.versions) k.tables) (names_differ (stated k)) named.0 in
    record { tables = tables_counted k.floor k.versions k.tables all.0; run = is_at_most k.run max_runs third.1 }
