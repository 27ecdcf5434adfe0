-- The checkpoint of every catalogue is a record: its fields are within their types, and its counts have room.
use Rattle.std.proofs.Common.{◌≡◌, inl, inr, ℕ, zero, suc, ◌+◌, ◌-◌, ◌*◌, ◌^◌, ◌<◌, ◌≤◌, List, [], ◌∷◌, ◌++◌, map, length, take, drop, replicate, Bool, true, false, ◌&&◌, ◌==◌, nat_le, nat_lt, Option, Some, None, cond, refl, sym, ap, subst, arith, slice_get, slice_index_or, slice_set}
use Rattle.std.proofs.lemmas.Bool.Decides.{nat_tests}
use Rattle.std.proofs.lemmas.List.{map-append}
use Rattle.std.specs.Prelude.{option_map, unwrap_or, IfSome}
use Rattle.std.specs.List.{AllByRecursion, cons_option, list_all, range_with_len}
use Rattle.mesa_history_spec.specs.mesa_columns.declared.columns.KeyColumn.{KeyColumn}
use Rattle.mesa_history_spec.specs.mesa_columns.declared.columns.ValueColumn.{ValueColumn}
use Rattle.mesa_history_spec.specs.mesa_columns.declared.changes.Change.{Change}
use Rattle.mesa_history_spec.specs.mesa_columns.declared.changes.Change.TheVariants.{AddKey, AddValue, DropValue}
use Rattle.mesa_history_spec.specs.mesa_columns.Columns.{Columns, aggs_of, chosen, place_of, value_names}
use Rattle.mesa_history_spec.specs.mesa_columns.Schema.{is_schema}
use Rattle.mesa_history_spec.specs.mesa_columns.Changes.{changed, columns_after}
use Rattle.mesa_history_spec.specs.mesa_schema.Changes.{columns_of, epoch_of}
use Rattle.mesa_history_spec.specs.mesa_schema.Recasts.{recast_keys, recast_values}
use Rattle.mesa_history_spec.proofs.mesa_schema.LineageRules.{present_schema}
use Rattle.mesa_history_spec.proofs.mesa_schema.SchemaChanges.{schema_rules}
use Rattle.mesa_history_spec.proofs.mesa_columns.Lists.{all_append, all_drop, all_map, all_replicate, all_so}
use Rattle.mesa_history_spec.specs.mesa_batch.Totals.{sum_bound}
use Rattle.mesa_history_spec.proofs.mesa_batch.FewTotals.{few_sums}
use Rattle.mesa_history_spec.specs.mesa_span.Ranges.{base_before, end_of, start_behind}
use Rattle.mesa_record.specs.declared.record.Files.{Files}
use Rattle.mesa_record.specs.declared.record.Part.{Part}
use Rattle.mesa_record.specs.declared.record.Record.{Record}
use Rattle.mesa_record.specs.declared.record.ViewRef.{ViewRef}
use Rattle.mesa_record.specs.mesa_record_fields.declared.edition.Edition.TheVariants.{Fourth}
use Rattle.mesa_record.specs.declared.record.Record.TheVariants as record_of
use Rattle.mesa_record.specs.declared.checkpoint.CheckpointRange.{CheckpointRange}
use Rattle.mesa_record.specs.declared.checkpoint.CheckpointSingle.{CheckpointSingle}
use Rattle.mesa_record.specs.declared.checkpoint.CheckpointTable.{CheckpointTable}
use Rattle.mesa_record.specs.declared.checkpoint.Checkpoint.{Checkpoint}
use Rattle.mesa_record.specs.declared.recasting.RecastBase.{RecastBase}
use Rattle.mesa_record.specs.declared.recasting.Recasting.{Recasting}
use Rattle.mesa_record.specs.mesa_record_fields.Rules.{IsNamed, IsTotal, IsTypedChange, IsWord, is_change, is_count_of_columns, is_long, is_short, rise_from}
use Rattle.mesa_record.specs.Rules.{FitsBase, FitsFiles, FitsFilesIfAny, FitsIn, FitsRange, FitsSingle, FitsTable, FitsView, IsRecord, IsTypedBase, IsTypedPart, IsTypedRange, IsTypedRecastBase, IsTypedRecasting, IsTypedSingle, IsTypedStatedView, IsTypedTable, are_files, are_recast_columns, are_recast_deltas, are_stated_columns, are_stated_deltas, is_base_if_any, is_part, is_recast_base, is_recasting, is_stated_range, is_stated_single, is_stated_table, is_stated_view}
use Rattle.mesa_store_spec.specs.Checkpoint.{range_stated, single_stated, singles_stated, start_stated, meta_stated, stated, stating_range, stating_single, stating_singles, stating_table, checkpoint_of}
use Rattle.mesa_store_spec.specs.Catalog.{Delta, Ending, TableMeta, Catalog, base_recast, base_told, empty_base, empty_delta, end_in, merged_delta, new_meta, no_meta, part_delta, part_of, recast_in, singles_told, start_in, meta_at, meta_changed, meta_from, meta_loaded, meta_recast, meta_swapped, meta_viewed, metas_loaded, applied}
use Rattle.mesa_store_spec.specs.Fitting.{base_deltas, delta_in, deltas_of}
use Rattle.mesa_store_spec.specs.Shape.{IsCatalog, IsShaped}
use Rattle.mesa_store_spec.specs.Statable.{IsSingle, IsStatable}
use Rattle.mesa_store_spec.specs.Countable.{AreCounted}
use Rattle.mesa_store_spec.specs.Recordable.{AreKept, AreRecordable, HasCounts, HasFiles, HasTotals, IsRecordable, Keeps}
use Rattle.mesa_store_spec.proofs.Lists.{all_back, all_front, all_take, both_true}

pub two_true : (a b : Bool) → a ≡ true → b ≡ true → (a && b) ≡ true
two_true true b e f = f
two_true false b e f = absurd (let g : false ≡ true = e in cc)

-- ---- what is within its types, and keeps a rule

all_keep : {A : Type 0} (P : A → Type 0) (p : A → Bool) (xs : List A) → AllByRecursion P xs → list_all p xs ≡ true → AllByRecursion (Keeps P p) xs
all_keep P p [] all e = tt
all_keep P p (x ∷ xs) all e = let both = both_true (p x) (list_all p xs) e in ((all.0, both.0), all_keep P p xs all.1 both.1)

all_typed : {A : Type 0} (P : A → Type 0) (p : A → Bool) (xs : List A) → AllByRecursion (Keeps P p) xs → AllByRecursion P xs
all_typed P p xs all = all_so (Keeps P p) P xs (λ x is. is.0) all

all_ruled : {A : Type 0} (P : A → Type 0) (p : A → Bool) (xs : List A) → AllByRecursion (Keeps P p) xs → list_all p xs ≡ true
all_ruled P p [] all = refl
all_ruled P p (x ∷ xs) all = two_true (p x) (list_all p xs) all.0.1 (all_ruled P p xs all.1)

-- ---- what catalogues keep

no_files : (n : ℕ) → AllByRecursion HasFiles (replicate n empty_delta)
no_files n = all_replicate HasFiles empty_delta n (tt, refl)

no_counts : (n : ℕ) → AllByRecursion HasCounts (replicate n empty_delta)
no_counts n = all_replicate HasCounts empty_delta n tt

new_recordable : (c : Catalog) (name : List ℕ) (s : Columns) → IsNamed name → AllByRecursion (λ (k : KeyColumn). IsNamed k.name) s.keys → AllByRecursion (λ (v : ValueColumn). IsNamed v.name) s.values → IsRecordable (new_meta c name s)
new_recordable c name s named keys values = record {
  name = named;
  keys = keys;
  values = values;
  changes = tt;
  views = tt;
  files = all_append HasFiles (base_deltas (option_map empty_base (base_before c.floor))) _ (base_files (base_before c.floor)) (no_files (c.next - c.floor));
  counts = no_counts (c.next - c.floor);
}
  where
    base_files : (o : Option ℕ) → AllByRecursion HasFiles (base_deltas (option_map empty_base o))
    base_files None = tt
    base_files (Some to) = ((tt, refl), tt)

viewed_recordable : (t : TableMeta) (name : List ℕ) (keys values : List (List ℕ)) → Keeps IsTypedStatedView is_stated_view (record { name = name; keys = keys; values = values }) → IsRecordable t → IsRecordable (meta_viewed t name keys values)
viewed_recordable t name keys values v is = record {
  name = is.name;
  keys = is.keys;
  values = is.values;
  changes = is.changes;
  views = all_append (Keeps IsTypedStatedView is_stated_view) t.lineage.views (record { name = name; keys = keys; values = values } ∷ []) is.views (v, tt);
  files = is.files;
  counts = is.counts;
}

changed_recordable : (t : TableMeta) (c : Change) → Keeps IsTypedChange is_change c → IsRecordable t → IsRecordable (meta_changed t c)
changed_recordable t c change is = record {
  name = is.name;
  keys = is.keys;
  values = is.values;
  changes = all_append (Keeps IsTypedChange is_change) t.lineage.changes (c ∷ []) is.changes (change, tt);
  views = is.views;
  files = is.files;
  counts = is.counts;
}

-- what a part of a record has
pub record IsKeptPart (p : Part) : Type 0 where
  pub files : AreKept (Some p.files)
  pub totals : HasTotals p.totals

abbrev MayBring : Option Part → Type 0
MayBring None = Unit {0}
MayBring (Some p) = IsKeptPart p

kept_part : (p : Part) → IsTypedPart p → is_part p ≡ true → IsKeptPart p
kept_part p typed e =
    let both = both_true (are_files p.files) (nat_le (length p.totals) 16) e in
    record { files = (typed.files, both.0); totals = (typed.totals, both.1) }

found_first : (number : ℕ) (q : Part) (qs : List Part) → IsKeptPart q → MayBring (part_of number qs) → (b : Bool) → MayBring (cond b (Some q) (part_of number qs))
found_first number q qs own rest true = own
found_first number q qs own rest false = rest

found_part : (number : ℕ) (parts : List Part) → AllByRecursion IsTypedPart parts → list_all is_part parts ≡ true → MayBring (part_of number parts)
found_part number [] typed e = tt
found_part number (q ∷ qs) typed e =
    let both = both_true (is_part q) (list_all is_part qs) e in
    found_first number q qs (kept_part q typed.0 both.0) (found_part number qs typed.1 both.1) (q.table == number)

deltas_more : (t : TableMeta) (d : Delta) → HasFiles d → AllByRecursion HasFiles (deltas_of t) → AllByRecursion HasFiles (base_deltas t.base ++ (map delta_in t.cumulatives ++ (t.singles ++ d ∷ [])))
deltas_more t d is all =
    let rest = all_back HasFiles (base_deltas t.base) (map delta_in t.cumulatives ++ t.singles) all in
    all_append HasFiles (base_deltas t.base) _ (all_front HasFiles (base_deltas t.base) (map delta_in t.cumulatives ++ t.singles) all)
    (all_append HasFiles (map delta_in t.cumulatives) _ (all_front HasFiles (map delta_in t.cumulatives) t.singles rest) (all_append HasFiles t.singles (d ∷ []) (all_back HasFiles (map delta_in t.cumulatives) t.singles rest) (is, tt)))

loaded_recordable : (t : TableMeta) (p : Option Part) → MayBring p → IsRecordable t → IsRecordable (meta_loaded t p)
loaded_recordable t None may is = record {
  name = is.name;
  keys = is.keys;
  values = is.values;
  changes = is.changes;
  views = is.views;
  files = deltas_more t empty_delta (tt, refl) is.files;
  counts = all_append HasCounts t.singles (empty_delta ∷ []) is.counts (tt, tt);
}
loaded_recordable t (Some p) may is = record {
  name = is.name;
  keys = is.keys;
  values = is.values;
  changes = is.changes;
  views = is.views;
  files = deltas_more t (part_delta p) may.files is.files;
  counts = all_append HasCounts t.singles (part_delta p ∷ []) is.counts (may.totals, tt);
}

all_loaded : (parts : List Part) (number : ℕ) (tables : List TableMeta) → AllByRecursion IsTypedPart parts → list_all is_part parts ≡ true → AllByRecursion IsRecordable tables → AllByRecursion IsRecordable (metas_loaded parts number tables)
all_loaded parts number [] typed e all = tt
all_loaded parts number (t ∷ tables) typed e all = (loaded_recordable t (part_of number parts) (found_part number parts typed e) all.0, all_loaded parts (number + 1) tables typed e all.1)

swapped_recordable : (t : TableMeta) (base : Bool) (to epoch : ℕ) (files : Option Files) → AreKept files → IsRecordable t → IsRecordable (meta_swapped t base to (merged_delta epoch files))
swapped_recordable t true to epoch files f is = record {
  name = is.name;
  keys = is.keys;
  values = is.values;
  changes = is.changes;
  views = is.views;
  files = (f, all_drop HasFiles (to + 1 - start_in t) t.singles (all_back HasFiles (map delta_in t.cumulatives) t.singles (all_back HasFiles (base_deltas t.base) (map delta_in t.cumulatives ++ t.singles) is.files)));
  counts = all_drop HasCounts (to + 1 - start_in t) t.singles is.counts;
}
swapped_recordable t false to epoch files f is =
    let d = merged_delta epoch files in
    let rest = all_back HasFiles (base_deltas t.base) (map delta_in t.cumulatives ++ t.singles) is.files in
    record {
      name = is.name;
      keys = is.keys;
      values = is.values;
      changes = is.changes;
      views = is.views;
      files = all_append HasFiles (base_deltas t.base) _ (all_front HasFiles (base_deltas t.base) (map delta_in t.cumulatives ++ t.singles) is.files)
          (all_append HasFiles (map delta_in (t.cumulatives ++ record { to = to; delta = d } ∷ [])) t.singles
          (subst (AllByRecursion HasFiles) (sym (map-append delta_in t.cumulatives (record { to = to; delta = d } ∷ []))) (all_append HasFiles (map delta_in t.cumulatives) (d ∷ []) (all_front HasFiles (map delta_in t.cumulatives) t.singles rest) (f, tt)))
          (all_back HasFiles (map delta_in t.cumulatives) t.singles rest));
      counts = is.counts;
    }

from_recordable : (version : ℕ) (t : TableMeta) → IsRecordable t → IsRecordable (meta_from version t)
from_recordable version t is = record {
  name = is.name;
  keys = is.keys;
  values = is.values;
  changes = is.changes;
  views = is.views;
  files = is.files;
  counts = is.counts;
}

set_recordable : (tables : List TableMeta) (n : ℕ) (t : TableMeta) → AllByRecursion IsRecordable tables → (IsRecordable (slice_index_or tables n no_meta) → IsRecordable t) → AllByRecursion IsRecordable (slice_set tables n t)
set_recordable [] n t all f = tt
set_recordable (x ∷ tables) zero t all f = (f all.0, all.1)
set_recordable (x ∷ tables) (suc n) t all f = (all.0, set_recordable tables n t all.1 f)

-- ---- what a checkpoint states

abbrev IsKeptRange : CheckpointRange → Type 0
IsKeptRange = Keeps IsTypedRange is_stated_range

abbrev IsKeptSingle : CheckpointSingle → Type 0
IsKeptSingle = Keeps IsTypedSingle is_stated_single

abbrev IsKeptBase : Option CheckpointRange → Type 0
IsKeptBase = Keeps IsTypedBase is_base_if_any

abbrev IsKeptTable : CheckpointTable → Type 0
IsKeptTable = Keeps IsTypedTable is_stated_table

ranges_recordable : (rs : List CheckpointRange) → AllByRecursion IsKeptRange rs → AllByRecursion HasFiles (map delta_in (map range_stated rs))
ranges_recordable [] all = tt
ranges_recordable (r ∷ rs) all = ((all.0.0.files, all.0.1), ranges_recordable rs all.1)

base_recordable : (o : Option CheckpointRange) → IsKeptBase o → AllByRecursion HasFiles (base_deltas (option_map range_stated o))
base_recordable None is = tt
base_recordable (Some r) is = ((is.0.files, is.1), tt)

singles_recordable : (from next : ℕ) (ss : List CheckpointSingle) → AllByRecursion IsKeptSingle ss → AllByRecursion HasFiles (singles_stated from next ss) × AllByRecursion HasCounts (singles_stated from next ss)
singles_recordable from next [] all = (no_files (next - from), no_counts (next - from))
singles_recordable from next (s ∷ ss) all =
    let both = both_true (are_files s.files) (nat_le (length s.totals) 16) all.0.1 in
    let rest = singles_recordable (s.version + 1) next ss all.1 in (
      all_append HasFiles (replicate (s.version - from) empty_delta) (single_stated s ∷ singles_stated (s.version + 1) next ss) (no_files (s.version - from)) ((all.0.0.files, both.0), rest.0),
      all_append HasCounts (replicate (s.version - from) empty_delta) (single_stated s ∷ singles_stated (s.version + 1) next ss) (no_counts (s.version - from)) ((all.0.0.totals, both.1), rest.1),
    )

table_recordable : (next : ℕ) (t : CheckpointTable) → IsKeptTable t → IsRecordable (meta_stated next t)
table_recordable next t is =
    let typed = is.0 in
    let both = both_true (are_stated_columns t) (are_stated_deltas t) is.1 in
    let last = both_true (is_count_of_columns (length t.keys) && is_count_of_columns (length t.values) && (is_short t.changes && list_all is_change t.changes) && (nat_le (length t.views) 8 && list_all is_stated_view t.views)) (nat_le (length t.totals) 16) both.0 in
    let third = both_true (is_count_of_columns (length t.keys) && is_count_of_columns (length t.values) && (is_short t.changes && list_all is_change t.changes)) (nat_le (length t.views) 8 && list_all is_stated_view t.views) last.0 in
    let second = both_true (is_count_of_columns (length t.keys) && is_count_of_columns (length t.values)) (is_short t.changes && list_all is_change t.changes) third.0 in
    let changes = both_true (is_short t.changes) (list_all is_change t.changes) second.1 in
    let views = both_true (nat_le (length t.views) 8) (list_all is_stated_view t.views) third.1 in
    let deltas = both_true (is_base_if_any t.base && (is_long t.cumulatives && list_all is_stated_range t.cumulatives)) (is_long t.singles && list_all is_stated_single t.singles) both.1 in
    let ranges = both_true (is_base_if_any t.base) (is_long t.cumulatives && list_all is_stated_range t.cumulatives) deltas.0 in
    let cumulatives = both_true (is_long t.cumulatives) (list_all is_stated_range t.cumulatives) ranges.1 in
    let each = both_true (is_long t.singles) (list_all is_stated_single t.singles) deltas.1 in
    let singles = singles_recordable (start_stated t) next t.singles (all_keep IsTypedSingle is_stated_single t.singles typed.deltas.singles each.1) in
    record {
      name = typed.name;
      keys = typed.columns.keys;
      values = typed.columns.values;
      changes = all_keep IsTypedChange is_change t.changes typed.columns.changes changes.1;
      views = all_keep IsTypedStatedView is_stated_view t.views typed.columns.views views.1;
      files = all_append HasFiles (base_deltas (option_map range_stated t.base)) _ (base_recordable t.base (typed.deltas.base, ranges.0))
          (all_append HasFiles (map delta_in (map range_stated t.cumulatives)) _ (ranges_recordable t.cumulatives (all_keep IsTypedRange is_stated_range t.cumulatives typed.deltas.cumulatives cumulatives.1)) singles.0);
      counts = singles.1;
    }

tables_recordable : (next : ℕ) (ts : List CheckpointTable) → AllByRecursion IsKeptTable ts → AllByRecursion IsRecordable (map (meta_stated next) ts)
tables_recordable next [] all = tt
tables_recordable next (t ∷ ts) all = (table_recordable next t all.0, tables_recordable next ts all.1)

pub stated_recordable : (k : Checkpoint) → IsRecord (record_of.Checkpoint k) → AreRecordable (stated k)
stated_recordable k it =
    let both = both_true (is_short k.tables) (list_all is_stated_table k.tables) it.rules in
    tables_recordable k.versions k.tables (all_keep IsTypedTable is_stated_table k.tables it.typed.tables both.1)

-- ---- names of the columns that a table comes to

abbrev KeyNamed : KeyColumn → Type 0
KeyNamed c = IsNamed c.name

abbrev ValueNamed : ValueColumn → Type 0
ValueNamed c = IsNamed c.name

abbrev AreNamed : Columns → Type 0
AreNamed s = AllByRecursion KeyNamed s.keys × AllByRecursion ValueNamed s.values

changed_named : (s : Columns) (c : Change) → IsTypedChange c → AreNamed s → AreNamed (changed s c)
changed_named s (AddValue column default) typed named = (named.0, all_append ValueNamed s.values (column ∷ []) named.1 (typed.0, tt))
changed_named s (DropValue name) typed named =
    let i : ℕ = unwrap_or (place_of name (value_names s)) (length s.values) in
    (named.0, all_append ValueNamed (take i s.values) (drop (i + 1) s.values) (all_take ValueNamed i s.values named.1) (all_drop ValueNamed (i + 1) s.values named.1))
changed_named s (AddKey column default) typed named = (all_append KeyNamed s.keys (column ∷ []) named.0 (typed.0, tt), named.1)

named_after : (s : Columns) (cs : List Change) → AllByRecursion IsTypedChange cs → AreNamed s → AreNamed (columns_after s cs)
named_after s [] typed named = named
named_after s (c ∷ cs) typed named = named_after (changed s c) cs typed.1 (changed_named s c typed.0 named)

-- so they are among those that are chosen
all_given : {A : Type 0} (P : A → Type 0) (o : Option A) (xs : List A) → IfSome o P → AllByRecursion P xs → AllByRecursion P (cons_option o xs)
all_given P None xs is all = all
all_given P (Some x) xs is all = (is, all)

one_given : {A : Type 0} (P : A → Type 0) (place : ℕ) (xs : List A) → AllByRecursion P xs → IfSome (slice_get xs place) P
one_given P place [] all = tt
one_given P zero (x ∷ xs) all = all.0
one_given P (suc place) (x ∷ xs) all = one_given P place xs all.1

all_chosen : {A : Type 0} (P : A → Type 0) (places : List ℕ) (xs : List A) → AllByRecursion P xs → AllByRecursion P (chosen places xs)
all_chosen P [] xs all = tt
all_chosen P (place ∷ places) xs all = all_given P (slice_get xs place) (chosen places xs) (one_given P place xs all) (all_chosen P places xs all)

-- ---- each record

recast_recordable : (next : ℕ) (t : TableMeta) (k : Recasting) → IsTypedRecasting k → is_recasting k ≡ true → IsRecordable t → IsRecordable (meta_recast next t k)
recast_recordable next t k typed e is =
    let both = both_true (are_recast_columns k) (are_recast_deltas k) e in
    let deltas = both_true (is_recast_base k.base) (is_long k.singles && list_all is_stated_single k.singles) both.1 in
    let each = both_true (is_long k.singles) (list_all is_stated_single k.singles) deltas.1 in
    let singles = singles_recordable (start_in t) next k.singles (all_keep IsTypedSingle is_stated_single k.singles typed.deltas.singles each.1) in
    let named : AreNamed (columns_of t.lineage) = named_after t.lineage.first t.lineage.changes (all_typed IsTypedChange is_change t.lineage.changes is.changes) (is.keys, is.values) in
    record {
      name = is.name;
      keys = all_chosen KeyNamed (recast_keys (columns_of t.lineage) (recast_in k)) (columns_of t.lineage).keys named.0;
      values = all_chosen ValueNamed (recast_values (columns_of t.lineage) (recast_in k)) (columns_of t.lineage).values named.1;
      changes = tt;
      views = is.views;
      files = all_append HasFiles (base_deltas (base_told k)) (singles_told next t k) (base_files k.base typed.deltas.base deltas.0) singles.0;
      counts = singles.1;
    }
  where
    base_files : (o : Option RecastBase) → IsTypedRecastBase o → is_recast_base o ≡ true → AllByRecursion HasFiles (base_deltas (option_map (base_recast k.epoch) o))
    base_files None typed e = tt
    base_files (Some b) typed e = ((typed.1, e), tt)

pub applied_recordable : (c : Catalog) (r : Record) → IsRecord r → AreRecordable c → AreRecordable (applied c r)
applied_recordable c (record_of.Run number) it is = is
applied_recordable c (record_of.Table name keys values) it is =
    all_append IsRecordable c.tables (new_meta c name (record { keys = keys; values = values }) ∷ []) is (new_recordable c name (record { keys = keys; values = values }) it.typed.0 it.typed.1 it.typed.2, tt)
applied_recordable c (record_of.View table name keys values) it is =
    set_recordable c.tables table (meta_viewed (meta_at c table) name keys values) is
    (viewed_recordable (meta_at c table) name keys values (record { name = it.typed.1; keys = it.typed.2; values = it.typed.3 }, it.rules))
applied_recordable c (record_of.Alter table change) it is = set_recordable c.tables table (meta_changed (meta_at c table) change) is (changed_recordable (meta_at c table) change (it.typed.1, it.rules))
applied_recordable c (record_of.Publish version parts) it is =
    let good = both_true (nat_lt (length parts) (2 ^ 16) && rise_from 0 (map (λ (p : Part). p.table) parts)) (list_all is_part parts) it.rules in
    all_loaded parts 0 c.tables it.typed.1 good.1 is
applied_recordable c (record_of.Swap table base from to epoch files) it is =
    set_recordable c.tables table (meta_swapped (meta_at c table) base to (merged_delta epoch files)) is (swapped_recordable (meta_at c table) base to epoch files (it.typed.4, it.rules))
applied_recordable c (record_of.Expire version) it is = all_map IsRecordable (meta_from version) c.tables (all_so IsRecordable (λ t. IsRecordable (meta_from version t)) c.tables (from_recordable version) is)
applied_recordable c (record_of.ExpireTable table version) it is = set_recordable c.tables table (meta_from version (meta_at c table)) is (from_recordable version (meta_at c table))
applied_recordable c (record_of.Checkpoint k) it is = is
applied_recordable c (record_of.Recast k) it is = set_recordable c.tables k.table (meta_recast c.next (meta_at c k.table) k) is (λ t. recast_recordable c.next (meta_at c k.table) k it.typed it.rules t)

-- ---- the checkpoint of a catalogue

pub low : (a b : ℕ) → a ≤ b → nat_le a b ≡ true
low a b le = grind (arith, nat_tests)

pub less : (a b : ℕ) → a < b → nat_lt a b ≡ true
less a b lt = grind (arith, nat_tests)

pub some_columns : (n : ℕ) → (n == 0) ≡ false → n ≤ 16 → is_count_of_columns n ≡ true
some_columns n e le =
    let one : 1 ≤ n = grind (arith, nat_tests) in
    two_true (nat_le 1 n) (nat_le n 16) (low 1 n one) (low n 16 le)

length_aggs : (vs : List ValueColumn) → length (map (λ (v : ValueColumn). v.agg) vs) ≡ length vs
length_aggs [] = refl
length_aggs (v ∷ vs) = ap suc (length_aggs vs)

wide_totals : (totals : List ℕ) → AllByRecursion (λ total. total < sum_bound) totals → AllByRecursion IsTotal totals
wide_totals totals all = all_so (λ total. total < sum_bound) IsTotal totals (λ total lt. (let n : total < 2 ^ 128 = omega (arith, lt) in n)) all

ranges_kept : (next most : ℕ) (es : List Ending) → next < 2 ^ 32 → most < 2 ^ 32 → AllByRecursion (λ (e : Ending). e.to < next) es → AllByRecursion (λ (d : Delta). d.epoch ≤ most) (map delta_in es) → AllByRecursion HasFiles (map delta_in es) → AllByRecursion IsKeptRange (map stating_range es)
ranges_kept next most [] small few ends epochs files = tt
ranges_kept next most (e ∷ es) small few ends epochs files =
    let to : e.to < 2 ^ 32 = omega (arith, ends.0, small) in
    let epoch : e.delta.epoch < 2 ^ 32 = omega (arith, epochs.0, few) in
    ((record { to = to; epoch = epoch; files = files.0.0 }, files.0.1), ranges_kept next most es small few ends.1 epochs.1 files.1)

single_kept : (from most : ℕ) (d : Delta) (rest : List CheckpointSingle) → from < 2 ^ 32 → most < 2 ^ 32 → d.epoch ≤ most → HasFiles d → HasCounts d → IsSingle d → AllByRecursion IsKeptSingle rest → AllByRecursion IsKeptSingle (stating_single from d.epoch d.totals d.files ++ rest)
single_kept from most d rest at few le files counts (inl none) all = subst (λ (x : Delta). AllByRecursion IsKeptSingle (stating_single from x.epoch x.totals x.files ++ rest)) (sym none) all
single_kept from most d rest at few le files counts (inr has) all =
    let epoch : d.epoch < 2 ^ 32 = omega (arith, le, few) in
    let own : AreKept (Some has.own) = subst AreKept has.files files in
    let totals : HasTotals has.counts = subst (λ o. IfSome o HasTotals) has.totals counts in
    let rules = two_true (are_files has.own) (nat_le (length has.counts) 16) own.1 totals.1 in
    let one : AllByRecursion IsKeptSingle (stating_single from d.epoch (Some has.counts) (Some has.own) ++ rest) = ((record { version = at; epoch = epoch; files = own.0; totals = totals.0 }, rules), all) in
    subst (λ o. AllByRecursion IsKeptSingle (stating_single from d.epoch o d.files ++ rest)) (sym has.totals) (subst (λ o. AllByRecursion IsKeptSingle (stating_single from d.epoch (Some has.counts) o ++ rest)) (sym has.files) one)

singles_kept : (from next most : ℕ) (ds : List Delta) → from + length ds ≡ next → next < 2 ^ 32 → most < 2 ^ 32 → AllByRecursion (λ (d : Delta). d.epoch ≤ most) ds → AllByRecursion HasFiles ds → AllByRecursion HasCounts ds → AllByRecursion IsSingle ds → AllByRecursion IsKeptSingle (stating_singles from ds)
singles_kept from next most [] len small few epochs files counts are = tt
singles_kept from next most (d ∷ ds) len small few epochs files counts are =
    single_kept from most d (stating_singles (from + 1) ds) (omega (arith, len, small)) few epochs.0 files.0 counts.0 are.0 (singles_kept (from + 1) next most ds (omega (arith, len)) small few epochs.1 files.1 counts.1 are.1)

single_few : (from epoch : ℕ) (totals : Option (List ℕ)) (files : Option Files) (rest : List CheckpointSingle) → length (stating_single from epoch totals files ++ rest) ≤ suc (length rest)
single_few from epoch totals None rest = omega arith
single_few from epoch totals (Some f) rest = omega arith

singles_few : (from : ℕ) (ds : List Delta) → length (stating_singles from ds) ≤ length ds
singles_few from [] = omega arith
singles_few from (d ∷ ds) = omega (arith, singles_few (from + 1) ds, single_few from d.epoch d.totals d.files (stating_singles (from + 1) ds))

length_ranges : (es : List Ending) → length (map stating_range es) ≡ length es
length_ranges [] = refl
length_ranges (e ∷ es) = ap suc (length_ranges es)

head_same : (a b : ℕ) (xs ys : List ℕ) → a ∷ xs ≡ b ∷ ys → a ≡ b
head_same a b xs ys e = cc

tail_same : (a b : ℕ) (xs ys : List ℕ) → a ∷ xs ≡ b ∷ ys → xs ≡ ys
tail_same a b xs ys e = cc

-- ends that rise by tens are no more than the versions
tens_few : (start n next : ℕ) (es : List Ending) → map end_in es ≡ map (end_of start) (range_with_len n (length (map end_in es))) → AllByRecursion (λ (e : Ending). e.to < next) es → n ≤ next → n + length es ≤ next
tens_few start n next [] e ends le = omega (arith, le)
tens_few start n next (x ∷ es) e ends le =
    let first : x.to ≡ start + 10 * n + 9 = head_same x.to (end_of start n) (map end_in es) (map (end_of start) (range_with_len (n + 1) (length (map end_in es)))) e in
    let rest = tens_few start (n + 1) next es (tail_same x.to (end_of start n) (map end_in es) (map (end_of start) (range_with_len (n + 1) (length (map end_in es)))) e) ends.1 (omega (arith, first, ends.0)) in
    omega (arith, rest)

base_kept : (next most : ℕ) (o : Option Ending) → next < 2 ^ 32 → most < 2 ^ 32 → start_behind (option_map end_in o) ≤ next → AllByRecursion (λ (d : Delta). d.epoch ≤ most) (base_deltas o) → AllByRecursion HasFiles (base_deltas o) → IsKeptBase (option_map stating_range o)
base_kept next most None small few within epochs files = (tt, refl)
base_kept next most (Some e) small few within epochs files =
    let to : e.to < 2 ^ 32 = omega (arith, within, small) in
    let epoch : e.delta.epoch < 2 ^ 32 = omega (arith, epochs.0, few) in
    (record { to = to; epoch = epoch; files = files.0.0 }, files.0.1)

table_kept : (floor next : ℕ) (t : TableMeta) → next < 2 ^ 32 → IsShaped floor next t → IsStatable t → IsRecordable t → IsKeptTable (stating_table t)
table_kept floor next t small shaped so is =
    let l = t.lineage in
    let E = λ (d : Delta). d.epoch ≤ epoch_of l in
    let few : epoch_of l < 2 ^ 32 = omega (arith, shaped.lineage.few_changes) in
    let epochs = all_back E (base_deltas t.base) (map delta_in t.cumulatives ++ t.singles) shaped.epochs in
    let files = all_back HasFiles (base_deltas t.base) (map delta_in t.cumulatives ++ t.singles) is.files in
    let none : l.begins - l.begins ≡ 0 = omega arith in
    let first = schema_rules l.first (subst (λ n. is_schema (columns_after l.first (take n l.changes)) ≡ true) none (shaped.lineage.schemas l.begins)) in
    let oldest : t.oldest < 2 ^ 32 = elim shaped.oldest [ inl lt ↦ omega (arith, lt, small) | inr none ↦ omega (arith, none.0) ] in
    let present = schema_rules (columns_of l) (present_schema l shaped.lineage) in
    let sums : length t.totals ≤ 16 = omega (arith, shaped.totals, few_sums 0 (aggs_of (columns_of l)), length_aggs (columns_of l).values, present.few_values) in
    let half : length l.changes < 2 ^ 16 = omega (arith, shaped.lineage.few_changes) in
    let ranges : length (map stating_range t.cumulatives) < 2 ^ 32 = omega (arith, length_ranges t.cumulatives, tens_few (start_in t) 0 next t.cumulatives shaped.reachable shaped.ends (omega arith), small) in
    let many : length (stating_singles (start_in t) t.singles) < 2 ^ 32 = omega (arith, singles_few (start_in t) t.singles, shaped.singles, small) in
    let base = base_kept next (epoch_of l) t.base small few (omega (arith, shaped.singles)) (all_front E (base_deltas t.base) (map delta_in t.cumulatives ++ t.singles) shaped.epochs) (all_front HasFiles (base_deltas t.base) (map delta_in t.cumulatives ++ t.singles) is.files) in
    let cumulatives = ranges_kept next (epoch_of l) t.cumulatives small few shaped.ends (all_front E (map delta_in t.cumulatives) t.singles epochs) (all_front HasFiles (map delta_in t.cumulatives) t.singles files) in
    let singles = singles_kept (start_in t) next (epoch_of l) t.singles shaped.singles small few (all_back E (map delta_in t.cumulatives) t.singles epochs) (all_back HasFiles (map delta_in t.cumulatives) t.singles files) is.counts so.singles in
    let k = stating_table t in
    let columns : are_stated_columns k ≡ true =
    two_true (is_count_of_columns (length k.keys) && is_count_of_columns (length k.values) && (is_short k.changes && list_all is_change k.changes) && (nat_le (length k.views) 8 && list_all is_stated_view k.views)) (nat_le (length k.totals) 16)
    (two_true (is_count_of_columns (length k.keys) && is_count_of_columns (length k.values) && (is_short k.changes && list_all is_change k.changes)) (nat_le (length k.views) 8 && list_all is_stated_view k.views)
    (two_true (is_count_of_columns (length k.keys) && is_count_of_columns (length k.values)) (is_short k.changes && list_all is_change k.changes)
    (two_true (is_count_of_columns (length k.keys)) (is_count_of_columns (length k.values)) (some_columns (length l.first.keys) first.keys first.few_keys) (some_columns (length l.first.values) first.values first.few_values))
    (two_true (is_short k.changes) (list_all is_change k.changes) (less (length l.changes) (2 ^ 16) half) (all_ruled IsTypedChange is_change l.changes is.changes)))
    (two_true (nat_le (length k.views) 8) (list_all is_stated_view k.views) (low (length l.views) 8 shaped.lineage.few_views) (all_ruled IsTypedStatedView is_stated_view l.views is.views)))
    (low (length t.totals) 16 sums) in
    let deltas : are_stated_deltas k ≡ true =
    two_true (is_base_if_any k.base && (is_long k.cumulatives && list_all is_stated_range k.cumulatives)) (is_long k.singles && list_all is_stated_single k.singles)
    (two_true (is_base_if_any k.base) (is_long k.cumulatives && list_all is_stated_range k.cumulatives) base.1
    (two_true (is_long k.cumulatives) (list_all is_stated_range k.cumulatives) (less (length k.cumulatives) (2 ^ 32) ranges) (all_ruled IsTypedRange is_stated_range k.cumulatives cumulatives)))
    (two_true (is_long k.singles) (list_all is_stated_single k.singles) (less (length k.singles) (2 ^ 32) many) (all_ruled IsTypedSingle is_stated_single k.singles singles)) in (
      record {
        name = is.name;
        oldest = oldest;
        begins = (let begun : l.begins < 2 ^ 32 = omega (arith, few) in begun);
        columns = record {
          keys = is.keys;
          values = is.values;
          changes = all_typed IsTypedChange is_change l.changes is.changes;
          views = all_typed IsTypedStatedView is_stated_view l.views is.views;
          totals = wide_totals t.totals shaped.bounded;
        };
        deltas = record {
          base = base.0;
          cumulatives = all_typed IsTypedRange is_stated_range k.cumulatives cumulatives;
          singles = all_typed IsTypedSingle is_stated_single k.singles singles;
        };
      },
      two_true (are_stated_columns k) (are_stated_deltas k) columns deltas,
    )

tables_kept : (floor next : ℕ) (ts : List TableMeta) → next < 2 ^ 32 → AllByRecursion (IsShaped floor next) ts → AllByRecursion IsStatable ts → AllByRecursion IsRecordable ts → AllByRecursion IsKeptTable (map stating_table ts)
tables_kept floor next [] small shaped so is = tt
tables_kept floor next (t ∷ ts) small shaped so is = (table_kept floor next t small shaped.0 so.0 is.0, tables_kept floor next ts small shaped.1 so.1 is.1)

length_stating : (ts : List TableMeta) → length (map stating_table ts) ≡ length ts
length_stating [] = refl
length_stating (t ∷ ts) = ap suc (length_stating ts)

-- Its fields are within their types, and its counts have room.
pub checkpoint_recordable : (c : Catalog) (number : ℕ) → IsWord number → IsCatalog c → AllByRecursion IsStatable c.tables → AreCounted c → AreRecordable c → IsRecord (record_of.Checkpoint (checkpoint_of number c))
checkpoint_recordable c number word shaped so counted is =
    let next : c.next < 2 ^ 32 = omega (arith, shaped.most) in
    let run : c.run < 2 ^ 32 = omega (arith, counted.run) in
    let floor : c.floor < 2 ^ 32 = elim shaped.floor [ inl lt ↦ omega (arith, lt, shaped.most) | inr none ↦ omega (arith, none.0) ] in
    let few : length (map stating_table c.tables) < 2 ^ 16 = omega (arith, length_stating c.tables, shaped.few) in
    let tables = tables_kept c.floor c.next c.tables next shaped.tables so is in
    record {
      typed = record { number = word; run = run; floor = floor; versions = next; tables = all_typed IsTypedTable is_stated_table (map stating_table c.tables) tables };
      rules = two_true (is_short (map stating_table c.tables)) (list_all is_stated_table (map stating_table c.tables)) (less (length (map stating_table c.tables)) (2 ^ 16) few) (all_ruled IsTypedTable is_stated_table (map stating_table c.tables) tables);
    }

-- ---- the fourth edition has room for each checkpoint

files_fourth : (f : Files) → FitsFiles Fourth f
files_fourth f = record { file = tt; views = views f.views }
  where
    views : (vs : List ViewRef) → AllByRecursion (FitsView Fourth) vs
    views [] = tt
    views (v ∷ vs) = (tt, views vs)

range_fourth : (r : CheckpointRange) → FitsRange Fourth r
range_fourth r = by r.files
  where
    by : (o : Option Files) → FitsFilesIfAny Fourth o
    by None = tt
    by (Some f) = files_fourth f

base_fourth : (o : Option CheckpointRange) → FitsBase Fourth o
base_fourth None = tt
base_fourth (Some r) = range_fourth r

ranges_fourth : (rs : List CheckpointRange) → AllByRecursion (FitsRange Fourth) rs
ranges_fourth [] = tt
ranges_fourth (r ∷ rs) = (range_fourth r, ranges_fourth rs)

singles_fourth : (ss : List CheckpointSingle) → AllByRecursion (FitsSingle Fourth) ss
singles_fourth [] = tt
singles_fourth (s ∷ ss) = (record { files = files_fourth s.files; totals = tt }, singles_fourth ss)

tables_fourth : (floor : ℕ) (ts : List CheckpointTable) → AllByRecursion (FitsTable Fourth floor) ts
tables_fourth floor [] = tt
tables_fourth floor (t ∷ ts) = (record { oldest = tt; begins = tt; totals = tt; base = base_fourth t.base; cumulatives = ranges_fourth t.cumulatives; singles = singles_fourth t.singles }, tables_fourth floor ts)

pub fourth_fits : (k : Checkpoint) → FitsIn Fourth (record_of.Checkpoint k)
fourth_fits k = tables_fourth k.floor k.tables
