-- A table, a view and a change keep what catalogues keep.
use Rattle.std.proofs.Common.{◌≡◌, inl, inr, ℕ, zero, suc, ◌+◌, ◌-◌, ◌<◌, ◌≤◌, List, [], ◌∷◌, ◌++◌, map, length, take, drop, flat_map, Option, Some, None, is_ok, is_none, true, false, Bool, ◌&&◌, ◌==◌, nat_le, nat_lt, cond, refl, sym, ◌∙◌, ap, subst, arith, append_assoc, length-append, length-drop, slice_index_or, slice_set}
use Rattle.std.proofs.lemmas.Bool.Decides.{nat_tests}
use Rattle.std.proofs.lemmas.Bool.{eqb-true}
use Rattle.std.proofs.lemmas.Grind.{flat_map-append}
use Rattle.std.proofs.lemmas.List.{append-nil, map-append, length-replicate, take-append-drop}
use Rattle.std.specs.Prelude.{option_map, unwrap_or}
use Rattle.std.specs.List.{AllByRecursion}
use Rattle.mesa_delta_format.specs.mesa_value.declared.Agg.{Agg}
use Rattle.mesa_delta_format.specs.mesa_value.declared.Agg.TheVariants as agg
use Rattle.mesa_history_spec.specs.mesa_columns.declared.columns.ValueColumn.{ValueColumn}
use Rattle.mesa_history_spec.specs.mesa_columns.declared.views.View.{View}
use Rattle.mesa_history_spec.specs.mesa_columns.declared.changes.Change.{Change}
use Rattle.mesa_history_spec.specs.mesa_columns.declared.changes.Change.TheVariants.{AddKey, AddValue, DropValue}
use Rattle.mesa_history_spec.specs.mesa_columns.Names.{has_name, repeated}
use Rattle.mesa_history_spec.specs.mesa_columns.Columns.{Columns, aggs_of, value_names, place_of}
use Rattle.mesa_history_spec.specs.mesa_columns.Schema.{is_schema}
use Rattle.mesa_history_spec.specs.mesa_columns.Changes.{changed}
use Rattle.mesa_history_spec.specs.mesa_schema.Changes.{change_checked, columns_of, epoch_of, rule_checked, with_change}
use Rattle.mesa_history_spec.specs.mesa_schema.Views.{max_views, view_checked}
use Rattle.mesa_history_spec.specs.mesa_schema.Lineages.{HasDefault}
use Rattle.mesa_history_spec.proofs.mesa_schema.Apart.{apart, apart_insert, unrepeated}
use Rattle.mesa_history_spec.proofs.mesa_schema.LineageChanges.{lineage_changed, lineage_new, lineage_viewed}
use Rattle.mesa_history_spec.proofs.mesa_columns.Lists.{all_append, all_drop, all_replicate, all_set, all_so}
use Rattle.mesa_history_spec.proofs.mesa_schema.Passing.{passed_first}
use Rattle.mesa_history_spec.proofs.mesa_schema.PresentRows.{columns_more}
use Rattle.mesa_history_spec.specs.mesa_batch.Totals.{is_sum, sum_bound, sum_places, sums_in, totals_after, totals_without}
use Rattle.mesa_history_spec.specs.mesa_span.Ranges.{base_before, start_behind}
use Rattle.mesa_history_spec.specs.mesa_model.Warehouse.{max_tables}
use Rattle.mesa_record.specs.mesa_record_fields.Rules.{IsTypedChange}
use Rattle.mesa_store_spec.specs.Catalog.{Delta, TableMeta, Catalog, start_in, no_meta, new_meta, meta_at, meta_from, meta_viewed, meta_changed, with_meta, empty_base, empty_delta}
use Rattle.mesa_store_spec.specs.Fitting.{base_deltas, deltas_of, names_in, is_new_name, is_there, table_fits, view_fits, alter_fits, expire_fits}
use Rattle.mesa_store_spec.specs.Shape.{HasBegunIfAny, IsShaped, IsCatalog, IsWithinBound}
use Rattle.mesa_store_spec.proofs.Shaping.{from_shaped}
use Rattle.mesa_store_spec.proofs.Lists.{all_take, both_true, is_less, not_true, meta_found}
use Rattle.mesa_store_spec.proofs.Defaults.{default_read}
use Rattle.mesa_store_spec.proofs.Tables.{same_ends}

-- ---- one table in the place of another

-- A table in the place of one: the others stay, and the names are told.
pub set_shaped : (c : Catalog) (table : ℕ) (t : TableMeta) → IsCatalog c → IsShaped c.floor c.next t → is_none (repeated (flat_map names_in (slice_set c.tables table t))) ≡ true → length (slice_set c.tables table t) ≡ length c.tables → IsCatalog (with_meta c table t)
set_shaped c table t is shaped names len = record {
  tables = all_set (IsShaped c.floor c.next) c.tables table t shaped is.tables;
  names = names;
  floor = is.floor;
  few = subst (λ n. n ≤ max_tables) (sym len) is.few;
  most = is.most;
}

pub length_set : {A : Type 0} (xs : List A) (n : ℕ) (y : A) → length (slice_set xs n y) ≡ length xs
length_set [] n y = refl
length_set (x ∷ xs) zero y = refl
length_set (x ∷ xs) (suc n) y = ap suc (length_set xs n y)

-- a table of the same names leaves the names
pub names_set : (tables : List TableMeta) (n : ℕ) (t : TableMeta) → names_in t ≡ names_in (slice_index_or tables n no_meta) → flat_map names_in (slice_set tables n t) ≡ flat_map names_in tables
names_set [] n t same = refl
names_set (x ∷ tables) zero t same = ap (λ ns. ns ++ flat_map names_in tables) same
names_set (x ∷ tables) (suc n) t same = ap (λ ns. names_in x ++ ns) (names_set tables n t same)

-- One with the same names.
pub same_set : (c : Catalog) (table : ℕ) (t : TableMeta) → IsCatalog c → IsShaped c.floor c.next t → names_in t ≡ names_in (meta_at c table) → IsCatalog (with_meta c table t)
same_set c table t is shaped same = set_shaped c table t is shaped (ap (λ ns. is_none (repeated ns)) (names_set c.tables table t same) ∙ is.names) (length_set c.tables table t)

-- ---- a table

start_before : (version : ℕ) → start_behind (base_before version) ≡ version
start_before version = by (version == 0) refl
  where
    by : (b : Bool) → (version == 0) ≡ b → start_behind (cond b None (Some (version - 1))) ≡ version
    by true e = let f : version ≡ 0 = eqb-true version 0 e in sym f
    by false e = grind (arith, nat_tests)

pub start_new : (c : Catalog) (name : List ℕ) (s : Columns) → start_in (new_meta c name s) ≡ c.floor
start_new c name s = ap start_behind (same_ends (base_before c.floor)) ∙ start_before c.floor

base_epochs : (o : Option ℕ) → AllByRecursion (λ (d : Delta). d.epoch ≤ 0) (base_deltas (option_map empty_base o))
base_epochs None = tt
base_epochs (Some to) = (omega arith, tt)

base_since : (o : Option ℕ) → AllByRecursion (λ (d : Delta). 0 ≤ d.epoch) (base_deltas (option_map empty_base o) ++ [])
base_since None = tt
base_since (Some to) = (omega arith, tt)

base_within : (o : Option ℕ) → AllByRecursion IsWithinBound (base_deltas (option_map empty_base o))
base_within None = tt
base_within (Some to) = (tt, tt)

new_shaped : (c : Catalog) (name : List ℕ) (s : Columns) → IsCatalog c → is_schema s ≡ true → IsShaped c.floor c.next (new_meta c name s)
new_shaped c name s is schema =
    let start = start_new c name s in
    record {
      lineage = lineage_new s schema;
      totals = length-replicate (sums_in (aggs_of s)) 0;
      bounded = all_replicate (λ total. total < sum_bound) 0 (sums_in (aggs_of s)) (omega arith);
      above = omega arith;
      oldest = is.floor;
      singles = (let len = length-replicate (c.next - c.floor) empty_delta in elim is.floor [ inl lt ↦ omega (arith, start, len, lt) | inr none ↦ omega (arith, start, len, none.0, none.1) ]);
      base = omega (arith, start);
      reachable = refl;
      ends = tt;
      epochs = all_append (λ (d : Delta). d.epoch ≤ 0) (base_deltas (new_meta c name s).base) _ (base_epochs (base_before c.floor)) (all_replicate (λ (d : Delta). d.epoch ≤ 0) empty_delta (c.next - c.floor) (omega arith));
      merged_begun = base_since (base_before c.floor);
      singles_begun = all_replicate (HasBegunIfAny (new_meta c name s).lineage) empty_delta (c.next - c.floor) tt;
      recorded = all_append IsWithinBound (base_deltas (new_meta c name s).base) _ (base_within (base_before c.floor)) (all_replicate IsWithinBound empty_delta (c.next - c.floor) tt);
    }

names_pushed : (tables : List TableMeta) (t : TableMeta) → t.lineage.views ≡ [] → has_name t.name (flat_map names_in tables) ≡ false → is_none (repeated (flat_map names_in tables)) ≡ true → is_none (repeated (flat_map names_in (tables ++ t ∷ []))) ≡ true
names_pushed tables t none free h =
    let before : List (List ℕ) = flat_map names_in tables in
    let names : flat_map names_in (tables ++ t ∷ []) ≡ before ++ t.name ∷ [] =
    flat_map-append names_in tables (t ∷ []) ∙ ap (λ (views : List View). before ++ ((t.name ∷ map (λ (v : View). v.name) views) ++ [])) none in
    let new : has_name t.name (before ++ []) ≡ false = ap (has_name t.name) (append-nil before) ∙ free in
    ap (λ ns. is_none (repeated ns)) names
    ∙ unrepeated [] (before ++ t.name ∷ []) (apart_insert t.name [] before [] refl new (apart [] (before ++ []) (ap (λ ns. is_none (repeated ns)) (append-nil before) ∙ h)))

pub table_shaped : (c : Catalog) (name : List ℕ) (s : Columns) → IsCatalog c → table_fits c name s ≡ true → IsCatalog (record c { tables = c.tables ++ new_meta c name s ∷ [] })
table_shaped c name s is e =
    let last = both_true (is_new_name c name && is_schema s) (nat_lt (length c.tables) max_tables) e in
    let first = both_true (is_new_name c name) (is_schema s) last.0 in
    let room : length c.tables < max_tables = is_less (length c.tables) max_tables last.1 in
    record {
      tables = all_append (IsShaped c.floor c.next) c.tables (new_meta c name s ∷ []) is.tables (new_shaped c name s is first.1, tt);
      names = names_pushed c.tables (new_meta c name s) refl (not_true (has_name name (flat_map names_in c.tables)) first.0) is.names;
      floor = is.floor;
      few = omega (arith, room, length-append c.tables (new_meta c name s ∷ []));
      most = is.most;
    }

-- ---- a view

-- where a view's name stands among the names
record Inserted (name : List ℕ) (before after : List (List ℕ)) : Type 0 where
  front : List (List ℕ)
  back : List (List ℕ)
  was : before ≡ front ++ back
  is : after ≡ front ++ name ∷ back

inserted : (tables : List TableMeta) (n : ℕ) (name : List ℕ) (keys values : List (List ℕ)) → n < length tables → Inserted name (flat_map names_in tables) (flat_map names_in (slice_set tables n (meta_viewed (slice_index_or tables n no_meta) name keys values)))
inserted [] n name keys values lt = absurd (omega (arith, lt))
inserted (x ∷ tables) zero name keys values lt =
    let w : View = record { name = name; keys = keys; values = values } in
    record {
      front = names_in x;
      back = flat_map names_in tables;
      was = refl;
      is = ap (λ names. (x.name ∷ names) ++ flat_map names_in tables) (map-append (λ (v : View). v.name) x.lineage.views (w ∷ [])) ∙ append_assoc (names_in x) (name ∷ []) (flat_map names_in tables);
    }
inserted (x ∷ tables) (suc n) name keys values lt =
    let rest = inserted tables n name keys values (omega (arith, lt)) in
    record {
      front = names_in x ++ rest.front;
      back = rest.back;
      was = ap (λ names. names_in x ++ names) rest.was ∙ sym (append_assoc (names_in x) rest.front rest.back);
      is = ap (λ names. names_in x ++ names) rest.is ∙ sym (append_assoc (names_in x) rest.front (name ∷ rest.back));
    }

viewed_shaped : (floor next : ℕ) (t : TableMeta) (name : List ℕ) (keys values : List (List ℕ)) → IsShaped floor next t → is_ok (view_checked (columns_of t.lineage) keys values) ≡ true → length t.lineage.views < 8 → IsShaped floor next (meta_viewed t name keys values)
viewed_shaped floor next t name keys values is ok room =
    let w : View = record { name = name; keys = keys; values = values } in
    record {
      lineage = lineage_viewed t.lineage w is.lineage room ok;
      totals = is.totals;
      bounded = is.bounded;
      above = is.above;
      oldest = is.oldest;
      singles = is.singles;
      base = is.base;
      reachable = is.reachable;
      ends = is.ends;
      epochs = is.epochs;
      merged_begun = is.merged_begun;
      singles_begun = is.singles_begun;
      recorded = is.recorded;
    }

pub view_shaped : (c : Catalog) (table : ℕ) (name : List ℕ) (keys values : List (List ℕ)) → IsCatalog c → view_fits c table name keys values ≡ true → IsCatalog (with_meta c table (meta_viewed (meta_at c table) name keys values))
view_shaped c table name keys values is e =
    let t = meta_at c table in
    let last = both_true _ (nat_lt (length t.lineage.views) max_views) e in
    let third = both_true (is_there c table && is_new_name c name) (is_ok (view_checked (columns_of t.lineage) keys values)) last.0 in
    let first = both_true (is_there c table) (is_new_name c name) third.0 in
    let there : table < length c.tables = is_less table (length c.tables) first.0 in
    let room : length t.lineage.views < 8 = is_less (length t.lineage.views) max_views last.1 in
    let place = inserted c.tables table name keys values there in
    let free = not_true (has_name name (flat_map names_in c.tables)) first.1 in
    let new : has_name name (place.front ++ place.back) ≡ false = ap (has_name name) (sym place.was) ∙ free in
    set_shaped c table (meta_viewed t name keys values) is
    (viewed_shaped c.floor c.next t name keys values (meta_found (IsShaped c.floor c.next) c.tables table there is.tables) third.1 room)
    (ap (λ ns. is_none (repeated ns)) place.is
    ∙ unrepeated [] (place.front ++ name ∷ place.back) (apart_insert name [] place.front place.back refl new (apart [] (place.front ++ place.back) (ap (λ ns. is_none (repeated ns)) (sym place.was) ∙ is.names))))
    (length_set c.tables table (meta_viewed t name keys values))

-- ---- a change

sums_same : (i j : ℕ) (aggs : List Agg) → length (sum_places i aggs) ≡ length (sum_places j aggs)
sums_same i j [] = refl
sums_same i j (agg.Sum ∷ aggs) = ap suc (sums_same (i + 1) (j + 1) aggs)
sums_same i j (agg.Min ∷ aggs) = sums_same (i + 1) (j + 1) aggs
sums_same i j (agg.Max ∷ aggs) = sums_same (i + 1) (j + 1) aggs
sums_same i j (agg.Replace ∷ aggs) = sums_same (i + 1) (j + 1) aggs

sums_append : (i : ℕ) (aggs bs : List Agg) → length (sum_places i (aggs ++ bs)) ≡ length (sum_places i aggs) + sums_in bs
sums_append i [] bs = omega (arith, sums_same i 0 bs)
sums_append i (agg.Sum ∷ aggs) bs = omega (arith, sums_append (i + 1) aggs bs)
sums_append i (agg.Min ∷ aggs) bs = sums_append (i + 1) aggs bs
sums_append i (agg.Max ∷ aggs) bs = sums_append (i + 1) aggs bs
sums_append i (agg.Replace ∷ aggs) bs = sums_append (i + 1) aggs bs

sums_one : (a : Agg) (totals : List ℕ) → length (cond (is_sum a) (totals ++ 0 ∷ []) totals) ≡ length totals + sums_in (a ∷ [])
sums_one agg.Sum totals = length-append totals (0 ∷ [])
sums_one agg.Min totals = omega arith
sums_one agg.Max totals = omega arith
sums_one agg.Replace totals = omega arith

map_take : {A B : Type 0} (f : A → B) (n : ℕ) (xs : List A) → map f (take n xs) ≡ take n (map f xs)
map_take f zero xs = refl
map_take f (suc n) [] = refl
map_take f (suc n) (x ∷ xs) = ap (λ ys. f x ∷ ys) (map_take f n xs)

map_drop : {A B : Type 0} (f : A → B) (n : ℕ) (xs : List A) → map f (drop n xs) ≡ drop n (map f xs)
map_drop f zero xs = refl
map_drop f (suc n) [] = refl
map_drop f (suc n) (x ∷ xs) = map_drop f n xs

sums_split : (n : ℕ) (aggs : List Agg) → sums_in aggs ≡ sums_in (take n aggs) + sums_in (drop n aggs)
sums_split n aggs = ap sums_in (sym (take-append-drop n aggs)) ∙ sums_append 0 (take n aggs) (drop n aggs)

length_taken : {A : Type 0} (n : ℕ) (xs : List A) → n ≤ length xs → length (take n xs) ≡ n
length_taken zero xs le = refl
length_taken (suc n) [] le = absurd (omega (arith, le))
length_taken (suc n) (x ∷ xs) le = ap suc (length_taken n xs (omega (arith, le)))

totals_dropped : (aggs : List Agg) (place : ℕ) (totals : List ℕ) → length totals ≡ sums_in aggs → length (totals_without aggs place totals) ≡ sums_in (take place aggs ++ drop (place + 1) aggs)
totals_dropped aggs place totals e =
    let front = sums_split place aggs in
    let back = sums_split (place + 1) aggs in
    let k = sums_in (take place aggs) in
    let m = sums_in (take (place + 1) aggs) in
    let taken : length (take k totals) ≡ k = length_taken k totals (omega (arith, e, front)) in
    let both = length-append (take k totals) (drop m totals) in
    let dropped = length-drop m totals in
    let right = sums_append 0 (take place aggs) (drop (place + 1) aggs) in
    omega (arith, e, front, back, taken, both, dropped, right)

totals_changed : (s : Columns) (c : Change) (totals : List ℕ) → length totals ≡ sums_in (aggs_of s) → length (totals_after s c totals) ≡ sums_in (aggs_of (changed s c))
totals_changed s (AddValue column default) totals e =
    sums_one column.agg totals ∙ ap (λ n. n + sums_in (column.agg ∷ [])) e ∙ sym (sums_append 0 (aggs_of s) (column.agg ∷ [])) ∙ ap sums_in (sym (map-append (λ (x : ValueColumn). x.agg) s.values (column ∷ [])))
totals_changed s (DropValue name) totals e =
    let i : ℕ = unwrap_or (place_of name (value_names s)) (length s.values) in
    let f = λ (x : ValueColumn). x.agg in
    totals_dropped (aggs_of s) i totals e
    ∙ ap sums_in (sym (map-append f (take i s.values) (drop (i + 1) s.values) ∙ (λ j. map_take f i s.values j ++ map_drop f (i + 1) s.values j)))
totals_changed s (AddKey column default) totals e = e

totals_below : (s : Columns) (c : Change) (totals : List ℕ) → AllByRecursion (λ total. total < sum_bound) totals → AllByRecursion (λ total. total < sum_bound) (totals_after s c totals)
totals_below s (AddValue column default) totals all = by (is_sum column.agg)
  where
    by : (b : Bool) → AllByRecursion (λ total. total < sum_bound) (cond b (totals ++ 0 ∷ []) totals)
    by true = all_append (λ total. total < sum_bound) totals (0 ∷ []) all (omega arith, tt)
    by false = all
totals_below s (DropValue name) totals all =
    let P = λ (total : ℕ). total < sum_bound in
    let i : ℕ = unwrap_or (place_of name (value_names s)) (length s.values) in
    all_append P (take (sums_in (take i (aggs_of s))) totals) _ (all_take P (sums_in (take i (aggs_of s))) totals all) (all_drop P (sums_in (take (i + 1) (aggs_of s))) totals all)
totals_below s (AddKey column default) totals all = all

-- A change that is allowed keeps a table's shape.
pub changed_shaped : (floor next : ℕ) (t : TableMeta) (c : Change) → IsShaped floor next t → HasDefault c → is_ok (change_checked t.lineage c) ≡ true → IsShaped floor next (meta_changed t c)
changed_shaped floor next t c is default ok = record {
  lineage = lineage_changed t.lineage c is.lineage default ok;
  totals = totals_changed (columns_of t.lineage) c t.totals is.totals ∙ ap (λ s. sums_in (aggs_of s)) (sym (columns_more t.lineage c));
  bounded = totals_below (columns_of t.lineage) c t.totals is.bounded;
  above = is.above;
  oldest = is.oldest;
  singles = is.singles;
  base = is.base;
  reachable = is.reachable;
  ends = is.ends;
  epochs = all_so (λ (d : Delta). d.epoch ≤ epoch_of t.lineage) (λ (d : Delta). d.epoch ≤ epoch_of (with_change t.lineage c)) (deltas_of t) (λ d le. (let n : d.epoch ≤ epoch_of (with_change t.lineage c) = omega (arith, le, length-append t.lineage.changes (c ∷ [])) in n)) is.epochs;
  merged_begun = is.merged_begun;
  singles_begun = is.singles_begun;
  recorded = is.recorded;
}

pub alter_shaped : (c : Catalog) (table : ℕ) (change : Change) → IsCatalog c → IsTypedChange change → alter_fits c table change ≡ true → IsCatalog (with_meta c table (meta_changed (meta_at c table) change))
alter_shaped c table change is typed e =
    let t = meta_at c table in
    let both = both_true (is_there c table) (is_ok (change_checked t.lineage change)) e in
    let there : table < length c.tables = is_less table (length c.tables) both.0 in
    let rule = (passed_first (rule_checked t.lineage change) _ both.1).0 in
    same_set c table (meta_changed t change) is (changed_shaped c.floor c.next t change (meta_found (IsShaped c.floor c.next) c.tables table there is.tables) (default_read t.lineage change typed rule) both.1) refl

-- ---- an expiry

pub expire_table_shaped : (c : Catalog) (table version : ℕ) → IsCatalog c → is_there c table && expire_fits c (meta_at c table).oldest version ≡ true → IsCatalog (with_meta c table (meta_from version (meta_at c table)))
expire_table_shaped c table version is e =
    let t = meta_at c table in
    let both = both_true (is_there c table) (expire_fits c t.oldest version) e in
    let there : table < length c.tables = is_less table (length c.tables) both.0 in
    let range = both_true (nat_le t.oldest version) (nat_lt version c.next) both.1 in
    let shaped = meta_found (IsShaped c.floor c.next) c.tables table there is.tables in
    let above = shaped.above in
    same_set c table (meta_from version t) is (from_shaped c.floor c.floor version c.next t (omega (arith, above)) (is_less version c.next range.1) shaped) refl
