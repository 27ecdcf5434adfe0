-- Records whose checks were passed keep the rules of records and fit the catalogue.
use Rattle.std.proofs.Common.{◌≡◌, ◌≤◌, ◌<◌, ℕ, zero, suc, List, length, Bool, true, false, Result, Ok, Err, refl, sym, ◌∙◌, arith}
use Rattle.std.specs.Prelude.{◌&&◌, ◌||◌, ◌==◌, flat_map, is_ok, nat_le, nat_lt, not}
use Rattle.std.specs.List.{list_all}
use Rattle.std.proofs.lemmas.Bool.{le-leb, lt-ltb, ltb-false}
use Rattle.mesa_list.specs.Checks.{◌>>◌, refuse_if, refuse_unless, refused_as}
use Rattle.mesa_catalog.specs.mesa_columns.declared.changes.Change.{Change}
use Rattle.mesa_catalog.specs.mesa_columns.declared.changes.Change.TheVariants as change
use Rattle.mesa_catalog.specs.mesa_columns.declared.columns.KeyColumn.{KeyColumn}
use Rattle.mesa_catalog.specs.mesa_columns.declared.schema.SchemaError.{SchemaError}
use Rattle.mesa_catalog.specs.mesa_columns.declared.views.View.{View}
use Rattle.mesa_catalog.specs.mesa_columns.declared.views.ViewError.{ViewError}
use Rattle.mesa_catalog.specs.mesa_columns.declared.views.ViewError.TheVariants as view
use Rattle.mesa_catalog.specs.mesa_columns.Changes.{is_of_kind}
use Rattle.mesa_schema.specs.Changes.{Lineage, change_checked, columns_of}
use Rattle.mesa_catalog.specs.mesa_columns.Columns.{Columns, key_names, value_names}
use Rattle.mesa_catalog.specs.mesa_columns.Names.{has_name}
use Rattle.mesa_catalog.specs.mesa_columns.Schema.{is_schema, schema_checked}
use Rattle.mesa_schema.specs.Views.{choice_checked, max_views, view_checked, view_columns}
use Rattle.mesa_schema.proofs.Passing.{passed_first, passed_if, passed_unless}
use Rattle.mesa_schema.proofs.ViewSchemas.{view_is_schema}
use Rattle.mesa_record.specs.declared.record.Record.{Record}
use Rattle.mesa_record.specs.declared.record.Record.TheVariants as record_of
use Rattle.mesa_record.specs.mesa_record_fields.Rules.{is_count_of_columns}
use Rattle.mesa_record.specs.Rules.{keeps_rules}
use Rattle.mesa_model.specs.declared.commands.ViewWords.{ViewWords}
use Rattle.mesa_model.specs.declared.replies.Refusal.{Refusal}
use Rattle.mesa_model.specs.declared.replies.SchemaFault.TheVariants as fault
use Rattle.mesa_model.specs.Refusals.{bad_schema, schema_refusal, view_refusal}
use Rattle.mesa_model.specs.Tables.{names_are_good}
use Rattle.mesa_catalog.specs.mesa_store_spec.Catalog.{Catalog, meta_at}
use Rattle.mesa_catalog.specs.mesa_store_spec.Fitting.{brings_new_files, fits, kind_fits, names_in}
use Rattle.mesa_catalog.proofs.mesa_catalog_table.Counts.{chosen_count}
use Rattle.std.proofs.lemmas.List.{length-map}
use Rattle.mesa_binding.specs.Asked.{columns_checked, more_views_checked}

-- a record that brings no files fits where it keeps the rules of its kind
pub fit_of : (c : Catalog) (r : Record) → kind_fits c r ≡ true → brings_new_files c r ≡ true → fits c r ≡ true
unfolding fits
fit_of c r kind files = λ j. kind j && files j

-- ---- columns

counted : (n : ℕ) → (n == 0) ≡ false → nat_lt 16 n ≡ false → is_count_of_columns n ≡ true
counted zero some few = absurd cc
counted (suc n) some few = λ j. le-leb 1 (suc n) (omega arith) j && le-leb (suc n) 16 (ltb-false 16 (suc n) few) j

either : (a b : Bool) → (a || b) ≡ false → (a ≡ false) × (b ≡ false)
either false false e = (refl, refl)
either false true e = absurd cc
either true b e = absurd cc

-- a schema has 1 to 16 columns of each sort
pub columns_counted : (s : Columns) → is_schema s ≡ true → (is_count_of_columns (length s.keys) ≡ true) × (is_count_of_columns (length s.values) ≡ true)
columns_counted s h =
    let keys = passed_if (length s.keys == 0) _ _ h in
    let values = passed_if (length s.values == 0) _ _ keys.1 in
    let few = passed_if (nat_lt 16 (length s.keys) || nat_lt 16 (length s.values)) _ _ values.1 in
    let each = either (nat_lt 16 (length s.keys)) (nat_lt 16 (length s.values)) few.0 in
    (counted (length s.keys) keys.0 each.0, counted (length s.values) values.0 each.1)

good_schema : (good : Bool) (checked : Result (Unit {0}) SchemaError) → (refuse_unless good (bad_schema fault.BadName) >> refused_as schema_refusal checked) ≡ Ok tt → is_ok checked ≡ true
good_schema true (Ok x) e = refl
good_schema true (Err x) e = absurd cc
good_schema false checked e = absurd cc

pub schema_checked_is : (s : Columns) → columns_checked s ≡ Ok tt → is_schema s ≡ true
schema_checked_is s e = good_schema (names_are_good s) (schema_checked s) e

-- ---- a table

pub table_fit : (c : Catalog) (name : List ℕ) (s : Columns) → has_name name (flat_map names_in c.tables) ≡ false → is_schema s ≡ true → length c.tables < 32 → fits c (record_of.Table name s.keys s.values) ≡ true
table_fit c name s free schema few = fit_of c (record_of.Table name s.keys s.values) (λ j. not (free j) && schema j && lt-ltb (length c.tables) 32 few j) refl

pub table_rules : (name : List ℕ) (s : Columns) → is_schema s ≡ true → keeps_rules (record_of.Table name s.keys s.values) ≡ true
table_rules name s schema = let counts = columns_counted s schema in λ j. counts.0 j && counts.1 j

-- ---- a view

viewed : (checked : Result (Unit {0}) ViewError) (full : Bool) (r : Refusal) → (refused_as view_refusal checked >> refuse_if full r) ≡ Ok tt → (is_ok checked ≡ true) × (full ≡ false)
viewed (Ok x) true r e = absurd cc
viewed (Ok x) false r e = (refl, refl)
viewed (Err x) full r e = absurd cc

pub view_passed : (l : Lineage) (words : ViewWords) → more_views_checked l words ≡ Ok tt → is_ok (view_checked (columns_of l) words.keys words.values) ≡ true
view_passed l words e = (viewed (view_checked (columns_of l) words.keys words.values) (nat_le max_views (length l.views)) _ e).0

pub view_fit : (c : Catalog) (number : ℕ) (name : List ℕ) (keys values : List (List ℕ)) → number < length c.tables → has_name name (flat_map names_in c.tables) ≡ false → is_ok (view_checked (columns_of (meta_at c number).lineage) keys values) ≡ true
    → length (meta_at c number).lineage.views < max_views → fits c (record_of.View number name keys values) ≡ true
view_fit c number name keys values there free passed room =
    fit_of c (record_of.View number name keys values) (λ j. lt-ltb number (length c.tables) there j && not (free j) && passed j && lt-ltb (length (meta_at c number).lineage.views) max_views room j) refl

chosen_all : (names : List (List ℕ)) (none : ViewError) (chosen : List (List ℕ)) → is_ok (choice_checked names none chosen) ≡ true → list_all (λ name. has_name name names) chosen ≡ true
chosen_all names none chosen h = (passed_unless (list_all (λ name. has_name name names) chosen) _ _ h).0

-- a view of a schema has 1 to 16 columns of each sort
pub view_rules : (s : Columns) (number : ℕ) (name : List ℕ) (keys values : List (List ℕ)) → is_schema s ≡ true → is_ok (view_checked s keys values) ≡ true → keeps_rules (record_of.View number name keys values) ≡ true
view_rules s number name keys values schema passed =
    let v : View = record { name = name; keys = keys; values = values } in
    let parts = passed_first (choice_checked (key_names s) view.NoKey keys) _ passed in
    let first = passed_first (choice_checked (value_names s) view.NoValue values) _ parts.1 in
    let key_count = chosen_count (key_names s) s.keys keys (length-map s.keys (λ (c : KeyColumn). c.name)) (chosen_all (key_names s) view.NoKey keys parts.0) in
    let value_count = chosen_count (value_names s) s.values values (length-map s.values _) (chosen_all (value_names s) view.NoValue values first.0) in
    let counts = columns_counted (view_columns s v) (view_is_schema s v schema passed) in
    (λ j. is_count_of_columns (sym key_count j) && is_count_of_columns (sym value_count j)) ∙ (λ j. counts.0 j && counts.1 j)

-- ---- a change

pub alter_fit : (c : Catalog) (number : ℕ) (change : Change) → number < length c.tables → change_checked (meta_at c number).lineage change ≡ Ok tt → fits c (record_of.Alter number change) ≡ true
alter_fit c number change there passed = fit_of c (record_of.Alter number change) (λ j. lt-ltb number (length c.tables) there j && is_ok (passed j)) refl

last_kept : {E : Type 0} (names kind : Result (Unit {0}) E) (full : Result (Unit {0}) E) → (names >> kind >> full) ≡ Ok tt → is_ok kind ≡ true
last_kept (Ok x) (Ok y) full e = refl
last_kept (Ok x) (Err y) full e = absurd cc
last_kept (Err x) kind full e = absurd cc

kept : {E : Type 0} (t : Bool) (e : E) → is_ok (refuse_unless t e) ≡ true → t ≡ true
kept true e h = refl
kept false e h = absurd cc

pub alter_rules : (l : Lineage) (number : ℕ) (change : Change) → change_checked l change ≡ Ok tt → keeps_rules (record_of.Alter number change) ≡ true
alter_rules l number (change.AddValue column default) passed = refl
alter_rules l number (change.DropValue name) passed = refl
alter_rules l number (change.AddKey column default) passed = kept (is_of_kind column.kind default) _ (last_kept _ _ _ passed)

-- ---- an expiry

pub expire_fit : (c : Catalog) (version : ℕ) → c.floor ≤ version → version < c.next → fits c (record_of.Expire version) ≡ true
expire_fit c version low high = fit_of c (record_of.Expire version) (λ j. le-leb c.floor version low j && lt-ltb version c.next high j) refl

pub expire_table_fit : (c : Catalog) (number version : ℕ) → number < length c.tables → (meta_at c number).oldest ≤ version → version < c.next → fits c (record_of.ExpireTable number version) ≡ true
expire_table_fit c number version there low high = fit_of c (record_of.ExpireTable number version) (λ j. lt-ltb number (length c.tables) there j && (le-leb (meta_at c number).oldest version low j && lt-ltb version c.next high j)) refl
