-- Views outlive the changes of their table.
use Rattle.std.proofs.Common.{◌≡◌, ℕ, suc, List, [], ◌∷◌, ◌++◌, map, length, take, drop, Bool, true, false, cond, not, refl, sym, ◌∙◌, ap, append_assoc, Option, Some, None, Result, Ok, Err, is_ok, slice_get, find, is_some, ℤ}
use Rattle.std.specs.Prelude.{unwrap_or}
use Rattle.std.specs.List.{AllByRecursion, concat, list_all}
use Rattle.std.proofs.lemmas.Bool.{and_from, and_parts}
use Rattle.std.proofs.lemmas.Option.{slice_get-get_or, slice_get-map}
use Rattle.std.proofs.lemmas.List.{length-map, map-append}
use Rattle.std.proofs.lemmas.Simd.{map-map}
use Rattle.mesa_fold.specs.mesa_list.Bytes.{same_bytes}
use Rattle.mesa_fold.specs.mesa_list.Checks.{◌>>◌}
use Rattle.mesa_fold.specs.mesa_key.declared.KeyType.{KeyType}
use Rattle.mesa_fold.specs.mesa_key.declared.KeyValue.{KeyValue}
use Rattle.mesa_fold.specs.mesa_key.Spelling.{IsKey, column_length, columns_of as key_columns, key_of, key_spelling, value_spelling}
use Rattle.mesa_fold.proofs.mesa_key.Columns.{begins}
use Rattle.mesa_columns.specs.declared.columns.KeyColumn.{KeyColumn}
use Rattle.mesa_columns.specs.declared.columns.ValueColumn.{ValueColumn}
use Rattle.mesa_columns.specs.declared.rows.Row.{Row}
use Rattle.mesa_columns.specs.declared.views.View.{View}
use Rattle.mesa_columns.specs.declared.views.ViewError.{ViewError}
use Rattle.mesa_columns.specs.declared.views.ViewError.TheVariants.{NoKey, NoValue, ReplaceInView}
use Rattle.mesa_columns.specs.declared.changes.Change.{Change}
use Rattle.mesa_columns.specs.declared.changes.Change.TheVariants.{AddKey, AddValue, DropValue}
use Rattle.mesa_columns.specs.Names.{has_name}
use Rattle.mesa_columns.specs.Columns.{Columns, aggs_of, chosen, is_replace, key_names, kinds_of, place_of, places_in, value_names}
use Rattle.mesa_columns.specs.Changes.{changed, lifted_once, without}
use Rattle.mesa_schema.specs.Changes.{Lineage, columns_of, rule_checked}
use Rattle.mesa_schema.specs.Views.{choice_checked, values_named, view_key_places, view_rows, view_value_places}
use Rattle.mesa_schema.specs.Lineages.{is_view_of}
use Rattle.mesa_fold.specs.Folded.{folded, regrouped}
use Rattle.mesa_columns.specs.Rows.{AreRowsOf, IsRowOf}
use Rattle.mesa_schema.specs.Laws.{Outlives}
use Rattle.mesa_schema.proofs.ChosenColumns.{all_push, all_without, chosen_push, chosen_without, none_is}
use Rattle.mesa_columns.proofs.Drops.{without-map}
use Rattle.mesa_columns.proofs.Lists.{got_map, same_maps}
use Rattle.mesa_columns.proofs.Maps.{is_some_position}
use Rattle.mesa_schema.proofs.Passing.{passed_first, passed_unless}
use Rattle.mesa_fold.proofs.Picks.{chosen-less, chosen-push}
use Rattle.mesa_columns.proofs.Places.{place_named}
use Rattle.mesa_schema.proofs.SchemaChanges.{may_go}

-- ---- what an allowed view asks for

-- refused for a replace column
abbrev refuse_replace : Option ValueColumn → Result (Unit {0}) ViewError
refuse_replace None = Ok tt
refuse_replace (Some column) = Err (ReplaceInView column.name)

-- whether all names that a view asks for are there
abbrev there : List (List ℕ) → List (List ℕ) → Bool
there names asked = list_all (λ name. has_name name names) asked

choice_same : (names others : List (List ℕ)) (none : ViewError) (asked : List (List ℕ)) → there names asked ≡ true → there others asked ≡ true → choice_checked others none asked ≡ choice_checked names none asked
choice_same names others none asked e f = rw (e, f) refl

-- the names that an allowed view asks for are there
record Asks (s : Columns) (v : View) : Type 0 where
  keys : there (key_names s) v.keys ≡ true
  values : there (value_names s) v.values ≡ true

asks : (s : Columns) (v : View) → is_view_of s v ≡ true → Asks s v
asks s v h =
    let first = passed_first (choice_checked (key_names s) NoKey v.keys) _ h in
    let second = passed_first (choice_checked (value_names s) NoValue v.values) _ first.1 in
    record {
      keys = (passed_unless (there (key_names s) v.keys) _ _ first.0).0;
      values = (passed_unless (there (value_names s) v.values) _ _ second.0).0;
    }

-- columns in which it finds what it found allow it too
same_view : (s others : Columns) (v : View) → is_view_of s v ≡ true → Asks others v → values_named others v.values ≡ values_named s v.values → is_view_of others v ≡ true
same_view s others v h now named =
    let was = asks s v h in
    let keys = choice_same (key_names s) (key_names others) NoKey v.keys was.keys now.keys in
    let values = choice_same (value_names s) (value_names others) NoValue v.values was.values now.values in
    (λ i. is_ok (keys i >> (values i >> refuse_replace (find is_replace (named i))))) ∙ h

-- ---- the columns of a longer key

columns_of-length : (types : List KeyType) (bytes : List ℕ) → length (key_columns types bytes) ≡ length types
columns_of-length [] bytes = refl
columns_of-length (type ∷ types) bytes = ap suc (columns_of-length types (drop (column_length type bytes) bytes))

-- a type and bytes more give a column more
columns_of-push : (types : List KeyType) (key : List KeyValue) (type : KeyType) (more : List ℕ) → IsKey types key
    → key_columns (types ++ type ∷ []) (key_spelling key ++ more) ≡ key_columns types (key_spelling key) ++ take (column_length type more) more ∷ []
columns_of-push [] [] type more is = refl
columns_of-push [] (value ∷ key) type more is = absurd is
columns_of-push (t ∷ types) [] type more is = absurd is
columns_of-push (t ∷ types) (value ∷ key) type more is =
    let long = begins t value (key_spelling key ++ more) is.0 in
    let short = begins t value (key_spelling key) is.0 in
    ap (key_columns (t ∷ (types ++ type ∷ []))) (append_assoc (value_spelling value) (key_spelling key) more)
    ∙ (λ i. long.column i ∷ key_columns (types ++ type ∷ []) (long.rest i))
    ∙ ap (λ columns. value_spelling value ∷ columns) (columns_of-push types key type more is.1)
    ∙ sym (λ i. short.column i ∷ (key_columns types (short.rest i) ++ take (column_length type more) more ∷ []))

-- ---- grouping lifted rows

-- rows that are grouped alike before and after a change
same_groups : (s others : Columns) (v : View) (f : Row → Row) → chosen (view_value_places others v) (aggs_of others) ≡ chosen (view_value_places s v) (aggs_of s)
    → ((row : Row) → IsRowOf s row → regrouped others (view_key_places others v) (view_value_places others v) (f row) ≡ regrouped s (view_key_places s v) (view_value_places s v) row)
    → (rows : List Row) → AreRowsOf s rows → view_rows others v (map f rows) ≡ view_rows s v rows
same_groups s others v f aggs same rows all =
    let now : Row → Row = regrouped others (view_key_places others v) (view_value_places others v) in
    let was : Row → Row = regrouped s (view_key_places s v) (view_value_places s v) in
    (λ i. folded (aggs i) ((map-map now f rows ∙ same_maps (IsRowOf s) (λ row. now (f row)) was rows same all) i ∷ []))

-- the view does not use the column that goes
abbrev Spares : Change → View → Type 0
Spares (AddValue column default) v = Unit {0}
Spares (DropValue name) v = has_name name v.values ≡ false
Spares (AddKey column default) v = Unit {0}

-- the column that goes, by its name
goes_at : (columns : List ValueColumn) (name : List ℕ) (o : Option ℕ) → place_of name (map (λ (c : ValueColumn). c.name) columns) ≡ o → is_some o ≡ true
    → (c : ValueColumn) × (slice_get columns (unwrap_or o (length columns)) ≡ Some c) × (c.name ≡ name)
goes_at columns name None e h = cc
goes_at columns name (Some i) e h =
    let names : List (List ℕ) = map (λ (c : ValueColumn). c.name) columns in
    let at = place_named name names i [] e in
    got_map (λ (c : ValueColumn). c.name) columns i name (slice_get-get_or names i [] at.0 ∙ ap Some at.1)

value_added : (s : Columns) (column : ValueColumn) (default : ℤ) (v : View) → is_view_of s v ≡ true → Outlives s (AddValue column default) v
value_added s column default v ok =
    let c : Change = AddValue column default in
    let was = asks s v ok in
    let names : value_names (changed s c) ≡ value_names s ++ column.name ∷ [] = map-append (λ (x : ValueColumn). x.name) s.values (column ∷ []) in
    let columns = chosen_push (λ (x : ValueColumn). x.name) s.values column v.values was.values in
    let count : length (value_names s) ≡ length s.values = length-map s.values (λ (x : ValueColumn). x.name) in
    let aggs : aggs_of (changed s c) ≡ aggs_of s ++ column.agg ∷ [] = map-append (λ (x : ValueColumn). x.agg) s.values (column ∷ []) in
    record {
      allowed = same_view s (changed s c) v ok (record { keys = was.keys; values = ap (λ ns. there ns v.values) names ∙ all_push (value_names s) v.values column.name was.values }) columns;
      columns = λ i. record { keys = chosen (view_key_places s v) s.keys; values = columns i };
      rows = same_groups s (changed s c) v (lifted_once s c)
          ((λ i. chosen (places_in (names i) v.values) (aggs i)) ∙ chosen-push (value_names s) (aggs_of s) column.name column.agg v.values (count ∙ sym (length-map s.values (λ (x : ValueColumn). x.agg))) was.values)
          (λ row form. ap (λ values. record { key = concat (chosen (view_key_places s v) (key_columns (kinds_of s) row.key)); values = values })
          (ap (λ ns. chosen (places_in ns v.values) (row.values ++ default ∷ [])) names ∙ chosen-push (value_names s) row.values column.name default v.values (count ∙ sym form.values) was.values));
    }

value_dropped : (s : Columns) (name : List ℕ) (v : View) → has_name name (value_names s) ≡ true → has_name name v.values ≡ false → is_view_of s v ≡ true → Outlives s (DropValue name) v
value_dropped s name v here spares ok =
    let c : Change = DropValue name in
    let was = asks s v ok in
    let at = goes_at s.values name (place_of name (value_names s)) refl (is_some_position (same_bytes name) (value_names s) ∙ here) in
    let i : ℕ = unwrap_or (place_of name (value_names s)) (length s.values) in
    let others : list_all (λ n. not (same_bytes n at.0.name)) v.values ≡ true = ap (λ n. list_all (λ m. not (same_bytes m n)) v.values) at.2 ∙ none_is name v.values spares in
    let columns = chosen_without (λ (x : ValueColumn). x.name) i s.values at.0 v.values at.1 others in
    let names : value_names (changed s c) ≡ without i (value_names s) = without-map (λ (x : ValueColumn). x.name) i s.values in
    let aggs : aggs_of (changed s c) ≡ without i (aggs_of s) = without-map (λ (x : ValueColumn). x.agg) i s.values in
    let count : length (value_names s) ≡ length s.values = length-map s.values (λ (x : ValueColumn). x.name) in
    let name_at : slice_get (value_names s) i ≡ Some at.0.name = slice_get-map (λ (x : ValueColumn). x.name) s.values i ∙ ap (λ o. elim o as (λ _. Option (List ℕ)) [ None ↦ None | Some x ↦ Some x.name ]) at.1 in
    record {
      allowed = same_view s (changed s c) v ok (record { keys = was.keys; values = all_without (λ (x : ValueColumn). x.name) i s.values at.0 v.values at.1 others was.values }) columns;
      columns = λ j. record { keys = chosen (view_key_places s v) s.keys; values = columns j };
      rows = same_groups s (changed s c) v (lifted_once s c)
          ((λ j. chosen (places_in (names j) v.values) (aggs j)) ∙ chosen-less (value_names s) (aggs_of s) i at.0.name v.values (count ∙ sym (length-map s.values (λ (x : ValueColumn). x.agg))) name_at others)
          (λ row form. ap (λ values. record { key = concat (chosen (view_key_places s v) (key_columns (kinds_of s) row.key)); values = values })
          (ap (λ ns. chosen (places_in ns v.values) (without i row.values)) names ∙ chosen-less (value_names s) row.values i at.0.name v.values (count ∙ sym form.values) name_at others));
    }

key_added : (s : Columns) (column : KeyColumn) (default : KeyValue) (v : View) → is_view_of s v ≡ true → Outlives s (AddKey column default) v
key_added s column default v ok =
    let c : Change = AddKey column default in
    let was = asks s v ok in
    let names : key_names (changed s c) ≡ key_names s ++ column.name ∷ [] = map-append (λ (x : KeyColumn). x.name) s.keys (column ∷ []) in
    let kinds : kinds_of (changed s c) ≡ kinds_of s ++ column.kind ∷ [] = map-append (λ (x : KeyColumn). x.kind) s.keys (column ∷ []) in
    let columns = chosen_push (λ (x : KeyColumn). x.name) s.keys column v.keys was.keys in
    let count : length (key_names s) ≡ length (kinds_of s) = length-map s.keys (λ (x : KeyColumn). x.name) ∙ sym (length-map s.keys (λ (x : KeyColumn). x.kind)) in
    record {
      allowed = same_view s (changed s c) v ok (record { keys = ap (λ ns. there ns v.keys) names ∙ all_push (key_names s) v.keys column.name was.keys; values = was.values }) refl;
      columns = λ i. record { keys = columns i; values = chosen (view_value_places s v) s.values };
      rows = same_groups s (changed s c) v (lifted_once s c) refl (λ row form.
          let key : List KeyValue = key_of (kinds_of s) row.key in
          let last : List ℕ = take (column_length column.kind (value_spelling default)) (value_spelling default) in
          let longer : key_columns (kinds_of (changed s c)) (row.key ++ value_spelling default) ≡ key_columns (kinds_of s) row.key ++ last ∷ [] =
          (λ i. key_columns (kinds i) (sym form.spelled i ++ value_spelling default)) ∙ columns_of-push (kinds_of s) key column.kind (value_spelling default) form.key
          ∙ ap (λ bytes. key_columns (kinds_of s) bytes ++ last ∷ []) form.spelled in
          ap (λ parts. record { key = concat parts; values = chosen (view_value_places s v) row.values })
          ((λ i. chosen (places_in (names i) v.keys) (longer i))
          ∙ chosen-push (key_names s) (key_columns (kinds_of s) row.key) column.name last v.keys (count ∙ sym (columns_of-length (kinds_of s) row.key)) was.keys));
    }

-- A view outlives an allowed change that spares it.
outlives : (l : Lineage) (c : Change) (v : View) → is_ok (rule_checked l c) ≡ true → Spares c v → is_view_of (columns_of l) v ≡ true → Outlives (columns_of l) c v
outlives l (AddValue column default) v h spares ok = value_added (columns_of l) column default v ok
outlives l (DropValue name) v h spares ok = value_dropped (columns_of l) name v (may_go l name h).there spares ok
outlives l (AddKey column default) v h spares ok = key_added (columns_of l) column default v ok

none_uses : (name : List ℕ) (views : List View) → find (λ (v : View). has_name name v.values) views ≡ None → AllByRecursion (λ (v : View). has_name name v.values ≡ false) views
none_uses name [] h = tt
none_uses name (v ∷ views) h = elim (has_name name v.values) as (λ b. has_name name v.values ≡ b → cond b (Some v) (find (λ (x : View). has_name name x.values) views) ≡ None → AllByRecursion (λ (x : View). has_name name x.values ≡ false) (v ∷ views)) [
  | true ↦ λ e f. cc
  | false ↦ λ e f. (e, none_uses name views f)
] refl h

any : (views : List View) → AllByRecursion (λ v. Unit {0}) views
any [] = tt
any (v ∷ views) = (tt, any views)

all_spared : (l : Lineage) (c : Change) → is_ok (rule_checked l c) ≡ true → AllByRecursion (Spares c) l.views
all_spared l (AddValue column default) h = any l.views
all_spared l (DropValue name) h = none_uses name l.views (may_go l name h).unused
all_spared l (AddKey column default) h = any l.views

-- Views outlive changes.
pub views_outlive : (l : Lineage) (c : Change) → is_ok (rule_checked l c) ≡ true → list_all (is_view_of (columns_of l)) l.views ≡ true → AllByRecursion (Outlives (columns_of l) c) l.views
views_outlive l c h all = each l.views (all_spared l c h) all
  where
    each : (views : List View) → AllByRecursion (Spares c) views → list_all (is_view_of (columns_of l)) views ≡ true → AllByRecursion (Outlives (columns_of l) c) views
    each [] spared all = tt
    each (v ∷ views) spared all =
        let parts = and_parts (is_view_of (columns_of l) v) (list_all (is_view_of (columns_of l)) views) all in
        (outlives l c v h spared.0 parts.0, each views spared.1 parts.1)

-- So they stay allowed.
pub views_changed : (l : Lineage) (c : Change) → is_ok (rule_checked l c) ≡ true → list_all (is_view_of (columns_of l)) l.views ≡ true → list_all (is_view_of (changed (columns_of l) c)) l.views ≡ true
views_changed l c h all = each l.views (views_outlive l c h all)
  where
    each : (views : List View) → AllByRecursion (Outlives (columns_of l) c) views → list_all (is_view_of (changed (columns_of l) c)) views ≡ true
    each [] outlive = refl
    each (v ∷ views) outlive = and_from (is_view_of (changed (columns_of l) c) v) (list_all (is_view_of (changed (columns_of l) c)) views) outlive.0.allowed (each views outlive.1)
