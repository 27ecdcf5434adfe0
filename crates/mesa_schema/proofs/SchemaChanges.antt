-- Columns keep the rules of a schema through an allowed change.
use Rattle.std.proofs.Common.{◌≡◌, ℕ, ◌+◌, ◌<◌, ◌≤◌, List, [], ◌∷◌, ◌++◌, length, true, false, refl, sym, ◌∙◌, ap, subst, arith, ◌||◌, Option, Some, None, Result, Ok, Err, is_ok, nat_lt, nat_le, ◌==◌, take, drop, is_none}
use Rattle.std.specs.Prelude.{unwrap_or, find}
use Rattle.std.proofs.lemmas.Bool.{eqb-false, leb-false, ltb-false, ne_eqb, or_parts}
use Rattle.std.proofs.lemmas.List.{append-nil, length-append, length-drop, length-map, length-take, map-append}
use Rattle.mesa_fold.specs.mesa_list.Checks.{◌>>◌}
use Rattle.mesa_columns.specs.declared.columns.KeyColumn.{KeyColumn}
use Rattle.mesa_columns.specs.declared.columns.ValueColumn.{ValueColumn}
use Rattle.mesa_columns.specs.declared.views.View.{View}
use Rattle.mesa_columns.specs.declared.changes.Change.{Change}
use Rattle.mesa_columns.specs.declared.changes.Change.TheVariants.{AddKey, AddValue, DropValue}
use Rattle.mesa_columns.specs.declared.changes.ChangeError.{ChangeError}
use Rattle.mesa_columns.specs.declared.schema.SchemaError.{SchemaError}
use Rattle.mesa_columns.specs.declared.schema.SchemaError.TheVariants.{NameTwice}
use Rattle.mesa_columns.specs.Names.{has_name, repeated}
use Rattle.mesa_columns.specs.Columns.{Columns, key_names, place_of, value_names}
use Rattle.mesa_columns.specs.Schema.{is_schema, max_columns}
use Rattle.mesa_columns.specs.Changes.{changed, without}
use Rattle.mesa_schema.specs.Changes.{Lineage, columns_of, drop_checked, new_name_checked, refuse_used, rule_checked}
use Rattle.mesa_columns.proofs.Drops.{without-map}
use Rattle.mesa_schema.proofs.Passing.{passed_first, passed_if, passed_last, passed_unless}
use Rattle.mesa_columns.proofs.SchemaRules.{rules_left}
use Rattle.mesa_schema.proofs.Apart.{Apart, apart, apart_insert, apart_without, is_nothing, unrepeated}

-- Columns that keep the rules of a schema, rule by rule.
pub record IsSchema (s : Columns) : Type 0 where
  pub keys : (length s.keys == 0) ≡ false
  pub values : (length s.values == 0) ≡ false
  pub few_keys : length s.keys ≤ 16
  pub few_values : length s.values ≤ 16
  pub key_names : Apart [] (key_names s)
  pub value_names : Apart [] (value_names s)

-- refused for a name that is there twice
abbrev refuse_repeated : Option (List ℕ) → Result (Unit {0}) SchemaError
refuse_repeated None = Ok tt
refuse_repeated (Some name) = Err (NameTwice name)

not_repeated : (o : Option (List ℕ)) (next : Result (Unit {0}) SchemaError) → is_ok (refuse_repeated o >> next) ≡ true → (is_none o ≡ true) × (is_ok next ≡ true)
not_repeated None next h = (refl, h)
not_repeated (Some name) next h = cc

not_repeated_last : (o : Option (List ℕ)) → is_ok (refuse_repeated o) ≡ true → is_none o ≡ true
not_repeated_last None h = refl
not_repeated_last (Some name) h = cc

pub schema_rules : (s : Columns) → is_schema s ≡ true → IsSchema s
schema_rules s h =
    let first = passed_if (length s.keys == 0) _ _ h in
    let second = passed_if (length s.values == 0) _ _ first.1 in
    let third = passed_if (nat_lt max_columns (length s.keys) || nat_lt max_columns (length s.values)) _ _ second.1 in
    let bounds = or_parts (nat_lt max_columns (length s.keys)) (nat_lt max_columns (length s.values)) third.0 in
    let fourth = not_repeated (repeated (key_names s)) _ third.1 in
    record {
      keys = first.0;
      values = second.0;
      few_keys = ltb-false max_columns (length s.keys) bounds.0;
      few_values = ltb-false max_columns (length s.values) bounds.1;
      key_names = apart [] (key_names s) fourth.0;
      value_names = apart [] (value_names s) (not_repeated_last (repeated (value_names s)) fourth.1);
    }

pub rules_schema : (s : Columns) → IsSchema s → is_schema s ≡ true
rules_schema s rules = ap is_ok (rules_left s None rules.keys rules.values rules.few_keys rules.few_values
    (is_nothing (repeated (key_names s)) (unrepeated [] (key_names s) rules.key_names)) (is_nothing (repeated (value_names s)) (unrepeated [] (value_names s) rules.value_names)))

-- ---- what an allowed change says

-- a new name is none of those that are there, and there is room for it
pub new_name : (name : List ℕ) (names : List (List ℕ)) → is_ok (new_name_checked name names) ≡ true → (has_name name names ≡ false) × (length names < 16)
new_name name names h =
    let first = passed_if (has_name name names) _ _ h in
    (first.0, leb-false max_columns (length names) (passed_last (nat_le max_columns (length names)) _ first.1))

unused : (o : Option View) (next : Result (Unit {0}) ChangeError) → is_ok (refuse_used o >> next) ≡ true → (o ≡ None) × (is_ok next ≡ true)
unused None next h = (refl, h)
unused (Some view) next h = cc

-- A value column may go: it is there, no view has it, and it isn't the last one.
pub record MayGo (l : Lineage) (name : List ℕ) : Type 0 where
  pub there : has_name name (value_names (columns_of l)) ≡ true
  pub unused : find (λ (v : View). has_name name v.values) l.views ≡ None
  pub others : (length (columns_of l).values == 1) ≡ false

pub may_go : (l : Lineage) (name : List ℕ) → is_ok (drop_checked l name) ≡ true → MayGo l name
may_go l name h =
    let first = passed_unless (has_name name (value_names (columns_of l))) _ _ h in
    let second = unused (find (λ (v : View). has_name name v.values) l.views) _ first.1 in
    record {
      there = first.0;
      unused = second.0;
      others = ap (λ n. n == 1) (sym (length-map (columns_of l).values (λ (c : ValueColumn). c.name))) ∙ passed_last (length (value_names (columns_of l)) == 1) _ second.1;
    }

-- ---- the rules after a change

push_apart : (names : List (List ℕ)) (name : List ℕ) → has_name name names ≡ false → Apart [] names → Apart [] (names ++ name ∷ [])
push_apart names name new h = apart_insert name [] names [] refl (ap (has_name name) (append-nil names) ∙ new) (subst (Apart []) (sym (append-nil names)) h)

some_left : (n : ℕ) (xs : ℕ) → n ≡ xs + 1 → (n == 0) ≡ false
some_left n xs e = ne_eqb n 0 (λ z. omega arith)

length_without : {A : Type 0} (i : ℕ) (xs : List A) → (length xs ≤ length (without i xs) + 1) × (length (without i xs) ≤ length xs)
length_without i xs = omega (arith, length-append (take i xs) (drop (i + 1) xs), length-take i xs, length-drop (i + 1) xs)

-- The columns keep the rules.
pub schema_changed : (l : Lineage) (c : Change) → IsSchema (columns_of l) → is_ok (rule_checked l c) ≡ true → IsSchema (changed (columns_of l) c)
schema_changed l (AddValue column default) rules h =
    let s = columns_of l in
    let name = new_name column.name (value_names s) (passed_first (new_name_checked column.name (value_names s)) _ h).0 in
    let count = length-append s.values (column ∷ []) in
    record {
      keys = rules.keys;
      values = some_left (length (s.values ++ column ∷ [])) (length s.values) count;
      few_keys = rules.few_keys;
      few_values = omega (arith, count, name.1, length-map s.values (λ (v : ValueColumn). v.name));
      key_names = rules.key_names;
      value_names = subst (Apart []) (sym (map-append (λ (v : ValueColumn). v.name) s.values (column ∷ []))) (push_apart (value_names s) column.name name.0 rules.value_names);
    }
schema_changed l (DropValue name) rules h =
    let s = columns_of l in
    let goes = may_go l name h in
    let i : ℕ = unwrap_or (place_of name (value_names s)) (length s.values) in
    let count = length_without i s.values in
    record {
      keys = rules.keys;
      values = ne_eqb (length (without i s.values)) 0 (λ z. eqb-false (length s.values) 1 goes.others (omega (arith, count.0, z, eqb-false (length s.values) 0 rules.values)));
      few_keys = rules.few_keys;
      few_values = omega (arith, count.1, rules.few_values);
      key_names = rules.key_names;
      value_names = subst (Apart []) (sym (without-map (λ (v : ValueColumn). v.name) i s.values)) (apart_without i [] (value_names s) rules.value_names);
    }
schema_changed l (AddKey column default) rules h =
    let s = columns_of l in
    let name = new_name column.name (key_names s) (passed_first (new_name_checked column.name (key_names s)) _ h).0 in
    let count = length-append s.keys (column ∷ []) in
    record {
      keys = some_left (length (s.keys ++ column ∷ [])) (length s.keys) count;
      values = rules.values;
      few_keys = omega (arith, count, name.1, length-map s.keys (λ (v : KeyColumn). v.name));
      few_values = rules.few_values;
      key_names = subst (Apart []) (sym (map-append (λ (v : KeyColumn). v.name) s.keys (column ∷ []))) (push_apart (key_names s) column.name name.0 rules.key_names);
      value_names = rules.value_names;
    }
