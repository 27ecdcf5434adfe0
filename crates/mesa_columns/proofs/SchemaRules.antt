-- Columns that keep the rules of a schema.
use Rattle.std.proofs.Common.{◌≡◌, ℕ, ◌≤◌, List, length, false, refl, sym, ◌∙◌, ap, arith, Option, Some, None, Ok, Err, ◌<◌, map, get_or}
use Rattle.std.specs.Prelude.{◌==◌, ◌||◌, nat_lt, option_map, slice_get}
use Rattle.std.proofs.lemmas.Bool.{le-ltb}
use Rattle.std.proofs.lemmas.Option.{slice_get-get_or, slice_get-map}
use Rattle.mesa_columns.specs.declared.columns.KeyColumn.{KeyColumn}
use Rattle.mesa_columns.specs.declared.columns.ValueColumn.{ValueColumn}
use Rattle.mesa_columns.specs.declared.schema.SchemaError.TheVariants.{NameTwice}
use Rattle.mesa_columns.specs.Names.{repeated}
use Rattle.mesa_columns.specs.Columns.{Columns, key_names, value_names}
use Rattle.mesa_columns.specs.Schema.{schema_checked}

-- Columns, some of each sort and not too many, without a repeated name among the key columns: the value columns' names decide.
pub rules_left : (s : Columns) (o : Option (List ℕ)) → (length s.keys == 0) ≡ false → (length s.values == 0) ≡ false → length s.keys ≤ 16 → length s.values ≤ 16
    → repeated (key_names s) ≡ None → repeated (value_names s) ≡ o → schema_checked s ≡ elim o [ None ↦ Ok tt | Some name ↦ Err (NameTwice name) ]
rules_left s o e f h g r t =
    let few : (nat_lt 16 (length s.keys) || nat_lt 16 (length s.values)) ≡ false =
    ap (λ x. x || nat_lt 16 (length s.values)) (le-ltb 16 (length s.keys) h) ∙ le-ltb 16 (length s.values) g in
    rw (e, f, few, r, t) refl

-- The same, as code has it: over slices of the columns, and by their lengths.
pub decided : (keys keys2 : List KeyColumn) (values values2 : List ValueColumn) (m n : ℕ) (o : Option (List ℕ)) → keys2 ≡ keys → values2 ≡ values → length keys2 ≡ m → length values2 ≡ n
    → false ≡ (m == 0) → false ≡ (n == 0) → m ≤ 16 → n ≤ 16
    → None ≡ repeated (map (λ (c : KeyColumn). c.name) keys2) → o ≡ repeated (map (λ (c : ValueColumn). c.name) values2)
    → schema_checked (record { keys = keys; values = values }) ≡ elim o [ None ↦ Ok tt | Some name ↦ Err (NameTwice name) ]
decided keys keys2 values values2 m n o e f k l some some2 few few2 r t =
    let keys_len : length keys ≡ m = sym (ap length e) ∙ k in
    let values_len : length values ≡ n = sym (ap length f) ∙ l in
    rules_left (record { keys = keys; values = values }) o
    (ap (λ x. x == 0) keys_len ∙ sym some) (ap (λ x. x == 0) values_len ∙ sym some2) (omega arith) (omega arith)
    (ap (λ ks. repeated (map (λ (c : KeyColumn). c.name) ks)) (sym e) ∙ sym r)
    (ap (λ vs. repeated (map (λ (c : ValueColumn). c.name) vs)) (sym f) ∙ sym t)

-- what stands at a place, by its name
pub named_there : {A : Type 0} (f : A → List ℕ) (xs ys : List A) (i : ℕ) (one : A) → ys ≡ xs → i < length ys → one ≡ get_or xs i one → slice_get (map f ys) i ≡ Some (f one)
named_there f xs ys i one same h e =
    slice_get-map f ys i ∙ ap (option_map f) (slice_get-get_or ys i one h ∙ ap Some (ap (λ l. get_or l i one) same ∙ sym e))
