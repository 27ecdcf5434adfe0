-- The rows of a batch: each is of a table that is there, and has the form of its columns.
use Rattle.std.proofs.Common.{◌≡◌, ℕ, ◌+◌, ◌<◌, ◌≤◌, List, [], ◌∷◌, ◌++◌, map, length, drop, refl, sym, ◌∙◌, ap, subst, arith, filter, cond, Bool, true, false, Option, Some, None, Ok, position, slice_get, ◌==◌, ℤ}
use Rattle.std.specs.Bool.{then_some}
use Rattle.std.specs.List.{AllByRecursion}
use Rattle.std.specs.Prelude.{option_and_then, option_map}
use Rattle.std.proofs.lemmas.Bool.{eqb-true}
use Rattle.std.proofs.lemmas.List.{append-nil, length-map}
use Rattle.std.proofs.lemmas.Option.{get_or_from_slice_get, slice_get-map}
use Rattle.mesa_history_spec.specs.mesa_list.Checks.{◌>>=◌, ◌>>◌, refused_as}
use Rattle.mesa_history_spec.specs.mesa_value.declared.Agg.{Agg}
use Rattle.mesa_history_spec.specs.mesa_key.declared.KeyType.{KeyType}
use Rattle.mesa_history_spec.specs.mesa_key.declared.KeyType.TheVariants as kind
use Rattle.mesa_history_spec.specs.mesa_key.declared.KeyValue.{KeyValue}
use Rattle.mesa_history_spec.specs.mesa_key.declared.KeyValue.TheVariants as value
use Rattle.mesa_history_spec.specs.mesa_key.Spelling.{IsKey, IsValue, is_key_text, key_of, key_spelling}
use Rattle.mesa_history_spec.proofs.mesa_key.Keys.{key_again}
use Rattle.mesa_history_spec.specs.mesa_columns.declared.rows.Row.{Row}
use Rattle.mesa_history_spec.specs.mesa_columns.declared.columns.ValueColumn.{ValueColumn}
use Rattle.mesa_history_spec.specs.mesa_columns.Columns.{Columns, aggs_of, kinds_of, place_of}
use Rattle.mesa_history_spec.specs.mesa_schema.Changes.{columns_of}
use Rattle.mesa_history_spec.specs.mesa_columns.Numbers.{amount_of, any_signed, is_i64, key_value_of}
use Rattle.mesa_history_spec.specs.mesa_columns.Rows.{AreOf, AreRowsOf, IsRowOf}
use Rattle.mesa_history_spec.proofs.mesa_columns.NumberWords.{is_i64-fits}
use Rattle.mesa_history_spec.proofs.mesa_columns.Places.{place_named}
use Rattle.mesa_history_spec.proofs.mesa_batch.RowForms.{is_of}
use Rattle.mesa_history_spec.specs.mesa_batch.declared.words.RowWords.{RowWords}
use Rattle.mesa_history_spec.specs.mesa_batch.declared.words.BatchError.TheVariants.{BadRow, NoTable}
use Rattle.mesa_history_spec.specs.mesa_batch.Batch.{Named, Placed, batch_from, batch_of, columns_at, is_at, key_from, placed_of, refuse_twice, row_of, rows_for, values_from}
use Rattle.mesa_history_spec.specs.mesa_model.Warehouse.{Store, Table}
use Rattle.mesa_history_spec.specs.mesa_model.Load.{tables_named}
use Rattle.mesa_history_laws.proofs.Checks.{bound, bound_other, bound_some, passed}
use Rattle.mesa_history_spec.proofs.mesa_columns.Lists.{all_append}

-- ---- values and keys

fits : (z : ℤ) (t : Bool) (v : KeyValue) → is_i64 z ≡ t → option_map value.Int (then_some t z) ≡ Some v → IsValue kind.Int v
fits z true v e h = let same : value.Int z ≡ v = cc in subst (IsValue kind.Int) same (is_i64-fits z e)
fits z false v e h = cc

signed_value : (o : Option ℤ) (v : KeyValue) → option_map value.Int (option_and_then (λ z. then_some (is_i64 z) z) o) ≡ Some v → IsValue kind.Int v
signed_value (Some z) v h = fits z (is_i64 z) v refl h
signed_value None v h = cc

text_value : (bytes : List ℕ) (t : Bool) (v : KeyValue) → is_key_text bytes ≡ t → then_some t (value.Text bytes) ≡ Some v → IsValue kind.Text v
text_value bytes true v e h = let same : value.Text bytes ≡ v = cc in subst (IsValue kind.Text) same e
text_value bytes false v e h = cc

-- A field that is read is a value of the column's type.
pub read_value : (k : KeyType) (field : List ℕ) (v : KeyValue) → key_value_of k field ≡ Some v → IsValue k v
read_value kind.Int field v h = signed_value (any_signed field) v h
read_value kind.Text field v h = text_value field (is_key_text field) v refl h

read_key : (c : ℕ) (kinds : List KeyType) (fields : List (List ℕ)) (key : List KeyValue) → key_from c kinds fields ≡ Ok key → IsKey kinds key
read_key c [] fields [] h = tt
read_key c [] fields (x ∷ key) h = cc
read_key c (k ∷ kinds) [] key h = cc
read_key c (k ∷ kinds) (field ∷ fields) key h =
    let first = bound_some (key_value_of k field) c (λ v. key_from (c + 1) kinds fields >>= (λ vs. Ok (v ∷ vs))) key h in
    let rest = bound (key_from (c + 1) kinds fields) (λ vs. Ok (first.0 ∷ vs)) key first.2 in
    let same : first.0 ∷ rest.0 ≡ key = cc rest.2 in
    subst (IsKey (k ∷ kinds)) same (read_value k field first.0 first.1, read_key (c + 1) kinds fields rest.0 rest.1)

read_values : (c : ℕ) (aggs : List Agg) (fields : List (List ℕ)) (values : List ℤ) → values_from c aggs fields ≡ Ok values → length values ≡ length aggs
read_values c [] [] values h = let same : [] ≡ values = cc in ap length (sym same)
read_values c [] (field ∷ fields) values h = cc
read_values c (agg ∷ aggs) [] values h = cc
read_values c (agg ∷ aggs) (field ∷ fields) values h =
    let first = bound_some (amount_of agg field) c (λ v. values_from (c + 1) aggs fields >>= (λ vs. Ok (v ∷ vs))) values h in
    let rest = bound (values_from (c + 1) aggs fields) (λ vs. Ok (first.0 ∷ vs)) values first.2 in
    let same : first.0 ∷ rest.0 ≡ values = cc rest.2 in
    sym (ap length same) ∙ (let more = read_values (c + 1) aggs fields rest.0 rest.1 in omega (arith, more))

read_ranges : (c : ℕ) (aggs : List Agg) (fields : List (List ℕ)) (values : List ℤ) → values_from c aggs fields ≡ Ok values → AreOf aggs values
read_ranges c [] fields values h = tt
read_ranges c (agg ∷ aggs) [] values h = cc
read_ranges c (agg ∷ aggs) (field ∷ fields) values h =
    let first = bound_some (amount_of agg field) c (λ v. values_from (c + 1) aggs fields >>= (λ vs. Ok (v ∷ vs))) values h in
    let rest = bound (values_from (c + 1) aggs fields) (λ vs. Ok (first.0 ∷ vs)) values first.2 in
    let same : first.0 ∷ rest.0 ≡ values = cc rest.2 in
    subst (AreOf (agg ∷ aggs)) same (is_of agg field first.0 first.1, read_ranges (c + 1) aggs fields rest.0 rest.1)

spelled : (s : Columns) (key : List KeyValue) (values : List ℤ) → IsKey (kinds_of s) key → length values ≡ length s.values → AreOf (aggs_of s) values → IsRowOf s (record { key = key_spelling key; values = values })
spelled s key values is n ranges =
    let read : key_of (kinds_of s) (key_spelling key) ≡ key = ap (key_of (kinds_of s)) (sym (append-nil (key_spelling key))) ∙ key_again (kinds_of s) key [] is in
    record { key = subst (IsKey (kinds_of s)) (sym read) is; spelled = ap key_spelling read; values = n; ranges = ranges }

-- A row that is read has the form of its columns.
read_row : (s : Columns) (fields : List (List ℕ)) (row : Row) → row_of s fields ≡ Ok row → IsRowOf s row
read_row s fields row h =
    let key = bound (key_from 1 (kinds_of s) fields) (λ k. values_from (length s.keys + 1) (aggs_of s) (drop (length s.keys) fields) >>= (λ vs. Ok (record { key = key_spelling k; values = vs }))) row h in
    let values = bound (values_from (length s.keys + 1) (aggs_of s) (drop (length s.keys) fields)) (λ vs. Ok (record { key = key_spelling key.0; values = vs })) row key.2 in
    let made : Row = record { key = key_spelling key.0; values = values.0 } in
    let same : made ≡ row = cc values.2 in
    subst (IsRowOf s) same (spelled s key.0 values.0 (read_key 1 (kinds_of s) fields key.0 key.1)
    (read_values (length s.keys + 1) (aggs_of s) (drop (length s.keys) fields) values.0 values.1 ∙ length-map s.values (λ (c : ValueColumn). c.agg))
    (read_ranges (length s.keys + 1) (aggs_of s) (drop (length s.keys) fields) values.0 values.1))

-- ---- placed rows

-- A row of a table that is there, in the form of its columns.
record IsPlaced (tables : List Named) (p : Placed) : Type 0 where
  there : p.table < length tables
  form : IsRowOf (columns_at p.table tables) p.row

placed : (tables : List Named) (before : List Placed) (words : RowWords) (p : Placed) → placed_of tables before words ≡ Ok p → IsPlaced tables p
placed tables before words p h =
    let number : ℕ = length before + 1 in
    let at = bound_some (place_of words.table (map (λ (n : Named). n.name) tables)) (NoTable number)
    (λ table. refused_as (BadRow number) (row_of (columns_at table tables) words.fields) >>= (λ row. refuse_twice (position (is_at table row.key) before) number >> Ok (record { table = table; row = row }))) p h in
    let row = bound_other (BadRow number) (row_of (columns_at at.0 tables) words.fields) (λ row. refuse_twice (position (is_at at.0 row.key) before) number >> Ok (record { table = at.0; row = row })) p at.2 in
    let made : Placed = record { table = at.0; row = row.0 } in
    let last = passed (refuse_twice (position (is_at at.0 row.0.key) before) number) (Ok made) p row.2 in
    let same : made ≡ p = cc last in
    let within = (place_named words.table (map (λ (n : Named). n.name) tables) at.0 [] at.1).0 in
    subst (IsPlaced tables) same (record { there = omega (arith, within, length-map tables (λ (n : Named). n.name)); form = read_row (columns_at at.0 tables) words.fields row.0 row.1 })

all_placed : (tables : List Named) (before : List Placed) (rows : List RowWords) (batch : List Placed) → AllByRecursion (IsPlaced tables) before → batch_from tables before rows ≡ Ok batch → AllByRecursion (IsPlaced tables) batch
all_placed tables before [] batch all h = let same : before ≡ batch = cc in subst (AllByRecursion (IsPlaced tables)) same all
all_placed tables before (words ∷ rest) batch all h =
    let first = bound (placed_of tables before words) (λ p. batch_from tables (before ++ p ∷ []) rest) batch h in
    all_placed tables (before ++ first.0 ∷ []) rest batch (all_append (IsPlaced tables) before (first.0 ∷ []) all (placed tables before words first.0 first.1, tt)) first.2

-- ---- the rows of a table

none_for : (tables : List Named) (number : ℕ) (batch : List Placed) → length tables ≤ number → AllByRecursion (IsPlaced tables) batch → rows_for number batch ≡ []
none_for tables number [] le all = refl
none_for tables number (p ∷ batch) le all =
    elim (p.table == number) as (λ b. (p.table == number) ≡ b → map (λ (q : Placed). q.row) (cond b (p ∷ filter (λ (q : Placed). q.table == number) batch) (filter (λ (q : Placed). q.table == number) batch)) ≡ []) [
      | true ↦ λ e. absurd (omega (arith, eqb-true p.table number e, all.0.there))
      | false ↦ λ e. none_for tables number batch le all.1
    ] refl

forms_for : (tables : List Named) (number : ℕ) (batch : List Placed) → AllByRecursion (IsPlaced tables) batch → AreRowsOf (columns_at number tables) (rows_for number batch)
forms_for tables number [] all = tt
forms_for tables number (p ∷ batch) all =
    elim (p.table == number) as (λ b. (p.table == number) ≡ b → AreRowsOf (columns_at number tables) (map (λ (q : Placed). q.row) (cond b (p ∷ filter (λ (q : Placed). q.table == number) batch) (filter (λ (q : Placed). q.table == number) batch)))) [
      | true ↦ λ e. (subst (λ n. IsRowOf (columns_at n tables) p.row) (eqb-true p.table number e) all.0.form, forms_for tables number batch all.1)
      | false ↦ λ e. forms_for tables number batch all.1
    ] refl

-- A batch has no rows of a table that isn't there.
pub no_rows_for : (s : Store) (rows : List RowWords) (batch : List Placed) (number : ℕ) → batch_of (tables_named s) rows ≡ Ok batch → length s.tables ≤ number → rows_for number batch ≡ []
no_rows_for s rows batch number h le =
    none_for (tables_named s) number batch (omega (arith, le, length-map s.tables (λ (t : Table). let n : Named = record { name = t.name; columns = columns_of t.lineage } in n))) (all_placed (tables_named s) [] rows batch tt h)

-- Its rows of a table have the form of the table's columns.
pub batch_forms : (s : Store) (rows : List RowWords) (batch : List Placed) (number : ℕ) (t : Table) → batch_of (tables_named s) rows ≡ Ok batch → slice_get s.tables number ≡ Some t → AreRowsOf (columns_of t.lineage) (rows_for number batch)
batch_forms s rows batch number t h at =
    let named : Table → Named = λ t. record { name = t.name; columns = columns_of t.lineage } in
    let there : slice_get (map (λ (n : Named). n.columns) (tables_named s)) number ≡ Some (columns_of t.lineage) =
    slice_get-map (λ (n : Named). n.columns) (tables_named s) number ∙ ap (option_map (λ (n : Named). n.columns)) (slice_get-map named s.tables number ∙ ap (option_map named) at) in
    subst (λ c. AreRowsOf c (rows_for number batch)) (get_or_from_slice_get (map (λ (n : Named). n.columns) (tables_named s)) number (columns_of t.lineage) (record { keys = []; values = [] }) there)
    (forms_for (tables_named s) number batch (all_placed (tables_named s) [] rows batch tt h))
