-- The rows of a batch have the form of their tables' columns.
use Rattle.std.proofs.Common.{◌≡◌, ℕ, ◌+◌, List, [], ◌∷◌, ◌++◌, length, map, drop, refl, sym, ◌∙◌, ap, subst, arith, suc, Option, Some, None, Result, Ok, Err}
use Rattle.std.proofs.lemmas.List.{append-nil, length-map}
use Rattle.std.specs.Prelude.{ℤ, Bool, true, false, ◌==◌, cond, filter, option_map, option_and_then, position, FitsSigned}
use Rattle.std.specs.Int.{w64}
use Rattle.std.specs.Bool.{then_some}
use Rattle.std.specs.List.{AllByRecursion}
use Rattle.std.specs.Option.{ok_or}
use Rattle.std.proofs.lemmas.Bool.Decides.{nat_tests}
use Rattle.mesa_list.specs.Checks.{◌>>=◌, ◌>>◌, refused_as}
use Rattle.mesa_schema.specs.mesa_value.declared.Agg.{Agg}
use Rattle.mesa_schema.specs.mesa_value.declared.Agg.TheVariants as agg
use Rattle.mesa_schema.specs.mesa_value.Agg.{IsOf}
use Rattle.mesa_schema.specs.mesa_key.declared.KeyType.{KeyType}
use Rattle.mesa_schema.specs.mesa_key.declared.KeyType.TheVariants as kind
use Rattle.mesa_schema.specs.mesa_key.declared.KeyValue.{KeyValue}
use Rattle.mesa_schema.specs.mesa_key.Spelling.{IsKey, IsValue, is_key_text, key_of, key_spelling}
use Rattle.mesa_schema.specs.mesa_columns.declared.rows.Row.{Row}
use Rattle.mesa_schema.specs.mesa_columns.Columns.{Columns, aggs_of, kinds_of, place_of}
use Rattle.mesa_schema.specs.mesa_columns.Numbers.{amount_of, any_signed, is_i64, key_value_of, signed_of}
use Rattle.mesa_schema.specs.mesa_columns.Rows.{AreOf, AreRowsOf, IsRowOf}
use Rattle.mesa_schema.proofs.mesa_fold.Forms.{folded_form}
use Rattle.mesa_schema.proofs.mesa_key.Keys.{key_again}
use Rattle.mesa_schema.proofs.mesa_columns.NumberWords.{is_i64-fits}
use Rattle.mesa_batch.specs.declared.words.RowWords.{RowWords}
use Rattle.mesa_batch.specs.declared.words.BatchError.{BatchError}
use Rattle.mesa_batch.specs.declared.words.BatchError.TheVariants.{NoTable, BadRow}
use Rattle.mesa_batch.specs.Batch.{Named, Placed, batch_from, columns_at, is_at, key_from, placed_of, refuse_twice, row_of, rows_for, values_from}
use Rattle.mesa_batch.specs.Gathered.{read_of}
use Rattle.mesa_batch.specs.Laws.{KeepsForms}
use Rattle.mesa_batch.proofs.ReadWords.{placed_read}

-- ---- fields

abbrev is_outcome : {A : Type 0} → Result A ℕ → Result A ℕ → Type 0
is_outcome r s = r ≡ s

-- what a bind gave, and from what
bound : {A B E : Type 0} (m : Result A E) (f : A → Result B E) (b : B) → (m >>= f) ≡ Ok b → (a : A) × (m ≡ Ok a) × (f a ≡ Ok b)
bound (Ok a) f b e = (a, refl, e)
bound (Err x) f b e = absurd (cc)

from_some : {A E : Type 0} (o : Option A) (x : E) (a : A) → ok_or o x ≡ Ok a → o ≡ Some a
from_some (Some b) x a e = cc
from_some None x a e = absurd (cc)

from_ok : {A D E : Type 0} (f : D → E) (r : Result A D) (a : A) → refused_as f r ≡ Ok a → r ≡ Ok a
from_ok f (Ok b) a e = cc
from_ok f (Err d) a e = absurd (cc)

tested : {A : Type 0} (b : Bool) (x a : A) → then_some b x ≡ Some a → (b ≡ true) × (x ≡ a)
tested true x a e = (refl, (cc))
tested false x a e = absurd (cc)

pub then_fits : (o : Option ℤ) (z : ℤ) → option_and_then (λ z. then_some (is_i64 z) z) o ≡ Some z → FitsSigned w64 z
then_fits (Some x) z e = let t = tested (is_i64 x) x z e in subst (FitsSigned w64) t.1 (is_i64-fits x t.0)
then_fits None z e = absurd (cc)

signed_value : (o : Option ℤ) (v : KeyValue) → ((z : ℤ) → o ≡ Some z → FitsSigned w64 z) → option_map KeyValue.Int o ≡ Some v → IsValue kind.Int v
signed_value (Some z) v fits e = let same : KeyValue.Int z ≡ v = (cc) in subst (IsValue kind.Int) same (fits z refl)
signed_value None v fits e = absurd (cc)

same_ok : {A : Type 0} (a b : A) → is_outcome (Ok a) (Ok b) → a ≡ b
same_ok a b e = cc

-- a value that a field gives is of its column's type
is_value : (k : KeyType) (field : List ℕ) (v : KeyValue) → key_value_of k field ≡ Some v → IsValue k v
is_value kind.Int field v e = signed_value (signed_of field) v (λ z h. then_fits (any_signed field) z h) e
is_value kind.Text field v e = let t = tested (is_key_text field) (KeyValue.Text field) v e in subst (IsValue kind.Text) t.1 t.0

-- and the key that fields give is of its columns' types
is_key : (c : ℕ) (kinds : List KeyType) (fields : List (List ℕ)) (key : List KeyValue) → key_from c kinds fields ≡ Ok key → IsKey kinds key
is_key c [] fields key e = let none : [] ≡ key = (cc) in subst (IsKey []) none tt
is_key c (k ∷ kinds) [] key e = absurd (cc)
is_key c (k ∷ kinds) (field ∷ fields) key e =
    let value = bound (ok_or (key_value_of k field) c) (λ value. key_from (c + 1) kinds fields >>= (λ values. Ok (value ∷ values))) key e in
    let rest = bound (key_from (c + 1) kinds fields) (λ values. Ok (value.0 ∷ values)) key value.2 in
    let whole : value.0 ∷ rest.0 ≡ key = same_ok (value.0 ∷ rest.0) key rest.2 in
    subst (IsKey (k ∷ kinds)) whole (is_value k field value.0 (from_some _ c value.0 value.1), is_key (c + 1) kinds fields rest.0 rest.1)

are_values : (c : ℕ) (aggs : List Agg) (fields : List (List ℕ)) (values : List ℤ) → values_from c aggs fields ≡ Ok values → length values ≡ length aggs
are_values c [] [] values e = let none : [] ≡ values = (cc) in ap length (sym none)
are_values c [] (field ∷ fields) values e = absurd (cc)
are_values c (a ∷ aggs) [] values e = absurd (cc)
are_values c (a ∷ aggs) (field ∷ fields) values e =
    let value = bound (ok_or (amount_of a field) c) (λ value. values_from (c + 1) aggs fields >>= (λ values. Ok (value ∷ values))) values e in
    let rest = bound (values_from (c + 1) aggs fields) (λ values. Ok (value.0 ∷ values)) values value.2 in
    let whole : value.0 ∷ rest.0 ≡ values = same_ok (value.0 ∷ rest.0) values rest.2 in
    ap length (sym whole) ∙ ap (λ n. suc n) (are_values (c + 1) aggs fields rest.0 rest.1)

-- a value that a field gives is one of its column
pub is_of : (a : Agg) (field : List ℕ) (value : ℤ) → amount_of a field ≡ Some value → IsOf a value
is_of agg.Sum field value e = tt
is_of agg.Min field value e = then_fits (any_signed field) value e
is_of agg.Max field value e = then_fits (any_signed field) value e
is_of agg.Replace field value e = then_fits (any_signed field) value e

-- each of them a value of its column
are_ranges : (c : ℕ) (aggs : List Agg) (fields : List (List ℕ)) (values : List ℤ) → values_from c aggs fields ≡ Ok values → AreOf aggs values
are_ranges c [] fields values e = tt
are_ranges c (a ∷ aggs) [] values e = absurd (cc)
are_ranges c (a ∷ aggs) (field ∷ fields) values e =
    let value = bound (ok_or (amount_of a field) c) (λ value. values_from (c + 1) aggs fields >>= (λ values. Ok (value ∷ values))) values e in
    let rest = bound (values_from (c + 1) aggs fields) (λ values. Ok (value.0 ∷ values)) values value.2 in
    let whole : value.0 ∷ rest.0 ≡ values = same_ok (value.0 ∷ rest.0) values rest.2 in
    let read : amount_of a field ≡ Some value.0 = from_some (amount_of a field) c value.0 value.1 in
    subst (AreOf (a ∷ aggs)) whole (is_of a field value.0 read, are_ranges (c + 1) aggs fields rest.0 rest.1)

-- A row that fields make has the form of its columns.
pub is_row : (s : Columns) (fields : List (List ℕ)) (row : Row) → row_of s fields ≡ Ok row → IsRowOf s row
is_row s fields row e =
    let key = bound (key_from 1 (kinds_of s) fields) (λ key. values_from (length s.keys + 1) (aggs_of s) (drop (length s.keys) fields) >>= (λ values. Ok (record { key = key_spelling key; values = values }))) row e in
    let values = bound (values_from (length s.keys + 1) (aggs_of s) (drop (length s.keys) fields)) (λ values. Ok (record { key = key_spelling key.0; values = values })) row key.2 in
    let good : IsKey (kinds_of s) key.0 = is_key 1 (kinds_of s) fields key.0 key.1 in
    let read : key_of (kinds_of s) (key_spelling key.0) ≡ key.0 = ap (key_of (kinds_of s)) (sym (append-nil (key_spelling key.0))) ∙ key_again (kinds_of s) key.0 [] good in
    let made : IsRowOf s (record { key = key_spelling key.0; values = values.0 }) = record { key = subst (IsKey (kinds_of s)) (sym read) good; spelled = ap key_spelling read; values = are_values _ (aggs_of s) _ values.0 values.1 ∙ length-map s.values _; ranges = are_ranges _ (aggs_of s) _ values.0 values.1 } in
    subst (IsRowOf s) (same_ok (record { key = key_spelling key.0; values = values.0 }) row values.2) made

-- ---- rows of a batch

abbrev is_read : Result Placed BatchError → Result Placed BatchError → Type 0
is_read r s = r ≡ s

abbrev are_read : Result (List Placed) BatchError → Result (List Placed) BatchError → Type 0
are_read r s = r ≡ s

abbrev made : ℕ → Row → Result Placed BatchError
made table row = Ok (record { table = table; row = row })

-- each has the form of its table's columns
abbrev pub HaveForms : List Named → List Placed → Type 0
HaveForms tables rows = AllByRecursion (λ (p : Placed). IsRowOf (columns_at p.table tables) p.row) rows

then_ok : {A B E : Type 0} (m : Result A E) (r : Result B E) (b : B) → (m >> r) ≡ Ok b → r ≡ Ok b
then_ok (Ok a) r b e = e
then_ok (Err x) r b e = absurd (cc)

same_placed : (a b : Placed) → is_read (Ok a) (Ok b) → a ≡ b
same_placed a b e = cc

same_placed_list : (a b : List Placed) → are_read (Ok a) (Ok b) → a ≡ b
same_placed_list a b e = cc

placed_form : (tables : List Named) (before : List Placed) (words : RowWords) (placed : Placed) → placed_of tables before words ≡ Ok placed → IsRowOf (columns_at placed.table tables) placed.row
placed_form tables before words placed e =
    let number : ℕ = length before + 1 in
    let read = bound (read_of tables number words) (λ (p : Placed). refuse_twice (position (is_at p.table p.row.key) before) number >> Ok p) placed (sym (placed_read tables before words) ∙ e) in
    let same : read.0 ≡ placed = same_placed read.0 placed (then_ok (refuse_twice (position (is_at read.0.table read.0.row.key) before) number) (Ok read.0) placed read.2) in
    let table = bound (ok_or (place_of words.table (map (λ (n : Named). n.name) tables)) (NoTable number)) (λ (t : ℕ). refused_as (BadRow number) (row_of (columns_at t tables) words.fields) >>= (λ (r : Row). made t r)) read.0 read.1 in
    let row = bound (refused_as (BadRow number) (row_of (columns_at table.0 tables) words.fields)) (λ (r : Row). made table.0 r) read.0 table.2 in
    let form : IsRowOf (columns_at table.0 tables) row.0 = is_row (columns_at table.0 tables) words.fields row.0 (from_ok (BadRow number) (row_of (columns_at table.0 tables) words.fields) row.0 row.1) in
    subst (λ (p : Placed). IsRowOf (columns_at p.table tables) p.row) (same_placed (record { table = table.0; row = row.0 }) read.0 row.2 ∙ same) form

All-push : {X : Type 0} (P : X → Type 0) (xs : List X) (x : X) → AllByRecursion P xs → P x → AllByRecursion P (xs ++ x ∷ [])
All-push P [] x all here = (here, tt)
All-push P (y ∷ xs) x all here = (all.0, All-push P xs x all.1 here)

rows_form : (tables : List Named) (before : List Placed) (words : List RowWords) (batch : List Placed) → HaveForms tables before → batch_from tables before words ≡ Ok batch → HaveForms tables batch
rows_form tables before [] batch all e = subst (HaveForms tables) (same_placed_list before batch e) all
rows_form tables before (row ∷ words) batch all e =
    let placed = bound (placed_of tables before row) (λ (p : Placed). batch_from tables (before ++ p ∷ []) words) batch e in
    rows_form tables (before ++ placed.0 ∷ []) words batch (All-push _ before placed.0 all (placed_form tables before row placed.0 placed.1)) placed.2

number_is : (m n : ℕ) → (m == n) ≡ true → m ≡ n
number_is m n e = grind (arith, nat_tests)

table_form : (tables : List Named) (table : ℕ) (batch : List Placed) → HaveForms tables batch → AreRowsOf (columns_at table tables) (rows_for table batch)
table_form tables table [] all = tt
table_form tables table (p ∷ batch) all =
    elim (p.table == table) as (λ b. (p.table == table) ≡ b → AreRowsOf (columns_at table tables) (map (λ (p : Placed). p.row) (cond b (p ∷ filter (λ (p : Placed). p.table == table) batch) (filter (λ (p : Placed). p.table == table) batch)))) [
      | true ↦ λ e. (subst (λ t. IsRowOf (columns_at t tables) p.row) (number_is p.table table e) all.0, table_form tables table batch all.1)
      | false ↦ λ e. table_form tables table batch all.1
    ] refl

pub batch_forms : KeepsForms
batch_forms tables words batch table e =
    let s : Columns = columns_at table tables in
    let rows : AreRowsOf s (rows_for table batch) = table_form tables table batch (rows_form tables [] words batch tt e) in
    (rows, folded_form s (rows_for table batch ∷ []) (subst (AreRowsOf s) (sym (append-nil (rows_for table batch))) rows))
