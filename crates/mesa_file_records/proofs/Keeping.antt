-- References that are true of files of rows keep the rules of records.
use Rattle.std.proofs.Common.{◌≡◌, ℕ, ◌*◌, ◌^◌, ◌<◌, ◌≤◌, List, [], ◌∷◌, length, refl, sym, ap, subst, arith, Bool, true, false, IsTrue, Result}
use Rattle.std.specs.Prelude.{◌&&◌, ◌||◌, ◌==◌, not, nat_le, nat_lt, is_ok}
use Rattle.std.specs.List.{AllByRecursion, list_any}
use Rattle.std.specs.Str.{is_utf8}
use Rattle.std.proofs.lemmas.Bool.{leb-true, ltb-false}
use Rattle.std.proofs.lemmas.Bool.Decides.{nat_tests}
use Rattle.std.proofs.lemmas.List.{length-append, length-map}
use Rattle.std.proofs.lemmas.List.Concat.{flat_map-cons}
use Rattle.mesa_list.specs.Checks.{◌>>◌, refuse_if}
use Rattle.mesa_pick_files.specs.mesa_key.declared.KeyType.{KeyType}
use Rattle.mesa_pick_files.specs.mesa_key.declared.KeyType.TheVariants as kind
use Rattle.mesa_pick_files.specs.mesa_key.declared.KeyValue.{KeyValue}
use Rattle.mesa_pick_files.specs.mesa_key.declared.KeyValue.TheVariants as value
use Rattle.mesa_pick_files.specs.mesa_key.Spelling.{IsKey, IsValue, key_of, key_spelling, value_spelling}
use Rattle.mesa_columns.specs.declared.columns.KeyColumn.{KeyColumn}
use Rattle.mesa_columns.specs.declared.rows.Row.{Row}
use Rattle.mesa_columns.specs.Columns.{Columns, kinds_of}
use Rattle.mesa_columns.specs.Schema.{is_schema, max_columns}
use Rattle.mesa_columns.specs.Rows.{IsRowOf}
use Rattle.mesa_file.specs.declared.file_ref.FileRef.{FileRef}
use Rattle.mesa_engine.specs.mesa_record_fields.Rules.{is_count_of_columns, is_file_ref, is_key_length}
use Rattle.mesa_pick_files.specs.mesa_block.Layout.{Layout}
use Rattle.mesa_pick_files.specs.mesa_block.Rows.{IsRow}
use Rattle.mesa_pick_files.specs.mesa_delta_format.File.{IsFile}
use Rattle.mesa_pick_files.specs.mesa_delta_format.Spread.{spread}
use Rattle.mesa_pick_files.specs.mesa_delta_format.Summary.{IsReferenceOf, last_key}
use Rattle.mesa_pick_files.specs.mesa_delta_format.Tail.{first_key}
use Rattle.mesa_engine.proofs.mesa_store_spec.Lists.{is_equal}
use Rattle.mesa_file_records.proofs.Parts.{true_counts}

pub all_true : {a b : Bool} → a ≡ true → b ≡ true → (a && b) ≡ true
all_true p q = λ i. p i && q i

-- ---- how long a key is

first_of_three : (a b c : Bool) → IsTrue (a && b && c) → a ≡ true
first_of_three true b c h = refl
first_of_three false b c h = absurd cc

-- a value takes at most 256 bytes
value_short : (k : KeyType) (v : KeyValue) → IsValue k v → length (value_spelling v) ≤ 256
value_short kind.Int (value.Int z) h = omega arith
value_short kind.Int (value.Text bytes) h = absurd h
value_short kind.Text (value.Int z) h = absurd h
value_short kind.Text (value.Text bytes) h =
    let short : nat_le (length bytes) 255 ≡ true = first_of_three _ (not (list_any (λ b. b == 0) bytes)) (is_utf8 bytes) h in
    omega (arith, length-append bytes (0 ∷ []), leb-true (length bytes) 255 short)

-- and so a key at most 256 for each of its columns
key_short : (kinds : List KeyType) (key : List KeyValue) → IsKey kinds key → length (key_spelling key) ≤ length kinds * 256
key_short [] [] h = omega arith
key_short [] (v ∷ key) h = absurd h
key_short (k ∷ kinds) [] h = absurd h
key_short (k ∷ kinds) (v ∷ key) h = rw flat_map-cons (omega (arith, length-append (value_spelling v) (key_spelling key), value_short k v h.0, key_short kinds key h.1))

-- ---- how many columns there are

passed_if : {B E : Type 0} (test : Bool) (e : E) (next : Result B E) → IsTrue (is_ok (refuse_if test e >> next)) → (test ≡ false) × IsTrue (is_ok next)
passed_if true e next h = absurd cc
passed_if false e next h = (refl, h)

neither : (a b : Bool) → (a || b) ≡ false → (a ≡ false) × (b ≡ false)
neither true b h = absurd cc
neither false b h = (refl, h)

some_there : (n : ℕ) → (n == 0) ≡ false → 1 ≤ n
some_there n e = grind (arith, nat_tests)

-- 1 to 16 value columns, and at most 16 key columns
pub record HasFew (s : Columns) : Type 0 where
  pub keys : length s.keys ≤ 16
  pub some : 1 ≤ length s.values
  pub values : length s.values ≤ 16

pub few_columns : (s : Columns) → IsTrue (is_schema s) → HasFew s
few_columns s h =
    let keys = passed_if (length s.keys == 0) _ _ h in
    let values = passed_if (length s.values == 0) _ _ keys.1 in
    let both = neither (nat_lt max_columns (length s.keys)) (nat_lt max_columns (length s.values)) (passed_if _ _ _ values.1).0 in
    record { keys = ltb-false max_columns (length s.keys) both.0; some = some_there (length s.values) values.0; values = ltb-false max_columns (length s.values) both.1 }

-- ---- the keys of a file

is_less : (n k : ℕ) → n < k → nat_lt n k ≡ true
is_less n k lt = grind (arith, nat_tests)

pub is_at_least : (n k : ℕ) → n ≤ k → nat_le n k ≡ true
is_at_least n k le = grind (arith, nat_tests)

row_short : (s : Columns) (row : Row) → length s.keys ≤ 16 → IsRowOf s row → is_key_length (length row.key) ≡ true
row_short s row few is =
    let short = key_short (kinds_of s) (key_of (kinds_of s) row.key) is.key in
    let kinds = length-map s.keys (λ (c : KeyColumn). c.kind) in
    let spelled = ap length is.spelled in
    is_less (length row.key) (2 ^ 16) (omega (arith, short, kinds, spelled, few))

last_short : (s : Layout) (rows : List Row) → length s.columns.keys ≤ 16 → 0 < length rows → AllByRecursion (IsRow s) rows → is_key_length (length (last_key rows)) ≡ true
last_short s [] few some all = absurd (omega (arith, some))
last_short s (row ∷ []) few some all = row_short s.columns row few all.0.form
last_short s (a ∷ b ∷ rows) few some all = last_short s (b ∷ rows) few (omega arith) all.1

first_short : (s : Layout) (rows : List Row) → length s.columns.keys ≤ 16 → 0 < length rows → AllByRecursion (IsRow s) rows → is_key_length (length (first_key rows)) ≡ true
first_short s [] few some all = absurd (omega (arith, some))
first_short s (row ∷ rows) few some all = row_short s.columns row few all.0.form

-- ---- a reference

-- A true reference to a file of rows keeps the rules of references.
pub is_ref : (s : Layout) (number : ℕ) (rows : List Row) (bytes : List ℕ) (f : FileRef) → IsTrue (is_schema s.columns) → IsFile s rows bytes → IsReferenceOf s number rows f → is_file_ref f ≡ true
is_ref s number rows bytes f schema file is =
    let few = few_columns s.columns schema in
    let aggregates : length f.aggregates ≡ length s.columns.values = is_equal (length f.aggregates) (length s.columns.values) (true_counts s number rows bytes f file is) in
    let blocks = length-append (spread s rows).done ((spread s rows).last ∷ []) in
    all_true
    (all_true
    (all_true
    (all_true (is_at_least 1 f.rows (omega (arith, is.rows, file.some))) (is_at_least 1 f.blocks (omega (arith, is.blocks, blocks))))
    (subst (λ key. is_key_length (length key) ≡ true) (sym is.first) (first_short s rows few.keys file.some file.good)))
    (subst (λ key. is_key_length (length key) ≡ true) (sym is.last) (last_short s rows few.keys file.some file.good)))
    (subst (λ n. is_count_of_columns n ≡ true) (sym aggregates) (all_true (is_at_least 1 (length s.columns.values) few.some) (is_at_least (length s.columns.values) 16 few.values)))
