-- A row fits in an empty block.
use Rattle.std.proofs.Common.{◌≡◌, ◌*◌, ◌≤◌, List, [], ◌∷◌, length, refl, sym, ap, arith, Bool, true, false, Result}
use Rattle.std.specs.Prelude.{IsTrue, ◌==◌, ◌||◌, ◌&&◌, is_ok, nat_le, nat_lt, not}
use Rattle.std.specs.List.{list_any}
use Rattle.std.specs.Str.{is_utf8}
use Rattle.std.proofs.lemmas.Bool.{leb-true, ltb-false}
use Rattle.std.proofs.lemmas.List.{length-append, length-map}
use Rattle.std.proofs.lemmas.List.Concat.{flat_map-cons}
use Rattle.mesa_list.specs.Checks.{◌>>◌, refuse_if}
use Rattle.mesa_columns.specs.mesa_key.declared.KeyType.{KeyType}
use Rattle.mesa_columns.specs.mesa_key.declared.KeyType.TheVariants as kind
use Rattle.mesa_columns.specs.mesa_key.declared.KeyValue.{KeyValue}
use Rattle.mesa_columns.specs.mesa_key.declared.KeyValue.TheVariants as value
use Rattle.mesa_columns.specs.mesa_key.Spelling.{IsKey, IsValue, key_of, key_spelling, value_spelling}
use Rattle.mesa_columns.specs.declared.columns.KeyColumn.{KeyColumn}
use Rattle.mesa_columns.specs.declared.rows.Row.{Row}
use Rattle.mesa_columns.specs.declared.columns.ValueColumn.{ValueColumn}
use Rattle.mesa_columns.specs.Columns.{Columns, kinds_of}
use Rattle.mesa_block.specs.Layout.{Layout, width_of, widths_of}
use Rattle.mesa_columns.specs.Schema.{is_schema, max_columns}
use Rattle.mesa_block.specs.Fill.{fit}
use Rattle.mesa_block.specs.Rows.{IsRow}
use Rattle.mesa_block.proofs.Cells.{sizes_none, values_most}
use Rattle.mesa_block.proofs.Forms.{Passes, is_read}
use Rattle.mesa_block.proofs.Sizes.{block_length, fits_so}

first_of_three : (a b c : Bool) → IsTrue (a && b && c) → a ≡ true
first_of_three true b c h = refl
first_of_three false b c h = absurd cc

-- a value takes at most 256 bytes
value_small : (k : KeyType) (v : KeyValue) → IsValue k v → length (value_spelling v) ≤ 256
value_small kind.Int (value.Int z) h = omega arith
value_small kind.Int (value.Text bytes) h = absurd h
value_small kind.Text (value.Int z) h = absurd h
value_small kind.Text (value.Text bytes) h =
    let short : nat_le (length bytes) 255 ≡ true = first_of_three _ (not (list_any (λ b. b == 0) bytes)) (is_utf8 bytes) h in
    omega (arith, length-append bytes (0 ∷ []), leb-true (length bytes) 255 short)

-- and so a key at most 256 for each of its columns
key_small : (kinds : List KeyType) (key : List KeyValue) → IsKey kinds key → length (key_spelling key) ≤ length kinds * 256
key_small [] [] h = omega arith
key_small [] (v ∷ key) h = absurd h
key_small (k ∷ kinds) [] h = absurd h
key_small (k ∷ kinds) (v ∷ key) h = rw flat_map-cons (omega (arith, length-append (value_spelling v) (key_spelling key), value_small k v h.0, key_small kinds key h.1))

check_passed : {B E : Type 0} (test : Bool) (e : E) (next : Result B E) → IsTrue (is_ok (refuse_if test e >> next)) → (test ≡ false) × IsTrue (is_ok next)
check_passed true e next h = absurd cc
check_passed false e next h = (refl, h)

neither : (a b : Bool) → (a || b) ≡ false → (a ≡ false) × (b ≡ false)
neither true b h = absurd cc
neither false b h = (refl, h)

-- a schema has at most 16 columns of each sort
pub few_columns : (s : Columns) → IsTrue (is_schema s) → (length s.keys ≤ 16) × (length s.values ≤ 16)
few_columns s h =
    let keys = check_passed (length s.keys == 0) _ _ h in
    let values = check_passed (length s.values == 0) _ _ keys.1 in
    let both = neither (nat_lt max_columns (length s.keys)) (nat_lt max_columns (length s.values)) (check_passed _ _ _ values.1).0 in
    (ltb-false max_columns (length s.keys) both.0, ltb-false max_columns (length s.values) both.1)

pub row_alone : Passes → (s : Layout) (row : Row) → IsTrue (is_schema s.columns) → IsRow s row → fit s (row ∷ []) ≡ true
row_alone passes s row schema h =
    let few = few_columns s.columns schema in
    let key = key_small (kinds_of s.columns) (key_of (kinds_of s.columns) row.key) h.form.key in
    let kinds = length-map s.columns.keys (λ (c : KeyColumn). c.kind) in
    let widths = length-map s.columns.values (λ (c : ValueColumn). width_of s.format c.agg) in
    let most = values_most (widths_of s) in
    let spelled = ap length h.form.spelled in
    let empty = block_length s [] tt in
    sym (fits_so s [] row tt (is_read passes s row h) (omega arith) (omega (arith, few.0, few.1, key, kinds, widths, most, spelled, empty, sizes_none (widths_of s))))
