-- The columns of a row as they are spelled.
use Rattle.std.proofs.Common.{◌≡◌, ℕ, zero, suc, ◌+◌, ◌-◌, ◌<◌, ◌≤◌, List, [], ◌∷◌, ◌++◌, map, length, get_or, cond, true, refl, sym, ◌∙◌, ap, arith, append_assoc}
use Rattle.std.specs.Prelude.{ℤ, pos, slice_get, Some, Result, Ok, Err, OnOk, is_ok}
use Rattle.std.specs.List.{AllByRecursion}
use Rattle.std.proofs.lemmas.List.{get_or_append_left, get_or-append_right, length-map}
use Rattle.mesa_key.specs.declared.KeyType.{KeyType}
use Rattle.mesa_key.specs.Spelling.{columns_of, is_spelling, key_of}
use Rattle.mesa_key.proofs.Keys.{spelling_passes}
use Rattle.mesa_columns.specs.Columns.{Columns, kinds_of}
use Rattle.mesa_columns.specs.Rows.{IsRowOf}
use Rattle.mesa_columns.specs.declared.columns.KeyColumn.{KeyColumn}
use Rattle.mesa_columns.specs.declared.columns.ValueColumn.{ValueColumn}
use Rattle.mesa_columns.specs.declared.rows.Row.{Row}
use Rattle.mesa_digest.specs.Digests.{Cell, amount_bytes, cell_bytes, key_bytes, key_cells, value_cells}
use Rattle.mesa_digest.specs.Places.{cell_at, count_of, label_at, no_label}
use Rattle.mesa_digest.proofs.Placing.{cell_label, columns_count}

-- a row's key spells a key
pub row_spells : (s : Columns) (row : Row) → IsRowOf s row → is_spelling (kinds_of s) row.key ≡ true
row_spells s row form = ap (is_spelling (kinds_of s)) (sym form.spelled) ∙ spelling_passes (kinds_of s) (key_of (kinds_of s) row.key) form.key

abbrev no_cell : Cell
no_cell = record { label = no_label; bytes = [] }

pub keys_length : (ks : List KeyColumn) (columns : List (List ℕ)) → length columns ≡ length ks → length (key_cells ks columns) ≡ length ks
keys_length [] columns e = refl
keys_length (k ∷ ks) [] e = absurd (omega (arith, e))
keys_length (k ∷ ks) (bytes ∷ columns) e = ap suc (keys_length ks columns (omega (arith, e)))

pub values_length : (vs : List ValueColumn) (values : List ℤ) → length values ≡ length vs → length (value_cells vs values) ≡ length vs
values_length [] values e = refl
values_length (v ∷ vs) [] e = absurd (omega (arith, e))
values_length (v ∷ vs) (value ∷ values) e = ap suc (values_length vs values (omega (arith, e)))

key_in : (ks : List KeyColumn) (columns : List (List ℕ)) (d : Cell) (p : ℕ) (kind : KeyType) (bytes : List ℕ) → slice_get (map (λ (k : KeyColumn). k.kind) ks) p ≡ Some kind → slice_get columns p ≡ Some bytes
    → (get_or (key_cells ks columns) p d).bytes ≡ key_bytes kind bytes
key_in [] columns d p kind bytes e f = cc
key_in (k ∷ ks) [] d p kind bytes e f = cc
key_in (k ∷ ks) (b ∷ columns) d zero kind bytes e f = let same : k.kind ≡ kind = cc in let too : b ≡ bytes = cc in λ i. key_bytes (same i) (too i)
key_in (k ∷ ks) (b ∷ columns) d (suc p) kind bytes e f = key_in ks columns d p kind bytes e f

value_in : (vs : List ValueColumn) (values : List ℤ) (d : Cell) (p : ℕ) (value : ℤ) → length values ≡ length vs → p < length vs → value ≡ get_or values p (pos 0) → (get_or (value_cells vs values) p d).bytes ≡ amount_bytes value
value_in [] values d p value e l is = absurd (omega arith)
value_in (v ∷ vs) [] d p value e l is = absurd (omega (arith, e))
value_in (v ∷ vs) (x ∷ values) d zero value e l is = ap amount_bytes (sym is)
value_in (v ∷ vs) (x ∷ values) d (suc p) value e l is = value_in vs values d p value (omega (arith, e)) (omega (arith, l)) is

columns_number : (s : Columns) (row : Row) → length (columns_of (kinds_of s) row.key) ≡ length s.keys
columns_number s row = columns_count (kinds_of s) row.key ∙ length-map s.keys (λ (c : KeyColumn). c.kind)

-- the bytes of the key column at a place
pub key_column : (s : Columns) (row : Row) (p : ℕ) (kind : KeyType) (bytes : List ℕ) → p < length s.keys → slice_get (kinds_of s) p ≡ Some kind → slice_get (columns_of (kinds_of s) row.key) p ≡ Some bytes → (cell_at s row p).bytes ≡ key_bytes kind bytes
key_column s row p kind bytes l e f =
    let columns = columns_of (kinds_of s) row.key in
    ap (λ (c : Cell). c.bytes) (get_or_append_left (key_cells s.keys columns) (value_cells s.values row.values) no_cell p (omega (arith, l, keys_length s.keys columns (columns_number s row))))
    ∙ key_in s.keys columns no_cell p kind bytes e f

-- the bytes of the value column at a place
pub value_column : (s : Columns) (row : Row) (p : ℕ) (value : ℤ) → IsRowOf s row → length s.keys ≤ p → p < count_of s → value ≡ get_or row.values (p - length s.keys) (pos 0) → (cell_at s row p).bytes ≡ amount_bytes value
value_column s row p value form l m is =
    let columns = columns_of (kinds_of s) row.key in
    ap (λ (c : Cell). c.bytes) (get_or-append_right (key_cells s.keys columns) (value_cells s.values row.values) (length s.keys) p no_cell (keys_length s.keys columns (columns_number s row)) l)
    ∙ value_in s.values row.values no_cell (p - length s.keys) value form.values (omega (arith, l, m)) is

-- a column's spelling: its name's length, its name and its bytes, one after the other
pub joined : (s : Columns) (row : Row) (p : ℕ) (old name more named all : List ℕ) → IsRowOf s row → p < count_of s → name ≡ (label_at s p).name → (cell_at s row p).bytes ≡ more → named ≡ (old ++ length name ∷ []) ++ name → all ≡ named ++ more
    → all ≡ old ++ cell_bytes (cell_at s row p)
joined s row p old name more named all form l same bytes first last =
    let label : name ≡ (cell_at s row p).label.name = same ∙ sym (ap (λ x. x.name) (cell_label s row p form l)) in
    last ∙ ap (λ xs. xs ++ more) first
    ∙ append_assoc (old ++ length name ∷ []) name more ∙ append_assoc old (length name ∷ []) (name ++ more)
    ∙ (λ i. old ++ length (label i) ∷ (label i ++ sym bytes i))

pub on_ok : {X E : Type 0} (r : Result X E) (A B : Type 0) → (A → B) → OnOk r A → OnOk r B
on_ok (Ok x) A B f a = f a
on_ok (Err e) A B f a = a

pub if_ok_items : {X E : Type 0} (r : Result X E) (new all old : List ℕ) (B : Type 0) → (new ≡ all → B) → new ≡ cond (is_ok r) all old → OnOk r B
if_ok_items (Ok x) new all old B f a = f a
if_ok_items (Err e) new all old B f a = tt

-- each place in an order is one of a column
pub all_at : (n : ℕ) (order : List ℕ) (i x : ℕ) → AllByRecursion (λ p. p < n) order → i < length order → x ≡ get_or order i x → x < n
all_at n [] i x all l is = absurd (omega arith)
all_at n (p ∷ order) zero x all l is = omega (arith, is, all.0)
all_at n (p ∷ order) (suc i) x all l is = all_at n order i x all.1 (omega (arith, l)) is
