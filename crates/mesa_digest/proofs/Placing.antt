-- The places of columns in the order of their names.
use Rattle.std.proofs.Common.{◌≡◌, ℕ, zero, suc, ◌+◌, ◌-◌, ◌<◌, ◌≤◌, List, [], ◌∷◌, ◌++◌, map, take, drop, length, get_or, cond, Bool, true, false, refl, sym, ◌∙◌, ap, arith, inl, inr}
use Rattle.std.specs.Prelude.{◌⊎◌, ◌||◌, nat_lt}
use Rattle.std.specs.List.{AllByRecursion, insert}
use Rattle.std.specs.Ordering.{is_le, ordering_then}
use Rattle.std.specs.declared.cmp.Ordering.{Ordering}
use Rattle.std.specs.declared.cmp.Ordering.TheVariants.{Less, Equal, Greater}
use Rattle.std.proofs.lemmas.Bool.{ltb-true, ltb-false}
use Rattle.std.proofs.lemmas.Cmp.{nat_list_eq_equiv}
use Rattle.std.proofs.lemmas.List.{drop-map, drop_more, get_or-map, length-append, length-map, map-append, take-map, take_more, drop_all}
use Rattle.mesa_schema.specs.mesa_list.Bytes.{same_bytes}
use Rattle.mesa_key.specs.Order.{byte_cmp}
use Rattle.mesa_key.specs.declared.KeyType.{KeyType}
use Rattle.mesa_key.specs.Spelling.{columns_of}
use Rattle.mesa_columns.specs.Columns.{Columns, key_names, kinds_of, value_names}
use Rattle.mesa_columns.specs.Names.{has_name}
use Rattle.mesa_columns.specs.Rows.{IsRowOf}
use Rattle.mesa_columns.specs.Schema.{is_schema}
use Rattle.mesa_columns.specs.declared.columns.KeyColumn.{KeyColumn}
use Rattle.mesa_columns.specs.declared.columns.ValueColumn.{ValueColumn}
use Rattle.mesa_columns.specs.declared.rows.Row.{Row}
use Rattle.mesa_schema.proofs.Apart.{Apart}
use Rattle.mesa_schema.proofs.SchemaChanges.{schema_rules}
use Rattle.mesa_digest.specs.Digests.{Cell, Label, cells, in_order, key_cells, key_label, label_cmp, put_cell, value_cells, value_label}
use Rattle.mesa_digest.specs.Places.{cell_at, count_of, label_at, labels, no_label, place_among}
use Rattle.mesa_digest.proofs.Orders.{label_tied, order_push, put_no, put_none, put_yes}

-- ---- names that differ

pub either : (a b : Bool) → b ≡ true → (a || b) ≡ true
either true b e = refl
either false b e = e

first_of : (a b : Bool) → a ≡ true → (a || b) ≡ true
first_of a b e = ap (λ t. t || b) e

not_seen : (x : List ℕ) (seen names : List (List ℕ)) (j : ℕ) → Apart seen names → has_name x seen ≡ true → j < length names → get_or names j [] ≡ x → ⊥
not_seen x seen [] j apart h l e = absurd (omega arith)
not_seen x seen (n ∷ names) zero apart h l e = let same : has_name n seen ≡ true = ap (λ q. has_name q seen) e ∙ h in cc (same, apart.0)
not_seen x seen (n ∷ names) (suc j) apart h l e = not_seen x (n ∷ seen) names j apart.1 (either (same_bytes x n) (has_name x seen) h) (omega (arith, l)) e

pub names_differ : (seen names : List (List ℕ)) (i j : ℕ) → Apart seen names → i < j → j < length names → get_or names i [] ≡ get_or names j [] → ⊥
names_differ seen [] i j apart l m e = absurd (omega arith)
names_differ seen (n ∷ names) i zero apart l m e = absurd (omega arith)
names_differ seen (n ∷ names) zero (suc j) apart l m e = not_seen n (n ∷ seen) names j apart.1 (first_of (same_bytes n n) (has_name n seen) (nat_list_eq_equiv.refl n)) (omega (arith, m)) (sym e)
names_differ seen (n ∷ names) (suc i) (suc j) apart l m e = names_differ (n ∷ seen) names i j apart.1 (omega (arith, l)) (omega (arith, m)) e

-- ---- what columns go by

key_in : (ks : List KeyColumn) (more : List Label) (p : ℕ) → p < length ks → get_or (map key_label ks ++ more) p no_label ≡ record { name = get_or (map (λ (c : KeyColumn). c.name) ks) p []; rank = 0 }
key_in [] more p l = absurd (omega arith)
key_in (k ∷ ks) more zero l = refl
key_in (k ∷ ks) more (suc p) l = key_in ks more p (omega (arith, l))

value_in : (vs : List ValueColumn) (p : ℕ) → p < length vs → get_or (map value_label vs) p no_label ≡ record { name = get_or (map (λ (c : ValueColumn). c.name) vs) p []; rank = 1 }
value_in [] p l = absurd (omega arith)
value_in (v ∷ vs) zero l = refl
value_in (v ∷ vs) (suc p) l = value_in vs p (omega (arith, l))

behind_keys : (ks : List KeyColumn) (more : List Label) (p : ℕ) → length ks ≤ p → get_or (map key_label ks ++ more) p no_label ≡ get_or more (p - length ks) no_label
behind_keys [] more p l = ap (λ n. get_or more n no_label) (omega arith)
behind_keys (k ∷ ks) more zero l = absurd (omega arith)
behind_keys (k ∷ ks) more (suc p) l =
    let same : p - length ks ≡ suc p - length (k ∷ ks) = omega arith in
    behind_keys ks more p (omega (arith, l)) ∙ ap (λ n. get_or more n no_label) same

pub label_key : (s : Columns) (p : ℕ) → p < length s.keys → label_at s p ≡ record { name = get_or (key_names s) p []; rank = 0 }
label_key s p l = key_in s.keys (map value_label s.values) p l

pub label_value : (s : Columns) (p : ℕ) → length s.keys ≤ p → p < count_of s → label_at s p ≡ record { name = get_or (value_names s) (p - length s.keys) []; rank = 1 }
label_value s p l m = behind_keys s.keys (map value_label s.values) p l ∙ value_in s.values (p - length s.keys) (omega (arith, l, m))

side : (n p : ℕ) → (p < n) ⊎ (n ≤ p)
side n p = elim (nat_lt p n) as (λ t. nat_lt p n ≡ t → (p < n) ⊎ (n ≤ p)) [
  | true ↦ λ e. inl (ltb-true p n e)
  | false ↦ λ e. inr (ltb-false p n e)
] refl

-- no two columns go by one label
labels_differ : (s : Columns) (i j : ℕ) → is_schema s ≡ true → i < j → j < count_of s → label_at s i ≡ label_at s j → ⊥
labels_differ s i j sound l m e =
    let rules = schema_rules s sound in
    elim (side (length s.keys) i) as (λ _. ⊥) [
      | inl a ↦ elim (side (length s.keys) j) as (λ _. ⊥) [
        | inl b ↦ names_differ [] (key_names s) i j rules.key_names l (omega (arith, b, length-map s.keys (λ (c : KeyColumn). c.name))) (ap (λ (x : Label). x.name) (sym (label_key s i a) ∙ e ∙ label_key s j b))
        | inr b ↦ let ranks : 0 ≡ 1 = ap (λ (x : Label). x.rank) (sym (label_key s i a) ∙ e ∙ label_value s j b m) in omega (arith, ranks)
      ]
      | inr a ↦
          let b : length s.keys ≤ j = omega (arith, a, l) in
          names_differ [] (value_names s) (i - length s.keys) (j - length s.keys) rules.value_names (omega (arith, a, l)) (omega (arith, b, m, length-map s.values (λ (c : ValueColumn). c.name)))
          (ap (λ (x : Label). x.name) (sym (label_value s i a (omega (arith, l, m))) ∙ e ∙ label_value s j b m))
    ]

-- ---- the columns of a row

pub columns_count : (kinds : List KeyType) (bytes : List ℕ) → length (columns_of kinds bytes) ≡ length kinds
columns_count [] bytes = refl
columns_count (kind ∷ kinds) bytes = ap suc (columns_count kinds _)

keys_labelled : (ks : List KeyColumn) (columns : List (List ℕ)) → length columns ≡ length ks → map (λ (c : Cell). c.label) (key_cells ks columns) ≡ map key_label ks
keys_labelled [] columns e = refl
keys_labelled (k ∷ ks) [] e = absurd (omega (arith, e))
keys_labelled (k ∷ ks) (bytes ∷ columns) e = ap (λ ls. key_label k ∷ ls) (keys_labelled ks columns (omega (arith, e)))

values_labelled : (vs : List ValueColumn) (values : List _) → length values ≡ length vs → map (λ (c : Cell). c.label) (value_cells vs values) ≡ map value_label vs
values_labelled [] values e = refl
values_labelled (v ∷ vs) [] e = absurd (omega (arith, e))
values_labelled (v ∷ vs) (value ∷ values) e = ap (λ ls. value_label v ∷ ls) (values_labelled vs values (omega (arith, e)))

cells_labelled : (s : Columns) (row : Row) → IsRowOf s row → map (λ (c : Cell). c.label) (cells s row) ≡ labels s
cells_labelled s row form =
    let count : length (columns_of (kinds_of s) row.key) ≡ length s.keys = columns_count (kinds_of s) row.key ∙ length-map s.keys (λ (c : KeyColumn). c.kind) in
    map-append (λ (c : Cell). c.label) (key_cells s.keys (columns_of (kinds_of s) row.key)) (value_cells s.values row.values)
    ∙ (λ i. keys_labelled s.keys (columns_of (kinds_of s) row.key) count i ++ values_labelled s.values row.values form.values i)

pub cells_count : (s : Columns) (row : Row) → IsRowOf s row → length (cells s row) ≡ count_of s
cells_count s row form =
    omega (arith, length-map (cells s row) (λ (c : Cell). c.label), ap length (cells_labelled s row form), length-append (map key_label s.keys) (map value_label s.values), length-map s.keys key_label, length-map s.values value_label)

pub cell_label : (s : Columns) (row : Row) (p : ℕ) → IsRowOf s row → p < count_of s → (cell_at s row p).label ≡ label_at s p
cell_label s row p form l =
    sym (get_or-map (λ (c : Cell). c.label) (cells s row) p (record { label = no_label; bytes = [] }) no_label (omega (arith, l, cells_count s row form)))
    ∙ ap (λ ls. get_or ls p no_label) (cells_labelled s row form)

cells_at_labelled : (s : Columns) (row : Row) (order : List ℕ) → IsRowOf s row → AllByRecursion (λ p. p < count_of s) order → map (λ (c : Cell). c.label) (map (cell_at s row) order) ≡ map (label_at s) order
cells_at_labelled s row [] form all = refl
cells_at_labelled s row (p ∷ order) form all = λ i. cell_label s row p form all.0 i ∷ cells_at_labelled s row order form all.1 i

-- ---- one column more

-- a column is put at the place of its label, where no other goes by that
put_place : (c : Cell) (xs : List Cell) → AllByRecursion (λ (x : Cell). c.label ≡ x.label → ⊥) xs → put_cell c xs ≡ insert xs (place_among c.label (map (λ (x : Cell). x.label) xs)) c
put_place c [] apart = put_none c
put_place c (x ∷ xs) apart =
    let k = place_among c.label (map (λ (y : Cell). y.label) xs) in
    elim (label_cmp c.label x.label) as (λ (o : Ordering). label_cmp c.label x.label ≡ o → put_cell c (x ∷ xs) ≡ insert (x ∷ xs) (cond (is_le o) 0 (suc k)) c) [
      | Less ↦ λ e. put_yes c x xs (ap (λ o. is_le (ordering_then o (byte_cmp c.bytes x.bytes))) e)
      | Equal ↦ λ e. absurd (apart.0 (label_tied c.label x.label e))
      | Greater ↦ λ e. put_no c x xs (ap (λ o. is_le (ordering_then o (byte_cmp c.bytes x.bytes))) e) ∙ ap (λ ys. x ∷ ys) (put_place c xs apart.1)
    ] refl

others_differ : (s : Columns) (row : Row) (i : ℕ) (order : List ℕ) → is_schema s ≡ true → IsRowOf s row → i < count_of s → AllByRecursion (λ p. p < i) order
    → AllByRecursion (λ (x : Cell). (cell_at s row i).label ≡ x.label → ⊥) (map (cell_at s row) order)
others_differ s row i [] sound form l all = tt
others_differ s row i (p ∷ order) sound form l all = (
  λ e. labels_differ s p i sound all.0 l (sym (cell_label s row p form (omega (arith, l, all.0))) ∙ sym e ∙ cell_label s row i form l),
  others_differ s row i order sound form l all.1,
)

pub wider : (i n : ℕ) (order : List ℕ) → i ≤ n → AllByRecursion (λ p. p < i) order → AllByRecursion (λ p. p < n) order
wider i n [] l all = tt
wider i n (p ∷ order) l all = (omega (arith, l, all.0), wider i n order l all.1)

mapped_insert : {X Y : Type 0} (f : X → Y) (xs : List X) (k : ℕ) (x : X) → map f (insert xs k x) ≡ insert (map f xs) k (f x)
mapped_insert f xs k x = map-append f (take k xs) (x ∷ drop k xs) ∙ (λ i. sym (take-map f k xs) i ++ f x ∷ sym (drop-map f k xs) i)

pub order_more : (s : Columns) (order : List ℕ) (i : ℕ) (row : Row) → is_schema s ≡ true → IsRowOf s row → i < count_of s → AllByRecursion (λ p. p < i) order
    → map (cell_at s row) order ≡ in_order (take i (cells s row))
    → map (cell_at s row) (insert order (place_among (label_at s i) (map (label_at s) order)) i) ≡ in_order (take (i + 1) (cells s row))
order_more s order i row sound form l all so_far =
    let c : Cell = cell_at s row i in
    let others : List Cell = map (cell_at s row) order in
    let within : AllByRecursion (λ p. p < count_of s) order = wider i (count_of s) order (omega (arith, l)) all in
    let k : ℕ = place_among (label_at s i) (map (label_at s) order) in
    let same : place_among c.label (map (λ (x : Cell). x.label) others) ≡ k = λ j. place_among (cell_label s row i form l j) (cells_at_labelled s row order form within j) in
    mapped_insert (cell_at s row) order k i
    ∙ ap (λ n. insert others n c) (sym same)
    ∙ sym (put_place c others (others_differ s row i order sound form l all))
    ∙ ap (put_cell c) so_far
    ∙ sym (order_push (take i (cells s row)) c)
    ∙ ap in_order (sym (take_more (cells s row) i (record { label = no_label; bytes = [] }) (omega (arith, l, cells_count s row form))))

pub all_inserted : (n k x : ℕ) (order : List ℕ) → x < n → AllByRecursion (λ p. p < n) order → AllByRecursion (λ p. p < n) (insert order k x)
all_inserted n zero x order l all = (l, all)
all_inserted n (suc k) x [] l all = (l, tt)
all_inserted n (suc k) x (p ∷ order) l all = (all.0, all_inserted n k x order l all.1)

-- ---- the place of a label among others

pub among_here : (f : ℕ → Label) (l : Label) (order : List ℕ) (i x : ℕ) → i < length order → x ≡ get_or order i x → is_le (label_cmp l (f x)) ≡ true → place_among l (map f (drop i order)) ≡ 0
among_here f l order i x m is e =
    ap (λ ps. place_among l (map f ps)) (drop_more order i x m) ∙ ap (λ p. place_among l (f p ∷ map f (drop (i + 1) order))) (sym is) ∙ ap (λ b. cond b 0 (suc (place_among l (map f (drop (i + 1) order))))) e

pub among_on : (f : ℕ → Label) (l : Label) (order : List ℕ) (i x : ℕ) → i < length order → x ≡ get_or order i x → is_le (label_cmp l (f x)) ≡ false → place_among l (map f (drop i order)) ≡ suc (place_among l (map f (drop (i + 1) order)))
among_on f l order i x m is e =
    ap (λ ps. place_among l (map f ps)) (drop_more order i x m) ∙ ap (λ p. place_among l (f p ∷ map f (drop (i + 1) order))) (sym is) ∙ ap (λ b. cond b 0 (suc (place_among l (map f (drop (i + 1) order))))) e

pub among_end : (f : ℕ → Label) (l : Label) (order : List ℕ) (i : ℕ) → length order ≤ i → place_among l (map f (drop i order)) ≡ 0
among_end f l order i m = ap (λ ps. place_among l (map f ps)) (drop_all i order m)
