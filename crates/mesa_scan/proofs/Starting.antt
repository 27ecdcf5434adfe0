-- Where a cursor begins.
use Rattle.std.proofs.Common.{◌≡◌, ℕ, zero, suc, ◌+◌, ◌<◌, ◌≤◌, List, [], ◌∷◌, ◌++◌, length, take, drop, refl, sym, ◌∙◌, ap, subst, arith, append_assoc, Bool, true, false}
use Rattle.std.proofs.lemmas.List.{length-append, length-map, take-append-drop}
use Rattle.std.proofs.Math.Seq.{take-length}
use Rattle.std.specs.Prelude.{map, Option, None, Some}
use Rattle.std.specs.List.{AllByRecursion}
use Rattle.std.specs.Ordering.{is_le}
use Rattle.mesa_delta.specs.mesa_key.declared.KeyType.{KeyType}
use Rattle.mesa_delta.specs.mesa_key.declared.KeyValue.{KeyValue}
use Rattle.mesa_delta.specs.mesa_key.Order.{byte_cmp}
use Rattle.mesa_delta.specs.mesa_key.Spelling.{column_length, key_of, key_spelling}
use Rattle.mesa_delta.specs.mesa_columns.declared.rows.Row.{Row}
use Rattle.mesa_delta.specs.mesa_columns.declared.columns.KeyColumn.{KeyColumn}
use Rattle.mesa_schema.specs.Changes.{Lineage, columns_at, columns_of, epoch_of, lifted}
use Rattle.mesa_delta.specs.mesa_columns.Columns.{Columns, kinds_of}
use Rattle.mesa_delta.specs.mesa_fold.Folded.{rows_of}
use Rattle.mesa_schema.specs.Laws.{LiftedForms, LiftedKeys}
use Rattle.mesa_schema.specs.Lineages.{IsLineage}
use Rattle.mesa_delta.specs.mesa_columns.Rows.{AreRowsOf, IsRowOf}
use Rattle.mesa_filter.proofs.mesa_fold.Folds.{rows_of-append}
use Rattle.mesa_block.specs.Layout.{Layout}
use Rattle.mesa_delta.specs.Reading.{IsIndexed, index_of}
use Rattle.mesa_delta.specs.mesa_delta_format.Spread.{blocks_of}
use Rattle.mesa_delta.specs.declared.input.Input.{Input}
use Rattle.mesa_delta.proofs.mesa_delta_format.Packing.{blocks_rows}
use Rattle.mesa_scan.specs.Cursors.{IsInput, lift_by}
use Rattle.mesa_scan.specs.Cut.{cut}
use Rattle.mesa_scan.proofs.Cuts.{all_both, none_from}
use Rattle.mesa_scan.proofs.Lifted.{row_forms}

rows_all : (P : Row → Type 0) (front rest : List Row) → ((before : List Row) (row : Row) (back : List Row) → front ++ rest ≡ before ++ row ∷ back → P row) → AllByRecursion P rest
rows_all P front [] h = tt
rows_all P front (r ∷ rest) h = (h front r rest refl, rows_all P (front ++ r ∷ []) rest (λ before row back e. h before row back (sym (append_assoc front (r ∷ []) rest) ∙ e)))

-- what holds of each row that stands in one of the first blocks
blocks_all : (P : Row → Type 0) (n : ℕ) (done more : List (List Row))
    → ((before : List (List Row)) (front : List Row) (row : Row) (back : List Row) (behind : List (List Row)) → done ++ more ≡ before ++ (front ++ row ∷ back) ∷ behind → length before < length done + n → P row)
    → AllByRecursion P (rows_of (take n more))
blocks_all P zero done more h = tt
blocks_all P (suc n) done [] h = tt
blocks_all P (suc n) done (block ∷ more) h =
    all_both P block (rows_of (take n more))
    (rows_all P [] block (λ front row back e. h done front row back more (ap (λ b. done ++ b ∷ more) e) (omega arith)))
    (blocks_all P n (done ++ block ∷ []) more (λ before front row back behind e lt. h before front row back behind (sym (append_assoc done (block ∷ []) more) ∙ e) (omega (arith, lt, length-append done (block ∷ [])))))

falsely : (b : Bool) → (b ≡ true → ⊥) → b ≡ false
falsely true h = absurd (h refl)
falsely false h = refl

-- rows below a key whose own keys stay as they are changed
still_below : (low : List ℕ) (f : Row → Row) (rows : List Row) → AllByRecursion (λ (row : Row). (f row).key ≡ row.key) rows → AllByRecursion (λ (row : Row). is_le (byte_cmp low row.key) ≡ false) rows
    → AllByRecursion (λ (row : Row). is_le (byte_cmp low row.key) ≡ false) (map f rows)
still_below low f [] same all = tt
still_below low f (row ∷ rows) same all = (ap (λ k. is_le (byte_cmp low k)) same.0 ∙ all.0, still_below low f rows same.1 all.1)

-- before the block at which a search begins no row is at or above the key
pub none_before : (low : List ℕ) (f : Row → Row) (blocks : List (List Row)) (found : ℕ) → AllByRecursion (λ (row : Row). (f row).key ≡ row.key) (rows_of (take found blocks))
    → ((before : List (List Row)) (front : List Row) (row : Row) (back : List Row) (behind : List (List Row)) → blocks ≡ before ++ (front ++ row ∷ back) ∷ behind → is_le (byte_cmp low row.key) ≡ true → found ≤ length before)
    → cut (Some low) None (map f (rows_of (take found blocks))) ≡ []
none_before low f blocks found same begins =
    none_from low (map f (rows_of (take found blocks))) (still_below low f (rows_of (take found blocks)) same
    (blocks_all (λ (row : Row). is_le (byte_cmp low row.key) ≡ false) found [] blocks (λ before front row back behind e lt.
    falsely (is_le (byte_cmp low row.key)) (λ le. absurd (omega (arith, lt, begins before front row back behind e le))))))

-- ---- keys that lifting leaves

key_count : (kinds : List KeyType) (bytes : List ℕ) → length (key_of kinds bytes) ≡ length kinds
key_count [] bytes = refl
key_count (kind ∷ kinds) bytes = ap suc (key_count kinds (drop (column_length kind bytes) bytes))

-- no key column was added since
same_key : LiftedKeys → LiftedForms → (l : Lineage) (epoch : ℕ) (row : Row) → IsLineage l → length (columns_at l epoch).keys ≡ length (columns_of l).keys → IsRowOf (columns_at l epoch) row → (lifted l epoch (epoch_of l) row).key ≡ row.key
same_key keys forms l epoch row lineage count form =
    let s : Columns = columns_of l in
    let k : List KeyValue = key_of (kinds_of s) (lifted l epoch (epoch_of l) row).key in
    let many : length (columns_at l epoch).keys ≡ length k = count ∙ sym (length-map s.keys (λ (c : KeyColumn). c.kind)) ∙ sym (key_count (kinds_of s) (lifted l epoch (epoch_of l) row).key) in
    sym (forms l epoch row lineage form).spelled ∙ ap key_spelling (sym (ap (λ n. take n k) many ∙ take-length k)) ∙ keys l epoch row form

all_front : (P : Row → Type 0) (front rows : List Row) → AllByRecursion P (front ++ rows) → AllByRecursion P front
all_front P [] rows all = tt
all_front P (row ∷ front) rows all = (all.0, all_front P front rows all.1)

all_keys : LiftedKeys → LiftedForms → (l : Lineage) (epoch : ℕ) (rows : List Row) → IsLineage l → length (columns_at l epoch).keys ≡ length (columns_of l).keys → AreRowsOf (columns_at l epoch) rows
    → AllByRecursion (λ (row : Row). (lifted l epoch (epoch_of l) row).key ≡ row.key) rows
all_keys keys forms l epoch [] lineage count all = tt
all_keys keys forms l epoch (row ∷ rows) lineage count all = (same_key keys forms l epoch row lineage count all.0, all_keys keys forms l epoch rows lineage count all.1)

-- those of the first blocks of a file
pub first_keys : LiftedKeys → LiftedForms → {R : Type 0} (bytes : R → Option (List ℕ)) (i : Input R) (n : ℕ) (all : List Row) (b : List ℕ) → IsInput bytes i → IsLineage i.evolving.value
    → length (index_of i.reader).layout.columns.keys ≡ length (columns_of i.evolving.value).keys → IsIndexed (index_of i.reader) all b
    → AllByRecursion (λ (row : Row). (lift_by i row).key ≡ row.key) (rows_of (take n (blocks_of (index_of i.reader).layout all)))
first_keys keys forms bytes i n all b input lineage count indexed =
    let s : Layout = (index_of i.reader).layout in
    let blocks : List (List Row) = blocks_of s all in
    let whole : all ≡ rows_of (take n blocks) ++ rows_of (drop n blocks) = sym (blocks_rows s all) ∙ ap rows_of (sym (take-append-drop n blocks)) ∙ rows_of-append (take n blocks) (drop n blocks) in
    let form : AreRowsOf s.columns (rows_of (take n blocks)) = all_front (IsRowOf s.columns) (rows_of (take n blocks)) (rows_of (drop n blocks)) (subst (AreRowsOf s.columns) whole (row_forms s all indexed.file.good)) in
    all_keys keys forms i.evolving.value i.epoch (rows_of (take n blocks)) lineage (ap (λ (c : Columns). length c.keys) (sym input.columns) ∙ count) (subst (λ (c : Columns). AreRowsOf c (rows_of (take n blocks))) input.columns form)
