-- The rows that were read make a block, and the bytes are its spelling.
use Rattle.std.proofs.Common.{◌≡◌, Ok, ℕ, zero, suc, ◌≤◌, List, [], ◌∷◌, ◌++◌, length, map, drop, get_or, refl, sym, ap, subst, ◌∙◌, arith}
use Rattle.std.specs.Prelude.{IsTrue}
use Rattle.std.specs.Int.{w16, to_be_bytes}
use Rattle.std.specs.List.{AllByRecursion, range_with_len}
use Rattle.std.proofs.lemmas.Nat.{be_bytes_2}
use Rattle.std.proofs.lemmas.List.{length-map}
use Rattle.std.proofs.lemmas.List.FromFn.{length-map-range_with_len}
use Rattle.mesa_list.proofs.Whole.{IsByte, all_bytes, are_bytes, each_split}
use Rattle.mesa_columns.specs.mesa_key.declared.KeyType.{KeyType}
use Rattle.mesa_columns.specs.mesa_key.Spelling.{AreBytes, IsKey, is_spelling, key_of as key_values, key_spelling}
use Rattle.mesa_columns.specs.declared.rows.Row.{Row}
use Rattle.mesa_columns.specs.declared.columns.ValueColumn.{ValueColumn}
use Rattle.mesa_columns.specs.Columns.{kinds_of}
use Rattle.mesa_block.specs.declared.layout.Width.{Width}
use Rattle.mesa_block.specs.Layout.{FitCells, Layout, size_of, width_of, widths_of}
use Rattle.mesa_block.specs.Spelling.{block, columns, key_of, value_columns}
use Rattle.mesa_block.specs.Rows.{AreRows, IsRow}
use Rattle.mesa_block.specs.Reading.{block_at, count_of, key_at, row_at, values_at}
use Rattle.mesa_block.proofs.Bytes.{cell_bytes, key_bytes, laid_bytes, values_bytes}
use Rattle.mesa_block.proofs.Cells.{IsWord, number_fits, ranges_of}
use Rattle.mesa_block.proofs.Found.{all_of_size, are_good, keys_found, rises}
use Rattle.mesa_block.proofs.FoundBlock.{AreSized, block_whole}
use Rattle.mesa_block.proofs.FoundKeys.{keys_spelled}
use Rattle.mesa_block.proofs.FoundValues.{AreCellsOf, cells_laid, values_found}
use Rattle.mesa_block.proofs.Laying.{each_mapped}
use Rattle.mesa_block.proofs.Takes.{laid}

-- what the base says of bytes that pass for a spelling
abbrev pub ReadsKeys : Type 0
ReadsKeys = (types : List KeyType) (bytes : List ℕ) → AreBytes bytes → IsTrue (is_spelling types bytes) → IsKey types (key_values types bytes)

abbrev pub ReadsSpelled : Type 0
ReadsSpelled = (types : List KeyType) (bytes : List ℕ) → AreBytes bytes → IsTrue (is_spelling types bytes) → key_spelling (key_values types bytes) ≡ bytes

-- the head's three bytes and the others
head : (bytes : List ℕ) → 3 ≤ length bytes → bytes ≡ get_or bytes 0 0 ∷ (get_or bytes 1 0 ∷ (get_or bytes 2 0 ∷ drop 3 bytes))
head [] le = absurd (omega arith)
head (a ∷ []) le = absurd (omega arith)
head (a ∷ b ∷ []) le = absurd (omega arith)
head (a ∷ b ∷ c ∷ bytes) le = refl

drop_bytes : (n : ℕ) (bytes : List ℕ) → AllByRecursion IsByte bytes → AllByRecursion IsByte (drop n bytes)
drop_bytes zero bytes all = all
drop_bytes (suc n) [] all = tt
drop_bytes (suc n) (b ∷ bytes) all = drop_bytes n bytes all.1

keys_of_rows : (kinds : List KeyType) (ws : List Width) (keys values : List (List (List ℕ))) (is : List ℕ) → map key_of (map (row_at kinds ws keys values) is) ≡ map (key_at kinds keys) is
keys_of_rows kinds ws keys values [] = refl
keys_of_rows kinds ws keys values (i ∷ is) = ap (λ (l : List (List ℕ)). key_at kinds keys i ∷ l) (keys_of_rows kinds ws keys values is)

words_of : (w : Width) (c : List (List ℕ)) → AllByRecursion (λ (cell : List ℕ). length cell ≡ size_of w) c → AllByRecursion (AllByRecursion IsByte) c → AllByRecursion (IsWord w) c
words_of w [] lens all = tt
words_of w (cell ∷ c) lens all = (record { len = lens.0; small = are_bytes cell all.0 }, words_of w c lens.1 all.1)

all_words : (r : ℕ) (ws : List Width) (cs : List (List (List ℕ))) → AreSized r ws cs → AllByRecursion (AllByRecursion (AllByRecursion IsByte)) cs → AreCellsOf r ws cs
all_words r [] [] are all = tt
all_words r [] (c ∷ cs) are all = absurd are
all_words r (w ∷ ws) [] are all = absurd are
all_words r (w ∷ ws) (c ∷ cs) are all = (are.0, (words_of w c (all_of_size (size_of w) c are.1.0) all.0, all_words r ws cs are.1.1 all.1))

as_many : (r : ℕ) (ws : List Width) (cs : List (List (List ℕ))) (i : ℕ) → AreSized r ws cs → length (values_at ws cs i) ≡ length ws
as_many r [] [] i are = refl
as_many r [] (c ∷ cs) i are = absurd are
as_many r (w ∷ ws) [] i are = absurd are
as_many r (w ∷ ws) (c ∷ cs) i are = ap suc (as_many r ws cs i are.1.1)

-- what was read is spelled so
pub spelled_so : (s : Layout) (bytes : List ℕ) (rows : List Row) → AreBytes bytes → block_at s bytes ≡ Ok rows → block s rows ≡ bytes
unfolding block
spelled_so s bytes rows are e =
    let w = block_whole s bytes rows e in
    let r = count_of bytes in
    let t = w.taken in
    let kinds = kinds_of s.columns in
    let ws = widths_of s in
    let all = drop_bytes 3 bytes (all_bytes bytes are) in
    let parts = each_split IsByte (laid kinds t.keys) (cells_laid t.values) (subst (AllByRecursion IsByte) t.parts all) in
    let keys : columns kinds (map key_of rows) ≡ laid kinds t.keys =
    ap (λ rs. columns kinds (map key_of rs)) (sym t.same) ∙ ap (columns kinds) (keys_of_rows kinds ws t.keys t.values (range_with_len 0 r)) ∙ keys_found r kinds t.keys t.keys_read t.texts in
    let values : value_columns ws rows 0 ≡ cells_laid t.values =
    ap (λ rs. value_columns ws rs 0) (sym t.same) ∙ values_found kinds ws t.keys t.values r (all_words r ws t.values t.values_read (values_bytes t.values parts.1)) in
    let count : length rows ≡ r = sym (ap length t.same) ∙ length-map-range_with_len (row_at (kinds_of s.columns) (widths_of s) t.keys t.values) 0 r in
    let small = are_bytes bytes (all_bytes bytes are) in
    let two : to_be_bytes w16 (length rows) ≡ get_or bytes 1 0 ∷ (get_or bytes 2 0 ∷ []) = be_bytes_2 (get_or bytes 1 0 ∷ (get_or bytes 2 0 ∷ [])) (length rows) refl (are_bytes (get_or bytes 1 0 ∷ (get_or bytes 2 0 ∷ [])) (small 1, (small 2, tt))) count in
    let b1 = get_or bytes 1 0 in
    let b2 = get_or bytes 2 0 in
    ap (λ (l : List ℕ). 0 ∷ (l ++ (columns kinds (map key_of rows) ++ value_columns ws rows 0))) two
    ∙ ap (λ (l : List ℕ). 0 ∷ (b1 ∷ (b2 ∷ (l ++ value_columns ws rows 0)))) keys
    ∙ ap (λ (l : List ℕ). 0 ∷ (b1 ∷ (b2 ∷ (laid kinds t.keys ++ l)))) values
    ∙ ap (λ (l : List ℕ). 0 ∷ (b1 ∷ (b2 ∷ l))) (sym t.parts)
    ∙ ap (λ (b : ℕ). b ∷ (b1 ∷ (b2 ∷ drop 3 bytes))) (sym w.flag)
    ∙ sym (head bytes w.long)

cells_fit : (ws : List Width) (cs : List (List (List ℕ))) (i : ℕ) → AllByRecursion (AllByRecursion (AllByRecursion IsByte)) cs → FitCells ws (values_at ws cs i)
cells_fit [] cs i all = tt
cells_fit (w ∷ ws) [] i all = tt
cells_fit (w ∷ ws) (c ∷ cs) i all = (number_fits w (get_or c i []) (are_bytes (get_or c i []) (cell_bytes c i all.0)), cells_fit ws cs i all.1)

row_made : ReadsKeys → ReadsSpelled → (s : Layout) (keys values : List (List (List ℕ))) (r i : ℕ) → AllByRecursion (AllByRecursion (AllByRecursion IsByte)) keys → AllByRecursion (AllByRecursion (AllByRecursion IsByte)) values → AreSized r (widths_of s) values
    → IsTrue (is_spelling (kinds_of s.columns) (key_at (kinds_of s.columns) keys i)) → IsRow s (row_at (kinds_of s.columns) (widths_of s) keys values i)
row_made reads spelled s keys values r i kb vb sized so =
    let kinds = kinds_of s.columns in
    let are = are_bytes (key_at kinds keys i) (key_bytes kinds keys i kb) in
    let fit = cells_fit (widths_of s) values i vb in
    record {
      form = record {
        key = reads kinds (key_at kinds keys i) are so;
        spelled = spelled kinds (key_at kinds keys i) are so;
        values = as_many r (widths_of s) values i sized ∙ length-map s.columns.values (λ (c : ValueColumn). width_of s.format c.agg);
        ranges = ranges_of s.format s.columns.values (values_at (widths_of s) values i) fit;
      };
      cells = fit;
    }

-- what was read makes a block
pub rows_so : ReadsKeys → ReadsSpelled → (s : Layout) (bytes : List ℕ) (rows : List Row) → AreBytes bytes → block_at s bytes ≡ Ok rows → AreRows s rows
rows_so reads spelled s bytes rows are e =
    let w = block_whole s bytes rows e in
    let r = count_of bytes in
    let t = w.taken in
    let kinds = kinds_of s.columns in
    let ws = widths_of s in
    let all = drop_bytes 3 bytes (all_bytes bytes are) in
    let parts = each_split IsByte (laid kinds t.keys) (cells_laid t.values) (subst (AllByRecursion IsByte) t.parts all) in
    let kb = laid_bytes r kinds t.keys t.keys_read parts.0 in
    let vb = values_bytes t.values parts.1 in
    let good = each_mapped (λ i. IsTrue (is_spelling kinds (key_at kinds t.keys i))) (IsRow s) (row_at kinds ws t.keys t.values) (range_with_len 0 r)
    (λ i so. row_made reads spelled s t.keys t.values r i kb vb t.values_read so)
    (keys_spelled r kinds t.keys (are_good r kinds t.keys t.keys_read t.texts)) in
    let count : length rows ≡ r = sym (ap length t.same) ∙ length-map-range_with_len (row_at kinds ws t.keys t.values) 0 r in
    record {
      some = omega (arith, count, w.some);
      few = omega (arith, count, w.few);
      short = omega (arith, ap length (spelled_so s bytes rows are e), w.short);
      good = subst (AllByRecursion (IsRow s)) t.same good;
      rise = rises rows 0 t.order;
    }
