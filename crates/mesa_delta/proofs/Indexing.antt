-- What an index tells of the file that it is of.
use Rattle.std.proofs.Common.{◌≡◌, ℕ, zero, suc, ◌+◌, ◌^◌, ◌<◌, List, [], ◌∷◌, ◌++◌, length, take, drop, get_or, refl, sym, ap, ◌∙◌, arith, append_assoc}
use Rattle.std.specs.Int.{w64, to_be_bytes, from_be_bytes}
use Rattle.std.specs.List.{AllByRecursion}
use Rattle.std.proofs.lemmas.List.{take_at, drop_at, drop-drop}
use Rattle.std.proofs.lemmas.Nat.{from_be_bytes-to_be_bytes_8}
use Rattle.mesa_delta_format.specs.mesa_columns.declared.rows.Row.{Row}
use Rattle.mesa_delta_format.specs.mesa_block.Layout.{Layout}
use Rattle.mesa_delta_format.specs.mesa_block.Rows.{AreRows}
use Rattle.mesa_delta_format.specs.mesa_block.Spelling.{block}
use Rattle.mesa_delta_format.specs.declared.place.Entry.{Entry}
use Rattle.mesa_delta_format.specs.Indexed.{Indexed, IsIndex, tail_length}
use Rattle.mesa_delta_format.specs.Places.{place_of, places, entry_of, short_of, tail_spelled}
use Rattle.mesa_delta.specs.Reading.{IsIndexed, IsNoneIn, IsNoBlock, piece_of}
use Rattle.mesa_delta_format.specs.Spread.{blocks_of}
use Rattle.mesa_delta_format.proofs.Packing.{FitsAlone}
use Rattle.mesa_delta_format.proofs.Placed.{IsTailOf, tail_of_file, places_long, laid, laid_long}
use Rattle.mesa_delta_format.proofs.Tailing.{tails_once, foot_rows}

-- An index has the entries and the rows of the file's blocks.
pub record IsSame (x : Indexed) (written : List Row) (bytes : List ℕ) : Type 0 where
  pub of_file : IsTailOf x.layout written bytes
  pub entries : x.entries ≡ places x.layout 0 (blocks_of x.layout written)
  pub rows : x.rows ≡ length written
  pub tail : x.tail ≡ length (laid x.layout (blocks_of x.layout written))

pub is_same : FitsAlone → (x : Indexed) (rows : List Row) (bytes : List ℕ) → IsIndex x → IsIndexed x rows bytes → IsSame x rows bytes
is_same law x rows bytes index h =
    let s = x.layout in
    let t = tail_of_file law s rows bytes index.schema h.file (omega (arith, h.over.len, index.fits)) in
    let parts = blocks_of s rows in
    let long : tail_length s.columns (length parts) ≡ tail_length s.columns (length x.entries) = ap (tail_length s.columns) h.blocks in
    let tail : x.tail ≡ length (laid s parts) = omega (arith, index.whole, t.place, h.over.len, long) in
    let spelled : tail_spelled s x.rows x.entries ≡ tail_spelled s (length rows) (places s 0 parts) = sym h.over.tail ∙ ap (λ (n : ℕ). drop n bytes) tail ∙ t.behind in
    let once = tails_once s x.rows (length rows) x.entries (places s 0 parts) index.tail.widths t.tail.widths (sym h.blocks ∙ sym (places_long s 0 parts)) spelled in
    let few : length rows < 2 ^ 64 = omega (arith, t.few, h.blocks, index.few) in
    let word : to_be_bytes w64 x.rows ≡ to_be_bytes w64 (length rows) =
    sym (foot_rows s x.rows (length x.entries)) ∙ ap (λ (l : List ℕ). take 8 (drop (length s.columns.keys + length s.columns.values) l)) once.1 ∙ foot_rows s (length rows) (length (places s 0 parts)) in
    record {
      of_file = t;
      entries = once.0;
      rows = sym (from_be_bytes-to_be_bytes_8 x.rows index.counted) ∙ ap (from_be_bytes w64) word ∙ from_be_bytes-to_be_bytes_8 (length rows) few;
      tail = tail;
    }

-- a block's bytes among those of all
pub piece_at : (s : Layout) (parts : List (List Row)) (rest : List ℕ) (i : ℕ) → i < length parts
    → take (length (block s (get_or parts i []))) (drop (length (laid s (take i parts))) (laid s parts ++ rest)) ≡ block s (get_or parts i [])
piece_at s [] rest i lt = absurd (omega arith)
piece_at s (p ∷ parts) rest zero lt = ap (λ (l : List ℕ). take (length (block s p)) l) (append_assoc (block s p) (laid s parts) rest) ∙ take_at (block s p) (laid s parts ++ rest) (length (block s p)) refl
piece_at s (p ∷ parts) rest (suc i) lt =
    let b = get_or parts i [] in
    let ahead = laid s (take i parts) in
    ap (λ (n : ℕ). take (length (block s b)) (drop n (laid s (p ∷ parts) ++ rest))) (laid_long s p (take i parts))
    ∙ ap (λ (l : List ℕ). take (length (block s b)) l)
    (ap (λ (l : List ℕ). drop (length (block s p) + length ahead) l) (append_assoc (block s p) (laid s parts) rest) ∙ sym (drop-drop (length ahead) (length (block s p)) (block s p ++ (laid s parts ++ rest)))
    ∙ ap (λ (l : List ℕ). drop (length ahead) l) (drop_at (block s p) (laid s parts ++ rest) (length (block s p)) refl))
    ∙ piece_at s parts rest i (omega arith)

pub entry_at : (s : Layout) (at : ℕ) (parts : List (List Row)) (i : ℕ) → i < length parts → entry_of (places s at parts) i ≡ place_of s (at + length (laid s (take i parts))) (get_or parts i [])
entry_at s at [] i lt = absurd (omega arith)
entry_at s at (p ∷ parts) zero lt = ap (λ (n : ℕ). place_of s n p) (omega arith)
entry_at s at (p ∷ parts) (suc i) lt =
    entry_at s (at + length (block s p)) parts i (omega arith) ∙ ap (λ (n : ℕ). place_of s n (get_or parts i [])) (omega (arith, laid_long s p (take i parts)))

at_each : {X : Type 0} (P : X → Type 0) (xs : List X) (i : ℕ) (d : X) → i < length xs → AllByRecursion P xs → P (get_or xs i d)
at_each P [] i d lt all = absurd (omega arith)
at_each P (x ∷ xs) zero d lt all = all.0
at_each P (x ∷ xs) (suc i) d lt all = at_each P xs i d (omega arith) all.1

-- What a block of an indexed file is: its entry, its bytes and its rows.
pub record IsAt (x : Indexed) (rows : List Row) (bytes : List ℕ) (i : ℕ) : Type 0 where
  pub entry : entry_of x.entries i ≡ place_of x.layout (length (laid x.layout (take i (blocks_of x.layout rows)))) (get_or (blocks_of x.layout rows) i [])
  pub piece : piece_of x i bytes ≡ block x.layout (get_or (blocks_of x.layout rows) i [])
  pub good : AreRows x.layout (get_or (blocks_of x.layout rows) i [])

pub is_at : FitsAlone → (x : Indexed) (rows : List Row) (bytes : List ℕ) (i : ℕ) → IsIndex x → IsIndexed x rows bytes → i < length x.entries → IsAt x rows bytes i
is_at law x rows bytes i index h lt =
    let s = x.layout in
    let parts = blocks_of s rows in
    let same = is_same law x rows bytes index h in
    let inside : i < length parts = omega (arith, h.blocks) in
    let entry : entry_of x.entries i ≡ place_of s (length (laid s (take i parts))) (get_or parts i []) =
    ap (λ (es : List Entry). entry_of es i) same.entries ∙ entry_at s 0 parts i inside ∙ ap (λ (n : ℕ). place_of s n (get_or parts i [])) (omega arith) in
    record {
      entry = entry;
      piece = ap (λ (e : Entry). take e.len (drop e.offset bytes)) entry ∙ ap (λ (l : List ℕ). take (length (block s (get_or parts i []))) (drop (length (laid s (take i parts))) l)) same.of_file.whole
          ∙ piece_at s parts (tail_spelled s (length rows) (places s 0 parts)) i inside;
      good = at_each (AreRows s) parts i [] inside same.of_file.each;
    }

-- a piece that spells no block of its entry's short key is no block of a file
pub no_block : FitsAlone → (x : Indexed) (i : ℕ) (piece : List ℕ) → IsIndex x → i < length x.entries → IsNoneIn x.layout (entry_of x.entries i).short piece → IsNoBlock x i piece
no_block law x i piece index lt none = λ rows bytes h is.
    let at = is_at law x rows bytes i index h lt in
    none (get_or (blocks_of x.layout rows) i []) at.good (sym at.piece ∙ is) (sym (ap short_of at.entry))
