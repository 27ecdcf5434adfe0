-- An index is of the file that was read.
use Rattle.std.proofs.Common.{◌≡◌, ℕ, ◌+◌, ◌-◌, ◌^◌, ◌<◌, List, length, take, drop, sym, ap, ◌∙◌, arith}
use Rattle.std.specs.Prelude.{IsTrue}
use Rattle.std.proofs.lemmas.List.{length-drop, take_all}
use Rattle.mesa_delta_format.specs.mesa_file.declared.file_ref.FileRef.{FileRef}
use Rattle.mesa_delta_format.specs.mesa_block.Layout.{Layout}
use Rattle.mesa_delta_format.specs.mesa_columns.Schema.{is_schema}
use Rattle.mesa_delta_format.specs.declared.place.Entry.{Entry}
use Rattle.mesa_delta_format.specs.Indexed.{Indexed, IsIndexOf, tail_length, tail_place}
use Rattle.mesa_delta_format.specs.Places.{IsTail, places, tail_spelled}
use Rattle.mesa_delta.specs.Reading.{IsOver, IsNoTail}
use Rattle.mesa_delta_format.specs.Spread.{blocks_of}
use Rattle.mesa_delta_format.proofs.Packing.{FitsAlone}
use Rattle.mesa_delta_format.proofs.Placed.{tail_of_file, places_long, laid}

pub over_is : (file : FileRef) (s : Layout) (piece b : List ℕ) (x : Indexed) (place : ℕ) → IsIndexOf file s piece x → length b ≡ file.len → place ≡ file.len - tail_length s.columns file.blocks → piece ≡ take (file.len - place) (drop place b) → IsOver x b
over_is file s piece b x place h len at is =
    let long : tail_length x.layout.columns (length x.entries) ≡ tail_length s.columns file.blocks = ap (λ (c : Layout). tail_length c.columns (length x.entries)) h.layout ∙ ap (tail_length s.columns) h.blocks in
    let same : x.tail ≡ place = omega (arith, h.index.whole, h.len, at, long) in
    let rest : take (file.len - place) (drop place b) ≡ drop place b = take_all (file.len - place) (drop place b) (omega (arith, length-drop place b, len)) in
    record {
      len = len ∙ sym h.len;
      tail = ap (λ (n : ℕ). drop n b) same ∙ sym rest ∙ sym is ∙ h.spelled;
    }

-- no index is read from a piece
abbrev pub HasNone : FileRef → Layout → List ℕ → Type 0
HasNone file s piece = (rows : ℕ) (es : List Entry) → rows < 2 ^ 64 → length es ≡ file.blocks → piece ≡ tail_spelled s rows es → (place : ℕ) → place + length piece ≡ file.len → IsTail s place rows es → ⊥

-- where no index was read from the piece, it is the tail of no such file
pub no_tail : FitsAlone → (file : FileRef) (s : Layout) (piece : List ℕ) → IsTrue (is_schema s.columns) → file.len < 2 ^ 64 → file.blocks < 2 ^ 32
    → HasNone file s piece → IsNoTail s file piece
no_tail law file s piece schema fits few none = λ rows bytes h len blocks is.
    let t = tail_of_file law s rows bytes schema h (omega (arith, len)) in
    let parts = blocks_of s rows in
    let long : tail_length s.columns (length parts) ≡ tail_length s.columns file.blocks = ap (tail_length s.columns) blocks in
    let place : length (laid s parts) ≡ tail_place s file = omega (arith, t.place, len, long) in
    let at : piece ≡ tail_spelled s (length rows) (places s 0 parts) = sym is ∙ ap (λ (n : ℕ). drop n bytes) (sym place) ∙ t.behind in
    none (length rows) (places s 0 parts) (omega (arith, t.few, blocks, few)) (places_long s 0 parts ∙ blocks) at (length (laid s parts))
    (omega (arith, ap length (sym is), length-drop (tail_place s file) bytes, place, len, t.place)) t.tail
