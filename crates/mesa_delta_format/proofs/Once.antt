-- A file's bytes and its count of blocks tell its rows.
use Rattle.std.proofs.Common.{◌≡◌, ℕ, ◌+◌, ◌^◌, ◌<◌, List, [], ◌∷◌, length, take, drop, refl, sym, ap, ◌∙◌, arith}
use Rattle.std.specs.List.{AllByRecursion}
use Rattle.std.specs.Prelude.{IsTrue}
use Rattle.mesa_columns.specs.declared.rows.Row.{Row}
use Rattle.mesa_block.specs.Layout.{Layout}
use Rattle.mesa_fold.specs.Folded.{rows_of}
use Rattle.mesa_columns.specs.Schema.{is_schema}
use Rattle.mesa_block.specs.Rows.{AreRows}
use Rattle.mesa_block.specs.Spelling.{block}
use Rattle.mesa_delta_format.specs.declared.place.Entry.{Entry}
use Rattle.mesa_delta_format.specs.File.{IsFile}
use Rattle.mesa_delta_format.specs.Indexed.{tail_length}
use Rattle.mesa_delta_format.specs.Places.{place_of, places}
use Rattle.mesa_delta_format.specs.Spread.{blocks_of}
use Rattle.mesa_delta_format.proofs.Packing.{FitsAlone, blocks_rows}
use Rattle.mesa_delta_format.proofs.Placed.{laid, places_long, tail_of_file}
use Rattle.mesa_delta_format.proofs.BlocksOnce.{Reads, blocks_once}
use Rattle.mesa_delta_format.proofs.Tailing.{split_same, tails_once}

head_same : (d e : Entry) (ds es : List Entry) → d ∷ ds ≡ e ∷ es → (d ≡ e) × (ds ≡ es)
head_same d e ds es is = (cc, cc)

-- blocks with the same entries and the same bytes are the same
parts_once : Reads → (s : Layout) (at : ℕ) (ps qs : List (List Row)) → AllByRecursion (AreRows s) ps → AllByRecursion (AreRows s) qs → length ps ≡ length qs → places s at ps ≡ places s at qs → laid s ps ≡ laid s qs → ps ≡ qs
parts_once reads s at [] [] h k len entries is = refl
parts_once reads s at [] (q ∷ qs) h k len entries is = absurd (omega arith)
parts_once reads s at (p ∷ ps) [] h k len entries is = absurd (omega arith)
parts_once reads s at (p ∷ ps) (q ∷ qs) h k len entries is =
    let first = head_same (place_of s at p) (place_of s at q) (places s (at + length (block s p)) ps) (places s (at + length (block s q)) qs) entries in
    let long : length (block s p) ≡ length (block s q) = ap (λ (e : Entry). e.len) first.0 in
    let both = split_same (block s p) (block s q) (laid s ps) (laid s qs) long is in
    let one : p ≡ q = blocks_once reads s p q h.0 k.0 both.0 in
    let later : places s (at + length (block s p)) ps ≡ places s (at + length (block s p)) qs = first.1 ∙ ap (λ (n : ℕ). places s (at + n) qs) (sym long) in
    let others : ps ≡ qs = parts_once reads s (at + length (block s p)) ps qs h.1 k.1 (omega arith) later both.1 in
    cc

pub rows_once : FitsAlone → Reads → (s : Layout) (rows others : List Row) (bytes : List ℕ) → IsTrue (is_schema s.columns) → length bytes < 2 ^ 64 → IsFile s rows bytes → IsFile s others bytes → length (blocks_of s rows) ≡ length (blocks_of s others) → rows ≡ others
rows_once law reads s rows others bytes schema fits h k count =
    let t = tail_of_file law s rows bytes schema h fits in
    let u = tail_of_file law s others bytes schema k fits in
    let ps = blocks_of s rows in
    let qs = blocks_of s others in
    let tails : tail_length s.columns (length ps) ≡ tail_length s.columns (length qs) = ap (tail_length s.columns) count in
    let place : length (laid s ps) ≡ length (laid s qs) = omega (arith, t.place, u.place, tails) in
    let entries = tails_once s (length rows) (length others) (places s 0 ps) (places s 0 qs) t.tail.widths u.tail.widths (places_long s 0 ps ∙ count ∙ sym (places_long s 0 qs)) (sym t.behind ∙ ap (λ (n : ℕ). drop n bytes) place ∙ u.behind) in
    let bytes_are : laid s ps ≡ laid s qs = sym t.blocks ∙ ap (λ (n : ℕ). take n bytes) place ∙ u.blocks in
    let parts : ps ≡ qs = parts_once reads s 0 ps qs t.each u.each count entries.0 bytes_are in
    sym (blocks_rows s rows) ∙ ap rows_of parts ∙ blocks_rows s others
