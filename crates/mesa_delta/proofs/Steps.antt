-- Reading block after block.
use Rattle.std.proofs.Common.{◌≡◌, ℕ, ◌+◌, ◌<◌, List, [], ◌∷◌, ◌++◌, length, take, drop, get_or, refl, sym, ap, subst, ◌∙◌, arith, append_assoc, Option, Some}
use Rattle.std.specs.List.{AllByRecursion}
use Rattle.std.proofs.lemmas.List.{append-nil, length-append, take_at, take_all, take_more, take-append-drop, drop_at, drop_more}
use Rattle.std.proofs.lemmas.Grind.{flat_map-append}
use Rattle.mesa_delta_format.specs.mesa_columns.declared.rows.Row.{Row}
use Rattle.mesa_delta_format.specs.mesa_block.Layout.{Layout}
use Rattle.mesa_delta_format.specs.mesa_fold.Folded.{rows_of}
use Rattle.mesa_delta_format.specs.mesa_block.Rows.{AreRows, IsRow}
use Rattle.mesa_delta_format.specs.mesa_block.Spelling.{block}
use Rattle.mesa_delta_format.specs.declared.place.Entry.{Entry}
use Rattle.mesa_delta.specs.declared.reader.DeltaReader.{DeltaReader}
use Rattle.mesa_delta.specs.declared.run.Run.{Run}
use Rattle.mesa_delta_format.specs.File.{file_tail}
use Rattle.mesa_delta_format.specs.Indexed.{Indexed, IsIndex}
use Rattle.mesa_delta_format.specs.Places.{place_of, places, entry_of, Follow, tail_spelled}
use Rattle.mesa_delta.specs.Reading.{HasRead, IsBlock, IsNeverNext, IsNotNext, IsReaderOf, IsRun, IsWhole, piece_of}
use Rattle.mesa_delta_format.specs.Spread.{blocks_of}
use Rattle.mesa_delta_format.specs.Tail.{tail_of}
use Rattle.mesa_delta_format.proofs.Entering.{take_sum}
use Rattle.mesa_delta.proofs.Indexing.{is_same, is_at}
use Rattle.mesa_delta_format.proofs.Packing.{FitsAlone, Grows, repacked}
use Rattle.mesa_delta_format.proofs.Placed.{laid, laid_long, tail_is}
use Rattle.mesa_delta_format.proofs.Tailing.{split_same}
use Rattle.mesa_delta_format.proofs.BlocksOnce.{Reads, blocks_once}

pub start_run : (s : Layout) (run : Run) → run.next ≡ 0 → run.rows ≡ 0 → run.last ≡ [] → run.count ≡ 0 → IsRun s run []
start_run s run next rows last count = record { each = tt; rise = tt; packed = tt; next = next; rows = rows; last = last; count = count; len = λ some. absurd (omega arith) }

pub none_read : {R : Type 0} (bytes : R → Option (List ℕ)) (r : DeltaReader R) → IsIndex r.index → IsRun r.index.layout r.run [] → HasRead bytes r []
none_read bytes r index run = record {
  run = run;
  places = refl;
  counted = λ e. absurd (omega (arith, index.tail.some));
  told = λ b at. refl;
}

offset_at : (s : Layout) (at end : ℕ) (es : List Entry) (parts : List (List Row)) → Follow at es end → take (length parts) es ≡ places s at parts → length parts < length es → (entry_of es (length parts)).offset ≡ at + length (laid s parts)
offset_at s at end [] parts h is lt = absurd (omega arith)
offset_at s at end (e ∷ es) [] h is lt = omega (arith, h.0)
offset_at s at end (e ∷ es) (p ∷ parts) h is lt =
    let head : e ≡ place_of s at p = cc in
    let rest : take (length parts) es ≡ places s (at + length (block s p)) parts = cc in
    let len : e.len ≡ length (block s p) = ap (λ (x : Entry). x.len) head in
    let tail = subst (λ (n : ℕ). Follow (at + n) es end) len h.3 in
    omega (arith, offset_at s (at + length (block s p)) end es parts tail rest (omega arith), laid_long s p parts)

places_push : (s : Layout) (at : ℕ) (parts : List (List Row)) (part : List Row) → places s at (parts ++ part ∷ []) ≡ places s at parts ++ place_of s (at + length (laid s parts)) part ∷ []
places_push s at [] part = ap (λ (n : ℕ). place_of s n part ∷ []) (omega arith)
places_push s at (p ∷ parts) part =
    ap (λ (l : List Entry). place_of s at p ∷ l) (places_push s (at + length (block s p)) parts part ∙ ap (λ (n : ℕ). places s (at + length (block s p)) parts ++ place_of s n part ∷ []) (omega (arith, laid_long s p parts)))

laid_push : (s : Layout) (parts : List (List Row)) (part : List Row) → laid s (parts ++ part ∷ []) ≡ laid s parts ++ block s part
laid_push s parts part = flat_map-append (block s) parts (part ∷ []) ∙ ap (λ (l : List ℕ). laid s parts ++ l) (append-nil (block s part))

pub placed_at : (x : Indexed) (parts : List (List Row)) (part : List Row) → IsIndex x → IsBlock x (length parts) part → take (length parts) x.entries ≡ places x.layout 0 parts → length parts < length x.entries
    → entry_of x.entries (length parts) ≡ place_of x.layout (length (laid x.layout parts)) part
placed_at x parts part index b is lt =
    b.entry ∙ ap (λ (n : ℕ). place_of x.layout n part) (offset_at x.layout 0 x.tail x.entries parts index.tail.follow is lt ∙ (omega arith))

-- one block more
pub one_read : {R : Type 0} (bytes : R → Option (List ℕ)) (old new : DeltaReader R) (parts : List (List Row)) (part : List Row) → IsIndex old.index → new.index ≡ old.index → bytes new.reader ≡ bytes old.reader → length parts < length old.index.entries
    → IsBlock old.index (length parts) part → IsRun old.index.layout new.run (parts ++ part ∷ []) → (new.run.next ≡ length old.index.entries → new.run.rows ≡ old.index.rows)
    → ((b : List ℕ) → bytes old.reader ≡ Some b → piece_of old.index (length parts) b ≡ block old.index.layout part)
    → take (length parts) old.index.entries ≡ places old.index.layout 0 parts
    → ((b : List ℕ) → bytes old.reader ≡ Some b → take (length (laid old.index.layout parts)) b ≡ laid old.index.layout parts)
    → HasRead bytes new (parts ++ part ∷ [])
one_read bytes old new parts part index same reader lt b run counted piece before told =
    let x = old.index in
    let s = x.layout in
    let entry = placed_at x parts part index b before lt in
    let count : length (parts ++ part ∷ []) ≡ length parts + 1 = length-append parts (part ∷ []) in
    let lay = laid_push s parts part in
    let over : (k : ℕ) → take (length (parts ++ part ∷ [])) x.entries ≡ places s 0 (parts ++ part ∷ []) =
    λ k. ap (λ (n : ℕ). take n x.entries) count ∙ take_more x.entries (length parts) (record { short = []; offset = 0; len = 0; digest = [] }) lt
    ∙ ap (λ (l : List Entry). l ++ entry_of x.entries (length parts) ∷ []) before ∙ ap (λ (e : Entry). places s 0 parts ++ e ∷ []) entry
    ∙ ap (λ (n : ℕ). places s 0 parts ++ place_of s n part ∷ []) (omega arith) ∙ sym (places_push s 0 parts part) in
    let reads : (c : List ℕ) → bytes old.reader ≡ Some c → take (length (laid s (parts ++ part ∷ []))) c ≡ laid s (parts ++ part ∷ []) =
    λ c at. ap (λ (n : ℕ). take n c) (ap length lay ∙ length-append (laid s parts) (block s part)) ∙ take_sum (length (laid s parts)) (length (block s part)) c
    ∙ ap (λ (l : List ℕ). l ++ take (length (block s part)) (drop (length (laid s parts)) c)) (told c at)
    ∙ ap (λ (l : List ℕ). laid s parts ++ l) (ap (λ (e : Entry). take e.len (drop e.offset c)) (sym entry) ∙ piece c at) ∙ sym lay in
    record {
      run = subst (λ (i : Indexed). IsRun i.layout new.run (parts ++ part ∷ [])) (sym same) run;
      places = subst (λ (i : Indexed). take (length (parts ++ part ∷ [])) i.entries ≡ places i.layout 0 (parts ++ part ∷ [])) (sym same) (over 0);
      counted = subst (λ (i : Indexed). length (parts ++ part ∷ []) ≡ length i.entries → length (rows_of (parts ++ part ∷ [])) ≡ i.rows) (sym same) (λ all. sym run.rows ∙ counted (run.next ∙ all));
      told = λ c at. subst (λ (i : Indexed). take (length (laid i.layout (parts ++ part ∷ []))) c ≡ laid i.layout (parts ++ part ∷ [])) (sym same) (reads c (sym reader ∙ at));
    }

-- another reader with the same bytes, and the same kept
pub still_read : {R : Type 0} (bytes : R → Option (List ℕ)) (old new : DeltaReader R) (parts : List (List Row)) → new.index ≡ old.index → new.run ≡ old.run → bytes new.reader ≡ bytes old.reader → HasRead bytes old parts → HasRead bytes new parts
still_read bytes old new parts index run reader h = record {
  run = subst (λ (i : Indexed). IsRun i.layout new.run parts) (sym index) (subst (λ (k : Run). IsRun old.index.layout k parts) (sym run) h.run);
  places = subst (λ (i : Indexed). take (length parts) i.entries ≡ places i.layout 0 parts) (sym index) h.places;
  counted = subst (λ (i : Indexed). length parts ≡ length i.entries → length (rows_of parts) ≡ i.rows) (sym index) h.counted;
  told = λ c at. subst (λ (i : Indexed). take (length (laid i.layout parts)) c ≡ laid i.layout parts) (sym index) (h.told c (sym reader ∙ at));
}

all_join : {X : Type 0} (P : X → Type 0) (xs ys : List X) → AllByRecursion P xs → AllByRecursion P ys → AllByRecursion P (xs ++ ys)
all_join P [] ys h k = k
all_join P (x ∷ xs) ys h k = (h.0, all_join P xs ys h.1 k)

all_rows : (s : Layout) (parts : List (List Row)) → AllByRecursion (AreRows s) parts → AllByRecursion (IsRow s) (rows_of parts)
all_rows s [] all = tt
all_rows s (p ∷ parts) all = all_join (IsRow s) p (rows_of parts) all.0.good (all_rows s parts all.1)

some_rows : (s : Layout) (parts : List (List Row)) → AllByRecursion (AreRows s) parts → 0 < length parts → 0 < length (rows_of parts)
some_rows s [] all some = absurd (omega arith)
some_rows s (p ∷ parts) all some = omega (arith, all.0.some, length-append p (rows_of parts))

follow_end : (s : Layout) (at end : ℕ) (parts : List (List Row)) → Follow at (places s at parts) end → end ≡ at + length (laid s parts)
follow_end s at end [] h = omega (arith, h)
follow_end s at end (p ∷ parts) h = omega (arith, follow_end s (at + length (block s p)) end parts h.3, laid_long s p parts)

-- all blocks were read one after the other: they are a file's
pub whole_file : FitsAlone → Grows → {R : Type 0} (bytes : R → Option (List ℕ)) (r : DeltaReader R) (parts : List (List Row)) → IsIndex r.index → HasRead bytes r parts → length parts ≡ length r.index.entries → IsReaderOf bytes r.reader r.index
    → IsWhole r.index (rows_of parts) (bytes r.reader)
whole_file law grows bytes r parts index h all over =
    let x = r.index in
    let s = x.layout in
    let rows = rows_of parts in
    let some : 0 < length parts = omega (arith, all, index.tail.some) in
    let entries : x.entries ≡ places s 0 parts = sym (take_all (length parts) x.entries (omega (arith, all))) ∙ h.places in
    let packed : blocks_of s rows ≡ parts = repacked law grows s parts index.schema some h.run.each h.run.packed in
    let tail : file_tail s rows ≡ tail_spelled s x.rows x.entries =
    ap (tail_of s (length rows)) packed ∙ tail_is s (length rows) parts ∙ ap (λ (n : ℕ). tail_spelled s n (places s 0 parts)) (h.counted all) ∙ ap (tail_spelled s x.rows) (sym entries) in
    let end : x.tail ≡ length (laid s parts) = follow_end s 0 x.tail parts (subst (λ (l : List Entry). Follow 0 l x.tail) entries index.tail.follow) ∙ (omega arith) in
    let good = all_rows s parts h.run.each in
    let rows_some = some_rows s parts h.run.each some in
    record {
      file = record { some = rows_some; good = good; rise = h.run.rise; spelled = refl };
      tail = tail;
      told = λ b at.
          record {
            some = rows_some;
            good = good;
            rise = h.run.rise;
            spelled = sym (take-append-drop (length (laid s parts)) b) ∙ ap (λ (l : List ℕ). l ++ drop (length (laid s parts)) b) (h.told b at)
                ∙ ap (λ (l : List ℕ). laid s parts ++ l) (ap (λ (n : ℕ). drop n b) (sym end) ∙ (over b at).tail ∙ sym tail) ∙ ap (λ (p : List (List Row)). laid s p ++ file_tail s rows) (sym packed);
          };
    }

-- the blocks of a file that begins with blocks' bytes begin with these
begins_so : Reads → (s : Layout) (at : ℕ) (parts blocks : List (List Row)) (rest : List ℕ) → AllByRecursion (AreRows s) parts → AllByRecursion (AreRows s) blocks → take (length parts) (places s at blocks) ≡ places s at parts
    → take (length (laid s parts)) (laid s blocks ++ rest) ≡ laid s parts → take (length parts) blocks ≡ parts
begins_so reads s at [] blocks rest h k is e = refl
begins_so reads s at (p ∷ parts) [] rest h k is e = absurd cc
begins_so reads s at (p ∷ parts) (q ∷ blocks) rest h k is e =
    let head : place_of s at q ≡ place_of s at p = cc in
    let len : length (block s q) ≡ length (block s p) = ap (λ (x : Entry). x.len) head in
    let more : take (length parts) (places s (at + length (block s q)) blocks) ≡ places s (at + length (block s p)) parts = cc in
    let later : take (length parts) (places s (at + length (block s p)) blocks) ≡ places s (at + length (block s p)) parts = subst (λ (n : ℕ). take (length parts) (places s (at + n) blocks) ≡ places s (at + length (block s p)) parts) len more in
    let long : length (laid s (p ∷ parts)) ≡ length (block s q) + length (laid s parts) = omega (arith, laid_long s p parts, len) in
    let cut : take (length (laid s (p ∷ parts))) (laid s (q ∷ blocks) ++ rest) ≡ block s q ++ take (length (laid s parts)) (laid s blocks ++ rest) =
    ap (λ (l : List ℕ). take (length (laid s (p ∷ parts))) l) (append_assoc (block s q) (laid s blocks) rest) ∙ ap (λ (n : ℕ). take n (block s q ++ (laid s blocks ++ rest))) long
    ∙ take_sum (length (block s q)) (length (laid s parts)) (block s q ++ (laid s blocks ++ rest))
    ∙ ap (λ (l : List ℕ). l ++ take (length (laid s parts)) (drop (length (block s q)) (block s q ++ (laid s blocks ++ rest)))) (take_at (block s q) (laid s blocks ++ rest) (length (block s q)) refl)
    ∙ ap (λ (l : List ℕ). block s q ++ take (length (laid s parts)) l) (drop_at (block s q) (laid s blocks ++ rest) (length (block s q)) refl) in
    let both = split_same (block s q) (block s p) (take (length (laid s parts)) (laid s blocks ++ rest)) (laid s parts) len (sym cut ∙ e) in
    let one : q ≡ p = blocks_once reads s q p k.0 h.0 both.0 in
    let others : take (length parts) blocks ≡ parts = begins_so reads s (at + length (block s p)) parts blocks rest h.1 k.1 later both.1 in
    cc

-- a block that never comes next isn't next
pub not_next : FitsAlone → Reads → (x : Indexed) (run : Run) (parts : List (List Row)) (part : List Row) → IsIndex x → IsRun x.layout run parts → take (length parts) x.entries ≡ places x.layout 0 parts → length parts < length x.entries
    → AreRows x.layout part → IsNeverNext x run part → IsNotNext x (length parts) parts (block x.layout part)
not_next law reads x run parts part index h before lt good never = λ rows bytes f begins is.
    let s = x.layout in
    let blocks = blocks_of s rows in
    let same = is_same law x rows bytes index f in
    let at = is_at law x rows bytes (length parts) index f lt in
    let front : take (length parts) blocks ≡ parts =
    begins_so reads s 0 parts blocks (tail_spelled s (length rows) (places s 0 blocks)) h.each same.of_file.each (ap (λ (l : List Entry). take (length parts) l) (sym same.entries) ∙ before)
    (ap (λ (l : List ℕ). take (length (laid s parts)) l) (sym same.of_file.whole) ∙ begins) in
    let here : get_or blocks (length parts) [] ≡ part = blocks_once reads s (get_or blocks (length parts) []) part at.good good (sym at.piece ∙ is) in
    let inside : length parts < length blocks = omega (arith, lt, f.blocks) in
    never parts (drop (length parts + 1) blocks) rows bytes h f
    (sym (take-append-drop (length parts) blocks) ∙ ap (λ (l : List (List Row)). l ++ drop (length parts) blocks) front ∙ ap (λ (l : List (List Row)). parts ++ l) (drop_more blocks (length parts) [] inside ∙ ap (λ (p : List Row). p ∷ drop (length parts + 1) blocks) here))
