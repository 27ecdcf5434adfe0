-- No damage is told of the recorded bytes.
use Rattle.std.proofs.Common.{◌≡◌, inl, inr, ℕ, ◌+◌, ◌-◌, ◌^◌, ◌<◌, ◌≤◌, List, [], ◌∷◌, ◌++◌, length, take, drop, get_or, refl, sym, ap, subst, ◌∙◌, arith, Option, Some, None, true}
use Rattle.std.specs.Prelude.{IfOk, IfSome, IsTrue, Result, Ok, Err, map}
use Rattle.std.specs.List.{AllByRecursion}
use Rattle.std.specs.Ordering.{is_le}
use Rattle.std.proofs.lemmas.List.{length-drop, take_all}
use Rattle.sha2.specs.Sha256.{sha256}
use Rattle.mesa_delta_format.specs.mesa_file.declared.damage.Damage.{Damage}
use Rattle.mesa_delta_format.specs.mesa_file.declared.file_ref.FileRef.{FileRef}
use Rattle.mesa_delta_format.specs.mesa_key.Order.{byte_cmp, short_key}
use Rattle.mesa_delta_format.specs.mesa_columns.declared.rows.Row.{Row}
use Rattle.mesa_delta_format.specs.mesa_block.Layout.{Layout}
use Rattle.mesa_delta_format.specs.mesa_columns.Schema.{is_schema}
use Rattle.mesa_delta_format.specs.mesa_fold.Folded.{rows_of}
use Rattle.mesa_delta_format.specs.mesa_block.Rows.{AreRows, Rise}
use Rattle.mesa_delta_format.specs.mesa_block.Spelling.{block, key_of}
use Rattle.mesa_delta_format.specs.declared.place.Entry.{Entry}
use Rattle.mesa_delta.specs.declared.reader.DeltaReader.{DeltaReader}
use Rattle.mesa_delta.specs.Ahead.{IsOfFile, Untested}
use Rattle.mesa_delta_format.specs.Beginning.{BeginsBefore, IsSome, first_short}
use Rattle.mesa_delta_format.specs.File.{IsFile, file_tail}
use Rattle.mesa_delta_format.specs.Indexed.{Indexed, IsIndex, tail_length, tail_place}
use Rattle.mesa_delta_format.specs.Places.{entry_of, place_of, places, shorts_of}
use Rattle.mesa_delta.specs.Reading.{HasRead, IsBlock, IsBlockDamage, IsIndexed, IsTailDamage, piece_of}
use Rattle.mesa_delta_format.specs.Seeking.{seek_in}
use Rattle.mesa_delta_format.specs.Spread.{blocks_of}
use Rattle.mesa_delta_format.specs.Summary.{IsReferenceOf}
use Rattle.mesa_delta_format.specs.Tail.{first_key}
use Rattle.mesa_delta.proofs.Indexing.{is_same, is_at}
use Rattle.mesa_delta_format.proofs.Packing.{FitsAlone, blocks_rows}
use Rattle.mesa_delta_format.proofs.Placed.{laid, tail_is, tail_of_file}
use Rattle.mesa_delta_format.proofs.BlocksOnce.{Reads, blocks_once}

pub tail_accepts : FitsAlone → (content : Option (List ℕ)) (size : ℕ) (s : Layout) (file : FileRef) (d : Damage) (b : List ℕ) (rows : List Row) → IsTrue (is_schema s.columns) → file.len < 2 ^ 64 → content ≡ Some b → length b ≡ size → IsFile s rows b → IsReferenceOf s file.id rows file
    → IsTailDamage content size s file d → ⊥
tail_accepts law content size s file d b rows schema fits at sized h ref (inl wrong) = wrong.1 (sym sized ∙ ap length h.spelled ∙ sym ref.len)
tail_accepts law content size s file d b rows schema fits at sized h ref (inr (same, (piece, read, why))) =
    let len : length b ≡ file.len = ap length h.spelled ∙ sym ref.len in
    let t = tail_of_file law s rows b schema h (omega (arith, len, fits)) in
    let parts = blocks_of s rows in
    let long : tail_length s.columns (length parts) ≡ tail_length s.columns file.blocks = ap (tail_length s.columns) (sym ref.blocks) in
    let place : length (laid s parts) ≡ tail_place s file = omega (arith, t.place, len, long) in
    let rest : take (file.len - tail_place s file) (drop (tail_place s file) b) ≡ drop (tail_place s file) b = take_all (file.len - tail_place s file) (drop (tail_place s file) b) (omega (arith, length-drop (tail_place s file) b, len)) in
    let is : piece ≡ drop (tail_place s file) b = read.told b at ∙ rest in
    let tail : drop (tail_place s file) b ≡ file_tail s rows = ap (λ (n : ℕ). drop n b) (sym place) ∙ t.behind ∙ sym (tail_is s (length rows) parts) in
    elim why as (λ _. ⊥) [
      | inl wrong ↦ wrong.1 (ap sha256 (is ∙ tail) ∙ sym ref.digest)
      | inr misfit ↦ misfit.1 rows b h len (sym ref.blocks) (sym is)
    ]

pub block_accepts : FitsAlone → {R : Type 0} (bytes : R → Option (List ℕ)) (r : DeltaReader R) (size i : ℕ) (parts : List (List Row)) (d : Damage) (b : List ℕ) (rows : List Row) → IsIndex r.index → i < length r.index.entries → bytes r.reader ≡ Some b → length b ≡ size → IsIndexed r.index rows b → HasRead bytes r parts
    → IsBlockDamage (bytes r.reader) size r.index i parts d → ⊥
block_accepts law bytes r size i parts d b rows index lt at sized f h (inl wrong) = wrong.1 (sym sized ∙ f.over.len)
block_accepts law bytes r size i parts d b rows index lt at sized f h (inr (same, (piece, read, why))) =
    let x = r.index in
    let here = is_at law x rows b i index f lt in
    let is : piece ≡ piece_of x i b = read.told b at in
    elim why as (λ _. ⊥) [
      | inl wrong ↦ wrong.1 (ap sha256 (is ∙ here.piece) ∙ sym (ap (λ (e : Entry). e.digest) here.entry))
      | inr misfit ↦ misfit.1 rows b f (h.told b at) (sym is)
    ]

-- what was written is read again
pub read_again : FitsAlone → Reads → (x : Indexed) (i : ℕ) (part rows : List Row) (b : List ℕ) → IsIndex x → i < length x.entries → IsBlock x i part → IsIndexed x rows b → piece_of x i b ≡ block x.layout part → part ≡ get_or (blocks_of x.layout rows) i []
read_again law reads x i part rows b index lt is f piece =
    let here = is_at law x rows b i index f lt in
    blocks_once reads x.layout part (get_or (blocks_of x.layout rows) i []) is.rows here.good (sym piece ∙ here.piece)

-- bytes of the recorded length and digest that spell rows are the block of these rows
pub block_told : (x : Indexed) (i : ℕ) (e : Entry) (s : Layout) (bytes : List ℕ) (rows : List Row) → s ≡ x.layout → e ≡ entry_of x.entries i → e.len ≡ length bytes → e.digest ≡ sha256 bytes
    → AreRows s rows × (block s rows ≡ bytes) × (short_key (first_key rows) ≡ e.short) → IsBlock x i rows
block_told x i e s bytes rows layout at len digest told =
    let spelled : block x.layout rows ≡ bytes = subst (λ (s : Layout). block s rows ≡ bytes) layout told.1 in
    let long : e.len ≡ length (block x.layout rows) = len ∙ sym (ap length spelled) in
    let sealed : e.digest ≡ sha256 (block x.layout rows) = digest ∙ sym (ap sha256 spelled) in
    let short : e.short ≡ short_key (first_key rows) = sym told.2 in
    let placed : e ≡ place_of x.layout e.offset rows = λ j. record { short = short j; offset = e.offset; len = long j; digest = sealed j } in
    record { rows = subst (λ (s : Layout). AreRows s rows) layout told.0; entry = subst (λ (e : Entry). e ≡ place_of x.layout e.offset rows) at placed }

same_first : (u v : Untested) (us vs : List Untested) → u ∷ us ≡ v ∷ vs → u ≡ v
same_first u v us vs e = cc

-- the first block that was read ahead is what was written
pub taken_again : {E : Type 0} → FitsAlone → Reads → (x : Indexed) (found : Result (Option (List Row)) E) (ahead : List Untested) (v : Untested) (rest : List Untested) (n : ℕ) (bytes : List ℕ) → IsIndex x → ahead ≡ v ∷ rest → n ≡ v.block → bytes ≡ v.bytes
    → IfOk found (λ o. IfSome o (λ rows. IsBlock x n rows)) → IfOk found (λ o. IfSome o (λ rows. block x.layout rows ≡ bytes))
    → IfOk found (λ o. IfSome o (λ rows. (u : Untested) (more : List Untested) → ahead ≡ u ∷ more → (b : List ℕ) (all : List Row) → IsOfFile (Some b) x u → IsIndexed x all b → rows ≡ get_or (blocks_of x.layout all) u.block []))
taken_again law reads x (Ok (Some rows)) ahead v rest n bytes index first number piece is spelled = λ u more e b all of_file f.
    let same : v ≡ u = same_first v u rest more (sym first ∙ e) in
    let at : n ≡ u.block = number ∙ ap (λ (u : Untested). u.block) same in
    let here : block x.layout rows ≡ u.bytes = spelled ∙ piece ∙ ap (λ (u : Untested). u.bytes) same in
    read_again law reads x u.block rows all b index of_file.within (subst (λ (n : ℕ). IsBlock x n rows) at is) f (sym (of_file.piece.told b refl) ∙ sym here)
taken_again law reads x (Ok None) ahead v rest n bytes index first number piece is spelled = tt
taken_again law reads x (Err e) ahead v rest n bytes index first number piece is spelled = tt

shorts_are : (s : Layout) (at : ℕ) (parts : List (List Row)) → shorts_of (places s at parts) ≡ map first_short parts
shorts_are s at [] = refl
shorts_are s at (p ∷ parts) = ap (λ (l : List (List ℕ)). first_short p ∷ l) (shorts_are s (at + length (block s p)) parts)

some_all : (s : Layout) (parts : List (List Row)) → AllByRecursion (AreRows s) parts → AllByRecursion IsSome parts
some_all s [] all = tt
some_all s (p ∷ parts) all = (all.0.some, some_all s parts all.1)

parts_behind : (s : Layout) (before : List (List Row)) (part : List Row) (behind : List (List Row)) → AllByRecursion (AreRows s) (before ++ part ∷ behind) → AllByRecursion IsSome behind
parts_behind s [] part behind all = some_all s behind all.1
parts_behind s (p ∷ before) part behind all = parts_behind s before part behind all.1

-- a search begins at or before the first block that holds a key at least the one looked for
pub begins_so : FitsAlone → BeginsBefore → (x : Indexed) (key : List ℕ) (rows : List Row) (b : List ℕ) (before : List (List Row)) (front : List Row) (row : Row) (back : List Row) (behind : List (List Row)) → IsIndex x → IsIndexed x rows b
    → blocks_of x.layout rows ≡ before ++ (front ++ row ∷ back) ∷ behind → is_le (byte_cmp key row.key) ≡ true → seek_in (short_key key) (shorts_of x.entries) ≤ length before
begins_so law begins x key rows b before front row back behind index f is le =
    let s = x.layout in
    let same = is_same law x rows b index f in
    let shorts : shorts_of x.entries ≡ map first_short (before ++ (front ++ row ∷ back) ∷ behind) = ap shorts_of same.entries ∙ shorts_are s 0 (blocks_of s rows) ∙ ap (map first_short) is in
    let rise = subst (λ (l : List Row). Rise (map key_of l)) (sym (blocks_rows s rows) ∙ ap rows_of is) f.file.rise in
    let some = parts_behind s before (front ++ row ∷ back) behind (subst (AllByRecursion (AreRows s)) is same.of_file.each) in
    subst (λ (l : List (List ℕ)). seek_in (short_key key) l ≤ length before) (sym shorts) (begins key before front row back behind rise some le)
