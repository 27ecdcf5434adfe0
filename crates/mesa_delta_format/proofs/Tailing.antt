-- A tail's bytes spell one index.
use Rattle.std.proofs.Common.{◌≡◌, ℕ, zero, suc, ◌+◌, ◌*◌, ◌^◌, ◌<◌, ◌≤◌, List, [], ◌∷◌, ◌++◌, length, map, take, drop, get_or, refl, sym, ap, subst, ◌∙◌, arith, append_assoc}
use Rattle.std.specs.Prelude.{flat_map, IsTrue}
use Rattle.std.specs.Int.{w32, w64, to_be_bytes, from_be_bytes}
use Rattle.std.specs.List.{AllByRecursion}
use Rattle.std.proofs.lemmas.List.{length-append, length-map, take_at, drop_at, drop-drop, take-append-drop}
use Rattle.std.proofs.lemmas.List.Concat.{flat_map-cons}
use Rattle.std.proofs.lemmas.Nat.{from_be_bytes-to_be_bytes_4, from_be_bytes-to_be_bytes_8}
use Rattle.mesa_columns.specs.Schema.{is_schema}
use Rattle.mesa_block.specs.mesa_key.Order.{short_key}
use Rattle.mesa_columns.specs.Columns.{kinds_of, aggs_of}
use Rattle.mesa_block.specs.Layout.{Layout}
use Rattle.mesa_delta_format.specs.declared.place.Entry.{Entry}
use Rattle.mesa_file.specs.declared.file_ref.FileRef.{FileRef}
use Rattle.mesa_delta_format.specs.Indexed.{IsIndexOf, tail_length}
use Rattle.mesa_delta_format.specs.Places.{spelled, Follow, HasWidths, shorts_of, tail_spelled}
use Rattle.mesa_delta_format.specs.Seeking.{NeverFall}
use Rattle.mesa_columns.specs.Codes.{agg_byte, kind_byte}
use Rattle.mesa_delta_format.specs.Tail.{foot, magic}
use Rattle.mesa_delta_format.proofs.Adding.{agg_of, kind_of}
use Rattle.mesa_delta_format.proofs.Entering.{follow_le}

spelled_long : (e : Entry) → HasWidths e → length (spelled e) ≡ 60
spelled_long e h =
    omega (
      arith,
      h.0,
      h.1,
      length-append e.short (to_be_bytes w64 e.offset ++ (to_be_bytes w32 e.len ++ e.digest)),
      length-append (to_be_bytes w64 e.offset) (to_be_bytes w32 e.len ++ e.digest),
      length-append (to_be_bytes w32 e.len) e.digest,
    )

pub flat_long : (es : List Entry) → AllByRecursion HasWidths es → length (flat_map spelled es) ≡ 60 * length es
flat_long [] all = refl
flat_long (e ∷ es) all = rw flat_map-cons (omega (arith, length-append (spelled e) (flat_map spelled es), spelled_long e all.0, flat_long es all.1))

abbrev ending : Layout → ℕ → ℕ → List ℕ
ending s rows blocks = to_be_bytes w64 rows ++ (to_be_bytes w32 blocks ++ (length s.columns.keys ∷ length s.columns.values ∷ magic s.format))

pub foot_long : (s : Layout) (rows blocks : ℕ) → length (foot s rows blocks) ≡ length s.columns.keys + length s.columns.values + 22
foot_long s rows blocks =
    let kinds = map kind_byte (kinds_of s.columns) in
    let aggs = map agg_byte (aggs_of s.columns) in
    omega (
      arith,
      length-append kinds (aggs ++ ending s rows blocks),
      length-append aggs (ending s rows blocks),
      length-append (to_be_bytes w64 rows) (to_be_bytes w32 blocks ++ (length s.columns.keys ∷ length s.columns.values ∷ magic s.format)),
      length-append (to_be_bytes w32 blocks) (length s.columns.keys ∷ length s.columns.values ∷ magic s.format),
      length-map (kinds_of s.columns) kind_byte,
      length-map (aggs_of s.columns) agg_byte,
      length-map s.columns.keys kind_of,
      length-map s.columns.values agg_of,
    )

pub tail_long : (s : Layout) (rows : ℕ) (es : List Entry) → AllByRecursion HasWidths es → length (tail_spelled s rows es) ≡ tail_length s.columns (length es)
tail_long s rows es all = omega (arith, length-append (flat_map spelled es) (foot s rows (length es)), flat_long es all, foot_long s rows (length es))

-- the count of rows stands behind the columns
pub foot_rows : (s : Layout) (rows blocks : ℕ) → take 8 (drop (length s.columns.keys + length s.columns.values) (foot s rows blocks)) ≡ to_be_bytes w64 rows
foot_rows s rows blocks =
    let kinds = map kind_byte (kinds_of s.columns) in
    let aggs = map agg_byte (aggs_of s.columns) in
    let a : length kinds ≡ length s.columns.keys = length-map (kinds_of s.columns) kind_byte ∙ length-map s.columns.keys kind_of in
    let b : length aggs ≡ length s.columns.values = length-map (aggs_of s.columns) agg_byte ∙ length-map s.columns.values agg_of in
    let e : drop (length s.columns.keys + length s.columns.values) (foot s rows blocks) ≡ ending s rows blocks =
    sym (drop-drop (length s.columns.values) (length s.columns.keys) (foot s rows blocks)) ∙ ap (λ (l : List ℕ). drop (length s.columns.values) l) (drop_at kinds (aggs ++ ending s rows blocks) (length s.columns.keys) a)
    ∙ drop_at aggs (ending s rows blocks) (length s.columns.values) b in
    ap (λ (l : List ℕ). take 8 l) e ∙ take_at (to_be_bytes w64 rows) (to_be_bytes w32 blocks ++ (length s.columns.keys ∷ length s.columns.values ∷ magic s.format)) 8 refl

pub read_rows : (s : Layout) (rows blocks found : ℕ) (bytes : List ℕ) → rows < 2 ^ 64 → bytes ≡ foot s rows blocks → found ≡ from_be_bytes w64 (take 8 (drop (length s.columns.keys + length s.columns.values) bytes)) → found ≡ rows
read_rows s rows blocks found bytes fits is at =
    at ∙ ap (λ (l : List ℕ). from_be_bytes w64 (take 8 (drop (length s.columns.keys + length s.columns.values) l))) is ∙ ap (from_be_bytes w64) (foot_rows s rows blocks) ∙ from_be_bytes-to_be_bytes_8 rows fits

pub split_same : (a b x y : List ℕ) → length a ≡ length b → a ++ x ≡ b ++ y → (a ≡ b) × (x ≡ y)
split_same [] [] x y len e = (refl, e)
split_same [] (c ∷ b) x y len e = absurd (omega arith)
split_same (c ∷ a) [] x y len e = absurd (omega arith)
split_same (c ∷ a) (d ∷ b) x y len e =
    let head : c ≡ d = cc in
    let rest : a ++ x ≡ b ++ y = cc in
    let h = split_same a b x y (omega arith) rest in
    let t : a ≡ b = h.0 in
    (cc, h.1)

apart : (e : Entry) (x : List ℕ) → spelled e ++ x ≡ e.short ++ (to_be_bytes w64 e.offset ++ (to_be_bytes w32 e.len ++ (e.digest ++ x)))
apart e x =
    append_assoc e.short (to_be_bytes w64 e.offset ++ (to_be_bytes w32 e.len ++ e.digest)) x
    ∙ ap (λ (l : List ℕ). e.short ++ l) (append_assoc (to_be_bytes w64 e.offset) (to_be_bytes w32 e.len ++ e.digest) x)
    ∙ ap (λ (l : List ℕ). e.short ++ (to_be_bytes w64 e.offset ++ l)) (append_assoc (to_be_bytes w32 e.len) e.digest x)

entry_same : (d e : Entry) → d.short ≡ e.short → d.offset ≡ e.offset → d.len ≡ e.len → d.digest ≡ e.digest → d ≡ e
entry_same d e s o l g =
    ap (λ (x : List ℕ). record d { short = x }) s ∙ ap (λ (x : ℕ). record d { short = e.short; offset = x }) o ∙ ap (λ (x : ℕ). record d { short = e.short; offset = e.offset; len = x }) l
    ∙ ap (λ (x : List ℕ). record d { short = e.short; offset = e.offset; len = e.len; digest = x }) g

spelled_once : (d e : Entry) (x y : List ℕ) → HasWidths d → HasWidths e → spelled d ++ x ≡ spelled e ++ y → (d ≡ e) × (x ≡ y)
spelled_once d e x y h k is =
    let whole = sym (apart d x) ∙ is ∙ apart e y in
    let one = split_same d.short e.short _ _ (h.0 ∙ sym k.0) whole in
    let two = split_same (to_be_bytes w64 d.offset) (to_be_bytes w64 e.offset) _ _ refl one.1 in
    let three = split_same (to_be_bytes w32 d.len) (to_be_bytes w32 e.len) _ _ refl two.1 in
    let four = split_same d.digest e.digest x y (h.1 ∙ sym k.1) three.1 in
    let short : d.short ≡ e.short = one.0 in
    let offset : d.offset ≡ e.offset = sym (from_be_bytes-to_be_bytes_8 d.offset h.2) ∙ ap (from_be_bytes w64) two.0 ∙ from_be_bytes-to_be_bytes_8 e.offset k.2 in
    let len : d.len ≡ e.len = sym (from_be_bytes-to_be_bytes_4 d.len h.3) ∙ ap (from_be_bytes w32) three.0 ∙ from_be_bytes-to_be_bytes_4 e.len k.3 in
    let digest : d.digest ≡ e.digest = four.0 in
    (entry_same d e short offset len digest, four.1)

-- entries of as many blocks that are spelled alike are the same
pub entries_once : (ds es : List Entry) → AllByRecursion HasWidths ds → AllByRecursion HasWidths es → length ds ≡ length es → flat_map spelled ds ≡ flat_map spelled es → ds ≡ es
entries_once [] [] h k len is = refl
entries_once [] (e ∷ es) h k len is = absurd (omega arith)
entries_once (d ∷ ds) [] h k len is = absurd (omega arith)
entries_once (d ∷ ds) (e ∷ es) h k len is =
    let one = spelled_once d e (flat_map spelled ds) (flat_map spelled es) h.0 k.0 is in
    let head : d ≡ e = one.0 in
    let rest : ds ≡ es = entries_once ds es h.1 k.1 (omega arith) one.1 in
    cc

-- so are two tails' entries and counts of rows
pub tails_once : (s : Layout) (rows found : ℕ) (ds es : List Entry) → AllByRecursion HasWidths ds → AllByRecursion HasWidths es → length ds ≡ length es → tail_spelled s rows ds ≡ tail_spelled s found es → (ds ≡ es) × (foot s rows (length ds) ≡ foot s found (length es))
tails_once s rows found ds es h k len is =
    let one = split_same (flat_map spelled ds) (flat_map spelled es) (foot s rows (length ds)) (foot s found (length es)) (flat_long ds h ∙ ap (λ (n : ℕ). 60 * n) len ∙ sym (flat_long es k)) is in
    (entries_once ds es h k len one.0, one.1)

pub within_follow : (at : ℕ) (es : List Entry) (end i : ℕ) (d : Entry) → Follow at es end → i < length es → (get_or es i d).offset + (get_or es i d).len ≤ end
within_follow at [] end i d h lt = absurd (omega arith)
within_follow at (e ∷ es) end zero d h lt = omega (arith, h.0, follow_le (at + e.len) es end h.3)
within_follow at (e ∷ es) end (suc i) d h lt = within_follow (at + e.len) es end i d h.3 (omega arith)

pub foot_is : (s : Layout) (rows found blocks : ℕ) (bytes back : List ℕ) (es : List Entry) → rows < 2 ^ 64 → length es ≡ blocks → bytes ≡ tail_spelled s rows es → AllByRecursion HasWidths es
    → back ≡ drop (60 * blocks) bytes → found ≡ from_be_bytes w64 (take 8 (drop (length s.columns.keys + length s.columns.values) back)) → back ≡ foot s found blocks
foot_is s rows found blocks bytes back es fits len is h at read =
    let behind : back ≡ foot s rows blocks = at ∙ ap (λ (l : List ℕ). drop (60 * blocks) l) is ∙ drop_at (flat_map spelled es) (foot s rows (length es)) (60 * blocks) (flat_long es h ∙ ap (λ (n : ℕ). 60 * n) len) ∙ ap (λ (n : ℕ). foot s rows n) len in
    behind ∙ ap (λ (n : ℕ). foot s n blocks) (sym (read_rows s rows blocks found back fits behind read))

pub found_is : (s : Layout) (rows blocks : ℕ) (bytes front : List ℕ) (ds es : List Entry) → AllByRecursion HasWidths ds → AllByRecursion HasWidths es → length ds ≡ blocks → length es ≡ blocks
    → bytes ≡ tail_spelled s rows es → front ≡ take (60 * blocks) bytes → flat_map spelled ds ≡ front → ds ≡ es
found_is s rows blocks bytes front ds es h k len size is at read =
    entries_once ds es h k (len ∙ sym size)
    (read ∙ at ∙ ap (λ (l : List ℕ). take (60 * blocks) l) is ∙ take_at (flat_map spelled es) (foot s rows (length es)) (60 * blocks) (flat_long es k ∙ ap (λ (n : ℕ). 60 * n) size))

pub spelled_so : (s : Layout) (rows blocks : ℕ) (bytes front back : List ℕ) (es : List Entry) → length es ≡ blocks → front ≡ take (60 * blocks) bytes → back ≡ drop (60 * blocks) bytes
    → flat_map spelled es ≡ front → back ≡ foot s rows blocks → bytes ≡ tail_spelled s rows es
spelled_so s rows blocks bytes front back es len f b at is =
    sym (take-append-drop (60 * blocks) bytes) ∙ ap (λ (l : List ℕ). l ++ drop (60 * blocks) bytes) (sym f ∙ sym at) ∙ ap (λ (l : List ℕ). flat_map spelled es ++ l) (sym b ∙ is ∙ ap (λ (n : ℕ). foot s rows n) (sym len))

pub index_of : (file : FileRef) (s columns : Layout) (bytes : List ℕ) (place rows : ℕ) (es entries : List Entry) (last : List ℕ) → last ≡ short_key file.last → columns ≡ s → entries ≡ es → length es ≡ file.blocks → 0 < file.blocks → place + length bytes ≡ file.len → file.blocks < 2 ^ 32 → file.len < 2 ^ 64 → rows < 2 ^ 64 → IsTrue (is_schema s.columns)
    → bytes ≡ tail_spelled s rows es → Follow 0 es place → NeverFall (shorts_of es) → AllByRecursion HasWidths es
    → IsIndexOf file s bytes (record { file = file.id; layout = columns; len = file.len; tail = place; rows = rows; entries = entries; last = last })
index_of file s columns bytes place rows es entries last short same found len some sum few fits counted schema spelled follow fall widths =
    subst (λ (x : Layout). IsIndexOf file s bytes (record { file = file.id; layout = x; len = file.len; tail = place; rows = rows; entries = entries; last = last })) (sym same)
    (subst (λ (x : List Entry). IsIndexOf file s bytes (record { file = file.id; layout = s; len = file.len; tail = place; rows = rows; entries = x; last = last })) (sym found)
    record {
      id = refl;
      layout = refl;
      len = refl;
      blocks = len;
      spelled = spelled;
      last = short;
      index = record {
        tail = record { some = omega arith; follow = follow; fall = fall; widths = widths };
        few = omega arith;
        counted = counted;
        schema = schema;
        fits = fits;
        whole = omega (arith, ap length spelled ∙ tail_long s rows es widths);
      };
    })
