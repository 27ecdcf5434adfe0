-- Lifting rows of an epoch to the present, and through one change more.
use Rattle.std.proofs.Common.{◌≡◌, ℕ, ◌+◌, ◌-◌, ◌≤◌, List, [], ◌∷◌, ◌++◌, map, length, take, drop, refl, sym, ◌∙◌, ap, subst, arith, append_assoc}
use Rattle.std.specs.List.{AllByRecursion}
use Rattle.std.proofs.lemmas.List.{append-nil, drop-append-le, drop_all, length-append, length-map, map-append, map-id, take-append-drop, take-append-le, take_all, length-drop}
use Rattle.std.proofs.lemmas.Simd.{map-map}
use Rattle.mesa_fold.specs.mesa_key.declared.KeyType.{KeyType}
use Rattle.mesa_fold.specs.mesa_key.declared.KeyValue.{KeyValue}
use Rattle.mesa_fold.specs.mesa_key.Spelling.{column_length, column_value, key_of, key_spelling, value_spelling}
use Rattle.mesa_fold.proofs.mesa_key.Keys.{key_again}
use Rattle.mesa_columns.specs.declared.columns.KeyColumn.{KeyColumn}
use Rattle.mesa_columns.specs.declared.rows.Row.{Row}
use Rattle.mesa_columns.specs.declared.changes.Change.{Change}
use Rattle.mesa_columns.specs.declared.changes.Change.TheVariants.{AddKey, AddValue, DropValue}
use Rattle.mesa_columns.specs.Columns.{Columns, aggs_of, kinds_of}
use Rattle.mesa_columns.specs.Changes.{changed, columns_after, lifted_by, lifted_once}
use Rattle.mesa_schema.specs.Changes.{Lineage, columns_at, columns_of, epoch_of, lifted, with_change}
use Rattle.mesa_fold.specs.Folded.{folded, rows_of}
use Rattle.mesa_schema.specs.Lineages.{HasDefault, IsLineage}
use Rattle.mesa_columns.specs.Rows.{AreRowsOf, IsRowOf, keys_rise}
use Rattle.mesa_schema.proofs.Forms.{lifted_form, lifts_folded}
use Rattle.mesa_columns.proofs.Lists.{all_drop, map_is}
use Rattle.mesa_schema.proofs.RisingRows.{lifted_rise}

-- columns after changes and then more
pub columns_after-append : (s : Columns) (changes more : List Change) → columns_after s (changes ++ more) ≡ columns_after (columns_after s changes) more
columns_after-append s [] more = refl
columns_after-append s (change ∷ changes) more = columns_after-append (changed s change) changes more

pub lifted_by-append : (s : Columns) (changes more : List Change) (row : Row) → lifted_by s (changes ++ more) row ≡ lifted_by (columns_after s changes) more (lifted_by s changes row)
lifted_by-append s [] more row = refl
lifted_by-append s (change ∷ changes) more row = lifted_by-append (changed s change) changes more (lifted_once s change row)

-- The columns after one change more.
pub columns_more : (l : Lineage) (c : Change) → columns_of (with_change l c) ≡ changed (columns_of l) c
columns_more l c = columns_after-append l.first l.changes (c ∷ [])

-- The number of changes after one more.
pub epoch_more : (l : Lineage) (c : Change) → epoch_of (with_change l c) ≡ epoch_of l + 1
epoch_more l c = omega (arith, length-append l.changes (c ∷ []))

-- a row of an epoch at present goes through all changes since
pub lifted_all : (l : Lineage) (epoch : ℕ) (row : Row) → lifted l epoch (epoch_of l) row ≡ lifted_by (columns_at l epoch) (drop (epoch - l.begins) l.changes) row
lifted_all l epoch row = ap (λ changes. lifted_by (columns_at l epoch) changes row) (take_all (epoch_of l - l.begins - (epoch - l.begins)) (drop (epoch - l.begins) l.changes) (omega (arith, length-drop (epoch - l.begins) l.changes)))

-- and these make the columns of the epoch the present ones
pub present_since : (l : Lineage) (epoch : ℕ) → columns_after (columns_at l epoch) (drop (epoch - l.begins) l.changes) ≡ columns_of l
present_since l epoch = sym (columns_after-append l.first (take (epoch - l.begins) l.changes) (drop (epoch - l.begins) l.changes)) ∙ ap (columns_after l.first) (take-append-drop (epoch - l.begins) l.changes)

-- A row of the present epoch stays as it is.
pub lifted_now : (l : Lineage) (row : Row) → lifted l (epoch_of l) (epoch_of l) row ≡ row
lifted_now l row = lifted_all l (epoch_of l) row ∙ ap (λ changes. lifted_by (columns_at l (epoch_of l)) changes row) (drop_all (epoch_of l - l.begins) l.changes (omega arith))

-- After one change more a row goes through that change too.
pub lifted_more : (l : Lineage) (c : Change) (epoch : ℕ) (row : Row) → epoch ≤ epoch_of l
    → lifted (with_change l c) epoch (epoch_of (with_change l c)) row ≡ lifted_once (columns_of l) c (lifted l epoch (epoch_of l) row)
lifted_more l c epoch row le =
    lifted_all (with_change l c) epoch row
    ∙ (λ i. lifted_by (columns_after l.first (take-append-le (epoch - l.begins) l.changes (c ∷ []) (omega (arith, le)) i)) (drop-append-le (epoch - l.begins) l.changes (c ∷ []) (omega (arith, le)) i) row)
    ∙ lifted_by-append (columns_at l epoch) (drop (epoch - l.begins) l.changes) (c ∷ []) row
    ∙ ap (λ s. lifted_once s c (lifted_by (columns_at l epoch) (drop (epoch - l.begins) l.changes) row)) (present_since l epoch)
    ∙ ap (lifted_once (columns_of l) c) (sym (lifted_all l epoch row))

-- Rows keep their form through a change.
pub forms_more : (s : Columns) (c : Change) (rows : List Row) → HasDefault c → AreRowsOf s rows → AreRowsOf (changed s c) (map (lifted_once s c) rows)
forms_more s c [] default all = tt
forms_more s c (row ∷ rows) default all = (lifted_form s (c ∷ []) row (default, tt) all.0, forms_more s c rows default all.1)

-- ---- rows of an epoch at present

-- A lifted row has the form of the present columns.
pub present_form : (l : Lineage) (epoch : ℕ) (row : Row) → IsLineage l → IsRowOf (columns_at l epoch) row → IsRowOf (columns_of l) (lifted l epoch (epoch_of l) row)
present_form l epoch row is form =
    subst (IsRowOf (columns_of l)) (sym (lifted_all l epoch row)) (
    subst (λ s. IsRowOf s (lifted_by (columns_at l epoch) (drop (epoch - l.begins) l.changes) row)) (present_since l epoch) (
    lifted_form (columns_at l epoch) (drop (epoch - l.begins) l.changes) row (all_drop HasDefault (epoch - l.begins) l.changes is.defaults) form))

parts_is : (f g : Row → Row) (parts : List (List Row)) → ((row : Row) → f row ≡ g row) → map (map f) parts ≡ map (map g) parts
parts_is f g [] same = refl
parts_is f g (part ∷ parts) same = λ i. map_is f g part same i ∷ parts_is f g parts same i

-- Rows of an epoch may be lifted to the present before folding or after it.
pub present_folds : (l : Lineage) (epoch : ℕ) (parts : List (List Row)) → IsLineage l → AreRowsOf (columns_at l epoch) (rows_of parts)
    → map (lifted l epoch (epoch_of l)) (folded (aggs_of (columns_at l epoch)) parts) ≡ folded (aggs_of (columns_of l)) (map (map (lifted l epoch (epoch_of l))) parts)
present_folds l epoch parts is all =
    let s : Columns = columns_at l epoch in
    let since : List Change = drop (epoch - l.begins) l.changes in
    map_is (lifted l epoch (epoch_of l)) (lifted_by s since) (folded (aggs_of s) parts) (lifted_all l epoch)
    ∙ lifts_folded s since parts (all_drop HasDefault (epoch - l.begins) l.changes is.defaults) all
    ∙ ap (λ columns. folded (aggs_of columns) (map (map (lifted_by s since)) parts)) (present_since l epoch)
    ∙ ap (folded (aggs_of (columns_of l))) (sym (parts_is (lifted l epoch (epoch_of l)) (lifted_by s since) parts (lifted_all l epoch)))

-- ---- keys

-- the front of a longer key is the key of the front of its types
key_of-take : (types more : List KeyType) (bytes : List ℕ) → take (length types) (key_of (types ++ more) bytes) ≡ key_of types bytes
key_of-take [] more bytes = refl
key_of-take (type ∷ types) more bytes = ap (λ key. column_value type (take (column_length type bytes) bytes) ∷ key) (key_of-take types more (drop (column_length type bytes) bytes))

-- Changes only add types behind those of the keys, and bytes behind those of a key.
record Longer (types : List KeyType) (key : List ℕ) (now : List KeyType) (bytes : List ℕ) : Type 0 where
  more_types : List KeyType
  more_bytes : List ℕ
  types_are : now ≡ types ++ more_types
  bytes_are : bytes ≡ key ++ more_bytes

longer_once : (types : List KeyType) (key : List ℕ) (s : Columns) (c : Change) (row : Row) → Longer types key (kinds_of s) row.key → Longer types key (kinds_of (changed s c)) (lifted_once s c row).key
longer_once types key s (AddValue column default) row is = is
longer_once types key s (DropValue name) row is = is
longer_once types key s (AddKey column default) row is = record {
  more_types = is.more_types ++ column.kind ∷ [];
  more_bytes = is.more_bytes ++ value_spelling default;
  types_are = map-append (λ (c : KeyColumn). c.kind) s.keys (column ∷ []) ∙ ap (λ ts. ts ++ column.kind ∷ []) is.types_are ∙ append_assoc types is.more_types (column.kind ∷ []);
  bytes_are = ap (λ bytes. bytes ++ value_spelling default) is.bytes_are ∙ append_assoc key is.more_bytes (value_spelling default);
}

longer_by : (types : List KeyType) (key : List ℕ) (s : Columns) (changes : List Change) (row : Row) → Longer types key (kinds_of s) row.key → Longer types key (kinds_of (columns_after s changes)) (lifted_by s changes row).key
longer_by types key s [] row is = is
longer_by types key s (c ∷ changes) row is = longer_by types key (changed s c) changes (lifted_once s c row) (longer_once types key s c row is)

front : (l : Lineage) (epoch : ℕ) (row : Row) → IsRowOf (columns_at l epoch) row
    → take (length (columns_at l epoch).keys) (key_of (kinds_of (columns_of l)) (lifted l epoch (epoch_of l) row).key) ≡ key_of (kinds_of (columns_at l epoch)) row.key
front l epoch row form =
    let s : Columns = columns_at l epoch in
    let types : List KeyType = kinds_of s in
    let key : List KeyValue = key_of types row.key in
    let now : Row = lifted_by s (drop (epoch - l.begins) l.changes) row in
    let long : Longer types row.key (kinds_of (columns_of l)) now.key = subst (λ columns. Longer types row.key (kinds_of columns) now.key) (present_since l epoch)
    (longer_by types row.key s (drop (epoch - l.begins) l.changes) row (record { more_types = []; more_bytes = []; types_are = sym (append-nil types); bytes_are = sym (append-nil row.key) })) in
    (λ i. take (sym (length-map s.keys (λ (c : KeyColumn). c.kind)) i) (key_of (long.types_are i) (lifted_all l epoch row i).key))
    ∙ key_of-take types long.more_types now.key
    ∙ ap (key_of types) (long.bytes_are ∙ ap (λ bytes. bytes ++ long.more_bytes) (sym form.spelled))
    ∙ key_again types key long.more_bytes form.key

-- The columns of a lifted key that were there are those of the row's key.
pub present_key : (l : Lineage) (epoch : ℕ) (row : Row) → IsRowOf (columns_at l epoch) row
    → key_spelling (take (length (columns_at l epoch).keys) (key_of (kinds_of (columns_of l)) (lifted l epoch (epoch_of l) row).key)) ≡ row.key
present_key l epoch row form = ap key_spelling (front l epoch row form) ∙ form.spelled

-- The key begins with the row's.
pub present_longer : (l : Lineage) (epoch : ℕ) (row : Row) → (more : List ℕ) × ((lifted l epoch (epoch_of l) row).key ≡ row.key ++ more)
present_longer l epoch row =
    let s : Columns = columns_at l epoch in
    let long = longer_by [] row.key s (drop (epoch - l.begins) l.changes) row (record { more_types = kinds_of s; more_bytes = []; types_are = refl; bytes_are = sym (append-nil row.key) }) in
    (long.more_bytes, ap (λ (r : Row). r.key) (lifted_all l epoch row) ∙ long.bytes_are)

-- ---- order

lifted_rises : (s : Columns) (changes : List Change) (rows : List Row) → AllByRecursion HasDefault changes → AreRowsOf s rows → keys_rise (map (lifted_by s changes) rows) ≡ keys_rise rows
lifted_rises s [] rows f all = ap keys_rise (map-id rows)
lifted_rises s (c ∷ changes) rows f all =
    ap keys_rise (sym (map-map (lifted_by (changed s c) changes) (lifted_once s c) rows))
    ∙ lifted_rises (changed s c) changes (map (lifted_once s c) rows) f.1 (forms_more s c rows f.0 all)
    ∙ lifted_rise s c rows all

-- Lifting leaves the order of rows.
pub present_rise : (l : Lineage) (epoch : ℕ) (rows : List Row) → IsLineage l → AreRowsOf (columns_at l epoch) rows → keys_rise (map (lifted l epoch (epoch_of l)) rows) ≡ keys_rise rows
present_rise l epoch rows is all =
    ap keys_rise (map_is (lifted l epoch (epoch_of l)) (lifted_by (columns_at l epoch) (drop (epoch - l.begins) l.changes)) rows (lifted_all l epoch))
    ∙ lifted_rises (columns_at l epoch) (drop (epoch - l.begins) l.changes) rows (all_drop HasDefault (epoch - l.begins) l.changes is.defaults) all
