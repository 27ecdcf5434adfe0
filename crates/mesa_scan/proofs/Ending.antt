-- All of an input's rows, and all between two keys.
use Rattle.std.proofs.Common.{◌≡◌, ℕ, ◌≤◌, List, [], ◌∷◌, ◌++◌, refl, sym, ◌∙◌, ap, subst, length, take, drop, arith, append_assoc}
use Rattle.std.proofs.lemmas.List.{append-nil, drop_all, length-drop, map-append, take-append-drop, take_all}
use Rattle.std.specs.Prelude.{true, Option, None, Some, map}
use Rattle.std.specs.Ordering.{is_le}
use Rattle.mesa_delta.specs.mesa_key.Order.{byte_cmp}
use Rattle.mesa_delta.specs.mesa_columns.declared.rows.Row.{Row}
use Rattle.mesa_schema.specs.Changes.{columns_at}
use Rattle.mesa_delta.specs.mesa_columns.Columns.{Columns}
use Rattle.mesa_delta.specs.mesa_fold.Folded.{rows_of}
use Rattle.mesa_delta.specs.mesa_fold.Laws.{AreUnder}
use Rattle.mesa_schema.specs.Laws.{LiftedRise}
use Rattle.mesa_delta.specs.mesa_columns.Rows.{AreRowsOf, keys_rise}
use Rattle.mesa_filter.proofs.mesa_fold.Folds.{rows_of-append}
use Rattle.mesa_block.specs.Layout.{Layout}
use Rattle.mesa_delta.specs.Reading.{IsIndexed, index_of}
use Rattle.mesa_delta.specs.mesa_delta_format.Spread.{blocks_of}
use Rattle.mesa_delta.specs.declared.input.Input.{Input}
use Rattle.mesa_delta.proofs.mesa_delta_format.Packing.{blocks_rows}
use Rattle.mesa_scan.specs.declared.cursor.Cursor.{Cursor}
use Rattle.mesa_scan.specs.Cursors.{HasGiven, HasGivenFrom, IsAllOf, IsReady, at_hand, lift_by, reader_in}
use Rattle.mesa_scan.specs.Cut.{cut, lies_in}
use Rattle.mesa_scan.proofs.Cuts.{cut_append, cut_twice, none_left, rise_behind, rise_filter, under_stay}
use Rattle.mesa_scan.proofs.Cutting.{cut_none}
use Rattle.mesa_scan.proofs.Lifted.{row_forms}
use Rattle.mesa_scan.proofs.Rising.{rising}

-- ---- the whole input

pub all_given : {R : Type 0} (bytes : R → Option (List ℕ)) (i : Input R) (c : Cursor) (given : List Row) → HasGiven bytes i c given → IsReady i c → at_hand c ≡ [] → IsAllOf bytes i given
all_given bytes i c given h ready none =
    let s : Layout = (index_of i.reader).layout in
    let start : h.start ≡ 0 = h.none refl in
    let count : length h.parts ≡ length (index_of i.reader).entries = omega (arith, h.within, h.next, start, ready none) in
    record {
      rows = rows_of h.parts;
      lifts = sym (append-nil given) ∙ ap (λ rows. given ++ rows) (sym none) ∙ h.rows ∙ cut_none (map (lift_by i) (rows_of h.parts));
      whole = h.whole start count;
      told = λ b all told indexed.
          let blocks : List (List Row) = blocks_of s all in
          let few : length blocks ≤ length h.parts = omega (arith, indexed.blocks, count) in
          ap rows_of (h.again b all told indexed ∙ ap (λ n. take (length h.parts) (drop n blocks)) start ∙ take_all (length h.parts) blocks few) ∙ blocks_rows s all;
    }

-- ---- from a key on

-- the rows of a file from a key on: what was given, what is at hand, and those of the blocks behind
pub all_from : {R : Type 0} (bytes : R → Option (List ℕ)) (low : Option (List ℕ)) (i : Input R) (c : Cursor) (given : List Row) (h : HasGivenFrom bytes low i c given) (b : List ℕ) (all : List Row)
    → bytes (reader_in i) ≡ Some b → IsIndexed (index_of i.reader) all b
    → cut low None (map (lift_by i) all) ≡ (given ++ at_hand c) ++ cut low None (map (lift_by i) (rows_of (drop (length h.parts) (drop h.start (blocks_of (index_of i.reader).layout all)))))
all_from bytes low i c given h b all told indexed =
    let s : Layout = (index_of i.reader).layout in
    let f : Row → Row = lift_by i in
    let blocks : List (List Row) = blocks_of s all in
    let n : ℕ = length h.parts in
    let back : List (List Row) = drop h.start blocks in
    let whole : all ≡ rows_of (take h.start blocks) ++ rows_of back = sym (blocks_rows s all) ∙ ap rows_of (sym (take-append-drop h.start blocks)) ∙ rows_of-append (take h.start blocks) back in
    let both : rows_of back ≡ rows_of h.parts ++ rows_of (drop n back) =
    ap rows_of (sym (take-append-drop n back)) ∙ rows_of-append (take n back) (drop n back) ∙ ap (λ parts. rows_of parts ++ rows_of (drop n back)) (sym (h.again b all told indexed)) in
    ap (λ rows. cut low None (map f rows)) whole
    ∙ ap (cut low None) (map-append f (rows_of (take h.start blocks)) (rows_of back)) ∙ cut_append low None (map f (rows_of (take h.start blocks))) (map f (rows_of back))
    ∙ ap (λ rows. rows ++ cut low None (map f (rows_of back))) (h.before b all told indexed)
    ∙ ap (λ rows. cut low None (map f rows)) both
    ∙ ap (cut low None) (map-append f (rows_of h.parts) (rows_of (drop n back))) ∙ cut_append low None (map f (rows_of h.parts)) (map f (rows_of (drop n back)))
    ∙ ap (λ rows. rows ++ cut low None (map f (rows_of (drop n back)))) (sym h.rows)

pub all_given_from : {R : Type 0} (bytes : R → Option (List ℕ)) (low : Option (List ℕ)) (i : Input R) (c : Cursor) (given : List Row) → HasGivenFrom bytes low i c given → IsReady i c → at_hand c ≡ []
    → (b : List ℕ) (all : List Row) → bytes (reader_in i) ≡ Some b → IsIndexed (index_of i.reader) all b → given ≡ cut low None (map (lift_by i) all)
all_given_from bytes low i c given h ready none b all told indexed =
    let blocks : List (List Row) = blocks_of (index_of i.reader).layout all in
    let few : length (drop h.start blocks) ≤ length h.parts = omega (arith, length-drop h.start blocks, indexed.blocks, h.next, ready none) in
    sym (all_from bytes low i c given h b all told indexed
    ∙ ap (λ parts. (given ++ at_hand c) ++ cut low None (map (lift_by i) (rows_of parts))) (drop_all (length h.parts) (drop h.start blocks) few)
    ∙ append-nil (given ++ at_hand c) ∙ ap (λ rows. given ++ rows) none ∙ append-nil given)

-- ---- between two keys

pub all_between : LiftedRise → {R : Type 0} (bytes : R → Option (List ℕ)) (low : Option (List ℕ)) (high : List ℕ) (i : Input R) (c : Cursor) (given : List Row) (row : Row) (rows : List Row) → HasGivenFrom bytes low i c given → at_hand c ≡ row ∷ rows
    → is_le (byte_cmp high row.key) ≡ true → AreUnder high given
    → (b : List ℕ) (all : List Row) → bytes (reader_in i) ≡ Some b → IsIndexed (index_of i.reader) all b → given ≡ cut low (Some high) (map (lift_by i) all)
all_between law bytes low high i c given row rows h hand le under b all told indexed =
    let f : Row → Row = lift_by i in
    let rest : List Row = cut low None (map f (rows_of (drop (length h.parts) (drop h.start (blocks_of (index_of i.reader).layout all))))) in
    let form : AreRowsOf (columns_at i.evolving.value i.epoch) all = subst (λ (s : Columns). AreRowsOf s all) h.input.columns (row_forms (index_of i.reader).layout all indexed.file.good) in
    let up : keys_rise (map f all) ≡ true = law i.evolving.value i.epoch all h.lineage form ∙ rising all indexed.file.rise in
    let whole : cut low None (map f all) ≡ given ++ (row ∷ (rows ++ rest)) =
    all_from bytes low i c given h b all told indexed ∙ append_assoc given (at_hand c) rest ∙ ap (λ hand. given ++ (hand ++ rest)) hand in
    let rise : keys_rise (row ∷ (rows ++ rest)) ≡ true = rise_behind given (row ∷ (rows ++ rest)) (ap keys_rise (sym whole) ∙ rise_filter (λ (r : Row). lies_in low None r.key) (map f all) up) in
    sym (cut_twice low high (map f all)
    ∙ ap (cut None (Some high)) whole ∙ cut_append None (Some high) given (row ∷ (rows ++ rest))
    ∙ ap (λ more. cut None (Some high) given ++ more) (none_left high row (rows ++ rest) le rise)
    ∙ append-nil (cut None (Some high) given) ∙ under_stay high given under)
