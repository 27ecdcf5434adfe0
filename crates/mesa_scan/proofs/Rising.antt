-- What was given and is at hand has the present form, its keys rise, and none is below the key from which rows are given.
use Rattle.std.proofs.Common.{◌≡◌, ℕ, ◌+◌, List, [], ◌∷◌, ◌++◌, refl, sym, ◌∙◌, ap, subst}
use Rattle.std.proofs.lemmas.Bool.{and_from, and_parts}
use Rattle.std.specs.Prelude.{true, Option, None, map}
use Rattle.std.specs.List.{AllByRecursion}
use Rattle.std.specs.Ordering.{is_lt}
use Rattle.mesa_delta.specs.mesa_key.Order.{byte_cmp}
use Rattle.mesa_block.specs.Rows.{AreRows, Rise}
use Rattle.mesa_block.specs.Spelling.{key_of}
use Rattle.mesa_delta.specs.mesa_columns.declared.rows.Row.{Row}
use Rattle.mesa_schema.specs.Changes.{Lineage, columns_at, columns_of, epoch_of, lifted}
use Rattle.mesa_delta.specs.mesa_columns.Columns.{Columns}
use Rattle.mesa_delta.specs.mesa_fold.Folded.{rows_of}
use Rattle.mesa_delta.specs.mesa_fold.Laws.{AreUnder}
use Rattle.mesa_schema.specs.Laws.{LiftedForms}
use Rattle.mesa_schema.specs.Lineages.{IsLineage}
use Rattle.mesa_delta.specs.mesa_columns.Rows.{AreRowsOf, IsRowOf, keys_rise}
use Rattle.mesa_delta.specs.mesa_delta_format.Indexed.{Indexed}
use Rattle.mesa_delta.specs.Reading.{index_of}
use Rattle.mesa_delta.specs.declared.input.Input.{Input}
use Rattle.mesa_scan.specs.declared.cursor.Cursor.{Cursor}
use Rattle.mesa_scan.specs.Cursors.{AreBlocks, HasGivenFrom, at_hand, lift_by}
use Rattle.mesa_scan.specs.Cut.{cut, is_from, lies_in}
use Rattle.mesa_scan.proofs.Cuts.{all_filter, passing, rise_filter, under_rising}
use Rattle.mesa_scan.proofs.Lifted.{all_forms}

-- ---- blocks' rows

pub rising : (rows : List Row) → Rise (map key_of rows) → keys_rise rows ≡ true
rising [] r = refl
rising (row ∷ []) r = refl
rising (row ∷ next ∷ rows) r = and_from (is_lt (byte_cmp row.key next.key)) (keys_rise (next ∷ rows)) (ap is_lt r.0) (rising (next ∷ rows) r.1)

blocks_rows : (x : Indexed) (at : ℕ) (parts : List (List Row)) → AreBlocks x at parts → AllByRecursion (AreRows x.layout) parts
blocks_rows x at [] all = tt
blocks_rows x at (part ∷ parts) all = (all.0.rows, blocks_rows x (at + 1) parts all.1)

pub blocks_forms : (x : Indexed) (at : ℕ) (parts : List (List Row)) → AreBlocks x at parts → AreRowsOf x.layout.columns (rows_of parts)
blocks_forms x at parts all = all_forms x.layout parts (blocks_rows x at parts all)

-- ---- lifted rows

lifted_forms : LiftedForms → (l : Lineage) (epoch : ℕ) (rows : List Row) → IsLineage l → AreRowsOf (columns_at l epoch) rows → AreRowsOf (columns_of l) (map (lifted l epoch (epoch_of l)) rows)
lifted_forms law l epoch [] lineage all = tt
lifted_forms law l epoch (row ∷ rows) lineage all = (law l epoch row lineage all.0, lifted_forms law l epoch rows lineage all.1)

-- ---- what a cursor has given

pub epoch_forms : {R : Type 0} (bytes : R → Option (List ℕ)) (low : Option (List ℕ)) (i : Input R) (c : Cursor) (given : List Row) (h : HasGivenFrom bytes low i c given) → AreRowsOf (columns_at i.evolving.value i.epoch) (rows_of h.parts)
epoch_forms bytes low i c given h = subst (λ (s : Columns). AreRowsOf s (rows_of h.parts)) h.input.columns (blocks_forms (index_of i.reader) h.start h.parts h.blocks)

pub given_forms : LiftedForms → {R : Type 0} (bytes : R → Option (List ℕ)) (low : Option (List ℕ)) (i : Input R) (c : Cursor) (given : List Row) → HasGivenFrom bytes low i c given → AreRowsOf (columns_of i.evolving.value) (given ++ at_hand c)
given_forms law bytes low i c given h =
    subst (AreRowsOf (columns_of i.evolving.value)) (sym h.rows)
    (all_filter (IsRowOf (columns_of i.evolving.value)) (λ (row : Row). lies_in low None row.key) (map (lift_by i) (rows_of h.parts)) (lifted_forms law i.evolving.value i.epoch (rows_of h.parts) h.lineage (epoch_forms bytes low i c given h)))

pub given_rises : {R : Type 0} (bytes : R → Option (List ℕ)) (low : Option (List ℕ)) (i : Input R) (c : Cursor) (given : List Row) → HasGivenFrom bytes low i c given → keys_rise (given ++ at_hand c) ≡ true
given_rises bytes low i c given h = ap keys_rise h.rows ∙ rise_filter (λ (row : Row). lies_in low None row.key) (map (lift_by i) (rows_of h.parts)) h.rise

pub given_above : {R : Type 0} (bytes : R → Option (List ℕ)) (low : Option (List ℕ)) (i : Input R) (c : Cursor) (given : List Row) (row : Row) (rows : List Row) → HasGivenFrom bytes low i c given → at_hand c ≡ row ∷ rows → AreUnder row.key given
given_above bytes low i c given row rows h hand =
    under_rising row given rows (subst (λ rs. keys_rise (given ++ rs) ≡ true) hand (given_rises bytes low i c given h))

holds_behind : (P : Row → Type 0) (front : List Row) (row : Row) (rows : List Row) → AllByRecursion P (front ++ row ∷ rows) → P row
holds_behind P [] row rows all = all.0
holds_behind P (x ∷ front) row rows all = holds_behind P front row rows all.1

pub from_low : {R : Type 0} (bytes : R → Option (List ℕ)) (low : Option (List ℕ)) (i : Input R) (c : Cursor) (given : List Row) (row : Row) (rows : List Row) → HasGivenFrom bytes low i c given → at_hand c ≡ row ∷ rows → is_from low row.key ≡ true
from_low bytes low i c given row rows h hand =
    let P : Row → Type 0 = λ (r : Row). lies_in low None r.key ≡ true in
    let whole : cut low None (map (lift_by i) (rows_of h.parts)) ≡ given ++ row ∷ rows = sym h.rows ∙ ap (λ rs. given ++ rs) hand in
    let all : AllByRecursion P (given ++ row ∷ rows) = subst (AllByRecursion P) whole (passing (λ (r : Row). lies_in low None r.key) (map (lift_by i) (rows_of h.parts))) in
    (and_parts (is_from low row.key) true (holds_behind P given row rows all)).0
