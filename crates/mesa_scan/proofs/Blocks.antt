-- The rows of a block, lifted.
use Rattle.std.proofs.Common.{◌≡◌, ℕ, zero, suc, ◌+◌, ◌<◌, List, [], ◌∷◌, ◌++◌, length, get_or, take, Bool, true, false, cond, refl, sym, ◌∙◌, ap, subst, arith, add-one}
use Rattle.std.specs.Prelude.{filter, map, IsTrue}
use Rattle.std.specs.List.{AllByRecursion}
use Rattle.std.proofs.lemmas.List.{map-append}
use Rattle.std.proofs.lemmas.List.Elements.{filter-append}
use Rattle.mesa_delta.specs.mesa_key.declared.KeyType.{KeyType}
use Rattle.mesa_delta.specs.mesa_key.declared.KeyValue.{KeyValue}
use Rattle.mesa_delta.specs.mesa_key.Spelling.{IsKey, is_spelling, key_of, key_spelling}
use Rattle.mesa_delta.specs.mesa_columns.declared.rows.Row.{Row}
use Rattle.mesa_delta.specs.mesa_columns.declared.lifting.Lift.{Lift}
use Rattle.mesa_schema.specs.Changes.{Lineage, columns_at, columns_of, epoch_of, lifted}
use Rattle.mesa_delta.specs.mesa_columns.Columns.{kinds_of}
use Rattle.mesa_delta.specs.mesa_fold.Folded.{rows_of}
use Rattle.mesa_schema.specs.Laws.{LiftedForms}
use Rattle.mesa_delta.specs.mesa_columns.Lifting.{lifted_with}
use Rattle.mesa_schema.specs.Lifting.{Lifts}
use Rattle.mesa_schema.specs.Lineages.{IsLineage}
use Rattle.mesa_delta.specs.mesa_columns.Rows.{AreRowsOf}
use Rattle.mesa_filter.specs.Filter.{KeyFilter, filtered, meets}
use Rattle.mesa_delta.specs.Reading.{index_of}
use Rattle.mesa_delta.specs.mesa_delta_format.Spread.{blocks_of}
use Rattle.mesa_delta.specs.declared.input.Input.{Input}
use Rattle.mesa_scan.specs.Cursors.{lift_by}
use Rattle.mesa_scan.proofs.Lifted.{rows_push}
use Rattle.mesa_scan.specs.Scanning.{matching}

-- a key passes for a spelling
abbrev pub Passes : Type 0
Passes = (types : List KeyType) (key : List KeyValue) → IsKey types key → IsTrue (is_spelling types (key_spelling key))

-- rows of an epoch have the present form once they are lifted
pub lifted_forms : LiftedForms → (l : Lineage) (epoch : ℕ) (rows : List Row) → IsLineage l → AreRowsOf (columns_at l epoch) rows → AreRowsOf (columns_of l) (map (lifted l epoch (epoch_of l)) rows)
lifted_forms law l epoch [] lineage all = tt
lifted_forms law l epoch (row ∷ rows) lineage all = (law l epoch row lineage all.0, lifted_forms law l epoch rows lineage all.1)

-- and their keys spell the present columns
pub lifted_spell : Passes → LiftedForms → (lift : Lift) (l : Lineage) (epoch : ℕ) (rows : List Row) → IsLineage l → Lifts lift l epoch → AreRowsOf (columns_at l epoch) rows
    → AllByRecursion (λ (row : Row). IsTrue (is_spelling (kinds_of (columns_of l)) (lifted_with lift row).key)) rows
lifted_spell passes law lift l epoch [] lineage lifts all = tt
lifted_spell passes law lift l epoch (row ∷ rows) lineage lifts all =
    let kinds : List KeyType = kinds_of (columns_of l) in
    let now : Row = lifted l epoch (epoch_of l) row in
    let form = law l epoch row lineage all.0 in
    let here : IsTrue (is_spelling kinds now.key) = subst (λ key. IsTrue (is_spelling kinds key)) form.spelled (passes kinds (key_of kinds now.key) form.key) in
    (subst (λ (r : Row). IsTrue (is_spelling kinds r.key)) (sym (lifts row all.0.values)) here, lifted_spell passes law lift l epoch rows lineage lifts all.1)

-- rows that pass a test have what all have
pub all_passing : (P : Row → Type 0) (test : Row → Bool) (rows : List Row) → AllByRecursion P rows → AllByRecursion P (filter test rows)
all_passing P test [] all = tt
all_passing P test (row ∷ rows) all =
    elim (test row) as (λ t. AllByRecursion P (cond t (row ∷ filter test rows) (filter test rows))) [
      | true ↦ (all.0, all_passing P test rows all.1)
      | false ↦ all_passing P test rows all.1
    ]

pub all_joined : (P : Row → Type 0) (xs ys : List Row) → AllByRecursion P xs → AllByRecursion P ys → AllByRecursion P (xs ++ ys)
all_joined P [] ys p q = q
all_joined P (x ∷ xs) ys p q = (p.0, all_joined P xs ys p.1 q)

take_more : {X : Type 0} (d : X) (xs : List X) (n : ℕ) → n < length xs → take (suc n) xs ≡ take n xs ++ get_or xs n d ∷ []
take_more d [] n lt = absurd (omega arith)
take_more d (x ∷ xs) zero lt = refl
take_more d (x ∷ xs) (suc n) lt = ap (λ ys. x ∷ ys) (take_more d xs n (omega arith))

-- the matching rows of one block more
pub matching_more : {R : Type 0} (i : Input R) (f : KeyFilter) (all : List Row) (n : ℕ) → n < length (blocks_of (index_of i.reader).layout all)
    → matching i f all (n + 1) ≡ matching i f all n ++ filtered (columns_of i.evolving.value) f.terms (map (lift_by i) (get_or (blocks_of (index_of i.reader).layout all) n []))
matching_more i f all n lt =
    let blocks : List (List Row) = blocks_of (index_of i.reader).layout all in
    let test : Row → Bool = λ (row : Row). meets (key_of (kinds_of (columns_of i.evolving.value)) row.key) f.terms in
    let lift : Row → Row = lift_by i in
    let block : List Row = get_or blocks n [] in
    ap (matching i f all) (add-one n)
    ∙ ap (λ (parts : List (List Row)). filter test (map lift (rows_of parts))) (take_more [] blocks n lt)
    ∙ ap (λ (rows : List Row). filter test (map lift rows)) (rows_push (take n blocks) block)
    ∙ ap (filter test) (map-append lift (rows_of (take n blocks)) block)
    ∙ filter-append test (map lift (rows_of (take n blocks))) (map lift block)
