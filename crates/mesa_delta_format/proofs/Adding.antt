-- Aggregates and keys of one row more.
use Rattle.std.proofs.Common.{◌≡◌, ℕ, ◌+◌, ◌<◌, ◌≤◌, min, ℤ, pos, List, [], ◌∷◌, ◌++◌, length, map, get_or, drop, take, refl, sym, ap, ◌∙◌, arith, append_assoc}
use Rattle.std.proofs.lemmas.List.{drop_more, map-append, take_more_set, drop-set-lt, length-set, take-append-drop, length-map, length-drop, length-append}
use Rattle.std.proofs.Math.ListN.{set}
use Rattle.mesa_block.specs.mesa_value.declared.Agg.{Agg}
use Rattle.mesa_block.specs.mesa_value.declared.Agg.TheVariants.{Sum, Min, Max, Replace}
use Rattle.mesa_block.specs.mesa_value.Agg.{Combines, combined}
use Rattle.mesa_columns.specs.declared.rows.Row.{Row}
use Rattle.mesa_columns.specs.declared.columns.ValueColumn.{ValueColumn}
use Rattle.mesa_columns.specs.declared.columns.KeyColumn.{KeyColumn}
use Rattle.mesa_block.specs.mesa_key.declared.KeyType.{KeyType}
use Rattle.mesa_columns.specs.Columns.{Columns, aggs_of}
use Rattle.mesa_fold.specs.Folded.{all_combined, row_combined, combined_from}
use Rattle.mesa_delta_format.specs.Summary.{noted, all_noted, last_key, aggregates, values_of, AllCombine}
use Rattle.mesa_delta_format.specs.Totals.{added}
use Rattle.mesa_delta_format.specs.Tallies.{Tallies}
use Rattle.mesa_delta_format.specs.declared.tally.Tally.{Tally}

abbrev pub agg_of : ValueColumn → Agg
agg_of c = c.agg

pub last_key-push : (rows : List Row) (row : Row) → last_key (rows ++ row ∷ []) ≡ row.key
last_key-push [] row = refl
last_key-push (a ∷ []) row = refl
last_key-push (a ∷ b ∷ rows) row = last_key-push (b ∷ rows) row

noted_twice : (agg : Agg) (a b : ℤ) → noted agg (combined agg (noted agg a) b) ≡ noted agg (combined agg a b)
noted_twice Sum a b = refl
noted_twice Min a b = refl
noted_twice Max a b = refl
noted_twice Replace a b = refl

added_noted : (aggs : List Agg) (totals values : List ℤ) → length values ≡ length aggs → added aggs (all_noted aggs totals) values ≡ all_noted aggs (row_combined aggs totals values)
added_noted [] totals values len = refl
added_noted (agg ∷ aggs) [] values len = refl
added_noted (agg ∷ aggs) (a ∷ totals) [] len = absurd (omega arith)
added_noted (agg ∷ aggs) (a ∷ totals) (b ∷ values) len = rw (noted_twice agg a b, added_noted aggs totals values (omega arith)) refl

combined_more : (aggs : List Agg) (first : List ℤ) (rest : List (List ℤ)) (more : List ℤ) → combined_from aggs first (rest ++ more ∷ []) ≡ row_combined aggs (combined_from aggs first rest) more
combined_more aggs first [] more = refl
combined_more aggs first (x ∷ rest) more = combined_more aggs (row_combined aggs first x) rest more

pub aggregates_more : (aggs : List Agg) (first : Row) (rows : List Row) (row : Row) → length row.values ≡ length aggs → aggregates aggs ((first ∷ rows) ++ row ∷ []) ≡ added aggs (aggregates aggs (first ∷ rows)) row.values
aggregates_more aggs first rows row len =
    ap (λ (vs : List (List ℤ)). all_noted aggs (combined_from aggs first.values vs)) (map-append values_of rows (row ∷ []))
    ∙ ap (all_noted aggs) (combined_more aggs first.values (map values_of rows) row.values)
    ∙ sym (added_noted aggs (combined_from aggs first.values (map values_of rows)) row.values len)

ended : (aggs : List Agg) (totals values : List ℤ) → min (length aggs) (length totals) ≡ 0 → added aggs totals values ≡ totals
ended [] totals values end = refl
ended (agg ∷ aggs) [] values end = refl
ended (agg ∷ aggs) (a ∷ totals) values end = absurd (omega arith)

-- the loop's step: the i-th aggregate is stored
pub added_step : (columns : List ValueColumn) (totals values whole : List ℤ) (i : ℕ) (column : ValueColumn) (x : ℤ) → i < length columns → i < length totals → i < length values
    → column ≡ get_or columns i column → x ≡ noted column.agg (combined column.agg (get_or totals i (pos 0)) (get_or values i (pos 0)))
    → take i totals ++ added (map agg_of (drop i columns)) (drop i totals) (drop i values) ≡ whole
    → take (i + 1) (set totals i x) ++ added (map agg_of (drop (i + 1) columns)) (drop (i + 1) (set totals i x)) (drop (i + 1) values) ≡ whole
added_step columns totals values whole i column x c t v at is before =
    let one : added (map agg_of (drop i columns)) (drop i totals) (drop i values) ≡ x ∷ added (map agg_of (drop (i + 1) columns)) (drop (i + 1) totals) (drop (i + 1) values) =
    rw (drop_more columns i column c, drop_more totals i (pos 0) t, drop_more values i (pos 0) v, ← at, ← is) refl in
    rw (take_more_set totals i x t, drop-set-lt (i + 1) totals i x (omega arith))
    (append_assoc (take i totals) (x ∷ []) _ ∙ ap (λ (l : List ℤ). take i totals ++ l) (sym one) ∙ before)

pub sums_step : (columns : List ValueColumn) (totals values : List ℤ) (i : ℕ) (column : ValueColumn) (x : ℤ) → i < length columns → i < length totals → i < length values
    → AllCombine (map agg_of (drop i columns)) (drop i totals) (drop i values)
    → AllCombine (map agg_of (drop (i + 1) columns)) (drop (i + 1) (set totals i x)) (drop (i + 1) values)
sums_step columns totals values i column x c t v before =
    rw (drop-set-lt (i + 1) totals i x (omega arith))
    (rw (drop_more columns i column c, drop_more totals i (pos 0) t, drop_more values i (pos 0) v) at before).1

pub set_length : (totals : List ℤ) (i : ℕ) (x : ℤ) → length (set totals i x) ≡ length totals
set_length totals i x = length-set totals i x

-- what combines from a place on
pub sums_at : (columns : List ValueColumn) (totals values : List ℤ) (i : ℕ) (column : ValueColumn) → i < length columns → i < length totals → i < length values
    → AllCombine (map agg_of (drop i columns)) (drop i totals) (drop i values) → Combines (get_or columns i column).agg (get_or totals i (pos 0)) (get_or values i (pos 0)) × AllCombine (map agg_of (drop (i + 1) columns)) (drop (i + 1) totals) (drop (i + 1) values)
sums_at columns totals values i column c t v h = rw (drop_more columns i column c, drop_more totals i (pos 0) t, drop_more values i (pos 0) v) at h

pub sums_onto : (columns : List ValueColumn) (totals values : List ℤ) (i : ℕ) (column : ValueColumn) → i < length columns → i < length totals → i < length values
    → Combines (get_or columns i column).agg (get_or totals i (pos 0)) (get_or values i (pos 0)) → AllCombine (map agg_of (drop (i + 1) columns)) (drop (i + 1) totals) (drop (i + 1) values) → AllCombine (map agg_of (drop i columns)) (drop i totals) (drop i values)
sums_onto columns totals values i column c t v one others = rw (drop_more columns i column c, drop_more totals i (pos 0) t, drop_more values i (pos 0) v) (one, others)

all_ended : (aggs : List Agg) (old new : List ℤ) → min (min (length aggs) (length old)) (length new) ≡ 0 → AllCombine aggs old new
all_ended [] old new end = tt
all_ended (agg ∷ aggs) [] new end = tt
all_ended (agg ∷ aggs) (a ∷ old) [] end = tt
all_ended (agg ∷ aggs) (a ∷ old) (b ∷ new) end = absurd (omega arith)

pub sums_end : (columns : List ValueColumn) (totals values : List ℤ) (i : ℕ) → min (min (length columns) (length totals)) (length values) ≤ i → AllCombine (map agg_of (drop i columns)) (drop i totals) (drop i values)
sums_end columns totals values i end =
    all_ended (map agg_of (drop i columns)) (drop i totals) (drop i values) (omega (arith, length-map (drop i columns) agg_of, length-drop i columns, length-drop i totals, length-drop i values))

-- the loop's end: a list has ended
pub added_end : (columns : List ValueColumn) (totals values whole : List ℤ) (i : ℕ) → min (length columns) (length totals) ≤ i
    → take i totals ++ added (map agg_of (drop i columns)) (drop i totals) (drop i values) ≡ whole → totals ≡ whole
added_end columns totals values whole i end before =
    sym (take-append-drop i totals) ∙ ap (λ (l : List ℤ). take i totals ++ l) (sym (ended (map agg_of (drop i columns)) (drop i totals) (drop i values) (omega (arith, length-map (drop i columns) agg_of, length-drop i columns, length-drop i totals)))) ∙ before

pub begins : (s : Columns) (old new : Tally) (row : Row) (rows : List Row) → old.rows ≡ 0 → new.rows ≡ 1 → new.first.items ≡ row.key → new.last.items ≡ row.key → new.totals.items ≡ all_noted (aggs_of s) row.values
    → Tallies s old rows → Tallies s new (rows ++ row ∷ [])
begins s old new row [] z r f l t h = record { rows = r; first = f; last = l; totals = t }
begins s old new row (x ∷ rows) z r f l t h = absurd (omega (arith, h.rows))

pub goes_on : (s : Columns) (old new : Tally) (row : Row) (rows : List Row) → length row.values ≡ length s.values → 0 < old.rows → new.rows ≡ old.rows + 1 → new.first.items ≡ old.first.items → new.last.items ≡ row.key → new.totals.items ≡ added (aggs_of s) old.totals.items row.values
    → Tallies s old rows → Tallies s new (rows ++ row ∷ [])
goes_on s old new row [] len z r f l t h = absurd (omega (arith, h.rows))
goes_on s old new row (x ∷ rows) len z r f l t h = record {
  rows = omega (arith, h.rows, length-append (x ∷ rows) (row ∷ []));
  first = f ∙ h.first;
  last = l ∙ sym (last_key-push (x ∷ rows) row);
  totals = t ∙ ap (λ (o : List ℤ). added (aggs_of s) o row.values) h.totals ∙ sym (aggregates_more (aggs_of s) x rows row (omega (arith, length-map s.values agg_of)));
}

abbrev pub kind_of : KeyColumn → KeyType
kind_of c = c.kind

-- rows and one more, combined
pub combined_rows : (aggs : List Agg) (rows : List Row) (row : Row) → 0 < length rows → all_combined aggs (map values_of (rows ++ row ∷ [])) ≡ row_combined aggs (all_combined aggs (map values_of rows)) row.values
combined_rows aggs [] row some = absurd (omega arith)
combined_rows aggs (x ∷ rows) row some = ap (combined_from aggs x.values) (map-append values_of rows (row ∷ [])) ∙ combined_more aggs x.values (map values_of rows) row.values
