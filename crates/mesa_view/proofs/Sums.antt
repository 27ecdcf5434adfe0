-- Sums of the first of some rows keep the bound that all keep.
use Rattle.std.proofs.Common.{◌≡◌, ℕ, ◌+◌, ◌<◌, List, [], ◌∷◌, ◌++◌, length, get_or, take, drop, sym, ◌∙◌, ap, subst, arith, append_assoc}
use Rattle.std.specs.Prelude.{pos, nat_abs, sum_by, map, filter}
use Rattle.std.proofs.lemmas.List.{map-append, take-append-drop}
use Rattle.std.proofs.lemmas.List.Elements.{filter-append}
use Rattle.std.proofs.lemmas.List.Sums.{sum_by-append}
use Rattle.mesa_scan.specs.mesa_value.Agg.{sum_bound}
use Rattle.mesa_answer.specs.mesa_key.Spelling.{key_of}
use Rattle.mesa_columns.specs.declared.rows.Row.{Row}
use Rattle.mesa_scan.specs.mesa_schema.Changes.{columns_of}
use Rattle.mesa_columns.specs.Columns.{Columns, kinds_of}
use Rattle.mesa_scan.specs.mesa_fold.Folded.{rows_of}
use Rattle.mesa_answer.proofs.mesa_fold.Folds.{rows_of-append}
use Rattle.mesa_filter.specs.Filter.{KeyFilter, filtered, meets}
use Rattle.mesa_delta.specs.Reading.{index_of}
use Rattle.mesa_scan.specs.mesa_delta_format.Spread.{blocks_of}
use Rattle.mesa_delta.specs.declared.input.Input.{Input}
use Rattle.mesa_delta.proofs.mesa_delta_format.Packing.{blocks_rows}
use Rattle.mesa_scan.specs.Cursors.{lift_by}
use Rattle.mesa_scan.specs.Scanning.{matching}
use Rattle.mesa_answer.specs.Answering.{KeepsSums}
use Rattle.mesa_answer.proofs.Passing.{one_more_row}

pub sums_front : (s : Columns) (xs ys : List Row) → KeepsSums s (xs ++ ys) → KeepsSums s xs
sums_front s xs ys keeps c p =
    let weigh : Row → ℕ = λ (row : Row). nat_abs (get_or row.values c (pos 0)) in
    let all : sum_by weigh (xs ++ ys) < sum_bound = keeps c p in
    omega (arith, all, sum_by-append weigh xs ys)

-- rows that are put in one by one
pub sums_so_far : (s : Columns) (given rows : List Row) (i : ℕ) (row : Row) → i < length rows → row ≡ get_or rows i row → KeepsSums s (given ++ rows) → KeepsSums s ((given ++ take i rows) ++ row ∷ [])
sums_so_far s given rows i row lt is keeps =
    let left : List Row = drop (i + 1) rows in
    let cut : given ++ rows ≡ ((given ++ take i rows) ++ row ∷ []) ++ left =
    ap (λ (rs : List Row). given ++ rs) (sym (take-append-drop (i + 1) rows) ∙ ap (λ (front : List Row). front ++ left) (one_more_row i rows row lt is))
    ∙ sym (append_assoc given (take i rows ++ row ∷ []) left) ∙ ap (λ (front : List Row). front ++ left) (sym (append_assoc given (take i rows) (row ∷ []))) in
    sums_front s ((given ++ take i rows) ++ row ∷ []) left (subst (KeepsSums s) cut keeps)

-- the matching rows of a file's first blocks are the first of all
pub matching_split : {R : Type 0} (i : Input R) (f : KeyFilter) (all : List Row) (n : ℕ)
    → filtered (columns_of i.evolving.value) f.terms (map (lift_by i) all) ≡ matching i f all n ++ filtered (columns_of i.evolving.value) f.terms (map (lift_by i) (rows_of (drop n (blocks_of (index_of i.reader).layout all))))
matching_split i f all n =
    let blocks : List (List Row) = blocks_of (index_of i.reader).layout all in
    let test = λ (row : Row). meets (key_of (kinds_of (columns_of i.evolving.value)) row.key) f.terms in
    let lift : Row → Row = lift_by i in
    ap (λ (rows : List Row). filter test (map lift rows)) (sym (blocks_rows (index_of i.reader).layout all) ∙ ap rows_of (sym (take-append-drop n blocks)) ∙ rows_of-append (take n blocks) (drop n blocks))
    ∙ ap (filter test) (map-append lift (rows_of (take n blocks)) (rows_of (drop n blocks)))
    ∙ filter-append test (map lift (rows_of (take n blocks))) (map lift (rows_of (drop n blocks)))

-- so their sums keep the bound too
pub sums_scanned : {R : Type 0} (i : Input R) (f : KeyFilter) (all before : List Row) (n : ℕ) → KeepsSums (columns_of i.evolving.value) (before ++ filtered (columns_of i.evolving.value) f.terms (map (lift_by i) all))
    → KeepsSums (columns_of i.evolving.value) (before ++ matching i f all n)
sums_scanned i f all before n keeps =
    let s : Columns = columns_of i.evolving.value in
    let left : List Row = filtered s f.terms (map (lift_by i) (rows_of (drop n (blocks_of (index_of i.reader).layout all)))) in
    sums_front s (before ++ matching i f all n) left (subst (KeepsSums s) (ap (λ (rows : List Row). before ++ rows) (matching_split i f all n) ∙ sym (append_assoc before (matching i f all n) left)) keeps)
