-- A table's file put into groups of a view, block by block.
use Rattle.std.proofs.Common.{◌≡◌, ℕ, zero, suc, ◌+◌, ◌<◌, ◌≤◌, List, [], ◌∷◌, ◌++◌, length, take, drop, get_or, sym, ◌∙◌, ap, subst, append_assoc, arith}
use Rattle.std.specs.Prelude.{map, filter, IsTrue, IfSome, Option, Some, slice_get}
use Rattle.std.specs.List.{AllByRecursion}
use Rattle.std.proofs.lemmas.List.{map-append, take-append-drop}
use Rattle.std.proofs.lemmas.List.Elements.{filter-append}
use Rattle.mesa_view.specs.mesa_key.declared.KeyType.{KeyType}
use Rattle.mesa_view.specs.mesa_key.Spelling.{is_spelling, key_of}
use Rattle.mesa_open_files.specs.mesa_columns.declared.rows.Row.{Row}
use Rattle.mesa_open_files.specs.mesa_columns.declared.views.View.{View}
use Rattle.mesa_open_files.specs.mesa_columns.Columns.{Columns, kinds_of}
use Rattle.mesa_schema.specs.Changes.{columns_of}
use Rattle.mesa_open_files.specs.mesa_fold.Folded.{rows_of}
use Rattle.mesa_open_files.specs.mesa_columns.Rows.{AreRowsOf, IsRowOf}
use Rattle.mesa_schema.specs.Views.{view_columns, view_key_places, view_value_places}
use Rattle.mesa_merge.proofs.mesa_fold.Folds.{rows_of-append}
use Rattle.mesa_filter.specs.declared.terms.Term.{Term}
use Rattle.mesa_filter.specs.Filter.{KeyFilter, filtered, meets}
use Rattle.mesa_block.specs.Layout.{Layout}
use Rattle.mesa_delta.specs.Reading.{index_of}
use Rattle.mesa_open_files.specs.mesa_delta_format.Spread.{blocks_of}
use Rattle.mesa_delta.specs.declared.input.Input.{Input}
use Rattle.mesa_delta.proofs.mesa_delta_format.Packing.{blocks_rows}
use Rattle.mesa_scan.specs.Cursors.{IsSameInput, lift_by, reader_in}
use Rattle.mesa_merge.specs.Inputs.{IsTold, known_of}
use Rattle.mesa_scan.specs.declared.scanning.Scan.{Scan}
use Rattle.mesa_scan.specs.MatchingRows.{matching_rows}
use Rattle.mesa_scan.specs.Scanning.{HasScanned, filter_of, next_of}
use Rattle.mesa_scan.proofs.Blocks.{all_passing}
use Rattle.mesa_answer.specs.declared.groups.Groups.{Groups}
use Rattle.mesa_answer.specs.Answering.{KeepsSums}
use Rattle.mesa_answer.specs.Gathered.{HasPut, wanted_of}
use Rattle.mesa_answer.specs.Gathering.{Wanted}
use Rattle.mesa_answer.specs.Sums.{SumLeavesAmong}
use Rattle.mesa_answer.proofs.Leaving.{leaves_before, leaves_behind}
use Rattle.mesa_answer.specs.Regrouping.{PlacesSeen, places_seen, row_under}
use Rattle.mesa_answer.proofs.Forms.{row_spells}
use Rattle.mesa_answer.proofs.Passing.{one_more_row}
use Rattle.mesa_merge.proofs.mesa_fold.GroupKeys.{regrouped_form}
use Rattle.mesa_view.proofs.Blocks.{every_passes, given_all, given_matching}
use Rattle.mesa_view.proofs.Sums.{sums_front}
use Rattle.mesa_group_blocks.specs.Ungrouped.{under_view}

-- a view that is there has a number
pub there_of : {X : Type 0} (xs : List X) (n : ℕ) (x : X) → slice_get xs n ≡ Some x → n < length xs
there_of [] n x e = cc
there_of (y ∷ ys) zero x e = omega arith
there_of (y ∷ ys) (suc n) x e = omega (arith, there_of ys n x e)

-- what is so of a value that is there
pub some_here : {X : Type 0} (P : X → Type 0) (o : Option X) (x : X) → o ≡ Some x → IfSome o P → P x
some_here P o x is h = subst (λ o. IfSome o P) is h

-- ---- rows of a table under a view's keys

-- the rows of a block may be regrouped and tried
pub rows_spell : (s table : Columns) (v : View) (p : PlacesSeen) (f : KeyFilter) (rows : List Row) → view_columns table v ≡ s → p ≡ places_seen table v → f.kinds ≡ kinds_of s → AreRowsOf table rows
    → AllByRecursion (λ (row : Row). IsTrue (is_spelling p.kinds row.key) × IsTrue (is_spelling f.kinds (row_under p row).key)) rows
rows_spell s table v p f [] same is kinds all = tt
rows_spell s table v p f (row ∷ rows) same is kinds all =
    let under : IsRowOf s (row_under (places_seen table v) row) = subst (λ (t : Columns). IsRowOf t (row_under (places_seen table v) row)) same (regrouped_form table (view_key_places table v) (view_value_places table v) row all.0) in
    let own : IsTrue (is_spelling p.kinds row.key) = ap (λ (q : PlacesSeen). is_spelling q.kinds row.key) is ∙ row_spells table row all.0 in
    let spells : IsTrue (is_spelling f.kinds (row_under p row).key) =
    ap (λ (q : PlacesSeen). is_spelling f.kinds (row_under q row).key) is ∙ ap (λ (ks : List KeyType). is_spelling ks (row_under (places_seen table v) row).key) kinds ∙ row_spells s (row_under (places_seen table v) row) under in
    ((own, spells), rows_spell s table v p f rows same is kinds all.1)

-- rows of a table have the view's form under its keys
pub under_form : (table : Columns) (v : View) (rows : List Row) → AreRowsOf table rows → AreRowsOf (view_columns table v) (under_view table v rows)
under_form table v [] all = tt
under_form table v (row ∷ rows) all = (regrouped_form table (view_key_places table v) (view_value_places table v) row all.0, under_form table v rows all.1)

-- those of them that match, as they are read and as they are meant
pub under_matching : (s table : Columns) (v : View) (p : PlacesSeen) (f : KeyFilter) (rows : List Row) → p ≡ places_seen table v → f.kinds ≡ kinds_of s → matching_rows f (map (row_under p) rows) ≡ filtered s f.terms (under_view table v rows)
under_matching s table v p f rows is kinds = λ k. filter (λ (row : Row). meets (key_of (kinds k) row.key) f.terms) (map (row_under (is k)) rows)

pub matching_form : (s table : Columns) (v : View) (p : PlacesSeen) (f : KeyFilter) (rows : List Row) → view_columns table v ≡ s → p ≡ places_seen table v → AreRowsOf table rows → AreRowsOf s (matching_rows f (map (row_under p) rows))
matching_form s table v p f rows same is all =
    let test = λ (row : Row). meets (key_of f.kinds row.key) f.terms in
    subst (λ (q : PlacesSeen). AreRowsOf s (matching_rows f (map (row_under q) rows))) (sym is)
    (all_passing (IsRowOf s) test (under_view table v rows) (subst (λ (t : Columns). AreRowsOf t (under_view table v rows)) same (under_form table v rows all)))

-- more rows
pub matching_more : (f : KeyFilter) (p : PlacesSeen) (xs ys : List Row) → matching_rows f (map (row_under p) (xs ++ ys)) ≡ matching_rows f (map (row_under p) xs) ++ matching_rows f (map (row_under p) ys)
matching_more f p xs ys =
    let test = λ (row : Row). meets (key_of f.kinds row.key) f.terms in
    ap (filter test) (map-append (row_under p) xs ys) ∙ filter-append test (map (row_under p) xs) (map (row_under p) ys)

-- ---- the blocks of a file

-- The rows of the blocks so far are put in, regrouped by these places, and the input stays what it was.
pub record Regroups {R : Type 0} (bytes : R → Option (List ℕ)) (size_of faults_of : R → ℕ) (start now : Input R) (p : PlacesSeen) (f every : KeyFilter) (s : Scan) (old new : Groups) : Type 0 where
  pub given : List Row
  pub scanned : HasScanned bytes now s given
  pub filter : filter_of s ≡ every
  pub same : IsSameInput bytes start now
  pub size : size_of (reader_in now) ≡ size_of (reader_in start)
  pub faults : faults_of (reader_in now) ≡ faults_of (reader_in start)
  pub put : (before : List Row) → HasPut old before → HasPut new (before ++ matching_rows f (map (row_under p) given))
  pub wanted : wanted_of new ≡ wanted_of old

-- the rows of one block more are put in
pub put_more : (new : Groups) (f : KeyFilter) (p : PlacesSeen) (before given block : List Row) → HasPut new ((before ++ matching_rows f (map (row_under p) given)) ++ matching_rows f (map (row_under p) block))
    → HasPut new (before ++ matching_rows f (map (row_under p) (given ++ block)))
put_more new f p before given block put =
    subst (HasPut new) (append_assoc before (matching_rows f (map (row_under p) given)) (matching_rows f (map (row_under p) block)) ∙ ap (λ (more : List Row). before ++ more) (sym (matching_more f p given block))) put

-- at the end of a file that is told, its rows were given
pub given_told : {R : Type 0} (bytes : R → Option (List ℕ)) (start now : Input R) (every : KeyFilter) (s : Scan) (given rows : List Row) → HasScanned bytes now s given → filter_of s ≡ every → every.terms ≡ [] → IsSameInput bytes start now
    → length (index_of now.reader).entries ≤ next_of s → IsTold (known_of bytes start) rows → given ≡ map (lift_by start) rows
given_told bytes start now every s given rows h filter none same over told =
    given_all bytes start now every s given h filter same over told.0 rows told.1 told.2
    ∙ ap (λ (terms : List Term). filtered (columns_of start.evolving.value) terms (map (lift_by start) rows)) none
    ∙ every_passes (columns_of start.evolving.value) (map (lift_by start) rows)

-- before it, the first of them were
given_first : {R : Type 0} (bytes : R → Option (List ℕ)) (start now : Input R) (every : KeyFilter) (s : Scan) (given rows : List Row) → HasScanned bytes now s given → filter_of s ≡ every → every.terms ≡ [] → IsSameInput bytes start now
    → IsTold (known_of bytes start) rows → (others : List Row) × (map (lift_by start) rows ≡ given ++ others)
given_first bytes start now every s given rows h filter none same told =
    let layout : Layout = (index_of now.reader).layout in
    let blocks : List (List Row) = blocks_of layout rows in
    let lift : Row → Row = lift_by now in
    let front : List Row = map lift (rows_of (take (next_of s) blocks)) in
    let others : List Row = map lift (rows_of (drop (next_of s) blocks)) in
    let these : given ≡ front =
    given_matching bytes start now every s given h filter same told.0 rows told.1 told.2
    ∙ ap (λ (terms : List Term). filtered (columns_of now.evolving.value) terms front) none ∙ every_passes (columns_of now.evolving.value) front in
    let cut : rows ≡ rows_of (take (next_of s) blocks) ++ rows_of (drop (next_of s) blocks) =
    sym (blocks_rows layout rows) ∙ ap rows_of (sym (take-append-drop (next_of s) blocks)) ∙ rows_of-append (take (next_of s) blocks) (drop (next_of s) blocks) in
    let before : map (lift_by start) rows ≡ map lift rows = sym (λ k. map (lift_by (record now { evolving = same.evolving k; epoch = same.epoch k })) rows) in
    (others, before ∙ ap (map lift) cut ∙ map-append lift (rows_of (take (next_of s) blocks)) (rows_of (drop (next_of s) blocks)) ∙ ap (λ (xs : List Row). xs ++ others) (sym these))

-- So the sums of what was put in before and of what was given keep the bound that those of the whole file keep.
pub given_bounded : {R : Type 0} (bytes : R → Option (List ℕ)) (start now : Input R) (every f : KeyFilter) (p : PlacesSeen) (s : Scan) (columns : Columns) (before given rows : List Row) → HasScanned bytes now s given → filter_of s ≡ every → every.terms ≡ [] → IsSameInput bytes start now
    → IsTold (known_of bytes start) rows → KeepsSums columns (before ++ matching_rows f (map (row_under p) (map (lift_by start) rows))) → KeepsSums columns (before ++ matching_rows f (map (row_under p) given))
given_bounded bytes start now every f p s columns before given rows h filter none same told keeps =
    let first = given_first bytes start now every s given rows h filter none same told in
    let front : List Row = matching_rows f (map (row_under p) given) in
    let others : List Row = matching_rows f (map (row_under p) first.0) in
    let cut : before ++ matching_rows f (map (row_under p) (map (lift_by start) rows)) ≡ (before ++ front) ++ others =
    ap (λ (xs : List Row). before ++ matching_rows f (map (row_under p) xs)) first.1 ∙ ap (λ (xs : List Row). before ++ xs) (matching_more f p given first.0) ∙ sym (append_assoc before front others) in
    sums_front columns (before ++ front) others (subst (KeepsSums columns) cut keeps)

-- sums that keep their bound with a block keep it as the block's rows are put in
pub keeps_more : (s : Columns) (f : KeyFilter) (p : PlacesSeen) (before given block : List Row) → KeepsSums s (before ++ matching_rows f (map (row_under p) (given ++ block)))
    → KeepsSums s ((before ++ matching_rows f (map (row_under p) given)) ++ matching_rows f (map (row_under p) block))
keeps_more s f p before given block keeps =
    let front : List Row = matching_rows f (map (row_under p) given) in
    let more : List Row = matching_rows f (map (row_under p) block) in
    subst (KeepsSums s) (ap (λ (xs : List Row). before ++ xs) (matching_more f p given block) ∙ sym (append_assoc before front more)) keeps

-- ---- the rows of a block one by one

-- each has the form that all have
pub form_at : (s : Columns) (p : PlacesSeen) (rows : List Row) (i : ℕ) (row : Row) → i < length rows → row ≡ get_or rows i row → AreRowsOf s (map (row_under p) rows) → IsRowOf s (row_under p row)
form_at s p [] i row lt is all = absurd (omega arith)
form_at s p (x ∷ rows) zero row lt is all = subst (λ (r : Row). IsRowOf s (row_under p r)) (sym is) all.0
form_at s p (x ∷ rows) (suc i) row lt is all = form_at s p rows i row (omega arith) is all.1

-- what matches of one row more
next_matching : (f : KeyFilter) (p : PlacesSeen) (rows : List Row) (i : ℕ) (row : Row) → i < length rows → row ≡ get_or rows i row
    → matching_rows f (map (row_under p) (take (i + 1) rows)) ≡ matching_rows f (map (row_under p) (take i rows)) ++ matching_rows f (row_under p row ∷ [])
next_matching f p rows i row lt is = ap (λ (xs : List Row). matching_rows f (map (row_under p) xs)) (one_more_row i rows row lt is) ∙ matching_more f p (take i rows) (row ∷ [])

-- is put in behind what matches of those before it
pub put_next : (new : Groups) (f : KeyFilter) (p : PlacesSeen) (before rows : List Row) (i : ℕ) (row : Row) → i < length rows → row ≡ get_or rows i row
    → HasPut new ((before ++ matching_rows f (map (row_under p) (take i rows))) ++ matching_rows f (row_under p row ∷ [])) → HasPut new (before ++ matching_rows f (map (row_under p) (take (i + 1) rows)))
put_next new f p before rows i row lt is put =
    subst (HasPut new) (append_assoc before (matching_rows f (map (row_under p) (take i rows))) (matching_rows f (row_under p row ∷ [])) ∙ ap (λ (xs : List Row). before ++ xs) (sym (next_matching f p rows i row lt is))) put

-- and keeps the bound that the whole block keeps
pub keeps_front : (s : Columns) (f : KeyFilter) (p : PlacesSeen) (before rows : List Row) (i : ℕ) (row : Row) → i < length rows → row ≡ get_or rows i row → KeepsSums s (before ++ matching_rows f (map (row_under p) rows))
    → KeepsSums s ((before ++ matching_rows f (map (row_under p) (take i rows))) ++ matching_rows f (row_under p row ∷ []))
keeps_front s f p before rows i row lt is keeps =
    let front : List Row = matching_rows f (map (row_under p) (take (i + 1) rows)) in
    let others : List Row = matching_rows f (map (row_under p) (drop (i + 1) rows)) in
    let cut : matching_rows f (map (row_under p) rows) ≡ front ++ others =
    ap (λ (xs : List Row). matching_rows f (map (row_under p) xs)) (sym (take-append-drop (i + 1) rows)) ∙ matching_more f p (take (i + 1) rows) (drop (i + 1) rows) in
    let all : KeepsSums s ((before ++ front) ++ others) = subst (KeepsSums s) (ap (λ (xs : List Row). before ++ xs) cut ∙ sym (append_assoc before front others)) keeps in
    subst (KeepsSums s) (ap (λ (xs : List Row). before ++ xs) (next_matching f p rows i row lt is) ∙ sym (append_assoc before (matching_rows f (map (row_under p) (take i rows))) (matching_rows f (row_under p row ∷ [])))) (sums_front s (before ++ front) others all)

-- a sum that leaves its type with it leaves it among the block's
pub leaves_front : (w : Wanted) (f : KeyFilter) (p : PlacesSeen) (before rows : List Row) (i : ℕ) (row : Row) (key : List ℕ) → i < length rows → row ≡ get_or rows i row
    → SumLeavesAmong w (before ++ matching_rows f (map (row_under p) (take i rows))) (matching_rows f (row_under p row ∷ [])) key → SumLeavesAmong w before (matching_rows f (map (row_under p) rows)) key
leaves_front w f p before rows i row key lt is leaves =
    let front : List Row = matching_rows f (map (row_under p) (take (i + 1) rows)) in
    let others : List Row = matching_rows f (map (row_under p) (drop (i + 1) rows)) in
    let cut : matching_rows f (map (row_under p) rows) ≡ front ++ others =
    ap (λ (xs : List Row). matching_rows f (map (row_under p) xs)) (sym (take-append-drop (i + 1) rows)) ∙ matching_more f p (take (i + 1) rows) (drop (i + 1) rows) in
    let here = leaves_behind w before (matching_rows f (map (row_under p) (take i rows))) (matching_rows f (row_under p row ∷ [])) key leaves in
    let first = subst (λ (xs : List Row). SumLeavesAmong w before xs key) (sym (next_matching f p rows i row lt is)) here in
    subst (λ (xs : List Row). SumLeavesAmong w before xs key) (sym cut) (leaves_before w before front others key first)

-- among the rows of one block more
pub leaves_block : (w : Wanted) (f : KeyFilter) (p : PlacesSeen) (before given block : List Row) (key : List ℕ) → SumLeavesAmong w (before ++ matching_rows f (map (row_under p) given)) (matching_rows f (map (row_under p) block)) key
    → SumLeavesAmong w before (matching_rows f (map (row_under p) (given ++ block))) key
leaves_block w f p before given block key leaves =
    subst (λ (xs : List Row). SumLeavesAmong w before xs key) (sym (matching_more f p given block)) (leaves_behind w before (matching_rows f (map (row_under p) given)) (matching_rows f (map (row_under p) block)) key leaves)

-- what was given of a file that is told, as it matches, is the first of what matches
pub matching_first : {R : Type 0} (bytes : R → Option (List ℕ)) (start now : Input R) (every f : KeyFilter) (p : PlacesSeen) (s : Scan) (given rows : List Row) → HasScanned bytes now s given → filter_of s ≡ every → every.terms ≡ [] → IsSameInput bytes start now
    → IsTold (known_of bytes start) rows → (rest : List Row) × (matching_rows f (map (row_under p) (map (lift_by start) rows)) ≡ matching_rows f (map (row_under p) given) ++ rest)
matching_first bytes start now every f p s given rows h filter none same told =
    let first = given_first bytes start now every s given rows h filter none same told in
    (matching_rows f (map (row_under p) first.0), ap (λ (xs : List Row). matching_rows f (map (row_under p) xs)) first.1 ∙ matching_more f p given first.0)
