-- The rows of pinned files, one file after the other.
use Rattle.std.proofs.Common.{◌≡◌, ℕ, zero, suc, ◌+◌, ◌<◌, ◌≤◌, List, [], ◌∷◌, ◌++◌, length, take, drop, get_or, refl, sym, ◌∙◌, ap, subst, arith, append_assoc, add-one}
use Rattle.std.specs.Prelude.{Option}
use Rattle.std.proofs.lemmas.List.{append-nil, take_all}
use Rattle.std.proofs.lemmas.List.Elements.{filter-append}
use Rattle.mesa_view.specs.mesa_key.Spelling.{key_of}
use Rattle.mesa_open_files.specs.mesa_columns.declared.rows.Row.{Row}
use Rattle.mesa_open_files.specs.mesa_columns.Columns.{Columns, kinds_of}
use Rattle.mesa_open_files.specs.mesa_fold.Folded.{rows_of}
use Rattle.mesa_filter.specs.declared.terms.Term.{Term}
use Rattle.mesa_filter.specs.Filter.{filtered, meets}
use Rattle.mesa_delta.specs.declared.input.Input.{Input}
use Rattle.mesa_merge.specs.Inputs.{AreTold, IsTold, known_of, knowns_of}
use Rattle.mesa_merge.proofs.Inputs.{told_at}
use Rattle.mesa_answer.specs.Answering.{KeepsSums}
use Rattle.mesa_view.proofs.Sums.{sums_front}
use Rattle.mesa_open_files.specs.declared.querying.PinnedInput.{PinnedInput}
use Rattle.mesa_group_blocks.specs.Moved.{inputs_in}
use Rattle.mesa_group_blocks.specs.Ungrouped.{parts_ungrouped, rows_ungrouped}
use Rattle.mesa_group_blocks.proofs.Moved.{input_here, input_within}

-- ---- what is told of files

pub told_count : {R : Type 0} (bytes : R → Option (List ℕ)) (files : List (PinnedInput R)) (contents : List (List Row)) → AreTold (knowns_of bytes (inputs_in files)) contents → length contents ≡ length files
told_count bytes [] [] told = refl
told_count bytes [] (rows ∷ contents) told = absurd told
told_count bytes (file ∷ files) [] told = absurd told
told_count bytes (file ∷ files) (rows ∷ contents) told = ap suc (told_count bytes files contents told.1)

pub told_here : {R : Type 0} (bytes : R → Option (List ℕ)) (files : List (PinnedInput R)) (contents : List (List Row)) (n : ℕ) (d : PinnedInput R) → AreTold (knowns_of bytes (inputs_in files)) contents → n < length files → d ≡ get_or files n d
    → IsTold (known_of bytes d.input) (get_or contents n [])
told_here {R = R} bytes files contents n d told lt is =
    subst (λ (i : Input R). IsTold (known_of bytes i) (get_or contents n [])) (input_here files n d is) (told_at bytes (inputs_in files) contents n d.input told (input_within files n lt))

-- ---- their rows

no_contents : {R : Type 0} (view : Option ℕ) (files : List (PinnedInput R)) → parts_ungrouped view files [] ≡ []
no_contents view [] = refl
no_contents view (file ∷ files) = refl

-- the rows of one file more
ungrouped_more : {R : Type 0} (view : Option ℕ) (files : List (PinnedInput R)) (contents : List (List Row)) (n : ℕ) (d : PinnedInput R) → n < length files → length contents ≡ length files → d ≡ get_or files n d
    → rows_of (parts_ungrouped view (take (suc n) files) (take (suc n) contents)) ≡ rows_of (parts_ungrouped view (take n files) (take n contents)) ++ rows_ungrouped view d (get_or contents n [])
ungrouped_more view [] contents n d lt long is = absurd (omega (arith, lt))
ungrouped_more view (file ∷ files) [] n d lt long is = absurd (omega (arith, long))
ungrouped_more {R = R} view (file ∷ files) (rows ∷ contents) zero d lt long is =
    append-nil (rows_ungrouped view file rows) ∙ ap (λ (one : PinnedInput R). rows_ungrouped view one rows) (sym is)
ungrouped_more view (file ∷ files) (rows ∷ contents) (suc n) d lt long is =
    let first : List Row = rows_ungrouped view file rows in
    ap (λ (more : List Row). first ++ more) (ungrouped_more view files contents n d (omega (arith, lt)) (omega (arith, long)) is)
    ∙ sym (append_assoc first (rows_of (parts_ungrouped view (take n files) (take n contents))) (rows_ungrouped view d (get_or contents n [])))

-- those of the first files, and of the others
ungrouped_split : {R : Type 0} (view : Option ℕ) (files : List (PinnedInput R)) (contents : List (List Row)) (n : ℕ)
    → rows_of (parts_ungrouped view files contents) ≡ rows_of (parts_ungrouped view (take n files) (take n contents)) ++ rows_of (parts_ungrouped view (drop n files) (drop n contents))
ungrouped_split view files contents zero = refl
ungrouped_split view [] contents (suc n) = refl
ungrouped_split view (file ∷ files) [] (suc n) = ap rows_of (sym (no_contents view (drop n files)))
ungrouped_split view (file ∷ files) (rows ∷ contents) (suc n) =
    let first : List Row = rows_ungrouped view file rows in
    ap (λ (more : List Row). first ++ more) (ungrouped_split view files contents n)
    ∙ sym (append_assoc first (rows_of (parts_ungrouped view (take n files) (take n contents))) (rows_of (parts_ungrouped view (drop n files) (drop n contents))))

-- ---- those that match

filtered-append : (s : Columns) (terms : List Term) (xs ys : List Row) → filtered s terms (xs ++ ys) ≡ filtered s terms xs ++ filtered s terms ys
filtered-append s terms xs ys = filter-append (λ (row : Row). meets (key_of (kinds_of s) row.key) terms) xs ys

-- the matching rows of the first files
pub matching_first : {R : Type 0} (s : Columns) (terms : List Term) (view : Option ℕ) (files : List (PinnedInput R)) (contents : List (List Row)) (n : ℕ) → List Row
matching_first s terms view files contents n = filtered s terms (rows_of (parts_ungrouped view (take n files) (take n contents)))

-- those of one file more
first_more : {R : Type 0} (s : Columns) (terms : List Term) (view : Option ℕ) (files : List (PinnedInput R)) (contents : List (List Row)) (n : ℕ) (d : PinnedInput R) → n < length files → length contents ≡ length files → d ≡ get_or files n d
    → matching_first s terms view files contents (suc n) ≡ matching_first s terms view files contents n ++ filtered s terms (rows_ungrouped view d (get_or contents n []))
unfolding matching_first
first_more s terms view files contents n d lt long is =
    ap (filtered s terms) (ungrouped_more view files contents n d lt long is) ∙ filtered-append s terms (rows_of (parts_ungrouped view (take n files) (take n contents))) (rows_ungrouped view d (get_or contents n []))

-- what is given with the rows of one file more
pub given_more : {R : Type 0} (s : Columns) (terms : List Term) (view : Option ℕ) (files : List (PinnedInput R)) (contents : List (List Row)) (n : ℕ) (d : PinnedInput R) (given more : List Row) → n < length files → length contents ≡ length files → d ≡ get_or files n d
    → given ≡ matching_first s terms view files contents n → more ≡ filtered s terms (rows_ungrouped view d (get_or contents n [])) → given ++ more ≡ matching_first s terms view files contents (n + 1)
given_more s terms view files contents n d given more lt long is e f = (λ k. e k ++ f k) ∙ sym (first_more s terms view files contents n d lt long is) ∙ ap (matching_first s terms view files contents) (sym (add-one n))

pub none_matching : {R : Type 0} (s : Columns) (terms : List Term) (view : Option ℕ) (files : List (PinnedInput R)) (contents : List (List Row)) → [] ≡ matching_first s terms view files contents 0
unfolding matching_first
none_matching s terms view files contents = refl

-- those of as many files as there are
pub all_matching : {R : Type 0} (s : Columns) (terms : List Term) (view : Option ℕ) (files : List (PinnedInput R)) (contents : List (List Row)) (n : ℕ) → length contents ≡ length files → length files ≤ n
    → matching_first s terms view files contents n ≡ filtered s terms (rows_of (parts_ungrouped view files contents))
unfolding matching_first
all_matching s terms view files contents n long le = λ k. filtered s terms (rows_of (parts_ungrouped view (take_all n files le k) (take_all n contents (let few : length contents ≤ n = omega (arith, long, le) in few) k)))

-- So sums keep, up to a file, the bound that they keep over all.
pub given_bounded : {R : Type 0} (s : Columns) (terms : List Term) (view : Option ℕ) (files : List (PinnedInput R)) (contents : List (List Row)) (n : ℕ) (d : PinnedInput R) (given : List Row) → n < length files → length contents ≡ length files → d ≡ get_or files n d
    → given ≡ matching_first s terms view files contents n → KeepsSums s (filtered s terms (rows_of (parts_ungrouped view files contents))) → KeepsSums s (given ++ filtered s terms (rows_ungrouped view d (get_or contents n [])))
unfolding matching_first
given_bounded s terms view files contents n d given lt long is e keeps =
    let more : List Row = filtered s terms (rows_ungrouped view d (get_or contents n [])) in
    let front : List Row = rows_of (parts_ungrouped view (take (suc n) files) (take (suc n) contents)) in
    let others : List Row = rows_of (parts_ungrouped view (drop (suc n) files) (drop (suc n) contents)) in
    let cut : filtered s terms (rows_of (parts_ungrouped view files contents)) ≡ (given ++ more) ++ filtered s terms others =
    ap (filtered s terms) (ungrouped_split view files contents (suc n)) ∙ filtered-append s terms front others
    ∙ ap (λ (rows : List Row). rows ++ filtered s terms others) (first_more s terms view files contents n d lt long is ∙ ap (λ (rows : List Row). rows ++ more) (sym e)) in
    sums_front s (given ++ more) (filtered s terms others) (subst (KeepsSums s) cut keeps)

-- What is given with the first rows of one file more are the first of all.
pub given_front : {R : Type 0} (s : Columns) (terms : List Term) (view : Option ℕ) (files : List (PinnedInput R)) (contents : List (List Row)) (n : ℕ) (d : PinnedInput R) (given more rest : List Row) → n < length files → length contents ≡ length files → d ≡ get_or files n d
    → given ≡ matching_first s terms view files contents n → filtered s terms (rows_ungrouped view d (get_or contents n [])) ≡ more ++ rest → (others : List Row) × (filtered s terms (rows_of (parts_ungrouped view files contents)) ≡ (given ++ more) ++ others)
unfolding matching_first
given_front s terms view files contents n d given more rest lt long is e f =
    let front : List Row = rows_of (parts_ungrouped view (take (suc n) files) (take (suc n) contents)) in
    let behind : List Row = rows_of (parts_ungrouped view (drop (suc n) files) (drop (suc n) contents)) in
    let others : List Row = filtered s terms behind in
    let these : filtered s terms front ≡ (given ++ more) ++ rest = first_more s terms view files contents n d lt long is ∙ (λ k. sym e k ++ f k) ∙ sym (append_assoc given more rest) in
    (rest ++ others, ap (filtered s terms) (ungrouped_split view files contents (suc n)) ∙ filtered-append s terms front behind ∙ ap (λ (rows : List Row). rows ++ others) these ∙ append_assoc (given ++ more) rest others)
