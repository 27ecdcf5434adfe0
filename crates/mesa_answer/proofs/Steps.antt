-- One row more among those whose first groups are held.
use Rattle.std.proofs.Common.{◌≡◌, ◌<◌, ◌≤◌, ℕ, zero, suc, List, [], ◌∷◌, ◌++◌, length, map, take, get_or, true, false, Bool, cond, refl, sym, ◌∙◌, ap, subst, arith, Option, Some, None}
use Rattle.std.specs.Prelude.{ℤ, filter}
use Rattle.std.specs.List.{AllByRecursion}
use Rattle.std.specs.Ordering.{is_eq}
use Rattle.std.specs.declared.cmp.Ordering.TheVariants.{Less, Equal, Greater}
use Rattle.std.proofs.lemmas.List.{append-nil, map-append}
use Rattle.std.proofs.lemmas.List.Elements.{filter-append}
use Rattle.mesa_value.specs.declared.Agg.{Agg}
use Rattle.mesa_key.specs.Order.{byte_cmp}
use Rattle.mesa_model.specs.mesa_columns.declared.rows.Row.{Row}
use Rattle.mesa_model.specs.mesa_columns.Columns.{Columns, aggs_of, chosen}
use Rattle.mesa_model.specs.mesa_fold.Folded.{AllCombine, folded, grouped, regrouped}
use Rattle.mesa_model.specs.mesa_fold.Laws.{AreFull}
use Rattle.mesa_model.specs.mesa_fold.Put.{put_row}
use Rattle.mesa_model.specs.mesa_columns.Rows.{AreRowsOf, IsRowOf}
use Rattle.mesa_model.proofs.mesa_fold.FilteredFolds.{filtered_folds}
use Rattle.mesa_model.proofs.mesa_fold.Forms.{folds_full}
use Rattle.mesa_model.proofs.mesa_fold.SameFolds.{puts_one}
use Rattle.mesa_filter.specs.Query.{are_places}
use Rattle.mesa_model.specs.Page.{rows_after}
use Rattle.mesa_batch.specs.Bound.{KeepsBound}
use Rattle.mesa_batch.proofs.Sums.{AllCombine-at}
use Rattle.mesa_answer.specs.Answering.{KeepsSums}
use Rattle.mesa_answer.specs.Gathering.{Wanted, first_groups, rows_behind}
use Rattle.mesa_answer.specs.Held.{is_behind, value_at}
use Rattle.mesa_answer.proofs.Bounds.{first_bound, full_regrouped}
use Rattle.mesa_answer.proofs.Firsts.{take-put_row}

-- ---- one row more

after_behind : (closed : Bool) (resume : Option (List ℕ)) (rows : List Row) (row : Row) → is_behind closed resume row.key ≡ true → rows_behind closed resume (rows ++ row ∷ []) ≡ rows_behind closed resume rows ++ row ∷ []
after_behind closed None rows row e = refl
after_behind closed (Some key) rows row e = filter-append (λ (r : Row). is_behind closed (Some key) r.key) rows (row ∷ []) ∙ ap (λ b. rows_behind closed (Some key) rows ++ cond b (row ∷ []) []) e

after_before : (closed : Bool) (resume : Option (List ℕ)) (rows : List Row) (row : Row) → is_behind closed resume row.key ≡ false → rows_behind closed resume (rows ++ row ∷ []) ≡ rows_behind closed resume rows
after_before closed None rows row e = cc
after_before closed (Some key) rows row e = filter-append (λ (r : Row). is_behind closed (Some key) r.key) rows (row ∷ []) ∙ ap (λ b. rows_behind closed (Some key) rows ++ cond b (row ∷ []) []) e ∙ append-nil _

-- The groups behind a resume key are the groups of the rows whose group key is.
pub after_folded : (closed : Bool) (resume : Option (List ℕ)) (aggs : List Agg) (rows : List Row) → rows_behind closed resume (folded aggs (rows ∷ [])) ≡ folded aggs (rows_behind closed resume rows ∷ [])
after_folded closed None aggs rows = refl
after_folded closed (Some key) aggs rows = filtered_folds (is_behind closed (Some key)) aggs (rows ∷ [])

folded-behind : (closed : Bool) (resume : Option (List ℕ)) (aggs : List Agg) (rows : List Row) (row : Row) → is_behind closed resume row.key ≡ true
    → rows_behind closed resume (folded aggs ((rows ++ row ∷ []) ∷ [])) ≡ put_row aggs row (rows_behind closed resume (folded aggs (rows ∷ [])))
folded-behind closed resume aggs rows row e =
    after_folded closed resume aggs (rows ++ row ∷ []) ∙ ap (λ (xs : List Row). folded aggs (xs ∷ [])) (after_behind closed resume rows row e)
    ∙ puts_one aggs (rows_behind closed resume rows) row ∙ ap (put_row aggs row) (sym (after_folded closed resume aggs rows))

folded-before : (closed : Bool) (resume : Option (List ℕ)) (aggs : List Agg) (rows : List Row) (row : Row) → is_behind closed resume row.key ≡ false
    → rows_behind closed resume (folded aggs ((rows ++ row ∷ []) ∷ [])) ≡ rows_behind closed resume (folded aggs (rows ∷ []))
folded-before closed resume aggs rows row e = after_folded closed resume aggs (rows ++ row ∷ []) ∙ ap (λ (xs : List Row). folded aggs (xs ∷ [])) (after_before closed resume rows row e) ∙ sym (after_folded closed resume aggs rows)

-- THE STEP: the first groups of rows with one more are the first of the first groups of the rows with it.
pub first_groups-behind : (w : Wanted) (rows : List Row) (row : Row) → is_behind w.inclusive w.resume (regrouped w.schema w.columns w.values row).key ≡ true
    → first_groups w (rows ++ row ∷ []) ≡ take w.most (put_row (chosen w.values (aggs_of w.schema)) (regrouped w.schema w.columns w.values row) (first_groups w rows))
first_groups-behind w rows row e =
    let aggs : List Agg = chosen w.values (aggs_of w.schema) in
    let f : Row → Row = regrouped w.schema w.columns w.values in
    ap (λ (xs : List Row). take w.most (rows_behind w.inclusive w.resume (folded aggs (xs ∷ [])))) (map-append f rows (row ∷ []))
    ∙ ap (take w.most) (folded-behind w.inclusive w.resume aggs (map f rows) (f row) e)
    ∙ sym (take-put_row w.most aggs (f row) (rows_behind w.inclusive w.resume (folded aggs (map f rows ∷ []))))

-- A row that isn't behind the resume key changes none.
pub first_groups-before : (w : Wanted) (rows : List Row) (row : Row) → is_behind w.inclusive w.resume (regrouped w.schema w.columns w.values row).key ≡ false → first_groups w (rows ++ row ∷ []) ≡ first_groups w rows
first_groups-before w rows row e =
    let aggs : List Agg = chosen w.values (aggs_of w.schema) in
    let f : Row → Row = regrouped w.schema w.columns w.values in
    ap (λ (xs : List Row). take w.most (rows_behind w.inclusive w.resume (folded aggs (xs ∷ [])))) (map-append f rows (row ∷ []))
    ∙ ap (take w.most) (folded-before w.inclusive w.resume aggs (map f rows) (f row) e)

-- behind a resume key alone they are the rows that a page goes on with
pub behind_after : (resume : Option (List ℕ)) (rows : List Row) → rows_behind false resume rows ≡ rows_after resume rows
behind_after None rows = refl
behind_after (Some key) rows = refl

-- ---- what the first groups keep

pub all_filtered : (P : Row → Type 0) (test : Row → Bool) (rows : List Row) → AllByRecursion P rows → AllByRecursion P (filter test rows)
all_filtered P test [] all = tt
all_filtered P test (row ∷ rows) all =
    elim (test row) as (λ t. AllByRecursion P (cond t (row ∷ filter test rows) (filter test rows))) [
      | true ↦ (all.0, all_filtered P test rows all.1)
      | false ↦ all_filtered P test rows all.1
    ]

pub all_after : (P : Row → Type 0) (closed : Bool) (resume : Option (List ℕ)) (rows : List Row) → AllByRecursion P rows → AllByRecursion P (rows_behind closed resume rows)
all_after P closed None rows all = all
all_after P closed (Some key) rows all = all_filtered P (λ (row : Row). is_behind closed (Some key) row.key) rows all

pub all_taken : (P : Row → Type 0) (n : ℕ) (rows : List Row) → AllByRecursion P rows → AllByRecursion P (take n rows)
all_taken P zero rows all = tt
all_taken P (suc n) [] all = tt
all_taken P (suc n) (row ∷ rows) all = (all.0, all_taken P n rows all.1)

pub all_more : (P : Row → Type 0) (rows : List Row) (row : Row) → AllByRecursion P rows → P row → AllByRecursion P (rows ++ row ∷ [])
all_more P [] row all own = (own, tt)
all_more P (x ∷ xs) row all own = (all.0, all_more P xs row all.1 own)

pub first_full : (w : Wanted) (rows : List Row) → AreRowsOf w.schema rows → AreFull (chosen w.values (aggs_of w.schema)) (first_groups w rows)
first_full w rows form =
    let aggs : List Agg = chosen w.values (aggs_of w.schema) in
    let f : Row → Row = regrouped w.schema w.columns w.values in
    let groups : List Row = grouped w.schema w.columns w.values rows in
    let P : Row → Type 0 = λ (row : Row). length row.values ≡ length aggs in
    let under : AreFull aggs (map f rows ++ []) = subst (AreFull aggs) (sym (append-nil (map f rows))) (full_regrouped w.schema w.columns w.values rows form) in
    all_taken P w.most (rows_behind w.inclusive w.resume groups) (all_after P w.inclusive w.resume groups (folds_full aggs (map f rows ∷ []) under))

shorter : (n : ℕ) (rows : List Row) → length (take n rows) ≤ n
shorter zero rows = omega arith
shorter (suc n) [] = omega arith
shorter (suc n) (row ∷ rows) = omega (arith, shorter n rows)

-- as many groups as are wanted, at most
pub first_short : (w : Wanted) (rows held : List Row) → held ≡ first_groups w rows → length held ≤ w.most
first_short w rows held first = omega (arith, ap length first, shorter w.most (rows_behind w.inclusive w.resume (grouped w.schema w.columns w.values rows)))

-- fewer than are wanted are all
pub first_all : (n : ℕ) (rows : List Row) → length (take n rows) < n → take n rows ≡ rows
first_all zero rows l = absurd (omega arith)
first_all (suc n) [] l = refl
first_all (suc n) (row ∷ rows) l = ap (λ xs. row ∷ xs) (first_all n rows (omega arith))

-- so where as many are wanted as no list has, they are the groups
pub all_groups : (s : Columns) (columns values : List ℕ) (most : ℕ) (w : Wanted) (rows found : List Row) → w ≡ record { schema = s; columns = columns; values = values; resume = None; inclusive = false; most = most } → found ≡ first_groups w rows → length found < most
    → found ≡ grouped s columns values rows
all_groups s columns values most w rows found wanted first few =
    let here : found ≡ take most (grouped s columns values rows) = first ∙ ap (λ v. first_groups v rows) wanted in
    here ∙ first_all most (grouped s columns values rows) (omega (arith, ap length here, few))

-- ---- sums

-- where the values of a key stand
record Stands (held : List Row) (old : List ℤ) : Type 0 where
  place : ℕ
  within : place < length held
  same : (d : Row) → (get_or held place d).values ≡ old

stands : (held : List Row) (key : List ℕ) (old : List ℤ) → value_at key held ≡ Some old → Stands held old
stands [] key old some = cc
stands (x ∷ xs) key old some =
    let later : value_at key xs ≡ Some old → Stands (x ∷ xs) old = λ s. let there = stands xs key old s in record { place = suc there.place; within = omega (arith, there.within); same = there.same } in
    elim (byte_cmp key x.key) as (λ o. cond (is_eq o) (Some x.values) (value_at key xs) ≡ Some old → Stands (x ∷ xs) old) [
      | Less ↦ later
      | Equal ↦ λ s. record { place = zero; within = omega arith; same = λ d. cc }
      | Greater ↦ later
    ] some

-- A row's values and its group's have one together where the rows keep their bound.
pub group_combines : (w : Wanted) (rows : List Row) (row : Row) (held : List Row) (key : List ℕ) (old : List ℤ) → are_places w.schema.values w.values ≡ true → AreRowsOf w.schema rows → IsRowOf w.schema row → KeepsSums w.schema (rows ++ row ∷ [])
    → held ≡ first_groups w rows → value_at key held ≡ Some old → AllCombine (chosen w.values (aggs_of w.schema)) old (regrouped w.schema w.columns w.values row).values
group_combines w rows row held key old there form own keeps first some =
    let aggs : List Agg = chosen w.values (aggs_of w.schema) in
    let under : Row = regrouped w.schema w.columns w.values row in
    let at = stands held key old some in
    let bound = first_bound w rows row there (all_more (IsRowOf w.schema) rows row form own) form keeps in
    let d : Row = row in
    subst (λ vs. AllCombine aggs vs under.values) (at.same d)
    (AllCombine-at aggs held under at.place d at.within (subst (λ (xs : List Row). KeepsBound aggs xs (under ∷ [])) (sym first) bound))
