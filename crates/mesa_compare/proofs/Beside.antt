-- The rows that one list has and another hasn't.
use Rattle.std.proofs.Common.{◌≡◌, ℕ, List, [], ◌∷◌, ◌++◌, Bool, true, false, refl, sym, ◌∙◌, ap, append_assoc}
use Rattle.std.proofs.lemmas.List.Elements.{filter-append}
use Rattle.std.proofs.lemmas.List.Folds.{list_any-append}
use Rattle.std.specs.Prelude.{not, cond, filter, ◌||◌}
use Rattle.std.specs.List.{AllByRecursion}
use Rattle.std.specs.declared.cmp.Ordering.TheVariants.{Less}
use Rattle.mesa_schema.specs.mesa_key.Order.{byte_cmp}
use Rattle.mesa_schema.specs.mesa_columns.declared.rows.Row.{Row}
use Rattle.mesa_schema.specs.mesa_columns.Rows.{keys_rise}
use Rattle.mesa_compare.specs.Difference.{has_row, rows_beside, same_row}
use Rattle.mesa_compare.proofs.Same.{above_behind, not_same_below, rest_above, rest_rises, same_itself}

-- each row is below a key
abbrev AreBelow : List ℕ → List Row → Type 0
AreBelow key rows = AllByRecursion (λ (row : Row). byte_cmp row.key key ≡ Less) rows

-- what holds of rows holds of those that pass a test
pub kept : (P : Row → Type 0) (test : Row → Bool) (rows : List Row) → AllByRecursion P rows → AllByRecursion P (filter test rows)
kept P test [] all = tt
kept P test (row ∷ rows) all = by (test row) (kept P test rows all.1)
  where
    by : (b : Bool) → AllByRecursion P (filter test rows) → AllByRecursion P (cond b (row ∷ filter test rows) (filter test rows))
    by true rest = (all.0, rest)
    by false rest = rest

or_true : (b : Bool) → (b || true) ≡ true
or_true true = refl
or_true false = refl

-- every row of a list is one of it, whatever stands before
inside : (row : Row) (front rest : List Row) → has_row row (front ++ row ∷ rest) ≡ true
inside row front rest = list_any-append (same_row row) front (row ∷ rest) ∙ ap (λ b. has_row row front || (b || has_row row rest)) (same_itself row) ∙ or_true (has_row row front)

pub skipped : (test : Row → Bool) (row : Row) (rows : List Row) → test row ≡ false → filter test (row ∷ rows) ≡ filter test rows
skipped test row rows e = ap (λ b. cond b (row ∷ filter test rows) (filter test rows)) e

-- no row of a list but is one of it, with more before and behind it
pub none_beside : (before rows more : List Row) → rows_beside rows (before ++ (rows ++ more)) ≡ []
none_beside before [] more = refl
none_beside before (row ∷ rows) more =
    skipped (λ x. not (has_row x (before ++ row ∷ (rows ++ more)))) row rows (ap not (inside row before (rows ++ more)))
    ∙ ap (rows_beside rows) (sym (append_assoc before (row ∷ []) (rows ++ more)))
    ∙ none_beside (before ++ row ∷ []) rows more

-- a row above others is none of them
not_in_front : (row : Row) (front : List Row) → AreBelow row.key front → has_row row front ≡ false
not_in_front row [] all = refl
not_in_front row (x ∷ front) all = ap (λ b. b || has_row row front) (not_same_below row x all.0) ∙ not_in_front row front all.1

-- each row before another of rising rows is below it
each_below : (row : Row) (front rest : List Row) → keys_rise (front ++ row ∷ rest) ≡ true → AreBelow row.key front
each_below row [] rest rises = tt
each_below row (x ∷ front) rest rises = ((above_behind x.key front (row ∷ rest) (rest_above x (front ++ row ∷ rest) rises)).0, each_below row front rest (rest_rises x (front ++ row ∷ rest) rises))

first_part : (key : List ℕ) (xs ys : List Row) → AreBelow key (xs ++ ys) → AreBelow key xs
first_part key [] ys all = tt
first_part key (x ∷ xs) ys all = (all.0, first_part key xs ys all.1)

-- of rising rows those behind a front may be beside others behind it only where they are beside these
behind_front : (front passed rows others : List Row) → keys_rise (front ++ (passed ++ rows)) ≡ true → rows_beside rows (front ++ others) ≡ rows_beside rows others
behind_front front passed [] others rises = refl
behind_front front passed (row ∷ rows) others rises =
    let below = first_part row.key front passed (each_below row (front ++ passed) rows (ap keys_rise (append_assoc front passed (row ∷ rows)) ∙ rises)) in
    let told : has_row row (front ++ others) ≡ has_row row others = list_any-append (same_row row) front others ∙ ap (λ b. b || has_row row others) (not_in_front row front below) in
    let rest : rows_beside rows (front ++ others) ≡ rows_beside rows others = behind_front front (passed ++ row ∷ []) rows others (ap (λ xs. keys_rise (front ++ xs)) (append_assoc passed (row ∷ []) rows) ∙ rises) in
    λ i. cond (not (told i)) (row ∷ rest i) (rest i)

-- Behind a front that two lists have in common, they have the same rows that the other hasn't.
pub common_front : (front rows others : List Row) → keys_rise (front ++ rows) ≡ true → rows_beside (front ++ rows) (front ++ others) ≡ rows_beside rows others
common_front front rows others rises =
    filter-append (λ row. not (has_row row (front ++ others))) front rows
    ∙ ap (λ xs. xs ++ rows_beside rows (front ++ others)) (none_beside [] front others)
    ∙ behind_front front [] rows others rises
