-- Rows that are written behind others.
use Rattle.std.proofs.Common.{◌≡◌, ℕ, zero, suc, ◌+◌, ◌<◌, List, [], ◌∷◌, ◌++◌, refl, sym, ◌∙◌, ap, subst, length, get_or, take, arith, append_assoc, add-one, true}
use Rattle.std.specs.Prelude.{drop, nat_abs, pos, Result, Some, slice_get}
use Rattle.std.specs.List.{AllByRecursion}
use Rattle.std.specs.Ordering.{is_lt}
use Rattle.std.proofs.lemmas.Bool.{and_from, and_parts}
use Rattle.std.proofs.lemmas.List.{append-nil, take-append-drop}
use Rattle.std.proofs.lemmas.Option.{get_or_from_slice_get, slice_get_within}
use Rattle.std.proofs.lemmas.List.Sums.{sum_by-append}
use Rattle.mesa_key.specs.Order.{byte_cmp}
use Rattle.mesa_compact.specs.mesa_columns.declared.rows.Row.{Row}
use Rattle.mesa_compact.specs.mesa_columns.Columns.{Columns}
use Rattle.mesa_compact.specs.mesa_columns.Rows.{keys_rise}
use Rattle.mesa_delta.specs.declared.error.FileError.{FileError}
use Rattle.mesa_batch.specs.Totals.{abs_total}
use Rattle.mesa_answer.specs.Answering.{KeepsSums}
use Rattle.mesa_compact.specs.Damaged.{LeavesAmong}
use Rattle.mesa_compact.proofs.Leaving.{among_at, among_before}
use Rattle.mesa_split.specs.Parts.{gained, joined}

-- the rows up to one more
take_one : (rows : List Row) (i : ℕ) (row : Row) → i < length rows → row ≡ get_or rows i row → take (i + 1) rows ≡ take i rows ++ row ∷ []
take_one rows i row lt is = rw add-one (steps rows i row lt is) where
  steps : (rows : List Row) (i : ℕ) (row : Row) → i < length rows → row ≡ get_or rows i row → take (suc i) rows ≡ take i rows ++ row ∷ []
  steps [] i row lt is = absurd (omega arith)
  steps (x ∷ xs) zero row lt is = ap (λ r. r ∷ []) (sym is)
  steps (x ∷ xs) (suc i) row lt is = ap (λ ys. x ∷ ys) (steps xs i row (omega arith) is)

pub front_rise : (rows more : List Row) → keys_rise (rows ++ more) ≡ true → keys_rise rows ≡ true
front_rise [] more h = refl
front_rise (x ∷ []) more h = refl
front_rise (x ∷ y ∷ ys) more h =
    let parts = and_parts (is_lt (byte_cmp x.key y.key)) (keys_rise (y ∷ (ys ++ more))) h in
    and_from (is_lt (byte_cmp x.key y.key)) (keys_rise (y ∷ ys)) parts.0 (front_rise (y ∷ ys) more parts.1)

-- of rising rows those up to a place, behind others
pub up_to : (given rows : List Row) (i : ℕ) → keys_rise (given ++ rows) ≡ true → keys_rise (given ++ take i rows) ≡ true
up_to given rows i h =
    front_rise (given ++ take i rows) (rest rows i) (ap keys_rise (append_assoc given (take i rows) (rest rows i) ∙ ap (λ rs. given ++ rs) (whole rows i)) ∙ h) where
      rest : List Row → ℕ → List Row
      rest rows zero = rows
      rest [] (suc i) = []
      rest (x ∷ xs) (suc i) = rest xs i

      whole : (rows : List Row) (i : ℕ) → take i rows ++ rest rows i ≡ rows
      whole rows zero = refl
      whole [] (suc i) = refl
      whole (x ∷ xs) (suc i) = ap (λ ys. x ∷ ys) (whole xs i)

all_at : (P : Row → Type 0) (rows : List Row) (i : ℕ) (d : Row) → AllByRecursion P rows → i < length rows → P (get_or rows i d)
all_at P [] i d all lt = absurd (omega arith)
all_at P (x ∷ xs) zero d all lt = all.0
all_at P (x ∷ xs) (suc i) d all lt = all_at P xs i d all.1 (omega arith)

-- ---- sums

total_append : (c : ℕ) (xs ys : List Row) → abs_total c (xs ++ ys) ≡ abs_total c xs + abs_total c ys
total_append c xs ys = sum_by-append (λ (row : Row). nat_abs (get_or row.values c (pos 0))) xs ys

pub sums_front : (s : Columns) (xs ys : List Row) → KeepsSums s (xs ++ ys) → KeepsSums s xs
sums_front s xs ys h = λ c p. omega (arith, h c p, total_append c xs ys)

-- of rows whose sums stay in their type those up to one more, behind others
sums_behind : (s : Columns) (given rows : List Row) (i : ℕ) (row : Row) → i < length rows → row ≡ get_or rows i row → KeepsSums s (given ++ rows) → KeepsSums s ((given ++ take i rows) ++ row ∷ [])
sums_behind s given rows i row lt is keeps =
    let n = i + 1 in
    let whole : given ++ rows ≡ (given ++ take n rows) ++ drop n rows = sym (append_assoc given (take n rows) (drop n rows) ∙ ap (λ rs. given ++ rs) (take-append-drop n rows)) in
    let more : given ++ take n rows ≡ (given ++ take i rows) ++ row ∷ [] = ap (λ rs. given ++ rs) (take_one rows i row lt is) ∙ sym (append_assoc given (take i rows) (row ∷ [])) in
    subst (KeepsSums s) more (sums_front s (given ++ take n rows) (drop n rows) (subst (KeepsSums s) whole keeps))

-- the same of the row at a place
pub take_there : (rows : List Row) (i : ℕ) (row : Row) → slice_get rows i ≡ Some row → take (i + 1) rows ≡ take i rows ++ row ∷ []
take_there rows i row at = take_one rows i row (slice_get_within rows i row at) (sym (get_or_from_slice_get rows i row row at))

pub there_of : (P : Row → Type 0) (rows : List Row) (i : ℕ) (row : Row) → AllByRecursion P rows → slice_get rows i ≡ Some row → P row
there_of P rows i row all at = subst P (get_or_from_slice_get rows i row row at) (all_at P rows i row all (slice_get_within rows i row at))

pub sums_there : (s : Columns) (given rows : List Row) (i : ℕ) (row : Row) → slice_get rows i ≡ Some row → KeepsSums s (given ++ rows) → KeepsSums s ((given ++ take i rows) ++ row ∷ [])
sums_there s given rows i row at keeps = sums_behind s given rows i row (slice_get_within rows i row at) (sym (get_or_from_slice_get rows i row row at)) keeps

-- what leaves its type with the row at a place
pub leaves_there : (Leaves : List Row → Row → Type 0) (given rows : List Row) (i : ℕ) (row : Row) → slice_get rows i ≡ Some row → Leaves (given ++ take i rows) row → LeavesAmong Leaves (given ++ rows)
leaves_there Leaves given rows i row at h = among_at Leaves given rows i row (slice_get_within rows i row at) (sym (get_or_from_slice_get rows i row row at)) h

-- ---- parts

abbrev Answers : Type 0
Answers = List (Result (List Row) FileError)

pub joined_one : (rs : Answers) (i : ℕ) (r : Result (List Row) FileError) → i < length rs → r ≡ get_or rs i r → joined (take (i + 1) rs) ≡ joined (take i rs) ++ gained r
joined_one rs i r lt is = rw add-one (steps rs i r lt is) where
  steps : (rs : Answers) (i : ℕ) (r : Result (List Row) FileError) → i < length rs → r ≡ get_or rs i r → joined (take (suc i) rs) ≡ joined (take i rs) ++ gained r
  steps [] i r lt is = absurd (omega (arith, lt))
  steps (x ∷ xs) zero r lt is = append-nil (gained x) ∙ ap gained (sym is)
  steps (x ∷ xs) (suc i) r lt is = ap (λ ys. gained x ++ ys) (steps xs i r (omega (arith, lt)) is) ∙ sym (append_assoc (gained x) (joined (take i xs)) (gained r))

joined_split : (rs : Answers) (i : ℕ) → joined rs ≡ joined (take i rs) ++ joined (drop i rs)
joined_split rs zero = refl
joined_split [] (suc i) = refl
joined_split (x ∷ xs) (suc i) = ap (λ ys. gained x ++ ys) (joined_split xs i) ∙ sym (append_assoc (gained x) (joined (take i xs)) (joined (drop i xs)))

all_front : (P : Row → Type 0) (xs ys : List Row) → AllByRecursion P (xs ++ ys) → AllByRecursion P xs × AllByRecursion P ys
all_front P [] ys all = (tt, all)
all_front P (x ∷ xs) ys all = let more = all_front P xs ys all.1 in ((all.0, more.0), more.1)

pub joined_form : (P : Row → Type 0) (rs : Answers) (i : ℕ) (r : Result (List Row) FileError) → AllByRecursion P (joined rs) → i < length rs → r ≡ get_or rs i r → AllByRecursion P (gained r)
joined_form P [] i r all lt is = absurd (omega (arith, lt))
joined_form P (x ∷ xs) zero r all lt is = subst (λ (y : Result (List Row) FileError). AllByRecursion P (gained y)) (sym is) (all_front P (gained x) (joined xs) all).0
joined_form P (x ∷ xs) (suc i) r all lt is = joined_form P xs i r (all_front P (gained x) (joined xs) all).1 (omega (arith, lt)) is

-- ---- parts behind rows

-- the rows of the first parts and of one more, behind others
pub behind_one : (given : List Row) (rs : Answers) (i : ℕ) (r : Result (List Row) FileError) (rows : List Row) → i < length rs → r ≡ get_or rs i r → rows ≡ gained r → (given ++ joined (take i rs)) ++ rows ≡ given ++ joined (take (i + 1) rs)
behind_one given rs i r rows lt is same =
    append_assoc given (joined (take i rs)) rows ∙ ap (λ xs. given ++ xs) (ap (λ xs. joined (take i rs) ++ xs) same ∙ sym (joined_one rs i r lt is))

pub behind_rise : (given : List Row) (rs : Answers) (i : ℕ) → keys_rise (given ++ joined rs) ≡ true → keys_rise (given ++ joined (take i rs)) ≡ true
behind_rise given rs i h =
    front_rise (given ++ joined (take i rs)) (joined (drop i rs)) (ap keys_rise (append_assoc given (joined (take i rs)) (joined (drop i rs)) ∙ ap (λ xs. given ++ xs) (sym (joined_split rs i))) ∙ h)

pub behind_sums : (s : Columns) (given : List Row) (rs : Answers) (i : ℕ) → KeepsSums s (given ++ joined rs) → KeepsSums s (given ++ joined (take i rs))
behind_sums s given rs i h =
    sums_front s (given ++ joined (take i rs)) (joined (drop i rs)) (subst (KeepsSums s) (ap (λ xs. given ++ xs) (joined_split rs i) ∙ sym (append_assoc given (joined (take i rs)) (joined (drop i rs)))) h)

pub behind_leaves : (Leaves : List Row → Row → Type 0) (given : List Row) (rs : Answers) (i : ℕ) → LeavesAmong Leaves (given ++ joined (take i rs)) → LeavesAmong Leaves (given ++ joined rs)
behind_leaves Leaves given rs i h =
    subst (LeavesAmong Leaves) (append_assoc given (joined (take i rs)) (joined (drop i rs)) ∙ ap (λ xs. given ++ xs) (sym (joined_split rs i))) (among_before Leaves (given ++ joined (take i rs)) (joined (drop i rs)) h)
