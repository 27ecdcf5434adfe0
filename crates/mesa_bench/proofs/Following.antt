-- Each row may follow those before it.
use Rattle.std.proofs.Common.{◌≡◌, ◌⊎◌, inl, inr, ℕ, zero, suc, ◌+◌, ◌*◌, ◌/◌, ◌%◌, ◌^◌, ◌<◌, ◌≤◌, ℤ, pos, List, [], ◌∷◌, ◌++◌, length, map, refl, sym, ap, subst, ◌∙◌, arith, Option}
use Rattle.std.specs.Prelude.{FitsSigned}
use Rattle.std.specs.Int.{w64, int_max}
use Rattle.std.specs.Cmp.{int_cmp_is}
use Rattle.std.specs.Ordering.{int_cmp}
use Rattle.std.specs.declared.cmp.Ordering.TheVariants.{Less, Equal}
use Rattle.std.proofs.lemmas.Bool.{cases_order}
use Rattle.std.proofs.lemmas.Int.{ints as int_rules}
use Rattle.std.proofs.Math.Numerals.{add-one}
use Rattle.std.proofs.lemmas.List.{append-nil, length-append, length-map}
use Rattle.mesa_value.specs.Agg.{IsSum}
use Rattle.mesa_value.specs.declared.Agg.{Agg}
use Rattle.mesa_value.specs.declared.Agg.TheVariants.{Sum, Max}
use Rattle.mesa_key.specs.declared.KeyType.{KeyType}
use Rattle.mesa_key.specs.declared.KeyType.TheVariants as kind
use Rattle.mesa_key.specs.declared.KeyValue.{KeyValue}
use Rattle.mesa_key.specs.declared.KeyValue.TheVariants.{Int}
use Rattle.mesa_key.specs.Order.{byte_cmp, key_cmp}
use Rattle.mesa_key.specs.Spelling.{IsKey, key_spelling, key_of as key_read}
use Rattle.mesa_open_files.specs.mesa_columns.declared.rows.Row.{Row}
use Rattle.mesa_open_files.specs.mesa_columns.declared.columns.ValueColumn.{ValueColumn}
use Rattle.mesa_open_files.specs.mesa_columns.Columns.{Columns, kinds_of}
use Rattle.mesa_open_files.specs.mesa_fold.Folded.{row_combined, all_combined}
use Rattle.mesa_open_files.specs.mesa_columns.Rows.{AreOf, IsRowOf}
use Rattle.mesa_open_files.specs.mesa_block.Rows.{Rise}
use Rattle.mesa_open_files.specs.mesa_block.Spelling.{key_of}
use Rattle.mesa_open_files.specs.mesa_delta_format.Summary.{all_noted, aggregates, values_of, last_key, AllCombine}
use Rattle.mesa_delta.specs.Writing.{HasTaken, IsNext, MayFollow, columns_of}
use Rattle.mesa_delta.specs.declared.writer.DeltaWriter.{DeltaWriter}
use Rattle.mesa_bench.specs.Made.{HasColumns, key_at, row_at, rows_below}

abbrev ints : List KeyType
ints = kind.Int ∷ kind.Int ∷ []

abbrev sum_and_max : List Agg
sum_and_max = Sum ∷ Max ∷ []

-- the laws of keys that this rests on
abbrev pub Orders : Type 0
Orders = (types : List KeyType) (a b : List KeyValue) → IsKey types a → IsKey types b → byte_cmp (key_spelling a) (key_spelling b) ≡ key_cmp a b

abbrev pub Reads : Type 0
Reads = (types : List KeyType) (key : List KeyValue) (more : List ℕ) → IsKey types key → key_read types (key_spelling key ++ more) ≡ key

-- the laws of one row more that this rests on
abbrev pub Lasts : Type 0
Lasts = (rows : List Row) (row : Row) → last_key (rows ++ row ∷ []) ≡ row.key

abbrev pub Rises : Type 0
Rises = (rows : List Row) (row : Row) → 0 < length rows → Rise (map key_of rows) → byte_cmp (last_key rows) row.key ≡ Less → Rise (map key_of (rows ++ row ∷ []))

abbrev pub CombinesOn : Type 0
CombinesOn = (aggs : List Agg) (rows : List Row) (row : Row) → 0 < length rows → all_combined aggs (map values_of (rows ++ row ∷ [])) ≡ row_combined aggs (all_combined aggs (map values_of rows)) row.values

small : (n : ℕ) → n < 2 ^ 32 → FitsSigned w64 (pos n)
small n h = omega (arith, int_rules)

small_sum : (a b : ℕ) → a + b < 2 ^ 62 → IsSum (pos (a + b))
small_sum a b h = omega (arith, int_rules)

is_key : (i : ℕ) → i < 2 ^ 32 → IsKey ints (key_at i)
is_key i h = (small (i / 100) (omega arith), (small (i % 100) (omega arith), tt))

less_pair : (a b c d : ℕ) → (a < c) ⊎ ((a ≡ c) × (b < d)) → key_cmp (Int (pos a) ∷ Int (pos b) ∷ []) (Int (pos c) ∷ Int (pos d) ∷ []) ≡ Less
less_pair a b c d (inl lt) =
    let first : Less ≡ int_cmp (pos a) (pos c) = int_cmp_is (pos a) (pos c) Less (omega (arith, int_rules)) in
    rw (← first) refl
less_pair a b c d (inr h) =
    let first : Equal ≡ int_cmp (pos a) (pos c) = int_cmp_is (pos a) (pos c) Equal (ap pos h.0) in
    let second : Less ≡ int_cmp (pos b) (pos d) = int_cmp_is (pos b) (pos d) Less (omega (arith, int_rules)) in
    rw (← first, ← second) refl

next_place : (i : ℕ) → (i / 100 < (i + 1) / 100) ⊎ ((i / 100 ≡ (i + 1) / 100) × (i % 100 < (i + 1) % 100))
next_place i = elim (cases_order (i / 100) ((i + 1) / 100)) [ inl same ↦ inr (same, omega arith) | inr (inl lt) ↦ inl lt | inr (inr gt) ↦ absurd (omega arith) ]

key_rises : Orders → (i : ℕ) → i + 1 < 2 ^ 32 → byte_cmp (row_at i).key (row_at (i + 1)).key ≡ Less
key_rises orders i h = orders ints (key_at i) (key_at (i + 1)) (is_key i (omega arith)) (is_key (i + 1) h) ∙ less_pair _ _ _ _ (next_place i)

some_below : (n : ℕ) → 0 < length (rows_below (suc n))
unfolding rows_below
some_below n = omega (arith, length-append (rows_below n) (row_at n ∷ []))

-- the amounts of the first rows are no more than 999 each
record Combined (n : ℕ) : Type 0 where
  sum : ℕ
  peak : ℤ
  few : sum ≤ n * 999
  all : all_combined sum_and_max (map values_of (rows_below n)) ≡ pos sum ∷ peak ∷ []

combined_below : CombinesOn → (n : ℕ) → Combined (suc n)
unfolding rows_below
combined_below combines zero = record { sum = 0; peak = pos 0; few = omega arith; all = refl }
combined_below combines (suc n) =
    let before = combined_below combines n in
    let i = suc n in
    record {
      sum = before.sum + i % 1000;
      peak = int_max before.peak (pos (i % 997));
      few = omega (arith, before.few);
      all = combines sum_and_max (rows_below i) (row_at i) (some_below n) ∙ ap (λ (l : List ℤ). row_combined sum_and_max l (row_at i).values) before.all;
    }

sums_fit : CombinesOn → (n : ℕ) → n < 2 ^ 32 → 0 < length (rows_below n) → AllCombine sum_and_max (aggregates sum_and_max (rows_below n)) (row_at n).values
unfolding rows_below
sums_fit combines zero h some = absurd (omega arith)
sums_fit combines (suc n) h some =
    let x = combined_below combines n in
    subst (λ (l : List ℤ). AllCombine sum_and_max (all_noted sum_and_max l) (row_at (suc n)).values) (sym x.all) (small_sum x.sum (suc n % 1000) (omega (arith, x.few)), (tt, tt))

rises : Orders → Lasts → Rises → (n : ℕ) → n < 2 ^ 32 → Rise (map key_of (rows_below n)) → Rise (map key_of (rows_below n ++ row_at n ∷ []))
unfolding rows_below
rises orders lasts on zero h rise = tt
rises orders lasts on (suc n) h rise =
    on (rows_below (suc n)) (row_at (suc n)) (some_below n) rise (ap (λ (k : List ℕ). byte_cmp k (row_at (suc n)).key) (lasts (rows_below n) (row_at n)) ∙ subst (λ (k : ℕ). byte_cmp (row_at n).key (row_at k).key ≡ Less) (add-one n) (key_rises orders n (omega arith)))

abbrev agg_of : ValueColumn → Agg
agg_of c = c.agg

pub is_row : Reads → (s : Columns) (i : ℕ) → HasColumns s → i < 2 ^ 32 → IsRowOf s (row_at i)
is_row reads s i has h =
    let key = key_at i in
    let read : key_read ints (key_spelling key) ≡ key =
    subst (λ (bytes : List ℕ). key_read ints bytes ≡ key) (append-nil (key_spelling key)) (reads ints key [] (is_key i h)) in
    let known : key_read (kinds_of s) (key_spelling key) ≡ key = ap (λ (types : List KeyType). key_read types (key_spelling key)) has.kinds ∙ read in
    record {
      key = subst (IsKey (kinds_of s)) (sym known) (subst (λ (types : List KeyType). IsKey types key) (sym has.kinds) (is_key i h));
      spelled = ap key_spelling known;
      values = omega (arith, length-map s.values agg_of, ap length has.aggs);
      ranges = subst (λ (aggs : List Agg). AreOf aggs (row_at i).values) (sym has.aggs) (tt, (small (i % 997) (omega arith), tt));
    }

pub may_follow : Orders → Reads → Lasts → Rises → CombinesOn → (s : Columns) (i : ℕ) → HasColumns s → i < 2 ^ 32 → Rise (map key_of (rows_below i)) → MayFollow s (rows_below i) (row_at i)
may_follow orders reads lasts on combines s i has h rise = record {
  form = is_row reads s i has h;
  greater = rises orders lasts on i h rise;
  sums = λ some. subst (λ (aggs : List Agg). AllCombine aggs (aggregates aggs (rows_below i)) (row_at i).values) (sym has.aggs) (sums_fit combines i h some);
}

pub next_row : {M T : Type 0} (bytes : T → Option (List ℕ)) (w : DeltaWriter M T) (i : ℕ) → ((s : Columns) (i : ℕ) → HasColumns s → i < 2 ^ 32 → Rise (map key_of (rows_below i)) → MayFollow s (rows_below i) (row_at i))
    → HasTaken bytes w (rows_below i) → HasColumns (columns_of w) → i < 2 ^ 32 → IsNext bytes w (row_at i)
next_row bytes w i law h has lt = (rows_below i, h, law (columns_of w) i has lt h.rise)

one_more : (i : ℕ) → rows_below i ++ row_at i ∷ [] ≡ rows_below (i + 1)
unfolding rows_below
one_more i = rw add-one refl

pub with_row : {M T : Type 0} (bytes : T → Option (List ℕ)) (w : DeltaWriter M T) (i : ℕ) (row : Row) → row ≡ row_at i → HasTaken bytes w (rows_below i ++ row ∷ []) → HasTaken bytes w (rows_below (i + 1))
with_row bytes w i row is h = subst (HasTaken bytes w) (ap (λ (r : Row). rows_below i ++ r ∷ []) is ∙ one_more i) h

pub some_rows : (n : ℕ) → 0 < n → 0 < length (rows_below n)
some_rows zero some = absurd (omega arith)
some_rows (suc n) some = some_below n
