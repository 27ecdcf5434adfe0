-- Ids from the next one on: they are new, of the run, and differ from each other.
use Rattle.std.proofs.Common.{◌≡◌, ℕ, ◌+◌, ◌-◌, ◌*◌, ◌^◌, ◌<◌, ◌≤◌, List, [], ◌∷◌, ◌++◌, length, refl, sym, ◌∙◌, ap, append_assoc, subst, arith, Option, inl, inr}
use Rattle.std.proofs.lemmas.List.{length-append}
use Rattle.std.proofs.lemmas.Nat.{div-mul-add}
use Rattle.std.specs.Prelude.{Bool, true, false, ◌&&◌, ◌||◌, ◌==◌, not, nat_lt, if◌then◌else◌, slice_index_or, ◌/◌}
use Rattle.std.proofs.lemmas.Bool.Decides.{nat_tests}
use Rattle.mesa_columns.specs.declared.rows.Row.{Row}
use Rattle.mesa_disk.specs.Files.{HasDistinctIds, HasOtherIds}
use Rattle.mesa_engine.specs.mesa_commit.Turn.{made_ids}
use Rattle.mesa_engine.specs.mesa_commit.Filed.{AreGiven}
use Rattle.mesa_engine.specs.mesa_commit.Holding.{Among}
use Rattle.mesa_engine.specs.mesa_store_spec.Contents.{Rows}
use Rattle.mesa_engine.specs.mesa_store_spec.Fitting.{are_new_ids, has_number, run_of_id}
use Rattle.mesa_open_files.specs.declared.made.MadeFile.{MadeFile}
use Rattle.mesa_file_records.specs.Adopted.{told_under}
use Rattle.mesa_file_records.specs.Published.{rows_with}
use Rattle.mesa_file_records.proofs.Lists.{AreAt, ids_from}

-- ---- new ids

same_number : (m n : ℕ) → (m == n) ≡ true → m ≡ n
same_number m n e = grind (arith, nat_tests)

not_among : (id : ℕ) (taken : List ℕ) → ((k : ℕ) → Among k taken → k < id) → has_number id taken ≡ false
not_among id [] below = refl
not_among id (k ∷ taken) below = ap (λ b. b || has_number id taken) (other (below k (inl refl))) ∙ not_among id taken (λ m is. below m (inr is))
  where
    other : k < id → (id == k) ≡ false
    other lt = grind (arith, nat_tests)

quotient : (run k id : ℕ) → id ≡ run * 2 ^ 40 + k → k < 2 ^ 40 → run_of_id id ≡ run
quotient run k id is low = ap (λ n. n / 2 ^ 40) is ∙ div-mul-add run (2 ^ 40) k low

in_run : (run k id : ℕ) → id ≡ run * 2 ^ 40 + k → k < 2 ^ 40 → (run_of_id id == run) ≡ true
in_run run k id is low = by (run_of_id id) (quotient run k id is low)
  where
    by : (q : ℕ) → q ≡ run → (q == run) ≡ true
    by q e = grind (arith, nat_tests)

pub new_ids : {A : Type 0} (run k : ℕ) (taken : List ℕ) (files : List A) → ((m : ℕ) → Among m taken → m < run * 2 ^ 40 + k) → k + length files ≤ 2 ^ 40 → are_new_ids run taken (ids_from (run * 2 ^ 40 + k) files) ≡ true
new_ids run k taken [] below few = refl
new_ids run k taken (f ∷ files) below few =
    both (in_run run k (run * 2 ^ 40 + k) refl (omega arith)) (ap not (not_among (run * 2 ^ 40 + k) taken below))
    (subst (λ id. are_new_ids run ((run * 2 ^ 40 + k) ∷ taken) (ids_from id files) ≡ true) (next run k) (new_ids run (k + 1) ((run * 2 ^ 40 + k) ∷ taken) files below_more (omega arith)))
  where
    both : {a b d : Bool} → a ≡ true → b ≡ true → d ≡ true → (a && b && d) ≡ true
    both p q r = λ i. p i && q i && r i

    next : (r j : ℕ) → r * 2 ^ 40 + (j + 1) ≡ r * 2 ^ 40 + j + 1
    next r j = omega arith

    below_more : (m : ℕ) → Among m ((run * 2 ^ 40 + k) ∷ taken) → m < run * 2 ^ 40 + (k + 1)
    below_more m (inl e) = omega (arith, e)
    below_more m (inr is) = (let lt = below m is in omega (arith, lt))

-- ---- files under them

pub under_ids : {M : Type 0} (bytes : M → Option (List ℕ)) (id : ℕ) (files : List (MadeFile M)) → made_ids (told_under bytes id files) ≡ ids_from id files
under_ids bytes id [] = refl
under_ids bytes id (f ∷ files) = ap (λ ids. id ∷ ids) (under_ids bytes (id + 1) files)

pub under_given : {M : Type 0} (bytes : M → Option (List ℕ)) (first id later : ℕ) (files : List (MadeFile M)) → first ≤ id → id + length files ≤ later → AreGiven first later (told_under bytes id files)
under_given bytes first id later [] low high = tt
under_given bytes first id later (f ∷ files) low high = ((low, omega arith), under_given bytes first (id + 1) later files (omega arith) (omega arith))

others_under : {M : Type 0} (bytes : M → Option (List ℕ)) (own id : ℕ) (files : List (MadeFile M)) → own < id → HasOtherIds own (told_under bytes id files)
others_under bytes own id [] lt = tt
others_under bytes own id (f ∷ files) lt = ((λ e. absurd (omega (arith, lt, e))), others_under bytes own (id + 1) files (omega arith))

pub under_distinct : {M : Type 0} (bytes : M → Option (List ℕ)) (id : ℕ) (files : List (MadeFile M)) → HasDistinctIds (told_under bytes id files)
under_distinct bytes id [] = tt
under_distinct bytes id (f ∷ files) = (others_under bytes id (id + 1) files (omega arith), under_distinct bytes (id + 1) files)

-- ---- rows under them

pub rows_stay : (rows : Rows) (next : ℕ) (more : List (List Row)) (id : ℕ) → id < next → rows_with rows next more id ≡ rows id
rows_stay rows next more id lt = ap (λ b. if b then rows id else slice_index_or more (id - next) []) (less id next lt)
  where
    less : (m n : ℕ) → m < n → nat_lt m n ≡ true
    less m n lt = grind (arith, nat_tests)

row_at : (rows : Rows) (next : ℕ) (more : List (List Row)) (k : ℕ) → rows_with rows next more (next + k) ≡ slice_index_or more k []
row_at rows next more k = ap (λ b. if b then rows (next + k) else slice_index_or more (next + k - next) []) (not_less next k) ∙ ap (λ n. slice_index_or more n []) (less_next next k)
  where
    not_less : (n j : ℕ) → nat_lt (n + j) n ≡ false
    not_less n j = grind (arith, nat_tests)

    less_next : (n j : ℕ) → n + j - n ≡ j
    less_next n j = omega arith

stand_at : (rows : Rows) (id k : ℕ) (all : List (List Row)) (front more : List (List Row)) → all ≡ front ++ more → k ≡ length front → ((j : ℕ) → rows (id + j) ≡ slice_index_or all j []) → AreAt rows (id + k) more
stand_at rows id k all front [] is count at = tt
stand_at rows id k all front (r ∷ more) is count at = (
  at k ∙ (λ i. slice_index_or (is i) (count i) []) ∙ behind front r more,
  subst (λ n. AreAt rows n more) (next id k) (stand_at rows id (k + 1) all (front ++ r ∷ []) more (is ∙ sym (append_assoc front (r ∷ []) more)) (omega (arith, count, length-append front (r ∷ []))) at),
)
  where
    behind : (front : List (List Row)) (r : List Row) (more : List (List Row)) → slice_index_or (front ++ r ∷ more) (length front) [] ≡ r
    behind [] r more = refl
    behind (x ∷ front) r more = behind front r more

    next : (n j : ℕ) → n + (j + 1) ≡ n + j + 1
    next n j = omega arith

pub rows_stand : (rows : Rows) (next : ℕ) (more : List (List Row)) → AreAt (rows_with rows next more) next more
rows_stand rows next more = subst (λ n. AreAt (rows_with rows next more) n more) (none next) (stand_at (rows_with rows next more) next 0 more [] more refl refl (row_at rows next more))
  where
    none : (n : ℕ) → n + 0 ≡ n
    none n = omega arith
