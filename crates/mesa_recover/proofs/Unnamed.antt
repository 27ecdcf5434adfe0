-- Adopted files that no record names.
use Rattle.std.proofs.Common.{◌≡◌, ◌≢◌, ◌⊎◌, inl, inr, ⊎_elim, ℕ, zero, suc, ◌+◌, ◌<◌, ◌≤◌, List, [], ◌∷◌, map, length, get_or, Option, Some, None, Bool, true, false, cond, not, ◌||◌, ◌==◌, Result, Ok, Err, is_ok, is_some, refl, sym, ◌∙◌, ap, subst, arith}
use Rattle.std.specs.Prelude.{filter}
use Rattle.std.proofs.lemmas.Bool.Decides.{nat_tests}
use Rattle.std.specs.List.{AllByRecursion, list_any}
use Rattle.std.specs.Ordering.{nat_cmp, eq_by_cmp}
use Rattle.std.specs.FinMap.{keys, contains_key-keys}
use Rattle.std.proofs.lemmas.List.Sorted.{searched}
use Rattle.std.specs.List.Sorted.{IsBinarySearchResult}
use Rattle.mesa_disk.specs.Image.{Image, file_of}
use Rattle.mesa_disk.specs.Files.{AreGone, IsNoneOf}
use Rattle.mesa_disk.specs.Story.{Story, Steps}
use Rattle.mesa_disk.proofs.Rounds.{not_equal}
use Rattle.mesa_store.specs.mesa_commit.Turn.{MovesOnly}
use Rattle.mesa_store.specs.mesa_commit.Holding.{Among}
use Rattle.mesa_store.specs.mesa_commit.Filed.{AreNamedOrWait}
use Rattle.mesa_store_spec.specs.Catalog.{Catalog}
use Rattle.mesa_store_spec.specs.Fitting.{LiveFile, has_number, live_files, live_id}
use Rattle.mesa_store_spec.specs.Held.{IsUnnamed}
use Rattle.mesa_store_spec.specs.Ids.{named}
use Rattle.mesa_catalog_table.specs.declared.recorded.Recorded.{Recorded}
use Rattle.mesa_catalog_table.specs.Files.{AreRecorded, RiseFrom, recorded_of, recorded_id}
use Rattle.mesa_recover.specs.Strays.{AreStrays}
use Rattle.mesa_recover.proofs.Reasons.{all_recorded, recorded_all}

-- ---- a number among others

is_same : (a b : ℕ) → (a == b) ≡ true → a ≡ b
is_same a b e = grind (arith, nat_tests)

none_first : (id m : ℕ) (ms : List ℕ) → (has_number id ms ≡ false → IsNoneOf ms id) → (b : Bool) → (id == m) ≡ b → (b || has_number id ms) ≡ false → IsNoneOf (m ∷ ms) id
none_first id m ms rest true is e = absurd (let f : true ≡ false = e in cc)
none_first id m ms rest false is e = ((λ same. let f : m ≡ id = same in let n : (id == m) ≡ true = grind (arith, nat_tests) in let g : true ≡ false = sym n ∙ is in cc), rest e)

none_has : (id : ℕ) (ms : List ℕ) → has_number id ms ≡ false → IsNoneOf ms id
none_has id [] e = tt
none_has id (m ∷ ms) e = none_first id m ms (none_has id ms) (id == m) refl e

some_first : (id m : ℕ) (ms : List ℕ) → (has_number id ms ≡ true → Among id ms) → (b : Bool) → (id == m) ≡ b → (b || has_number id ms) ≡ true → Among id (m ∷ ms)
some_first id m ms rest true is e = inl (sym (is_same id m is))
some_first id m ms rest false is e = inr (rest e)

some_has : (id : ℕ) (ms : List ℕ) → has_number id ms ≡ true → Among id ms
some_has id [] e = absurd (let f : false ≡ true = e in cc)
some_has id (m ∷ ms) e = some_first id m ms (some_has id ms) (id == m) refl e

has_either : (b : Bool) → (b ≡ true) ⊎ (b ≡ false)
has_either true = inl refl
has_either false = inr refl

-- what is none of these isn't found among them
never_first : (id m : ℕ) (ms : List ℕ) → (m ≢ id) → (has_number id ms ≡ true → ⊥) → (b : Bool) → (id == m) ≡ b → (b || has_number id ms) ≡ true → ⊥
never_first id m ms other rest true is e = other (sym (is_same id m is))
never_first id m ms other rest false is e = rest e

never : (id : ℕ) (ms : List ℕ) → IsNoneOf ms id → has_number id ms ≡ true → ⊥
never id [] none e = (let f : false ≡ true = e in cc)
never id (m ∷ ms) none e = never_first id m ms none.0 (never id ms none.1) (id == m) refl e

-- ---- rising numbers are searched

rise_above : (least : ℕ) (xs : List ℕ) (j : ℕ) → RiseFrom least xs → j < length xs → least ≤ get_or xs j 0
rise_above least [] j rise lt = absurd (omega (arith, lt))
rise_above least (x ∷ xs) zero rise lt = rise.0
rise_above least (x ∷ xs) (suc j) rise lt = let above = rise_above (x + 1) xs j rise.1 (omega (arith, lt)) in omega (arith, above, rise.0)

rising : (least : ℕ) (xs : List ℕ) → RiseFrom least xs → (i j : ℕ) → i ≤ j → j < length xs → get_or xs i 0 ≤ get_or xs j 0
rising least [] rise i j le lt = absurd (omega (arith, lt))
rising least (x ∷ xs) rise zero zero le lt = omega arith
rising least (x ∷ xs) rise zero (suc j) le lt = let above = rise_above (x + 1) xs j rise.1 (omega (arith, lt)) in omega (arith, above)
rising least (x ∷ xs) rise (suc i) zero le lt = absurd (omega (arith, le))
rising least (x ∷ xs) rise (suc i) (suc j) le lt = rising (x + 1) xs rise.1 i j (omega (arith, le)) (omega (arith, lt))

-- a number that stands at a place is found
has_at : (xs : List ℕ) (x i : ℕ) → i < length xs → get_or xs i 0 ≡ x → has_number x xs ≡ true
has_at [] x i lt is = absurd (omega (arith, lt))
has_at (y ∷ ys) x zero lt is = (let same : (x == y) ≡ true = (let e : y ≡ x = is in grind (arith, nat_tests)) in ap (λ b. b || has_number x ys) same)
has_at (y ∷ ys) x (suc i) lt is = either_right (x == y) (has_number x ys) (has_at ys x i (omega (arith, lt)) is)
  where
    either_right : (a b : Bool) → b ≡ true → (a || b) ≡ true
    either_right true b e = refl
    either_right false b e = e

has_nowhere : (xs : List ℕ) (x : ℕ) → ((k : ℕ) → k < length xs → get_or xs k 0 ≢ x) → has_number x xs ≡ false
has_nowhere [] x none = refl
has_nowhere (y ∷ ys) x none = by (x == y) refl (has_nowhere ys x (λ k lt. none (suc k) (omega (arith, lt))))
  where
    by : (b : Bool) → (x == y) ≡ b → has_number x ys ≡ false → (b || has_number x ys) ≡ false
    by true is rest = absurd (none zero (omega arith) (sym (is_same x y is)))
    by false is rest = rest

pub found_so : (xs : List ℕ) (x : ℕ) (r : Result ℕ ℕ) → RiseFrom 0 xs → IsBinarySearchResult (λ y. nat_cmp y x) xs r → is_ok r ≡ has_number x xs
found_so xs x (Ok i) rise is = let at = searched xs x (Ok i) is (rising 0 xs rise) in sym (has_at xs x i at.0 at.1)
found_so xs x (Err i) rise is =
    let at = searched xs x (Err i) is (rising 0 xs rise) in
    sym (has_nowhere xs x (λ k lt same. ⊎_elim (λ (below : k < i). (let low = at.1 k below in omega (arith, low, same))) (λ (above : i ≤ k). (let high = at.2 k above lt in omega (arith, high, same))) (split k i)))
  where
    split : (a b : ℕ) → (a < b) ⊎ (b ≤ a)
    split zero zero = inr (omega arith)
    split zero (suc b) = inl (omega arith)
    split (suc a) zero = inr (omega arith)
    split (suc a) (suc b) = ⊎_elim (λ lt. inl (omega (arith, lt))) (λ le. inr (omega (arith, le))) (split a b)

-- ---- strays

-- a stray is named by no record
unnamed_all : (c : Catalog) (files : List Recorded) (id : ℕ) → AreRecorded c files → has_number id (map recorded_id files) ≡ false → IsUnnamed c id
unnamed_all c files id recorded none = over (live_files c) (all_recorded (λ r. r.id ≢ id) c files recorded (each files (none_has id (map recorded_id files) none)))
  where
    each : (rs : List Recorded) → IsNoneOf (map recorded_id rs) id → AllByRecursion (λ (r : Recorded). r.id ≢ id) rs
    each [] all = tt
    each (r ∷ rs) all = (all.0, each rs all.1)

    over : (xs : List LiveFile) → AllByRecursion (λ (r : Recorded). r.id ≢ id) (map recorded_of xs) → AllByRecursion (λ (x : LiveFile). x.file.id ≢ id) xs
    over [] all = tt
    over (x ∷ xs) all = (all.0, over xs all.1)

kept_pass : (p : ℕ → Bool) (P : ℕ → Type 0) (ids : List ℕ) → ((id : ℕ) → p id ≡ true → P id) → AllByRecursion P (filter p ids)
kept_pass p P [] so = tt
kept_pass p P (id ∷ ids) so = by (p id) refl (kept_pass p P ids so)
  where
    by : (b : Bool) → p id ≡ b → AllByRecursion P (filter p ids) → AllByRecursion P (cond b (id ∷ filter p ids) (filter p ids))
    by true is all = (so id is, all)
    by false is all = all

not_is : (b : Bool) → not b ≡ true → b ≡ false
not_is true e = absurd (let f : false ≡ true = e in cc)
not_is false e = refl

pub strays_unnamed : (story : Story) (c : Catalog) (strays : List ℕ) → AreStrays story c strays → AllByRecursion (IsUnnamed c) strays
strays_unnamed story c strays are =
    subst (AllByRecursion (IsUnnamed c)) (sym are.among.are)
    (kept_pass (λ id. not (has_number id (map recorded_id are.files))) (IsUnnamed c) are.among.ids (λ id pass. unnamed_all c are.files id are.recorded (not_is (has_number id (map recorded_id are.files)) pass)))

-- a listed file is a stray, or it is named
filtered : (p : ℕ → Bool) (id : ℕ) (ids : List ℕ) → p id ≡ true → Among id ids → Among id (filter p ids)
filtered p id [] pass is = absurd is
filtered p id (x ∷ ids) pass (inl same) = by (p x) (ap p same ∙ pass)
  where
    by : (b : Bool) → b ≡ true → Among id (cond b (x ∷ filter p ids) (filter p ids))
    by true e = inl same
    by false e = absurd (let f : false ≡ true = e in cc)
filtered p id (x ∷ ids) pass (inr is) = by (p x) (filtered p id ids pass is)
  where
    by : (b : Bool) → Among id (filter p ids) → Among id (cond b (x ∷ filter p ids) (filter p ids))
    by true more = inr more
    by false more = more

gone_at : (i : Image) (id : ℕ) (ids : List ℕ) → AreGone ids i → Among id ids → file_of i id ≡ None
gone_at i id [] gone is = absurd is
gone_at i id (x ∷ ids) gone (inl same) = subst (λ n. file_of i n ≡ None) same gone.0
gone_at i id (x ∷ ids) gone (inr is) = gone_at i id ids gone.1 is

-- a file that isn't listed isn't there
none_tied : (id : ℕ) (ids : List ℕ) → IsNoneOf ids id → list_any (eq_by_cmp nat_cmp id) ids ≡ false
none_tied id [] none = refl
none_tied id (x ∷ ids) none = ap (λ b. b || list_any (eq_by_cmp nat_cmp id) ids) (not_equal id x (λ same. none.0 (sym same))) ∙ none_tied id ids none.1

is_none : (o : Option (List ℕ)) → is_some o ≡ false → o ≡ None
is_none None e = refl
is_none (Some x) e = absurd (let f : true ≡ false = e in cc)

unlisted : (i : Image) (id : ℕ) → IsNoneOf (keys i.files) id → file_of i id ≡ None
unlisted i id none = is_none (file_of i id) (contains_key-keys i.files id ∙ none_tied id (keys i.files) none)

-- each file stays
abbrev pub Keeps : Image → Image → Type 0
Keeps i j = (id : ℕ) → file_of j id ≡ file_of i id

module _ (c : Catalog) (old one two : Story) (strays : List ℕ) (are : AreStrays old c strays) (changed : Steps Keeps old.told one.told) (moved : Steps (MovesOnly [] strays) one.told two.told) (gone : (i : Image) → two.told ≡ Some i → AreGone strays i) where
  among_named : (id : ℕ) → has_number id (map recorded_id are.files) ≡ true → Among id (named c)
  among_named id has = ⊎_elim (λ e. some_has id (named c) e) (λ e. absurd (never id (map recorded_id are.files) (over are.files (all_files (none_has id (named c) e))) has)) (has_either (has_number id (named c)))
    where
      under : (xs : List LiveFile) → IsNoneOf (map live_id xs) id → AllByRecursion (λ (r : Recorded). r.id ≢ id) (map recorded_of xs)
      under [] all = tt
      under (x ∷ xs) all = (all.0, under xs all.1)

      over : (rs : List Recorded) → AllByRecursion (λ (r : Recorded). r.id ≢ id) rs → IsNoneOf (map recorded_id rs) id
      over [] all = tt
      over (r ∷ rs) all = (all.0, over rs all.1)

      all_files : IsNoneOf (named c) id → AllByRecursion (λ (r : Recorded). r.id ≢ id) are.files
      all_files none = recorded_all (λ r. r.id ≢ id) c are.files are.recorded (under (live_files c) none)

  -- each file that is there in the end is named
  pub named_in_the_end : AreNamedOrWait (named c) [] two.told
  named_in_the_end j is id there = inl (⊎_elim (λ has. among_named id has) (λ none. absurd (there (away none))) (has_either (has_number id (map recorded_id are.files))))
    where
      away : has_number id (map recorded_id are.files) ≡ false → file_of j id ≡ None
      away none =
          let mid = moved.back j is in
          let from = changed.back mid.0 mid.1 in
          let files : file_of mid.0 id ≡ file_of from.0 id = from.2 id in
          ⊎_elim
          (λ listed. gone_at j id strays (gone j is) (subst (Among id) (sym are.among.are) (filtered (λ q. not (has_number q (map recorded_id are.files))) id are.among.ids (ap not none) (some_has id are.among.ids listed))))
          (λ unlisted_is. mid.2.none_new id tt (files ∙ unlisted from.0 id (subst (λ ids. IsNoneOf ids id) (are.among.listed from.0 from.1) (none_has id are.among.ids unlisted_is))))
          (has_either (has_number id are.among.ids))
