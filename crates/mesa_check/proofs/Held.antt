-- What holds of a table's deltas holds of its ranges, and what a range tells.
use Rattle.std.proofs.Common.{◌≡◌, ℕ, zero, suc, ◌+◌, ◌-◌, List, [], ◌∷◌, ◌++◌, map, take, drop, refl, sym, ◌∙◌, ap, subst, Bool, true, false, cond, not, ◌&&◌}
use Rattle.std.specs.Prelude.{flat_map, filter, find, is_some, nat_le, option_map, slice_get, replicate, ◌||◌, Option, None, Some}
use Rattle.std.specs.List.{AllByRecursion, list_all}
use Rattle.std.specs.declared.alloc.Global.{Global}
use Rattle.std.specs.declared.sync.Arc.{Arc}
use Rattle.std.proofs.lemmas.List.{take-append-drop}
use Rattle.mesa_schema.specs.Changes.{Lineage}
use Rattle.mesa_pick_files.specs.mesa_columns.declared.rows.Row.{Row}
use Rattle.mesa_schema.specs.mesa_fold.Folded.{rows_of}
use Rattle.mesa_schema.proofs.mesa_columns.Lists.{all_append, all_drop, all_map}
use Rattle.mesa_store_spec.specs.Catalog.{Delta, Ending, empty_delta, start_in}
use Rattle.mesa_store_spec.specs.Contents.{present}
use Rattle.mesa_store_spec.specs.Fitting.{LiveFile, base_deltas, delta_in, delta_live, deltas_of, meta_live}
use Rattle.mesa_store_spec.proofs.Lists.{all_back, all_flat, all_front, all_take, all_unflat, all_unmap}
use Rattle.mesa_catalog_table.specs.declared.table.Loaded.{Loaded}
use Rattle.mesa_catalog_table.specs.declared.table.Table.{Table}
use Rattle.mesa_catalog_table.specs.Meaning.{IsTable, ending_of, singles_from, start_of_base, meta_of, tens_from}
use Rattle.mesa_catalog_table.specs.Named.{through}
use Rattle.mesa_catalog_table.proofs.Named.{flat_map-map, flat_map-same, singles_through}
use Rattle.mesa_catalog_table.proofs.Singles.{flat_map-append, singles_give}
use Rattle.mesa_pick_files.proofs.Lending.{start_held}
use Rattle.mesa_check.specs.Found.{Found, rows_found}
use Rattle.mesa_check.specs.Faults.{is_found, is_true, merged_singles}
use Rattle.mesa_check.specs.Ranges.{Range, base_range, cumulative_range, single_ranges, totals_range}
use Rattle.mesa_check.specs.Ranges.{Base, Single, Cumulative}
use Rattle.mesa_check.specs.Counted.{is_counted, is_single, rows_where, tells_of}
use Rattle.mesa_check.specs.Held.{firsts, held_ranges, loaded_range}
use Rattle.mesa_check.proofs.Walked.{held_give, ranges_give}

-- ---- what holds of each delta

module _ (P : Delta → Type 0) where
  all_replicated : (n : ℕ) (ds : List Delta) → AllByRecursion P (replicate n empty_delta ++ ds) → AllByRecursion P ds
  all_replicated zero ds all = all
  all_replicated (suc n) ds all = all_replicated n ds all.1

  replicated_all : P empty_delta → (n : ℕ) (ds : List Delta) → AllByRecursion P ds → AllByRecursion P (replicate n empty_delta ++ ds)
  replicated_all none zero ds all = all
  replicated_all none (suc n) ds all = (none, replicated_all none n ds all)

  loaded_all : (from next : ℕ) (loaded : List Loaded) → AllByRecursion P (singles_from from next loaded) → AllByRecursion (λ (l : Loaded). P l.delta.value) loaded
  loaded_all from next [] all = tt
  loaded_all from next (l ∷ loaded) all = let here = all_replicated (l.version - from) (l.delta.value ∷ singles_from (l.version + 1) next loaded) all in (here.0, loaded_all (l.version + 1) next loaded here.1)

  no_delta : P empty_delta → (n : ℕ) → AllByRecursion P (replicate n empty_delta)
  no_delta none zero = tt
  no_delta none (suc n) = (none, no_delta none n)

  singles_all : P empty_delta → (from next : ℕ) (loaded : List Loaded) → AllByRecursion (λ (l : Loaded). P l.delta.value) loaded → AllByRecursion P (singles_from from next loaded)
  singles_all none from next [] all = no_delta none (next - from)
  singles_all none from next (l ∷ loaded) all = replicated_all none (l.version - from) (l.delta.value ∷ singles_from (l.version + 1) next loaded) (all.0, singles_all none (l.version + 1) next loaded all.1)

  tens_all : (s at : ℕ) (ds : List (Arc Delta Global)) → AllByRecursion P (map delta_in (tens_from at ds)) → AllByRecursion (λ (r : Range). P r.delta) (map (cumulative_range s) (tens_from at ds))
  tens_all s at [] all = tt
  tens_all s at (d ∷ ds) all = (all.0, tens_all s (at + 10) ds all.1)

  all_tens : (s at : ℕ) (ds : List (Arc Delta Global)) → AllByRecursion (λ (r : Range). P r.delta) (map (cumulative_range s) (tens_from at ds)) → AllByRecursion P (map delta_in (tens_from at ds))
  all_tens s at [] all = tt
  all_tens s at (d ∷ ds) all = (all.0, all_tens s (at + 10) ds all.1)

  base_all : (o : Option Ending) → AllByRecursion P (base_deltas o) → AllByRecursion (λ (r : Range). P r.delta) (base_range o)
  base_all None all = tt
  base_all (Some e) all = all

  all_base : (o : Option Ending) → AllByRecursion (λ (r : Range). P r.delta) (base_range o) → AllByRecursion P (base_deltas o)
  all_base None all = tt
  all_base (Some e) all = all

  -- holds of each range
  pub held_all : (next : ℕ) (t : Table) → AllByRecursion P (deltas_of (meta_of next t)) → AllByRecursion (λ (r : Range). P r.delta) (held_ranges t)
  held_all next t all =
      let u = meta_of next t in
      let start = start_of_base t.base in
      let loaded = t.loaded.items in
      let c = firsts start loaded in
      let Q = λ (r : Range). P r.delta in
      let L = λ (l : Loaded). P l.delta.value in
      let behind = all_back P (base_deltas u.base) (map delta_in u.cumulatives ++ u.singles) all in
      let brought = loaded_all start next loaded (all_back P (map delta_in u.cumulatives) u.singles behind) in
      let tens = tens_all start start t.cumulatives.items (all_front P (map delta_in u.cumulatives) u.singles behind) in
      let first : AllByRecursion Q (map loaded_range (take c loaded)) = all_map Q loaded_range (take c loaded) (all_take L c loaded brought) in
      let others : AllByRecursion Q (map loaded_range (drop c loaded)) = all_map Q loaded_range (drop c loaded) (all_drop L c loaded brought) in
      all_append Q (base_range u.base) _ (base_all u.base (all_front P (base_deltas u.base) (map delta_in u.cumulatives ++ u.singles) all))
      (all_append Q (map loaded_range (take c loaded)) _ first (all_append Q (map (cumulative_range start) u.cumulatives) (map loaded_range (drop c loaded)) tens others))

  -- and the other way round
  pub all_held : P empty_delta → (next : ℕ) (t : Table) → AllByRecursion (λ (r : Range). P r.delta) (held_ranges t) → AllByRecursion P (deltas_of (meta_of next t))
  all_held none next t all =
      let u = meta_of next t in
      let start = start_of_base t.base in
      let loaded = t.loaded.items in
      let c = firsts start loaded in
      let Q = λ (r : Range). P r.delta in
      let L = λ (l : Loaded). P l.delta.value in
      let tens = map (cumulative_range start) (tens_from start t.cumulatives.items) in
      let first = map loaded_range (take c loaded) in
      let others = map loaded_range (drop c loaded) in
      let behind = all_back Q (base_range u.base) (first ++ (tens ++ others)) all in
      let last = all_back Q first (tens ++ others) behind in
      let brought : AllByRecursion L (take c loaded ++ drop c loaded) = all_append L (take c loaded) (drop c loaded) (all_unmap Q loaded_range (take c loaded) (all_front Q first (tens ++ others) behind)) (all_unmap Q loaded_range (drop c loaded) (all_back Q tens others last)) in
      let whole : AllByRecursion L loaded = subst (AllByRecursion L) (take-append-drop c loaded) brought in
      all_append P (base_deltas u.base) _ (all_base u.base (all_front Q (base_range u.base) (first ++ (tens ++ others)) all))
      (all_append P (map delta_in u.cumulatives) u.singles (all_tens start start t.cumulatives.items (all_front Q tens others last)) (singles_all none start next loaded whole))

-- so of their files
pub held_files : (Q : LiveFile → Type 0) (next : ℕ) (t : Table) → AllByRecursion Q (meta_live (meta_of next t)) → AllByRecursion (λ (r : Range). AllByRecursion Q (delta_live t.evolving.value r.delta)) (held_ranges t)
held_files Q next t all = held_all (λ d. AllByRecursion Q (delta_live t.evolving.value d)) next t (all_unflat Q (delta_live t.evolving.value) (deltas_of (meta_of next t)) all)

pub files_held : (Q : LiveFile → Type 0) (next : ℕ) (t : Table) → AllByRecursion (λ (r : Range). AllByRecursion Q (delta_live t.evolving.value r.delta)) (held_ranges t) → AllByRecursion Q (meta_live (meta_of next t))
files_held Q next t all = all_flat Q (delta_live t.evolving.value) (deltas_of (meta_of next t)) (all_held (λ d. AllByRecursion Q (delta_live t.evolving.value d)) tt next t all)

-- ---- the range that tells of the totals

module _ {A : Type 0} (p : A → Bool) where
  abbrev pub if_passes : A → List A
  if_passes x = cond (p x) (x ∷ []) []

  pub filter_flat : (xs : List A) → filter p xs ≡ flat_map if_passes xs
  filter_flat [] = refl
  filter_flat (x ∷ xs) = elim (p x) as (λ b. cond b (x ∷ filter p xs) (filter p xs) ≡ cond b (x ∷ []) [] ++ flat_map if_passes xs) [ true ↦ ap (λ ys. x ∷ ys) (filter_flat xs) | false ↦ filter_flat xs ]

  pub find_flat : (xs : List A) → find p xs ≡ slice_get (flat_map if_passes xs) 0
  find_flat [] = refl
  find_flat (x ∷ xs) = elim (p x) as (λ b. cond b (Some x) (find p xs) ≡ slice_get (cond b (x ∷ []) [] ++ flat_map if_passes xs) 0) [ true ↦ refl | false ↦ find_flat xs ]

pub find-map : {A B : Type 0} (p : B → Bool) (g : A → B) (xs : List A) → option_map g (find (λ x. p (g x)) xs) ≡ find p (map g xs)
find-map p g [] = refl
find-map p g (x ∷ xs) = elim (p (g x)) as (λ b. option_map g (cond b (Some x) (find (λ y. p (g y)) xs)) ≡ cond b (Some (g x)) (find p (map g xs))) [ true ↦ refl | false ↦ find-map p g xs ]

base_tells : (o : Option Ending) → flat_map (if_passes tells_of) (base_range o) ≡ base_range o
base_tells None = refl
base_tells (Some e) = refl

pub totals_first : (next : ℕ) (t : Table) → IsTable next t → totals_range (meta_of next t) ≡ slice_get (base_range (option_map ending_of t.base) ++ flat_map (λ (l : Loaded). if_passes tells_of (loaded_range l)) t.loaded.items) 0
totals_first next t is =
    let u = meta_of next t in
    let start = start_of_base t.base in
    let has = λ (r : Range). is_some r.delta.files in
    let singles : filter has (single_ranges (start_in u) u.singles) ≡ flat_map (λ (l : Loaded). if_passes tells_of (loaded_range l)) t.loaded.items =
    ap (λ s. filter has (single_ranges s u.singles)) (start_held next t) ∙ filter_flat has (single_ranges start u.singles) ∙ ranges_give (if_passes has) start next t.loaded.items is.loaded (λ v low absent. refl) in
    ap (λ rs. slice_get (base_range u.base ++ rs) 0) singles

pub totals_held : (next : ℕ) (t : Table) → IsTable next t → totals_range (meta_of next t) ≡ find tells_of (held_ranges t)
totals_held next t is =
    let others = flat_map (λ (l : Loaded). if_passes tells_of (loaded_range l)) t.loaded.items in
    totals_first next t is
    ∙ sym (find_flat tells_of (held_ranges t) ∙ ap (λ xs. slice_get xs 0) (held_give (if_passes tells_of) (λ s e. refl) t ∙ ap (λ xs. xs ++ others) (base_tells (option_map ending_of t.base))))

-- ---- tests of all

-- one where a test fails
abbrev pub misses : {A : Type 0} → (A → Bool) → A → List (Unit {0})
misses p x = cond (p x) [] (tt ∷ [])

abbrev pub is_nil : {A : Type 0} → List A → Bool
is_nil [] = true
is_nil (x ∷ xs) = false

pub all_flat_nil : {A : Type 0} (p : A → Bool) (xs : List A) → list_all p xs ≡ is_nil (flat_map (misses p) xs)
all_flat_nil p [] = refl
all_flat_nil p (x ∷ xs) = elim (p x) as (λ b. (b && list_all p xs) ≡ is_nil (cond b [] (tt ∷ []) ++ flat_map (misses p) xs)) [ true ↦ all_flat_nil p xs | false ↦ refl ]

pub nil_both : {A : Type 0} (xs ys : List A) → is_nil (xs ++ ys) ≡ (is_nil xs && is_nil ys)
nil_both [] ys = refl
nil_both (x ∷ xs) ys = refl

-- a singleton up to a version
abbrev pub is_up_to : ℕ → Range → Bool
is_up_to to r = is_single r && nat_le r.to to

-- ---- the base and all singletons

module _ (found : Found) (l : Lineage) where
  -- what is asked of a base and of a singleton
  abbrev pub sure_of : Range → Bool
  sure_of r = elim (r.kind) [ Base ↦ is_found found l r.delta | Single ↦ is_true found l r.delta | Cumulative ↦ true ]

  base_sure : (o : Option Ending) → is_nil (flat_map (misses sure_of) (base_range o)) ≡ list_all (is_found found l) (base_deltas o)
  base_sure None = refl
  base_sure (Some e) = sym (all_flat_nil (is_found found l) (e.delta ∷ []))

  pub sure_held : (next : ℕ) (t : Table) → list_all sure_of (held_ranges t) ≡ (list_all (is_found found l) (base_deltas (option_map ending_of t.base)) && list_all (is_true found l) (singles_from (start_of_base t.base) next t.loaded.items))
  sure_held next t =
      let base = option_map ending_of t.base in
      let loaded = flat_map (λ (x : Loaded). misses sure_of (loaded_range x)) t.loaded.items in
      all_flat_nil sure_of (held_ranges t) ∙ ap is_nil (held_give (misses sure_of) (λ s e. refl) t) ∙ nil_both (flat_map (misses sure_of) (base_range base)) loaded
      ∙ (λ i. base_sure base i && (ap is_nil (sym (singles_give (misses (is_true found l)) (start_of_base t.base) next t.loaded.items refl)) ∙ sym (all_flat_nil (is_true found l) (singles_from (start_of_base t.base) next t.loaded.items))) i)

  abbrev pub at_present : Delta → List Row
  at_present d = present (rows_found found) l d

  base_rows : (o : Option Ending) → flat_map (rows_where found l is_counted) (base_range o) ≡ flat_map at_present (base_deltas o)
  base_rows None = refl
  base_rows (Some e) = refl

  -- the rows of both
  pub rows_held : (next : ℕ) (t : Table) → flat_map (rows_where found l is_counted) (held_ranges t) ≡ rows_of (map at_present (base_deltas (option_map ending_of t.base) ++ singles_from (start_of_base t.base) next t.loaded.items))
  rows_held next t =
      let base = option_map ending_of t.base in
      let singles = singles_from (start_of_base t.base) next t.loaded.items in
      held_give (rows_where found l is_counted) (λ s e. refl) t
      ∙ (λ i. base_rows base i ++ sym (singles_give at_present (start_of_base t.base) next t.loaded.items refl) i)
      ∙ sym (flat_map-append at_present (base_deltas base) singles)
      ∙ sym (flat_map-map (λ part. part) at_present (base_deltas base ++ singles))

  -- ---- singletons up to a version

  abbrev pub found_to : ℕ → Range → Bool
  found_to to r = not (is_up_to to r) || is_found found l r.delta

  base_out : (to : ℕ) (o : Option Ending) → flat_map (misses (found_to to)) (base_range o) ≡ []
  base_out to None = refl
  base_out to (Some e) = refl

  base_none : (to : ℕ) (o : Option Ending) → flat_map (rows_where found l (is_up_to to)) (base_range o) ≡ []
  base_none to None = refl
  base_none to (Some e) = refl

  one_out : (to : ℕ) (x : Loaded) → misses (found_to to) (loaded_range x) ≡ cond (nat_le x.version to) (misses (is_found found l) x.delta.value) []
  one_out to x = elim (nat_le x.version to) as (λ b. cond (not b || is_found found l x.delta.value) [] (tt ∷ []) ≡ cond b (misses (is_found found l) x.delta.value) []) [ true ↦ refl | false ↦ refl ]

  chosen_flat : {X : Type 0} (g : Delta → List X) (to : ℕ) (xs : List Loaded) → flat_map (λ (x : Loaded). cond (nat_le x.version to) (g x.delta.value) []) xs ≡ flat_map (λ (x : Loaded). g x.delta.value) (through to xs)
  chosen_flat g to [] = refl
  chosen_flat g to (x ∷ xs) =
      elim (nat_le x.version to) as (λ b. cond b (g x.delta.value) [] ++ flat_map (λ (y : Loaded). cond (nat_le y.version to) (g y.delta.value) []) xs ≡ flat_map (λ (y : Loaded). g y.delta.value) (cond b (x ∷ through to xs) (through to xs))) [
        | true ↦ ap (λ ys. g x.delta.value ++ ys) (chosen_flat g to xs)
        | false ↦ chosen_flat g to xs
      ]

  merged_flat : {X : Type 0} (g : Delta → List X) (next to : ℕ) (t : Table) → IsTable next t → g empty_delta ≡ [] → flat_map (λ (x : Loaded). cond (nat_le x.version to) (g x.delta.value) []) t.loaded.items ≡ flat_map g (merged_singles (meta_of next t) to)
  merged_flat g next to t is none =
      let u = meta_of next t in
      chosen_flat g to t.loaded.items ∙ sym (singles_through g (start_of_base t.base) to next t.loaded.items none is.loaded) ∙ ap (λ s. flat_map g (take (to + 1 - s) u.singles)) (sym (start_held next t))

  pub found_held : (next to : ℕ) (t : Table) → IsTable next t → list_all (found_to to) (held_ranges t) ≡ list_all (is_found found l) (merged_singles (meta_of next t) to)
  found_held next to t is =
      let base = option_map ending_of t.base in
      all_flat_nil (found_to to) (held_ranges t) ∙ ap is_nil (held_give (misses (found_to to)) (λ s e. refl) t ∙ (λ i. base_out to base i ++ flat_map-same (λ (x : Loaded). misses (found_to to) (loaded_range x)) (λ (x : Loaded). cond (nat_le x.version to) (misses (is_found found l) x.delta.value) []) t.loaded.items (one_out to) i)
      ∙ merged_flat (misses (is_found found l)) next to t is refl) ∙ sym (all_flat_nil (is_found found l) (merged_singles (meta_of next t) to))

  pub rows_merged : (next to : ℕ) (t : Table) → IsTable next t → flat_map (rows_where found l (is_up_to to)) (held_ranges t) ≡ rows_of (map at_present (merged_singles (meta_of next t) to))
  rows_merged next to t is =
      let base = option_map ending_of t.base in
      held_give (rows_where found l (is_up_to to)) (λ s e. refl) t
      ∙ (λ i. base_none to base i ++ flat_map (λ (x : Loaded). cond (nat_le x.version to) (at_present x.delta.value) []) t.loaded.items)
      ∙ merged_flat at_present next to t is refl ∙ sym (flat_map-map (λ part. part) at_present (merged_singles (meta_of next t) to))
