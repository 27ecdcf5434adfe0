-- The ids of the files that a checkpoint names.
use Rattle.std.proofs.Common.{◌≡◌, ℕ, ◌+◌, ◌≤◌, ◌<◌, List, [], ◌∷◌, map, refl, sym, ◌∙◌, ap, subst, arith, Bool, true, false, cond}
use Rattle.std.specs.Prelude.{◌==◌, ◌&&◌, nat_le, nat_lt, is_some, IfSome, IsPermutation}
use Rattle.std.specs.Bool.{then_some}
use Rattle.std.specs.List.{list_all}
use Rattle.std.specs.List.Sorted.{IsNonDecreasingBy}
use Rattle.std.proofs.lemmas.Bool.Decides.{nat_tests}
use Rattle.std.proofs.lemmas.List.Sorted.{sum_by-IsPermutation}
use Rattle.std.proofs.lemmas.List.{map-id}
use Rattle.mesa_catalog_records.specs.mesa_store_spec.Fitting.{run_of_id}
use Rattle.mesa_catalog_records.specs.mesa_store_spec.Ids.{times}
use Rattle.mesa_catalog_records.specs.mesa_catalog_table.Files.{RiseFrom}
use Rattle.mesa_catalog_records.proofs.mesa_catalog_table.Tests.{both}
use Rattle.mesa_catalog.specs.Restored.{ids_above, ids_rise}
use Rattle.mesa_catalog_records.proofs.Ids.{times_cons}
use Rattle.mesa_catalog.proofs.Sorting.{rise_sorted}

-- ---- tests of all

-- where all pass, what stands among them does
passes_counted : (p : ℕ → Bool) (id : ℕ) (ns : List ℕ) → list_all p ns ≡ true → 0 < times id ns → p id ≡ true
passes_counted p id [] all some = absurd (omega arith)
passes_counted p id (n ∷ ns) all some =
    let parts = both (p n) (list_all p ns) all in
    elim (id == n) as (λ b. id == n ≡ b → p id ≡ true) [
      | true ↦ λ e. let same : id ≡ n = grind (arith, nat_tests) in ap p same ∙ parts.0
      | false ↦ λ e. let split = times_cons id n ns in let rest : 0 < times id ns = grind (arith, nat_tests) in passes_counted p id ns parts.1 rest
    ] refl

-- where each that stands among them passes, all do
all_counted : (p : ℕ → Bool) (ns : List ℕ) → ((id : ℕ) → 0 < times id ns → p id ≡ true) → list_all p ns ≡ true
all_counted p [] h = refl
all_counted p (n ∷ ns) h =
    let here = h n (let split = times_cons n n ns in let itself : (n == n) ≡ true = grind (arith, nat_tests) in grind (arith, nat_tests)) in
    let rest = all_counted p ns (λ id some. h id (let split = times_cons id n ns in omega (arith, split, some))) in
    λ i. here i && rest i

-- two tests at once
pub all_both : (p q : ℕ → Bool) (ns : List ℕ) → list_all (λ n. p n && q n) ns ≡ (list_all p ns && list_all q ns)
all_both p q [] = refl
all_both p q (n ∷ ns) = ap (λ b. (p n && q n) && b) (all_both p q ns) ∙ regrouped (p n) (q n) (list_all p ns) (list_all q ns)
  where
    regrouped : (a b c d : Bool) → ((a && b) && (c && d)) ≡ ((a && c) && (b && d))
    regrouped true true c d = refl
    regrouped true false true d = refl
    regrouped true false false d = refl
    regrouped false b c d = refl

-- ---- ids that rise

above_rises : (last : ℕ) (ids : List ℕ) → ids_above last ids ≡ true → RiseFrom (last + 1) ids
above_rises last [] e = tt
above_rises last (id ∷ ids) e =
    let parts = both (nat_lt last id) (ids_above id ids) e in
    let more : last < id = grind (arith, nat_tests, parts.0) in
    (omega (arith, more), above_rises id ids parts.1)

rises_above : (last : ℕ) (ids : List ℕ) → RiseFrom (last + 1) ids → ids_above last ids ≡ true
rises_above last [] rise = refl
rises_above last (id ∷ ids) rise =
    let more : last + 1 ≤ id = rise.0 in
    let first : nat_lt last id ≡ true = grind (arith, nat_tests) in
    let rest = rises_above id ids rise.1 in
    λ i. first i && rest i

rise_of : (ids : List ℕ) → ids_rise ids ≡ true → RiseFrom 0 ids
rise_of [] e = tt
rise_of (id ∷ ids) e = (omega arith, above_rises id ids e)

of_rise : (ids : List ℕ) → RiseFrom 0 ids → ids_rise ids ≡ true
of_rise [] rise = refl
of_rise (id ∷ ids) rise = rises_above id ids rise.1

-- none stands twice
rise_once : (least : ℕ) (ids : List ℕ) → RiseFrom least ids → (id : ℕ) → (id < least → times id ids ≡ 0) × (times id ids ≤ 1)
rise_once least [] rise id = (λ _. refl, omega arith)
rise_once least (n ∷ ids) rise id =
    let low : least ≤ n = rise.0 in
    let rest = rise_once (n + 1) ids rise.1 id in
    let split = times_cons id n ids in
    elim (id == n) as (λ b. id == n ≡ b → (id < least → times id (n ∷ ids) ≡ 0) × (times id (n ∷ ids) ≤ 1)) [
      | true ↦ λ e.
          let same : id ≡ n = grind (arith, nat_tests) in
          let none : times id ids ≡ 0 = rest.0 (omega (arith, same)) in
          let one : times id (n ∷ ids) ≡ 1 + times id ids = split ∙ ap (λ b. cond b 1 0 + times id ids) e in
          (λ below. absurd (omega (arith, same, low, below)), omega (arith, one, none))
      | false ↦ λ e.
          let one : times id (n ∷ ids) ≡ 0 + times id ids = split ∙ ap (λ b. cond b 1 0 + times id ids) e in
          (λ below. let none : times id ids ≡ 0 = rest.0 (omega (arith, below, low)) in omega (arith, one, none), let most = rest.1 in omega (arith, one, most))
    ] refl

moved_times : (id : ℕ) (ids sorted : List ℕ) → IsPermutation ids sorted → times id sorted ≡ times id ids
moved_times id ids sorted moved = sum_by-IsPermutation (λ m. cond (id == m) 1 0) ids sorted moved

rising_once : (ids sorted : List ℕ) → IsPermutation ids sorted → ids_rise sorted ≡ true → list_all (λ id. times id ids == 1) ids ≡ true
rising_once ids sorted moved e =
    all_counted (λ id. times id ids == 1) ids (λ id some.
    let most = (rise_once 0 sorted (rise_of sorted e) id).1 in
    let same = moved_times id ids sorted moved in
    let one : times id ids ≡ 1 = omega (arith, most, same, some) in
    let test : (times id ids == 1) ≡ true = grind (arith, nat_tests) in
    test)

once_rising : (ids sorted : List ℕ) → IsPermutation ids sorted → IsNonDecreasingBy (λ (id : ℕ). id) sorted → list_all (λ id. times id ids == 1) ids ≡ true → ids_rise sorted ≡ true
once_rising ids sorted moved order all =
    let once : (id : ℕ) → times id (map (λ (n : ℕ). n) sorted) ≤ 1 = λ id.
    let same : times id (map (λ (n : ℕ). n) sorted) ≡ times id ids = ap (times id) (map-id sorted) ∙ moved_times id ids sorted moved in
    elim (times id ids == 0) as (λ b. times id ids == 0 ≡ b → times id (map (λ (n : ℕ). n) sorted) ≤ 1) [
      | true ↦ λ e. let none : times id ids ≡ 0 = grind (arith, nat_tests) in omega (arith, same, none)
      | false ↦ λ e.
          let some : 0 < times id ids = grind (arith, nat_tests) in
          let test = passes_counted (λ n. times n ids == 1) id ids all some in
          let one : times id ids ≡ 1 = grind (arith, nat_tests) in
          omega (arith, same, one)
    ] refl in
    of_rise sorted (subst (RiseFrom 0) (map-id sorted) (rise_sorted (λ (id : ℕ). id) 0 sorted (λ i d h. omega arith) order once))

-- Sorted ids rise where each is that of one file.
pub sorted_rise : (ids sorted : List ℕ) → IsPermutation ids sorted → IsNonDecreasingBy (λ (id : ℕ). id) sorted → ids_rise sorted ≡ list_all (λ id. times id ids == 1) ids
sorted_rise ids sorted moved order =
    let all = list_all (λ id. times id ids == 1) ids in
    elim all as (λ b. all ≡ b → ids_rise sorted ≡ b) [
      | true ↦ λ e. once_rising ids sorted moved order e
      | false ↦ λ e.
          elim (ids_rise sorted) as (λ b. ids_rise sorted ≡ b → b ≡ false) [
            | true ↦ λ rise. sym (rising_once ids sorted moved rise) ∙ e
            | false ↦ λ rise. refl
          ] refl
    ] refl

-- Each is that of one file, and of a run up to the last one.
pub ids_decided : (run : ℕ) (ids sorted : List ℕ) → IsPermutation ids sorted → IsNonDecreasingBy (λ (id : ℕ). id) sorted → list_all (λ id. nat_le (run_of_id id) run) ids ≡ true
    → ids_rise sorted ≡ list_all (λ id. (times id ids == 1) && nat_le (run_of_id id) run) ids
ids_decided run ids sorted moved order runs =
    let all = list_all (λ id. times id ids == 1) ids in
    sorted_rise ids sorted moved order ∙ alone all ∙ ap (λ b. all && b) (sym runs) ∙ sym (all_both (λ id. times id ids == 1) (λ id. nat_le (run_of_id id) run) ids)
  where
    alone : (b : Bool) → b ≡ (b && true)
    alone true = refl
    alone false = refl

pub ids_refused : (run : ℕ) (ids : List ℕ) → list_all (λ id. nat_le (run_of_id id) run) ids ≡ false → false ≡ list_all (λ id. (times id ids == 1) && nat_le (run_of_id id) run) ids
ids_refused run ids runs =
    let all = list_all (λ id. times id ids == 1) ids in
    none all ∙ ap (λ b. all && b) (sym runs) ∙ sym (all_both (λ id. times id ids == 1) (λ id. nat_le (run_of_id id) run) ids)
  where
    none : (b : Bool) → false ≡ (b && false)
    none true = refl
    none false = refl

-- Where each is that of one file, none stands twice.
pub stands_once : (run : ℕ) (ids : List ℕ) → list_all (λ id. (times id ids == 1) && nat_le (run_of_id id) run) ids ≡ true → (id : ℕ) → times id ids ≤ 1
stands_once run ids all id =
    elim (times id ids == 0) as (λ b. times id ids == 0 ≡ b → times id ids ≤ 1) [
      | true ↦ λ e. let none : times id ids ≡ 0 = grind (arith, nat_tests) in omega (arith, none)
      | false ↦ λ e.
          let some : 0 < times id ids = grind (arith, nat_tests) in
          let test = (both (times id ids == 1) (nat_le (run_of_id id) run) (passes_counted (λ n. (times n ids == 1) && nat_le (run_of_id n) run) id ids all some)).0 in
          let one : times id ids ≡ 1 = grind (arith, nat_tests) in
          omega (arith, one)
    ] refl

-- ---- what is given where a test holds

pub some_then : {X : Type 0} (b : Bool) (x : X) → is_some (then_some b x) ≡ b
some_then true x = refl
some_then false x = refl

pub if_then_some : {X : Type 0} (b : Bool) (x : X) (P : X → Type 0) → P x → IfSome (then_some b x) P
if_then_some true x P p = p
if_then_some false x P p = tt
