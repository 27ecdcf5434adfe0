-- What is found of files with ids of their own, and what a first fault says then.
use Rattle.std.proofs.Common.{◌≡◌, ℕ, ◌+◌, ◌≤◌, List, [], ◌∷◌, map, refl, sym, ◌∙◌, ap, subst, arith, Bool, true, false, cond}
use Rattle.std.specs.Prelude.{Option, None, Some, ◌==◌}
use Rattle.std.specs.List.{AllByRecursion}
use Rattle.std.proofs.lemmas.Bool.Decides.{nat_tests}
use Rattle.std.proofs.lemmas.List.Sums.{sum_by-cons}
use Rattle.mesa_disk.specs.Image.{Image}
use Rattle.mesa_disk.specs.Story.{Story}
use Rattle.mesa_pick_files.specs.mesa_columns.declared.rows.Row.{Row}
use Rattle.mesa_store_spec.specs.Catalog.{Catalog}
use Rattle.mesa_store_spec.specs.Fitting.{LiveFile, live_files, live_id}
use Rattle.mesa_store_spec.specs.Shape.{IsCatalog}
use Rattle.mesa_store_spec.specs.Ids.{HasOwnIds, times}
use Rattle.mesa_check.specs.Found.{AreFound, Found, IsFoundAs, all_found}
use Rattle.mesa_check.specs.Faults.{Fault, first_fault}
use Rattle.mesa_check.specs.Laws.{NoFaultIsSound, SoundHasNoFault, SoundIsFound}
use Rattle.mesa_check.specs.Verdict.{IsFirstFault}
use Rattle.mesa_check.specs.Tested.{HasRows}

-- ---- files by their ids

-- what was found of one file, and of others
abbrev with_one : ℕ → List Row → Found → Found
with_one id rows found n = cond (n == id) (Some rows) (found n)

other_id : (id : ℕ) (rows : List Row) (found : Found) (n : ℕ) → (id == n) ≡ false → with_one id rows found n ≡ found n
other_id id rows found n e = let f : (n == id) ≡ false = grind (arith, nat_tests) in ap (λ b. cond b (Some rows) (found n)) f

own_id : (id : ℕ) (rows : List Row) (found : Found) → with_one id rows found id ≡ Some rows
own_id id rows found = let e : (id == id) ≡ true = grind (arith, nat_tests) in ap (λ b. cond b (Some rows) (found id)) e

-- an id that stands nowhere else
abbrev one_if : Bool → ℕ
one_if b = cond b 1 0

times_more : (id n : ℕ) (ids : List ℕ) → times id (n ∷ ids) ≡ one_if (id == n) + times id ids
times_more id n ids = sum_by-cons (λ m. one_if (id == m)) n ids

not_here : (b : Bool) (n : ℕ) → one_if b + n ≡ 0 → (b ≡ false) × (n ≡ 0)
not_here true n e = absurd (omega (arith, e))
not_here false n e = (refl, omega (arith, e))

none_other : (id : ℕ) (files : List LiveFile) → times id (map live_id files) ≡ 0 → AllByRecursion (λ (x : LiveFile). (id == x.file.id) ≡ false) files
none_other id [] none = tt
none_other id (x ∷ files) none =
    let parts = not_here (id == x.file.id) (times id (map live_id files)) (sym (times_more id x.file.id (map live_id files)) ∙ none) in
    (parts.0, none_other id files parts.1)

later : (id n : ℕ) (ids : List ℕ) → times id (n ∷ ids) ≤ 1 → times id ids ≤ 1
later id n ids h = let more = times_more id n ids in omega (arith, h, more)

first_alone : (id : ℕ) (ids : List ℕ) → times id (id ∷ ids) ≤ 1 → times id ids ≡ 0
first_alone id ids h =
    let same : (id == id) ≡ true = grind (arith, nat_tests) in
    let more : times id (id ∷ ids) ≡ 1 + times id ids = times_more id id ids ∙ ap (λ b. one_if b + times id ids) same in
    omega (arith, h, more)

kept : (i : Image) (id : ℕ) (rows : List Row) (found : Found) (ys : List LiveFile) → AllByRecursion (λ (y : LiveFile). (id == y.file.id) ≡ false) ys → AreFound i found ys → AreFound i (with_one id rows found) ys
kept i id rows found [] alone are = tt
kept i id rows found (y ∷ ys) alone are = (subst (IsFoundAs i y) (sym (other_id id rows found y.file.id alone.0)) are.0, kept i id rows found ys alone.1 are.1)

pub all_are_found : (i : Image) (files : List LiveFile) → ((id : ℕ) → times id (map live_id files) ≤ 1) → AllByRecursion (HasRows i) files → (found : Found) × AreFound i found files
all_are_found i [] once all = ((λ id. None), tt)
all_are_found i (x ∷ files) once all =
    let rest = all_are_found i files (λ id. later id x.file.id (map live_id files) (once id)) all.1 in
    let alone = none_other x.file.id files (first_alone x.file.id (map live_id files) (once x.file.id)) in (
      with_one x.file.id all.0.0 rest.0,
      (subst (IsFoundAs i x) (sym (own_id x.file.id all.0.0 rest.0)) all.0.1, kept i x.file.id all.0.0 rest.0 files alone rest.1),
    )

-- ---- a first fault

pub is_first : NoFaultIsSound → SoundHasNoFault → SoundIsFound → (story : Story) (c : Catalog) (fault : Option Fault) → IsCatalog c → HasOwnIds c
    → ((i : Image) (found : Found) → story.told ≡ Some i → AreFound i found (live_files c) → first_fault found c ≡ fault) → (fault ≡ None → (i : Image) → story.told ≡ Some i → AllByRecursion (HasRows i) (live_files c)) → IsFirstFault story c fault
is_first sound none read story c fault shaped own first there = record {
  first = first;
  sound = λ i told is.
      let found = all_are_found i (live_files c) own.once (there is i told) in
      sound i found.0 c shaped found.1 (first i found.0 told found.1 ∙ is);
  unsound = λ i told has. sym (first i (all_found has.0) told (read i c has.0 has.1 has.2)) ∙ none c has.0 shaped has.2;
}
