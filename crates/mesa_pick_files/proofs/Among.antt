-- The deltas of a plan and of a work are the table's.
use Rattle.std.proofs.Common.{◌≡◌, ℕ, zero, suc, ◌+◌, ◌-◌, ◌≤◌, List, [], ◌∷◌, ◌++◌, map, take, drop, refl, Bool, true, false, cond, Option, Some, None}
use Rattle.std.specs.Prelude.{◌==◌, filter, is_some}
use Rattle.std.specs.List.{AllByRecursion}
use Rattle.mesa_validate.proofs.mesa_columns.Lists.{all_found}
use Rattle.mesa_span.specs.Plan.{longest}
use Rattle.mesa_validate.specs.mesa_store_spec.Catalog.{Delta, Ending, TableMeta, end_in, start_in}
use Rattle.mesa_validate.specs.mesa_store_spec.Fitting.{base_deltas, delta_in, deltas_of}
use Rattle.mesa_validate.specs.mesa_store_spec.Brought.{merged_of}
use Rattle.mesa_validate.specs.mesa_store_spec.Planned.{behind_base, ending_at, longest_to, planned}
use Rattle.mesa_pick_files.specs.Folding.{folded_deltas}
use Rattle.mesa_pick_files.specs.Lent.{AreOfEpochs}

-- ---- lists

joined : {X : Type 0} (P : X → Type 0) (xs ys : List X) → AllByRecursion P xs → AllByRecursion P ys → AllByRecursion P (xs ++ ys)
joined P [] ys all more = more
joined P (x ∷ xs) ys all more = (all.0, joined P xs ys all.1 more)

parts : {X : Type 0} (P : X → Type 0) (xs ys : List X) → AllByRecursion P (xs ++ ys) → AllByRecursion P xs × AllByRecursion P ys
parts P [] ys all = (tt, all)
parts P (x ∷ xs) ys all = let rest = parts P xs ys all.1 in ((all.0, rest.0), rest.1)

first : {X : Type 0} (P : X → Type 0) (k : ℕ) (xs : List X) → AllByRecursion P xs → AllByRecursion P (take k xs)
first P zero [] all = tt
first P zero (x ∷ xs) all = tt
first P (suc k) [] all = tt
first P (suc k) (x ∷ xs) all = (all.0, first P k xs all.1)

later : {X : Type 0} (P : X → Type 0) (k : ℕ) (xs : List X) → AllByRecursion P xs → AllByRecursion P (drop k xs)
later P zero [] all = tt
later P zero (x ∷ xs) all = all
later P (suc k) [] all = tt
later P (suc k) (x ∷ xs) all = later P k xs all.1

chosen : {X : Type 0} (P : X → Type 0) (p : X → Bool) (xs : List X) → AllByRecursion P xs → AllByRecursion P (filter p xs)
chosen P p [] all = tt
chosen P p (x ∷ xs) all = let rest = chosen P p xs all.1 in elim (p x) as (λ b. AllByRecursion P (cond b (x ∷ filter p xs) (filter p xs))) [ true ↦ (all.0, rest) | false ↦ rest ]

unmapped : (P : Delta → Type 0) (es : List Ending) → AllByRecursion P (map delta_in es) → AllByRecursion (λ e. P (delta_in e)) es
unmapped P [] all = tt
unmapped P (e ∷ es) all = (all.0, unmapped P es all.1)

-- ---- deltas

module _ (P : Delta → Type 0) (t : TableMeta) (all : AllByRecursion P (deltas_of t)) where
  of_base : AllByRecursion P (base_deltas t.base)
  of_base = (parts P (base_deltas t.base) (map delta_in t.cumulatives ++ t.singles) all).0

  behind : AllByRecursion P (map delta_in t.cumulatives) × AllByRecursion P t.singles
  behind = parts P (map delta_in t.cumulatives) t.singles (parts P (base_deltas t.base) (map delta_in t.cumulatives ++ t.singles) all).1

  found : (o : Option ℕ) (e : Ending) → ending_at t.cumulatives o ≡ Some e → P e.delta
  found None e is = absurd cc
  found (Some end) e is = all_found (λ x. P (delta_in x)) (λ (x : Ending). x.to == end) t.cumulatives e is (unmapped P t.cumulatives behind.0)

  of_plan : (version : ℕ) (o : Option Ending) → longest_to t version ≡ o → AllByRecursion P (behind_base t version o)
  of_plan version None is = first P (version + 1 - start_in t) t.singles behind.1
  of_plan version (Some e) is = (found (longest version (map end_in t.cumulatives)) e is, first P (version - e.to) (drop (e.to + 1 - start_in t) t.singles) (later P (e.to + 1 - start_in t) t.singles behind.1))

  pub all_planned : (version : ℕ) → AllByRecursion P (planned t version)
  all_planned version = joined P (base_deltas t.base) (behind_base t version (longest_to t version)) of_base (of_plan version (longest_to t version) refl)

  pub all_singles : (to : ℕ) → AllByRecursion P (merged_of t false to)
  all_singles to = first P (to + 1 - start_in t) t.singles behind.1

  pub all_folded : (base : Bool) (to : ℕ) → AllByRecursion P (folded_deltas t base to)
  all_folded true to = all_planned to
  all_folded false to = of_plan to (longest_to t to) refl

-- so those with rows
pub epochs_chosen : (epoch : ℕ) (ds : List Delta) → AllByRecursion (λ (d : Delta). d.epoch ≤ epoch) ds → AreOfEpochs epoch ds
epochs_chosen epoch ds all = chosen (λ (d : Delta). d.epoch ≤ epoch) (λ (d : Delta). is_some d.files) ds all
