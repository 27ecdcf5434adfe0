-- A singleton for each version, from what was loaded.
use Rattle.std.proofs.Common.{◌≡◌, ℕ, zero, suc, ◌+◌, ◌-◌, ◌≤◌, ◌<◌, List, [], ◌∷◌, ◌++◌, length, drop, refl, sym, ◌∙◌, ap, subst, arith, append_assoc, Bool, true, false, cond}
use Rattle.std.specs.Prelude.{replicate, filter, nat_lt, flat_map}
use Rattle.std.proofs.lemmas.Bool.Decides.{nat_tests}
use Rattle.std.proofs.lemmas.List.{replicate_more, drop-drop, drop_at, drop-append-le, drop-replicate, length-replicate, length-append}
use Rattle.mesa_store_spec.specs.Catalog.{Delta, empty_delta}
use Rattle.mesa_catalog_table.specs.declared.table.Loaded.{Loaded}
use Rattle.mesa_catalog_table.specs.Meaning.{AreLoaded, singles_from}

-- a version more that brought nothing
pub singles_next : (from next : ℕ) (loaded : List Loaded) → from ≤ next → AreLoaded from next loaded → singles_from from (next + 1) loaded ≡ singles_from from next loaded ++ empty_delta ∷ []
singles_next from next [] h are =
    let more : next + 1 - from ≡ (next - from) + 1 = omega arith in
    ap (λ n. replicate n empty_delta) more ∙ sym (replicate_more (next - from) empty_delta)
singles_next from next (l ∷ loaded) h are =
    let first = replicate (l.version - from) empty_delta in
    let below : l.version < next = are.1 in
    let rest = singles_next (l.version + 1) next loaded (omega arith) are.2 in
    ap (λ s. first ++ l.delta.value ∷ s) rest ∙ sym (append_assoc first (l.delta.value ∷ singles_from (l.version + 1) next loaded) (empty_delta ∷ []))

-- a version more that brought something
pub singles_pushed : (from next : ℕ) (loaded : List Loaded) (new : Loaded) → from ≤ next → AreLoaded from next loaded → new.version ≡ next → singles_from from (next + 1) (loaded ++ new ∷ []) ≡ singles_from from next loaded ++ new.delta.value ∷ []
singles_pushed from next [] new h are at =
    let none : next + 1 - (new.version + 1) ≡ 0 = omega arith in
    ap (λ n. replicate (new.version - from) empty_delta ++ new.delta.value ∷ replicate n empty_delta) none
    ∙ ap (λ n. replicate (n - from) empty_delta ++ new.delta.value ∷ []) at
singles_pushed from next (l ∷ loaded) new h are at =
    let first = replicate (l.version - from) empty_delta in
    let below : l.version < next = are.1 in
    let rest = singles_pushed (l.version + 1) next loaded new (omega arith) are.2 at in
    ap (λ s. first ++ l.delta.value ∷ s) rest ∙ sym (append_assoc first (l.delta.value ∷ singles_from (l.version + 1) next loaded) (new.delta.value ∷ []))

pub loaded_next : (from next : ℕ) (loaded : List Loaded) → AreLoaded from next loaded → AreLoaded from (next + 1) loaded
loaded_next from next [] are = tt
loaded_next from next (l ∷ loaded) are = let below = are.1 in (are.0, omega arith, loaded_next (l.version + 1) next loaded are.2)

pub loaded_pushed : (from next : ℕ) (loaded : List Loaded) (new : Loaded) → from ≤ next → AreLoaded from next loaded → new.version ≡ next → AreLoaded from (next + 1) (loaded ++ new ∷ [])
loaded_pushed from next [] new h are at = (omega arith, omega arith, tt)
loaded_pushed from next (l ∷ loaded) new h are at =
    let below : l.version < next = are.1 in
    (are.0, omega arith, loaded_pushed (l.version + 1) next loaded new (omega arith) are.2 at)

pub length-singles : (from next : ℕ) (loaded : List Loaded) → from ≤ next → AreLoaded from next loaded → length (singles_from from next loaded) ≡ next - from
length-singles from next [] h are = length-replicate (next - from) empty_delta
length-singles from next (l ∷ loaded) h are =
    let first = replicate (l.version - from) empty_delta in
    let lower : from ≤ l.version = are.0 in
    let below : l.version < next = are.1 in
    let rest = length-singles (l.version + 1) next loaded (omega arith) are.2 in
    let whole = length-append first (l.delta.value ∷ singles_from (l.version + 1) next loaded) in
    let count = length-replicate (l.version - from) empty_delta in
    omega arith

-- ---- behind a new base

-- what was loaded behind a version
abbrev pub behind : ℕ → List Loaded → List Loaded
behind to loaded = filter (λ (l : Loaded). nat_lt to l.version) loaded

behind_all : (to from next : ℕ) (loaded : List Loaded) → to < from → AreLoaded from next loaded → behind to loaded ≡ loaded
behind_all to from next [] h are = refl
behind_all to from next (l ∷ loaded) h are =
    let lower : from ≤ l.version = are.0 in
    let rest = behind_all to (l.version + 1) next loaded (omega arith) are.2 in
    grind (arith, nat_tests)

pub loaded_behind : (to from next : ℕ) (loaded : List Loaded) → AreLoaded from next loaded → AreLoaded (to + 1) next (behind to loaded)
loaded_behind to from next [] are = tt
loaded_behind to from next (l ∷ loaded) are =
    let Goal : Bool → Type 0 = λ b. nat_lt to l.version ≡ b → AreLoaded (to + 1) next (cond b (l ∷ behind to loaded) (behind to loaded)) in
    elim (nat_lt to l.version) as Goal [
      | true ↦ λ e.
          let late : to < l.version = grind (arith, nat_tests) in
          (omega arith, are.1, subst (AreLoaded (l.version + 1) next) (sym (behind_all to (l.version + 1) next loaded (omega arith) are.2)) are.2)
      | false ↦ λ e. loaded_behind to (l.version + 1) next loaded are.2
    ] refl

pub singles_dropped : (from to next : ℕ) (loaded : List Loaded) → from ≤ to + 1 → to < next → AreLoaded from next loaded → drop (to + 1 - from) (singles_from from next loaded) ≡ singles_from (to + 1) next (behind to loaded)
singles_dropped from to next [] h below are =
    let left : next - from - (to + 1 - from) ≡ next - (to + 1) = omega arith in
    drop-replicate (to + 1 - from) (next - from) empty_delta ∙ ap (λ n. replicate n empty_delta) left
singles_dropped from to next (l ∷ loaded) h below are =
    let first = replicate (l.version - from) empty_delta in
    let rest = singles_from (l.version + 1) next loaded in
    let lower : from ≤ l.version = are.0 in
    let Goal : Bool → Type 0 = λ b. nat_lt to l.version ≡ b → drop (to + 1 - from) (first ++ l.delta.value ∷ rest) ≡ singles_from (to + 1) next (cond b (l ∷ behind to loaded) (behind to loaded)) in
    elim (nat_lt to l.version) as Goal [
      | true ↦ λ e.
          let late : to < l.version = grind (arith, nat_tests) in
          let count = length-replicate (l.version - from) empty_delta in
          let left : l.version - from - (to + 1 - from) ≡ l.version - (to + 1) = omega arith in
          drop-append-le (to + 1 - from) first (l.delta.value ∷ rest) (omega arith)
          ∙ ap (λ s. s ++ l.delta.value ∷ rest) (drop-replicate (to + 1 - from) (l.version - from) empty_delta)
          ∙ ap (λ n. replicate n empty_delta ++ l.delta.value ∷ rest) left
          ∙ ap (λ ls. replicate (l.version - (to + 1)) empty_delta ++ l.delta.value ∷ singles_from (l.version + 1) next ls) (sym (behind_all to (l.version + 1) next loaded (omega arith) are.2))
      | false ↦ λ e.
          let early : l.version ≤ to = grind (arith, nat_tests) in
          let parts : to + 1 - from ≡ (l.version - from) + suc (to - l.version) = omega arith in
          let left : to - l.version ≡ to + 1 - (l.version + 1) = omega arith in
          ap (λ n. drop n (first ++ l.delta.value ∷ rest)) parts
          ∙ sym (drop-drop (suc (to - l.version)) (l.version - from) (first ++ l.delta.value ∷ rest))
          ∙ ap (drop (suc (to - l.version))) (drop_at first (l.delta.value ∷ rest) (l.version - from) (length-replicate (l.version - from) empty_delta))
          ∙ ap (λ n. drop n rest) left
          ∙ singles_dropped (l.version + 1) to next loaded (omega arith) below are.2
    ] refl

-- ---- what each version brought

pub empties_give : {X : Type 0} (f : Delta → List X) (n : ℕ) → f empty_delta ≡ [] → flat_map f (replicate n empty_delta) ≡ []
empties_give f zero e = refl
empties_give f (suc n) e = ap (λ xs. xs ++ flat_map f (replicate n empty_delta)) e ∙ empties_give f n e

pub flat_map-append : {X Y : Type 0} (f : X → List Y) (xs ys : List X) → flat_map f (xs ++ ys) ≡ flat_map f xs ++ flat_map f ys
flat_map-append f [] ys = refl
flat_map-append f (x ∷ xs) ys = ap (λ zs. f x ++ zs) (flat_map-append f xs ys) ∙ sym (append_assoc (f x) (flat_map f xs) (flat_map f ys))

-- only what was loaded gives anything
pub singles_give : {X : Type 0} (f : Delta → List X) (from next : ℕ) (loaded : List Loaded) → f empty_delta ≡ [] → flat_map f (singles_from from next loaded) ≡ flat_map (λ (l : Loaded). f l.delta.value) loaded
singles_give f from next [] e = empties_give f (next - from) e
singles_give f from next (l ∷ loaded) e =
    let first = replicate (l.version - from) empty_delta in
    flat_map-append f first (l.delta.value ∷ singles_from (l.version + 1) next loaded)
    ∙ ap (λ xs. xs ++ (f l.delta.value ++ flat_map f (singles_from (l.version + 1) next loaded))) (empties_give f (l.version - from) e)
    ∙ ap (λ xs. f l.delta.value ++ xs) (singles_give f (l.version + 1) next loaded e)
