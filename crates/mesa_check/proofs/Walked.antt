-- The ranges that are checked give what those that are held give: a version that brought nothing gives nothing.
use Rattle.std.proofs.Common.{◌≡◌, ℕ, zero, suc, ◌+◌, ◌-◌, ◌≤◌, ◌<◌, List, [], ◌∷◌, ◌++◌, map, take, drop, refl, sym, ◌∙◌, ap, arith, append_assoc, Bool, true, false, cond}
use Rattle.std.specs.List.{AllByRecursion}
use Rattle.std.specs.Prelude.{flat_map, option_map, replicate, ◌==◌}
use Rattle.std.proofs.lemmas.Bool.Decides.{nat_tests}
use Rattle.std.proofs.lemmas.List.{append-nil, take-append-drop}
use Rattle.mesa_store_spec.specs.Catalog.{Delta, Ending, empty_delta, start_in}
use Rattle.mesa_catalog_table.specs.declared.table.Loaded.{Loaded}
use Rattle.mesa_catalog_table.specs.declared.table.Table.{Table}
use Rattle.mesa_catalog_table.specs.Meaning.{AreLoaded, IsTable, ending_of, singles_from, start_of_base, meta_of, tens_from}
use Rattle.mesa_catalog_table.proofs.Named.{flat_map-map}
use Rattle.mesa_catalog_table.proofs.Singles.{flat_map-append}
use Rattle.mesa_pick_files.proofs.Lending.{start_held}
use Rattle.mesa_check.specs.Ranges.{Range, base_range, checked_ranges, cumulative_range, single_ranges}
use Rattle.mesa_check.specs.Ranges.{Single}
use Rattle.mesa_check.specs.Held.{firsts, held_ranges, loaded_range}

-- the range of a singleton
abbrev pub single : ℕ → Delta → Range
single v d = record { kind = Single; from = v; to = v; delta = d }

-- no version of these is this one
abbrev pub IsAbsent : ℕ → List Loaded → Type 0
IsAbsent v loaded = AllByRecursion (λ (l : Loaded). (l.version == v) ≡ false) loaded

-- a version before all of them
pub before_all : (v from next : ℕ) (loaded : List Loaded) → v < from → AreLoaded from next loaded → IsAbsent v loaded
before_all v from next [] h are = tt
before_all v from next (l ∷ loaded) h are =
    let low : from ≤ l.version = are.0 in
    let later : v < l.version = omega arith in
    (grind (arith, nat_tests), before_all v (l.version + 1) next loaded (omega arith) are.2)

module _ {X : Type 0} (f : Range → List X) where
  -- versions from one on that brought nothing give nothing
  abbrev pub GivesNone : ℕ → List Loaded → Type 0
  GivesNone from loaded = (v : ℕ) → from ≤ v → IsAbsent v loaded → f (single v empty_delta) ≡ []

  none_give : (v n : ℕ) (ds : List Delta) → ((u : ℕ) → v ≤ u → u < v + n → f (single u empty_delta) ≡ []) → flat_map f (single_ranges v (replicate n empty_delta ++ ds)) ≡ flat_map f (single_ranges (v + n) ds)
  none_give v zero ds none = let same : v ≡ v + 0 = omega arith in ap (λ w. flat_map f (single_ranges w ds)) same
  none_give v (suc n) ds none =
      let same : v + 1 + n ≡ v + suc n = omega arith in
      ap (λ xs. xs ++ flat_map f (single_ranges (v + 1) (replicate n empty_delta ++ ds))) (none v (omega arith) (omega arith))
      ∙ none_give (v + 1) n ds (λ u low high. none u (omega (arith, low)) (omega (arith, high))) ∙ ap (λ w. flat_map f (single_ranges w ds)) same

  -- those before the next that brought something
  gap_none : (from next : ℕ) (l : Loaded) (loaded : List Loaded) → AreLoaded from next (l ∷ loaded) → GivesNone from (l ∷ loaded) → (u : ℕ) → from ≤ u → u < l.version → f (single u empty_delta) ≡ []
  gap_none from next l loaded are none u low high = none u low (grind (arith, nat_tests), before_all u (l.version + 1) next loaded (omega (arith, high)) are.2)

  rest_none : (from : ℕ) (l : Loaded) (loaded : List Loaded) → from ≤ l.version → GivesNone from (l ∷ loaded) → GivesNone (l.version + 1) loaded
  rest_none from l loaded h none v low absent = none v (omega (arith, h, low)) (grind (arith, nat_tests), absent)

  -- only what was loaded gives anything
  pub ranges_give : (from next : ℕ) (loaded : List Loaded) → AreLoaded from next loaded → GivesNone from loaded → flat_map f (single_ranges from (singles_from from next loaded)) ≡ flat_map (λ (l : Loaded). f (loaded_range l)) loaded
  ranges_give from next [] are none = ap (λ ds. flat_map f (single_ranges from ds)) (sym (append-nil (replicate (next - from) empty_delta))) ∙ none_give from (next - from) [] (λ u low high. none u low tt)
  ranges_give from next (l ∷ loaded) are none =
      let low : from ≤ l.version = are.0 in
      let at : from + (l.version - from) ≡ l.version = omega arith in
      let rest = singles_from (l.version + 1) next loaded in
      none_give from (l.version - from) (l.delta.value ∷ rest) (λ u lower high. gap_none from next l loaded are none u lower (omega (arith, high, low)))
      ∙ ap (λ v. flat_map f (single_ranges v (l.delta.value ∷ rest))) at
      ∙ ap (λ xs. f (loaded_range l) ++ xs) (ranges_give (l.version + 1) next loaded are.2 (rest_none from l loaded low none))

  -- what the first version brought
  first_of_none : (start n : ℕ) → f (single start empty_delta) ≡ [] → flat_map f (take 1 (single_ranges start (replicate n empty_delta))) ≡ []
  first_of_none start zero none = refl
  first_of_none start (suc n) none = ap (λ xs. xs ++ []) none

  first_at : (start k : ℕ) (l : Loaded) (loaded : List Loaded) (rest : List Delta) (b : Bool) → l.version ≡ start + k → (l.version == start) ≡ b → (start < l.version → f (single start empty_delta) ≡ [])
      → flat_map f (take 1 (single_ranges start (replicate k empty_delta ++ l.delta.value ∷ rest))) ≡ flat_map (λ (x : Loaded). f (loaded_range x)) (take (cond b 1 0) (l ∷ loaded))
  first_at start zero l loaded rest true at is none = let same : start ≡ l.version = omega arith in ap (λ v. f (single v l.delta.value) ++ []) same
  first_at start zero l loaded rest false at is none = absurd (let same : l.version ≡ start = omega arith in grind (arith, nat_tests))
  first_at start (suc k) l loaded rest true at is none = absurd (let later : start < l.version = omega arith in grind (arith, nat_tests))
  first_at start (suc k) l loaded rest false at is none = ap (λ xs. xs ++ []) (none (omega (arith, at)))

  pub first_gives : (start next : ℕ) (loaded : List Loaded) → AreLoaded start next loaded → GivesNone start loaded
      → flat_map f (take 1 (single_ranges start (singles_from start next loaded))) ≡ flat_map (λ (l : Loaded). f (loaded_range l)) (take (firsts start loaded) loaded)
  first_gives start next [] are none = first_of_none start (next - start) (none start (omega arith) tt)
  first_gives start next (l ∷ loaded) are none =
      let low : start ≤ l.version = are.0 in
      first_at start (l.version - start) l loaded (singles_from (l.version + 1) next loaded) (l.version == start) (omega arith) refl (λ later. gap_none start next l loaded are none start (omega arith) later)

  -- and what the others did
  others_of_none : (start n : ℕ) → ((u : ℕ) → start ≤ u → f (single u empty_delta) ≡ []) → flat_map f (drop 1 (single_ranges start (replicate n empty_delta))) ≡ []
  others_of_none start zero none = refl
  others_of_none start (suc n) none = ap (λ ds. flat_map f (single_ranges (start + 1) ds)) (sym (append-nil (replicate n empty_delta))) ∙ none_give (start + 1) n [] (λ u low high. none u (omega (arith, low)))

  others_at : (start next k : ℕ) (l : Loaded) (loaded : List Loaded) (b : Bool) → l.version ≡ start + k → (l.version == start) ≡ b → AreLoaded start next (l ∷ loaded) → GivesNone start (l ∷ loaded)
      → flat_map f (drop 1 (single_ranges start (replicate k empty_delta ++ l.delta.value ∷ singles_from (l.version + 1) next loaded))) ≡ flat_map (λ (x : Loaded). f (loaded_range x)) (drop (cond b 1 0) (l ∷ loaded))
  others_at start next zero l loaded true at is are none =
      let same : start + 1 ≡ l.version + 1 = omega arith in
      ap (λ v. flat_map f (single_ranges v (singles_from (l.version + 1) next loaded))) same ∙ ranges_give (l.version + 1) next loaded are.2 (rest_none start l loaded are.0 none)
  others_at start next zero l loaded false at is are none = absurd (let same : l.version ≡ start = omega arith in grind (arith, nat_tests))
  others_at start next (suc k) l loaded true at is are none = absurd (let later : start < l.version = omega arith in grind (arith, nat_tests))
  others_at start next (suc k) l loaded false at is are none =
      let rest = singles_from (l.version + 1) next loaded in
      let same : start + 1 + k ≡ l.version = omega arith in
      none_give (start + 1) k (l.delta.value ∷ rest) (λ u low high. gap_none start next l loaded are none u (omega (arith, low)) (omega (arith, high, same)))
      ∙ ap (λ v. flat_map f (single_ranges v (l.delta.value ∷ rest))) same
      ∙ ap (λ xs. f (loaded_range l) ++ xs) (ranges_give (l.version + 1) next loaded are.2 (rest_none start l loaded are.0 none))

  pub others_give : (start next : ℕ) (loaded : List Loaded) → AreLoaded start next loaded → GivesNone start loaded
      → flat_map f (drop 1 (single_ranges start (singles_from start next loaded))) ≡ flat_map (λ (l : Loaded). f (loaded_range l)) (drop (firsts start loaded) loaded)
  others_give start next [] are none = others_of_none start (next - start) (λ u low. none u low tt)
  others_give start next (l ∷ loaded) are none =
      let low : start ≤ l.version = are.0 in
      others_at start next (l.version - start) l loaded (l.version == start) (omega arith) refl are none

-- four lists, one behind the other
pub four : {X Y : Type 0} (f : X → List Y) (ws bs cs ds : List X) → flat_map f (ws ++ (bs ++ (cs ++ ds))) ≡ flat_map f ws ++ (flat_map f bs ++ (flat_map f cs ++ flat_map f ds))
four f ws bs cs ds =
    flat_map-append f ws (bs ++ (cs ++ ds)) ∙ ap (λ xs. flat_map f ws ++ xs) (flat_map-append f bs (cs ++ ds) ∙ ap (λ xs. flat_map f bs ++ xs) (flat_map-append f cs ds))

-- The checked ranges of a table give what its held ones do.
pub checked_held : {X : Type 0} (f : Range → List X) (next : ℕ) (t : Table) → IsTable next t → GivesNone f (start_of_base t.base) t.loaded.items → flat_map f (checked_ranges (meta_of next t)) ≡ flat_map f (held_ranges t)
checked_held f next t is none =
    let u = meta_of next t in
    let start = start_of_base t.base in
    let loaded = t.loaded.items in
    let c = firsts start loaded in
    let parts = λ (s : ℕ). flat_map f (base_range u.base) ++ (flat_map f (take 1 (single_ranges s u.singles)) ++ (flat_map f (map (cumulative_range s) u.cumulatives) ++ flat_map f (drop 1 (single_ranges s u.singles)))) in
    let first = first_gives f start next loaded is.loaded none ∙ sym (flat_map-map f loaded_range (take c loaded)) in
    let others = others_give f start next loaded is.loaded none ∙ sym (flat_map-map f loaded_range (drop c loaded)) in
    four f (base_range u.base) (take 1 (single_ranges (start_in u) u.singles)) (map (cumulative_range (start_in u)) u.cumulatives) (drop 1 (single_ranges (start_in u) u.singles))
    ∙ ap parts (start_held next t)
    ∙ (λ i. flat_map f (base_range u.base) ++ (first i ++ (flat_map f (map (cumulative_range start) u.cumulatives) ++ others i)))
    ∙ sym (four f (base_range u.base) (map loaded_range (take c loaded)) (map (cumulative_range start) u.cumulatives) (map loaded_range (drop c loaded)))

-- where cumulatives give nothing, the base and what was loaded do
module _ {X : Type 0} (f : Range → List X) (none : (s : ℕ) (e : Ending) → f (cumulative_range s e) ≡ []) where
  cumulatives_give : (s : ℕ) (es : List Ending) → flat_map f (map (cumulative_range s) es) ≡ []
  cumulatives_give s [] = refl
  cumulatives_give s (e ∷ es) = ap (λ xs. xs ++ flat_map f (map (cumulative_range s) es)) (none s e) ∙ cumulatives_give s es

  pub held_give : (t : Table) → flat_map f (held_ranges t) ≡ flat_map f (base_range (option_map ending_of t.base)) ++ flat_map (λ (l : Loaded). f (loaded_range l)) t.loaded.items
  held_give t =
      let start = start_of_base t.base in
      let loaded = t.loaded.items in
      let c = firsts start loaded in
      let base = flat_map f (base_range (option_map ending_of t.base)) in
      let g = λ (l : Loaded). f (loaded_range l) in
      four f (base_range (option_map ending_of t.base)) (map loaded_range (take c loaded)) (map (cumulative_range start) (tens_from start t.cumulatives.items)) (map loaded_range (drop c loaded))
      ∙ (λ i. base ++ (flat_map-map f loaded_range (take c loaded) i ++ (cumulatives_give start (tens_from start t.cumulatives.items) i ++ flat_map-map f loaded_range (drop c loaded) i)))
      ∙ ap (λ xs. base ++ xs) (sym (flat_map-append g (take c loaded) (drop c loaded)) ∙ ap (flat_map g) (take-append-drop c loaded))

-- lists pushed one behind the other
pub pushed_four : {X : Type 0} (a b c d xs ys zs ws : List X) → xs ≡ [] ++ a → ys ≡ xs ++ b → zs ≡ ys ++ c → ws ≡ zs ++ d → ws ≡ a ++ (b ++ (c ++ d))
pushed_four a b c d xs ys zs ws first second third fourth =
    fourth ∙ ap (λ l. l ++ d) (third ∙ ap (λ l. l ++ c) (second ∙ ap (λ l. l ++ b) first)) ∙ append_assoc (a ++ b) c d ∙ append_assoc a b (c ++ d)
