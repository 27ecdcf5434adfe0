-- What a table names is what is held.
use Rattle.std.proofs.Common.{◌≡◌, ℕ, zero, suc, ◌+◌, ◌-◌, ◌≤◌, ◌<◌, List, [], ◌∷◌, ◌++◌, length, map, take, refl, sym, ◌∙◌, ap, arith, Bool, true, false, cond}
use Rattle.std.specs.Prelude.{◌==◌, ◌||◌, Option, Some, None, option_map, flat_map, replicate, nat_le}
use Rattle.std.specs.List.{list_any}
use Rattle.std.specs.declared.alloc.Global.{Global}
use Rattle.std.specs.declared.sync.Arc.{Arc}
use Rattle.std.proofs.lemmas.Bool.Decides.{nat_tests}
use Rattle.std.proofs.lemmas.List.{append-nil, length-replicate, take-append-le}
use Rattle.mesa_schema.specs.Changes.{Lineage}
use Rattle.mesa_record.specs.declared.record.Files.{Files}
use Rattle.mesa_record.specs.declared.record.ViewRef.{ViewRef}
use Rattle.mesa_store_spec.specs.Catalog.{Delta, empty_delta}
use Rattle.mesa_store_spec.specs.Fitting.{base_deltas, delta_in, delta_live, deltas_of, files_live, has_number, live_id, meta_live, view_live}
use Rattle.mesa_catalog_table.specs.declared.table.Base.{Base}
use Rattle.mesa_catalog_table.specs.declared.table.Loaded.{Loaded}
use Rattle.mesa_catalog_table.specs.declared.table.Table.{Table}
use Rattle.mesa_catalog_table.specs.Meaning.{AreLoaded, ending_of, singles_from, start_of_base, meta_of}
use Rattle.mesa_catalog_table.specs.Files.{recorded_of, recorded_shared, recorded_single}
use Rattle.mesa_catalog_table.specs.Named.{base_ids, delta_ids, ids_if_any, shared_ids, single_ids, table_ids, through, view_id}
use Rattle.mesa_catalog_table.proofs.Singles.{empties_give, flat_map-append, singles_give}
use Rattle.mesa_catalog_table.proofs.Tens.{tens_deltas}

-- ---- lists of lists

pub map-flat_map : {X Y Z : Type 0} (f : Y → Z) (g : X → List Y) (xs : List X) → map f (flat_map g xs) ≡ flat_map (λ x. map f (g x)) xs
map-flat_map f g [] = refl
map-flat_map {Y = Y} f g (x ∷ xs) = map-joined (g x) (flat_map g xs) ∙ ap (λ zs. map f (g x) ++ zs) (map-flat_map f g xs)
  where
    map-joined : (ys zs : List Y) → map f (ys ++ zs) ≡ map f ys ++ map f zs
    map-joined [] zs = refl
    map-joined (y ∷ ys) zs = ap (λ ws. f y ∷ ws) (map-joined ys zs)

pub flat_map-map : {X Y Z : Type 0} (f : Y → List Z) (g : X → Y) (xs : List X) → flat_map f (map g xs) ≡ flat_map (λ x. f (g x)) xs
flat_map-map f g [] = refl
flat_map-map f g (x ∷ xs) = ap (λ zs. f (g x) ++ zs) (flat_map-map f g xs)

pub flat_map-same : {X Y : Type 0} (f g : X → List Y) (xs : List X) → ((x : X) → f x ≡ g x) → flat_map f xs ≡ flat_map g xs
flat_map-same f g [] e = refl
flat_map-same f g (x ∷ xs) e = λ i. e x i ++ flat_map-same f g xs e i

-- ---- the files of a table

views_ids : (l : Lineage) (views : List ViewRef) → map live_id (map (view_live l) views) ≡ map view_id views
views_ids l [] = refl
views_ids l (v ∷ views) = ap (λ ids. view_id v ∷ ids) (views_ids l views)

pub files_ids : (l : Lineage) (epoch : ℕ) (files : Option Files) → map live_id (files_live l epoch files) ≡ ids_if_any files
files_ids l epoch None = refl
files_ids l epoch (Some f) = ap (λ ids. f.file.id ∷ ids) (views_ids l f.views)

-- what a table's deltas give is what the ones that are held give
pub deltas_give : {X : Type 0} (f : Delta → List X) (next : ℕ) (t : Table) → f empty_delta ≡ []
    → flat_map f (deltas_of (meta_of next t)) ≡ flat_map f (base_deltas (option_map ending_of t.base)) ++ (flat_map (λ (d : Arc Delta Global). f d.value) t.cumulatives.items ++ flat_map (λ (l : Loaded). f l.delta.value) t.loaded.items)
deltas_give f next t e =
    let u = meta_of next t in
    let start = start_of_base t.base in
    let singles = singles_from start next t.loaded.items in
    let cumulatives = flat_map-map f (λ (d : Arc Delta Global). d.value) t.cumulatives.items in
    flat_map-append f (base_deltas u.base) (map delta_in u.cumulatives ++ singles)
    ∙ (λ i. flat_map f (base_deltas u.base) ++ flat_map-append f (map delta_in u.cumulatives) singles i)
    ∙ (λ i. flat_map f (base_deltas u.base) ++ ((ap (flat_map f) (tens_deltas start t.cumulatives.items) ∙ cumulatives) i ++ singles_give f start next t.loaded.items e i))

pub base_held : (b : Option Base) → flat_map delta_ids (base_deltas (option_map ending_of b)) ≡ base_ids b
base_held None = refl
base_held (Some b) = elim (b.delta) as (λ d. flat_map delta_ids (base_deltas (Some (ending_of (record b { delta = d })))) ≡ base_ids (Some (record b { delta = d }))) [ None ↦ refl | Some d ↦ append-nil (shared_ids d) ]

-- the ids of the files that a table names
pub table_held : (next : ℕ) (t : Table) → map live_id (meta_live (meta_of next t)) ≡ table_ids t
table_held next t =
    let u = meta_of next t in
    map-flat_map live_id (delta_live u.lineage) (deltas_of u)
    ∙ flat_map-same _ delta_ids (deltas_of u) (λ d. files_ids u.lineage d.epoch d.files)
    ∙ deltas_give delta_ids next t refl
    ∙ (λ i. base_held t.base i ++ (flat_map shared_ids t.cumulatives.items ++ flat_map single_ids t.loaded.items))

-- ---- tests of ids

any-append : {X : Type 0} (p : X → Bool) (xs ys : List X) → list_any p (xs ++ ys) ≡ (list_any p xs || list_any p ys)
any-append p [] ys = refl
any-append p (x ∷ xs) ys = elim (p x) as (λ b. (b || list_any p (xs ++ ys)) ≡ (b || list_any p xs || list_any p ys)) [ true ↦ refl | false ↦ any-append p xs ys ]

any-flat_map : {X Y : Type 0} (p : Y → Bool) (f : X → List Y) (xs : List X) → list_any p (flat_map f xs) ≡ list_any (λ x. list_any p (f x)) xs
any-flat_map p f [] = refl
any-flat_map p f (x ∷ xs) = any-append p (f x) (flat_map f xs) ∙ ap (λ r. list_any p (f x) || r) (any-flat_map p f xs)

pub any-map : {X Y : Type 0} (p : Y → Bool) (f : X → Y) (xs : List X) → list_any p (map f xs) ≡ list_any (λ x. p (f x)) xs
any-map p f [] = refl
any-map p f (x ∷ xs) = ap (λ r. p (f x) || r) (any-map p f xs)

-- an id of a table is one of its base, of a cumulative or of a singleton
pub has_in_table : (id : ℕ) (t : Table) → has_number id (table_ids t) ≡ (has_number id (base_ids t.base) || (list_any (λ d. has_number id (shared_ids d)) t.cumulatives.items || list_any (λ l. has_number id (single_ids l)) t.loaded.items))
has_in_table id t =
    let p : ℕ → Bool = λ n. id == n in
    any-append p (base_ids t.base) (flat_map shared_ids t.cumulatives.items ++ flat_map single_ids t.loaded.items)
    ∙ ap (λ r. has_number id (base_ids t.base) || r) (any-append p (flat_map shared_ids t.cumulatives.items) (flat_map single_ids t.loaded.items)
    ∙ (λ i. any-flat_map p shared_ids t.cumulatives.items i || any-flat_map p single_ids t.loaded.items i))

-- ---- what is recorded of files

pub recorded_held : (next : ℕ) (t : Table) → map recorded_of (meta_live (meta_of next t))
    ≡ map recorded_of (flat_map (delta_live t.evolving.value) (base_deltas (option_map ending_of t.base))) ++ (flat_map (recorded_shared t.evolving.value) t.cumulatives.items ++ flat_map (recorded_single t.evolving.value) t.loaded.items)
recorded_held next t =
    let l = t.evolving.value in
    let rest = flat_map (recorded_shared l) t.cumulatives.items ++ flat_map (recorded_single l) t.loaded.items in
    map-flat_map recorded_of (delta_live l) (deltas_of (meta_of next t))
    ∙ deltas_give (λ d. map recorded_of (delta_live l d)) next t refl
    ∙ ap (λ xs. xs ++ rest) (sym (map-flat_map recorded_of (delta_live l) (base_deltas (option_map ending_of t.base))))

-- ---- up to a version

some_empties_give : {X : Type 0} (f : Delta → List X) (k n : ℕ) → f empty_delta ≡ [] → flat_map f (take k (replicate n empty_delta)) ≡ []
some_empties_give f zero zero e = refl
some_empties_give f zero (suc n) e = refl
some_empties_give f (suc k) zero e = refl
some_empties_give f (suc k) (suc n) e = ap (λ xs. xs ++ flat_map f (take k (replicate n empty_delta))) e ∙ some_empties_give f k n e

none_through : (to from next : ℕ) (loaded : List Loaded) → to < from → AreLoaded from next loaded → through to loaded ≡ []
none_through to from next [] h are = refl
none_through to from next (l ∷ loaded) h are =
    let lower : from ≤ l.version = are.0 in
    let late : nat_le l.version to ≡ false = grind (arith, nat_tests) in
    ap (λ b. cond b (l ∷ through to loaded) (through to loaded)) late ∙ none_through to (l.version + 1) next loaded (omega arith) are.2

-- all that was loaded was so before the next version
pub all_through : (to from next : ℕ) (loaded : List Loaded) → next ≤ to + 1 → AreLoaded from next loaded → through to loaded ≡ loaded
all_through to from next [] h are = refl
all_through to from next (l ∷ loaded) h are =
    let below : l.version < next = are.1 in
    let early : nat_le l.version to ≡ true = grind (arith, nat_tests) in
    ap (λ b. cond b (l ∷ through to loaded) (through to loaded)) early ∙ ap (λ ls. l ∷ ls) (all_through to (l.version + 1) next loaded h are.2)

take_past : {X : Type 0} (k m : ℕ) (xs ys : List X) → length xs ≡ m → take (m + k) (xs ++ ys) ≡ xs ++ take k ys
take_past k m [] ys e = let none : m + k ≡ k = (let z : 0 ≡ m = e in omega arith) in ap (λ n. take n ys) none
take_past k m (x ∷ xs) ys e =
    let count : m + k ≡ suc (length xs + k) = omega arith in
    ap (λ n. take n (x ∷ xs ++ ys)) count ∙ ap (λ zs. x ∷ zs) (take_past k (length xs) xs ys refl)

-- of the singletons up to a version only those that were loaded give anything
pub singles_through : {X : Type 0} (f : Delta → List X) (from to next : ℕ) (loaded : List Loaded) → f empty_delta ≡ [] → AreLoaded from next loaded
    → flat_map f (take (to + 1 - from) (singles_from from next loaded)) ≡ flat_map (λ (l : Loaded). f l.delta.value) (through to loaded)
singles_through f from to next [] e are = some_empties_give f (to + 1 - from) (next - from) e
singles_through f from to next (l ∷ loaded) e are =
    let first = replicate (l.version - from) empty_delta in
    let d = l.delta.value in
    let rest = singles_from (l.version + 1) next loaded in
    let lower : from ≤ l.version = are.0 in
    let count = length-replicate (l.version - from) empty_delta in
    let Goal : Bool → Type 0 = λ b. nat_le l.version to ≡ b → flat_map f (take (to + 1 - from) (first ++ d ∷ rest)) ≡ flat_map (λ (k : Loaded). f k.delta.value) (cond b (l ∷ through to loaded) (through to loaded)) in
    elim (nat_le l.version to) as Goal [
      | true ↦ λ is.
          let early : l.version ≤ to = grind (arith, nat_tests) in
          let parts : to + 1 - from ≡ (l.version - from) + suc (to - l.version) = omega arith in
          let left : to - l.version ≡ to + 1 - (l.version + 1) = omega arith in
          ap (λ n. flat_map f (take n (first ++ d ∷ rest))) parts
          ∙ ap (flat_map f) (take_past (suc (to - l.version)) (l.version - from) first (d ∷ rest) count)
          ∙ flat_map-append f first (d ∷ take (to - l.version) rest)
          ∙ ap (λ xs. xs ++ (f d ++ flat_map f (take (to - l.version) rest))) (empties_give f (l.version - from) e)
          ∙ ap (λ n. f d ++ flat_map f (take n rest)) left
          ∙ ap (λ xs. f d ++ xs) (singles_through f (l.version + 1) to next loaded e are.2)
      | false ↦ λ is.
          let late : to < l.version = grind (arith, nat_tests) in
          ap (flat_map f) (take-append-le (to + 1 - from) first (d ∷ rest) (omega arith))
          ∙ some_empties_give f (to + 1 - from) (l.version - from) e
          ∙ ap (flat_map (λ (k : Loaded). f k.delta.value)) (sym (none_through to (l.version + 1) next loaded (omega arith) are.2))
    ] refl
