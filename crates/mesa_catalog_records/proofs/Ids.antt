-- Ids of files: what is named is what is held, and which ids are new.
use Rattle.std.proofs.Common.{◌≡◌, ℕ, ◌+◌, ◌≤◌, ◌<◌, List, [], ◌∷◌, ◌++◌, length, map, take, get_or, refl, sym, ◌∙◌, ap, subst, arith, Bool, true, false, cond}
use Rattle.std.specs.Prelude.{◌==◌, ◌&&◌, ◌||◌, ◌-◌, ◌^◌, count_by, min, not, flat_map, replicate, Option, Some, None, option_map, IfSome, is_some}
use Rattle.std.specs.List.{AllByRecursion, list_all, list_any}
use Rattle.std.proofs.lemmas.Bool.Decides.{nat_tests}
use Rattle.std.proofs.lemmas.List.Sums.{sum_by-append, sum_by-cons}
use Rattle.std.proofs.lemmas.List.{append-nil}
use Rattle.mesa_schema.specs.Changes.{Lineage}
use Rattle.mesa_schema.specs.Recasts.{recast_lineage}
use Rattle.mesa_table_records.specs.mesa_record.declared.checkpoint.CheckpointSingle.{CheckpointSingle}
use Rattle.mesa_table_records.specs.mesa_record.declared.recasting.RecastBase.{RecastBase}
use Rattle.mesa_table_records.specs.mesa_record.declared.recasting.Recasting.{Recasting}
use Rattle.mesa_table_records.specs.mesa_record.declared.record.Files.{Files}
use Rattle.mesa_table_records.specs.mesa_record.declared.record.Part.{Part}
use Rattle.mesa_table_records.specs.mesa_record.declared.record.Record.{Record}
use Rattle.mesa_table_records.specs.mesa_record.declared.record.Record.TheVariants as record_of
use Rattle.mesa_table_records.specs.mesa_store_spec.Catalog.{Catalog, base_recast, base_told, empty_delta, recast_in, single_stated, singles_stated, singles_told, start_in, meta_at}
use Rattle.mesa_table_records.specs.mesa_store_spec.Fitting.{are_new_ids, base_deltas, brings_new_files, brought, delta_own, has_number, own_live, part_live, recast_live, run_of_id, live_id, meta_live}
use Rattle.mesa_table_records.specs.mesa_store_spec.Ids.{named, times}
use Rattle.mesa_table_records.specs.mesa_catalog_table.Named.{own_ids, own_if_any, table_ids}
use Rattle.mesa_table_records.specs.mesa_catalog_table.Meaning.{meta_of}
use Rattle.mesa_table_records.proofs.mesa_catalog_table.Named.{files_ids, flat_map-map, flat_map-same, map-flat_map, table_held}
use Rattle.mesa_table_records.proofs.mesa_catalog_table.Pushes.{pushed_more, pushed_one}
use Rattle.mesa_table_records.proofs.mesa_catalog_table.Singles.{empties_give, flat_map-append}
use Rattle.mesa_catalog_records.specs.declared.catalog_tables.CatalogTables.{CatalogTables}
use Rattle.mesa_catalog_records.specs.Meaning.{catalogue_of}
use Rattle.mesa_catalog_records.specs.Named.{RiseTo, held_ids, ids_brought, is_once_new, part_ids, recast_base_ids, recast_ids, told_id}

-- ---- what is named and brought

-- what is named is what is held
pub named_held : (s : CatalogTables) → named (catalogue_of s) ≡ held_ids s
named_held s =
    map-flat_map live_id meta_live (map (meta_of s.next) s.tables.items)
    ∙ flat_map-map (λ t. map live_id (meta_live t)) (meta_of s.next) s.tables.items
    ∙ flat_map-same _ table_ids s.tables.items (table_held s.next)

parts_bring : (c : Catalog) (parts : List Part) → map live_id (flat_map (part_live c) parts) ≡ flat_map part_ids parts
parts_bring c parts = map-flat_map live_id (part_live c) parts ∙ flat_map-same _ part_ids parts (λ p. files_ids (meta_at c p.table).lineage p.epoch (Some p.files))

-- ---- what a recast brings

ids_of_own : (l : Lineage) (epoch : ℕ) (files : Option Files) → map live_id (own_live l epoch files) ≡ own_if_any files
ids_of_own l epoch None = refl
ids_of_own l epoch (Some f) = refl

base_brings : (epoch : ℕ) (b : Option RecastBase) → flat_map own_ids (base_deltas (option_map (base_recast epoch) b)) ≡ recast_base_ids b
base_brings epoch None = refl
base_brings epoch (Some b) = append-nil (own_if_any b.files)

-- versions that are told bring a file each, and those of which nothing is told none
singles_bring : (from next : ℕ) (ss : List CheckpointSingle) → flat_map own_ids (singles_stated from next ss) ≡ map told_id ss
singles_bring from next [] = empties_give own_ids (next - from) refl
singles_bring from next (s ∷ ss) =
    flat_map-append own_ids (replicate (s.version - from) empty_delta) (single_stated s ∷ singles_stated (s.version + 1) next ss)
    ∙ (λ i. empties_give own_ids (s.version - from) refl i ++ (told_id s ∷ singles_bring (s.version + 1) next ss i))

recasts_bring : (c : Catalog) (k : Recasting) → map live_id (recast_live c k) ≡ recast_ids k
recasts_bring c k =
    let l = recast_lineage (meta_at c k.table).lineage (recast_in k) in
    let singles = singles_told c.next (meta_at c k.table) k in
    map-flat_map live_id (delta_own l) (base_deltas (base_told k) ++ singles)
    ∙ flat_map-same _ own_ids (base_deltas (base_told k) ++ singles) (λ d. ids_of_own l d.epoch d.files)
    ∙ flat_map-append own_ids (base_deltas (base_told k)) singles
    ∙ (λ i. base_brings k.epoch k.base i ++ singles_bring (start_in (meta_at c k.table)) c.next k.singles i)

-- what a record brings has the same ids, whatever the catalogue
pub ids_bring : (c : Catalog) (r : Record) → map live_id (brought c r) ≡ ids_brought r
ids_bring c (record_of.Run number) = refl
ids_bring c (record_of.Table name keys values) = refl
ids_bring c (record_of.View table name keys values) = refl
ids_bring c (record_of.Alter table change) = refl
ids_bring c (record_of.Publish version parts) = parts_bring c parts
ids_bring c (record_of.Swap table base from to epoch files) = files_ids (meta_at c table).lineage epoch files
ids_bring c (record_of.Expire version) = refl
ids_bring c (record_of.ExpireTable table version) = refl
ids_bring c (record_of.Checkpoint k) = refl
ids_bring c (record_of.Recast k) = recasts_bring c k

-- the test of new files, by what is held
pub brings_held : (s : CatalogTables) (r : Record) → are_new_ids s.run (held_ids s) (ids_brought r) ≡ brings_new_files (catalogue_of s) r
brings_held s r = λ i. are_new_ids s.run (sym (named_held s) i) (sym (ids_bring (catalogue_of s) r) i)

-- ---- new ids, one after another and each by itself

pub times_cons : (id n : ℕ) (ns : List ℕ) → times id (n ∷ ns) ≡ cond (id == n) 1 0 + times id ns
times_cons id n ns = sum_by-cons (λ m. cond (id == m) 1 0) n ns

pub times_append : (id : ℕ) (xs ys : List ℕ) → times id (xs ++ ys) ≡ times id xs + times id ys
times_append id xs ys = sum_by-append (λ n. cond (id == n) 1 0) xs ys

pub times_mapped : {X : Type 0} (id : ℕ) (f : X → ℕ) (xs : List X) → times id (map f xs) ≡ count_by (λ x. id == f x) xs
times_mapped id f [] = refl
times_mapped id f (x ∷ xs) = times_cons id (f x) (map f xs) ∙ ap (λ n. cond (id == f x) 1 0 + n) (times_mapped id f xs) ∙ sym (sum_by-cons (λ y. cond (id == f y) 1 0) x xs)

-- where a number isn't among the ids, it doesn't matter that it is taken
same_tests : (run x : ℕ) (taken all ids : List ℕ) → times x ids ≡ 0 → list_all (is_once_new run (x ∷ taken) all) ids ≡ list_all (is_once_new run taken (x ∷ all)) ids
same_tests run x taken all [] none = refl
same_tests run x taken all (id ∷ ids) none =
    let split = times_cons x id ids in
    let other : (x == id) ≡ false = grind (arith, nat_tests) in
    let away : (id == x) ≡ false = grind (arith, nat_tests) in
    let rest : times x ids ≡ 0 = omega arith in
    let count : times id (x ∷ all) ≡ times id all = times_cons id x all ∙ ap (λ b. cond b 1 0 + times id all) away ∙ omega arith in
    (λ i. ((run_of_id id == run) && not (away i || has_number id taken) && (sym count i == 1)) && same_tests run x taken all ids rest i)

-- where a number is among the ids, it can't be taken
one_taken : (run x : ℕ) (taken all ids : List ℕ) → 0 < times x ids → list_all (is_once_new run (x ∷ taken) all) ids ≡ false
one_taken run x taken all [] some = absurd (omega arith)
one_taken run x taken all (id ∷ ids) some =
    elim (id == x) as (λ b. id == x ≡ b → (((run_of_id id == run) && not (b || has_number id taken) && (times id all == 1)) && list_all (is_once_new run (x ∷ taken) all) ids) ≡ false) [
      | true ↦ λ e. no_middle (run_of_id id == run) (times id all == 1) (list_all (is_once_new run (x ∷ taken) all) ids)
      | false ↦ λ e.
          let split = times_cons x id ids in
          let other : (x == id) ≡ false = grind (arith, nat_tests) in
          let more : 0 < times x ids = grind (arith, nat_tests) in
          ap (λ r. ((run_of_id id == run) && not (has_number id taken) && (times id all == 1)) && r) (one_taken run x taken all ids more) ∙ no_last ((run_of_id id == run) && not (has_number id taken) && (times id all == 1))
    ] refl
  where
    no_last : (a : Bool) → (a && false) ≡ false
    no_last true = refl
    no_last false = refl

    no_middle : (a b r : Bool) → ((a && false && b) && r) ≡ false
    no_middle true b r = refl
    no_middle false b r = refl

-- Ids are new one after another where each is new, and stands once among them.
pub new_each : (run : ℕ) (taken ids : List ℕ) → are_new_ids run taken ids ≡ list_all (is_once_new run taken ids) ids
new_each run taken [] = refl
new_each run taken (x ∷ ids) =
    let good = run_of_id x == run in
    let free = not (has_number x taken) in
    let count = times_cons x x ids in
    let itself : (x == x) ≡ true = grind (arith, nat_tests) in
    let more : times x (x ∷ ids) ≡ 1 + times x ids = count ∙ ap (λ b. cond b 1 0 + times x ids) itself in
    ap (λ r. good && free && r) (new_each run (x ∷ taken) ids)
    ∙ elim (times x ids == 0) as (λ b. times x ids == 0 ≡ b → (good && free && list_all (is_once_new run (x ∷ taken) ids) ids) ≡ ((good && free && (times x (x ∷ ids) == 1)) && list_all (is_once_new run taken (x ∷ ids)) ids)) [
      | true ↦ λ e.
          let none : times x ids ≡ 0 = grind (arith, nat_tests) in
          let once : (times x (x ∷ ids) == 1) ≡ true = grind (arith, nat_tests) in
          ap (λ r. good && free && r) (same_tests run x taken ids ids none)
          ∙ grouped good free (list_all (is_once_new run taken (x ∷ ids)) ids)
          ∙ ap (λ b. (good && free && b) && list_all (is_once_new run taken (x ∷ ids)) ids) (sym once)
      | false ↦ λ e.
          let some : 0 < times x ids = grind (arith, nat_tests) in
          let twice : (times x (x ∷ ids) == 1) ≡ false = grind (arith, nat_tests) in
          ap (λ r. good && free && r) (one_taken run x taken ids ids some)
          ∙ neither good free (list_all (is_once_new run taken (x ∷ ids)) ids)
          ∙ ap (λ b. (good && free && b) && list_all (is_once_new run taken (x ∷ ids)) ids) (sym twice)
    ] refl
  where
    grouped : (a b r : Bool) → (a && b && r) ≡ ((a && b && true) && r)
    grouped true true r = refl
    grouped true false r = refl
    grouped false b r = refl

    neither : (a b r : Bool) → (a && b && false) ≡ ((a && b && false) && r)
    neither true true r = refl
    neither true false r = refl
    neither false b r = refl

-- ---- tests over lists of lists

pub all-flat_map : {X Y : Type 0} (p : Y → Bool) (f : X → List Y) (xs : List X) → list_all p (flat_map f xs) ≡ list_all (λ x. list_all p (f x)) xs
all-flat_map p f [] = refl
all-flat_map {Y = Y} p f (x ∷ xs) = all-append (f x) (flat_map f xs) ∙ ap (λ r. list_all p (f x) && r) (all-flat_map p f xs)
  where
    all-append : (ys zs : List Y) → list_all p (ys ++ zs) ≡ (list_all p ys && list_all p zs)
    all-append [] zs = refl
    all-append (y ∷ ys) zs = elim (p y) as (λ b. (b && list_all p (ys ++ zs)) ≡ (b && list_all p ys && list_all p zs)) [ true ↦ all-append ys zs | false ↦ refl ]

pub all-map : {X Y : Type 0} (p : Y → Bool) (f : X → Y) (xs : List X) → list_all p (map f xs) ≡ list_all (λ x. p (f x)) xs
all-map p f [] = refl
all-map p f (x ∷ xs) = ap (λ r. p (f x) && r) (all-map p f xs)

any-append : {X : Type 0} (p : X → Bool) (xs ys : List X) → list_any p (xs ++ ys) ≡ (list_any p xs || list_any p ys)
any-append p [] ys = refl
any-append p (x ∷ xs) ys = elim (p x) as (λ b. (b || list_any p (xs ++ ys)) ≡ (b || list_any p xs || list_any p ys)) [ true ↦ refl | false ↦ any-append p xs ys ]

pub any-flat_map : {X Y : Type 0} (p : Y → Bool) (f : X → List Y) (xs : List X) → list_any p (flat_map f xs) ≡ list_any (λ x. list_any p (f x)) xs
any-flat_map p f [] = refl
any-flat_map p f (x ∷ xs) = any-append p (f x) (flat_map f xs) ∙ ap (λ r. list_any p (f x) || r) (any-flat_map p f xs)

-- an id that is taken isn't new
pub taken_not_new : (run : ℕ) (taken ids : List ℕ) (id : ℕ) → has_number id taken ≡ true → false ≡ is_once_new run taken ids id
taken_not_new run taken ids id has =
    sym (ap (λ h. (run_of_id id == run) && not h && (times id ids == 1)) has
    ∙ elim (run_of_id id == run) as (λ a. (a && false && (times id ids == 1)) ≡ false) [ true ↦ refl | false ↦ refl ])

one_of_most : (t m : ℕ) → m ≡ min (2 ^ 64 - 1) t → (m == 1) ≡ (t == 1)
one_of_most t m e =
    elim (t == 1) as (λ b. t == 1 ≡ b → (m == 1) ≡ b) [
      | true ↦ λ is. grind (arith, nat_tests)
      | false ↦ λ is. grind (arith, nat_tests)
    ] refl

-- and one that is free is, where it stands once
pub free_is_new : (run : ℕ) (taken ids : List ℕ) (id m : ℕ) → (run_of_id id == run) ≡ true → has_number id taken ≡ false → m ≡ min (2 ^ 64 - 1) (times id ids) → (m == 1) ≡ is_once_new run taken ids id
free_is_new run taken ids id m own free e = one_of_most (times id ids) m e ∙ (λ i. sym own i && not (sym free i) && (times id ids == 1))

-- ---- ids that rise

-- at most a greater number
pub all_below : (a b : ℕ) (ns : List ℕ) → a ≤ b → AllByRecursion (λ n. n ≤ a) ns → AllByRecursion (λ n. n ≤ b) ns
all_below a b [] h all = tt
all_below a b (n ∷ ns) h all = let one : n ≤ a = all.0 in (omega arith, all_below a b ns h all.1)

not_taken : (id above : ℕ) (taken : List ℕ) → above < id → AllByRecursion (λ n. n ≤ above) taken → has_number id taken ≡ false
not_taken id above [] h all = refl
not_taken id above (n ∷ taken) h all =
    let below : n ≤ above = all.0 in
    let other : (id == n) ≡ false = grind (arith, nat_tests) in
    ap (λ b. b || has_number id taken) other ∙ not_taken id above taken h all.1

-- ids that rise from above all that are taken are new
pub rising_new : (run above last : ℕ) (taken ids : List ℕ) → AllByRecursion (λ n. n ≤ above) taken → RiseTo run above ids last → are_new_ids run taken ids ≡ true
rising_new run above last taken [] all rise = refl
rising_new run above last taken (id ∷ ids) all rise =
    let more : above < id = rise.1 in
    let of_run : (run_of_id id == run) ≡ true = (let e = rise.0 in grind (arith, nat_tests)) in
    let free = not_taken id above taken more all in
    (λ i. of_run i && not (free i) && are_new_ids run (id ∷ taken) ids)
    ∙ rising_new run id last (id ∷ taken) ids (omega arith, all_below above id taken (omega arith) all) rise.2

pub rise_append : (run above middle last : ℕ) (xs ys : List ℕ) → RiseTo run above xs middle → RiseTo run middle ys last → RiseTo run above (xs ++ ys) last
rise_append run above middle last [] ys h k = subst (λ m. RiseTo run m ys last) h k
rise_append run above middle last (x ∷ xs) ys h k = (h.0, h.1, rise_append run x middle last xs ys h.2 k)

-- ---- the greatest id

pub all_joined : (P : ℕ → Type 0) (xs ys : List ℕ) → AllByRecursion P xs → AllByRecursion P ys → AllByRecursion P (xs ++ ys)
all_joined P [] ys h k = k
all_joined P (x ∷ xs) ys h k = (h.0, all_joined P xs ys h.1 k)

-- an id that stands among these is at most what they all are
pub counted_below : (most id : ℕ) (ns : List ℕ) → AllByRecursion (λ n. n ≤ most) ns → 0 < times id ns → id ≤ most
counted_below most id [] all some = absurd (omega arith)
counted_below most id (n ∷ ns) all some =
    elim (id == n) as (λ b. id == n ≡ b → id ≤ most) [
      | true ↦ λ e. let below : n ≤ most = all.0 in grind (arith, nat_tests)
      | false ↦ λ e. let rest : 0 < times id ns = (let split = times_cons id n ns in grind (arith, nat_tests)) in counted_below most id ns all.1 rest
    ] refl

-- and where each that stands among these is at most a number, they all are
pub below_counted : (most : ℕ) (ns : List ℕ) → ((id : ℕ) → 0 < times id ns → id ≤ most) → AllByRecursion (λ n. n ≤ most) ns
below_counted most [] h = tt
below_counted most (n ∷ ns) h = (
  h n (let split = times_cons n n ns in let itself : (n == n) ≡ true = grind (arith, nat_tests) in grind (arith, nat_tests)),
  below_counted most ns (λ id some. h id (let split = times_cons id n ns in omega arith)),
)

-- ---- one element more

pub take_flat : {X Y : Type 0} (f : X → List Y) (xs : List X) (i : ℕ) (x : X) → i < length xs → x ≡ get_or xs i x → flat_map f (take (i + 1) xs) ≡ flat_map f (take i xs) ++ f x
take_flat f xs i x h is = sym (pushed_more f [] (flat_map f (take i xs)) (flat_map f (take i xs) ++ f x) xs i x h is refl refl)

pub take_each : {X Y : Type 0} (f : X → Y) (xs : List X) (i : ℕ) (x : X) → i < length xs → x ≡ get_or xs i x → map f (take (i + 1) xs) ≡ map f (take i xs) ++ f x ∷ []
take_each f xs i x h is = sym (pushed_one f [] (map f (take i xs)) (map f (take i xs) ++ f x ∷ []) xs i x h is refl refl)

-- what follows from what is found
pub some_so : {X : Type 0} (o : Option X) (P Q : X → Type 0) → ((x : X) → P x → Q x) → IfSome o P → IfSome o Q
some_so (Some x) P Q f h = f x h
some_so None P Q f h = tt

pub some_holds : {X : Type 0} (o : Option X) (P : X → Type 0) → IfSome o P → is_some o ≡ true → (x : X) × P x
some_holds (Some x) P h e = (x, h)
some_holds None P h e = absurd (cc)

pub rise_flat : {X : Type 0} (f : X → List ℕ) (run above last later : ℕ) (xs : List X) (i : ℕ) (x : X) → i < length xs → x ≡ get_or xs i x
    → RiseTo run above (flat_map f (take i xs)) last → RiseTo run last (f x) later → RiseTo run above (flat_map f (take (i + 1) xs)) later
rise_flat f run above last later xs i x h is was more =
    subst (λ ids. RiseTo run above ids later) (sym (take_flat f xs i x h is)) (rise_append run above last later (flat_map f (take i xs)) (f x) was more)

pub rise_each : {X : Type 0} (f : X → ℕ) (run above last later : ℕ) (xs : List X) (i : ℕ) (x : X) → i < length xs → x ≡ get_or xs i x
    → RiseTo run above (map f (take i xs)) last → RiseTo run last (f x ∷ []) later → RiseTo run above (map f (take (i + 1) xs)) later
rise_each f run above last later xs i x h is was more =
    subst (λ ids. RiseTo run above ids later) (sym (take_each f xs i x h is)) (rise_append run above last later (map f (take i xs)) (f x ∷ []) was more)
