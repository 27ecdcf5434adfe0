-- Tables at one version alone.
use Rattle.std.proofs.Common.{◌≡◌, inl, inr, ◌<◌, ◌≤◌, ◌+◌, ◌-◌, ℕ, zero, suc, List, [], ◌∷◌, ◌++◌, drop, length, map, get_or, replicate, refl, sym, ◌∙◌, ap, subst, arith, add-zero, zero-add, append_assoc, length-append}
use Rattle.std.specs.Prelude.{◌⊎◌, max}
use Rattle.std.specs.List.{AllByRecursion}
use Rattle.std.proofs.lemmas.List.{get_or-drop, length-map, length-replicate}
use Rattle.mesa_schema.specs.Changes.{columns_of}
use Rattle.mesa_batch.specs.Glance.{Known}
use Rattle.mesa_model.specs.Versions.{oldest_among}
use Rattle.mesa_model.specs.Pins.{table_pinned}
use Rattle.mesa_oracle_tables.specs.Kept.{Contents, From, content_in, contents_in, gone_in, greatest_of, oldest_in, shared, tables_in, totals_in}
use Rattle.mesa_oracle_tables.specs.Sound.{AreKept, IsHeld, IsOldest}
use Rattle.mesa_oracle_tables.proofs.Stores.{above_floor, nothing_held}

-- ---- tables at one version

get_or-mapped : {X Y : Type 0} (f : X → Y) (xs : List X) (i : ℕ) (d : X) → f (get_or xs i d) ≡ get_or (map f xs) i (f d)
get_or-mapped f [] i d = refl
get_or-mapped f (x ∷ xs) zero d = refl
get_or-mapped f (x ∷ xs) (suc i) d = get_or-mapped f xs i d

pub all_at : {X : Type 0} (P : X → Type 0) (xs : List X) (i : ℕ) (d : X) → AllByRecursion P xs → P d → P (get_or xs i d)
all_at P [] i d all own = own
all_at P (x ∷ xs) zero d all own = all.0
all_at P (x ∷ xs) (suc i) d all own = all_at P xs i d all.1 own

content_again : (n : ℕ) (versions : List Contents) (m : ℕ) (again : Contents) → shared again ≡ shared (get_or versions m []) → content_in n again ≡ get_or (contents_in n versions) m []
content_again n versions m again same = ap (λ rows. get_or rows n []) same ∙ get_or-mapped (content_in n) versions m []

-- tables of which one version alone is kept
abbrev pub only_at : ℕ → ℕ → From
only_at count version = record { floor = version; oldests = replicate count version }

oldest_only : (count version n : ℕ) → n < count → get_or (replicate count version) n 0 ≡ version
oldest_only zero version n lt = absurd (omega (arith, lt))
oldest_only (suc count) version zero lt = refl
oldest_only (suc count) version (suc n) lt = oldest_only count version n (omega (arith, lt))

-- a version that isn't below the common oldest isn't below the floor, nor below any table's oldest
among_below : (from : From) (version n : ℕ) (totals : List (List ℕ)) (versions : List Contents) (tables : List Known) → oldest_among from.floor (tables_in from n totals versions tables) ≤ version → from.floor ≤ version
among_below from version n totals versions [] low = low
among_below from version n totals versions (k ∷ tables) low = among_below from version (n + 1) totals versions tables (omega (arith, low))

pub floor_below : (from : From) (version n : ℕ) (totals : List (List ℕ)) (versions : List Contents) (tables : List Known) → oldest_among from.floor (tables_in from n totals versions tables) ≤ version → from.floor ≤ version
floor_below from version n totals versions tables low = among_below from version n totals versions tables low

each_below : (from : From) (version n : ℕ) (totals : List (List ℕ)) (versions : List Contents) (tables : List Known) (i : ℕ) → oldest_among from.floor (tables_in from n totals versions tables) ≤ version → i < length tables → oldest_in (n + i) from ≤ version
each_below from version n totals versions [] i low lt = absurd (omega (arith, lt))
each_below from version n totals versions (k ∷ tables) zero low lt = subst (λ m. oldest_in m from ≤ version) (sym (add-zero n)) (omega (arith, low))
each_below from version n totals versions (k ∷ tables) (suc i) low lt =
    let at : n + suc i ≡ n + 1 + i = omega arith in
    subst (λ m. oldest_in m from ≤ version) (sym at) (each_below from version (n + 1) totals versions tables i (omega (arith, low)) (omega (arith, lt)))

all_of : (P : ℕ → Type 0) (xs : List ℕ) → ((i : ℕ) → i < length xs → P (get_or xs i 0)) → AllByRecursion P xs
all_of P [] h = tt
all_of P (x ∷ xs) h = (h zero (omega arith), all_of P xs (λ i lt. h (suc i) (omega (arith, lt))))

pub all_below : (from : From) (version : ℕ) (totals : List (List ℕ)) (versions : List Contents) (tables : List Known) → length tables ≡ length from.oldests → oldest_among from.floor (tables_in from 0 totals versions tables) ≤ version → AllByRecursion (λ oldest. oldest ≤ version) from.oldests
all_below from version totals versions tables long low = all_of (λ oldest. oldest ≤ version) from.oldests (λ i lt. subst (λ m. oldest_in m from ≤ version) (zero-add i) (each_below from version 0 totals versions tables i low (omega (arith, long, lt))))

get_at : (before : List ℕ) (o : ℕ) (oldests : List ℕ) → get_or (before ++ o ∷ oldests) (length before) 0 ≡ o
get_at [] o oldests = refl
get_at (b ∷ before) o oldests = get_at before o oldests

-- the greatest of the floor and of the oldest versions is the common oldest
greatest_from : (from : From) (before : List ℕ) (oldests : List ℕ) (totals : List (List ℕ)) (versions : List Contents) (tables : List Known) → from.oldests ≡ before ++ oldests → length oldests ≡ length tables → greatest_of from.floor oldests ≡ oldest_among from.floor (tables_in from (length before) totals versions tables)
greatest_from from before [] totals versions [] is long = refl
greatest_from from before [] totals versions (k ∷ tables) is long = absurd (omega (arith, long))
greatest_from from before (o ∷ oldests) totals versions [] is long = absurd (omega (arith, long))
greatest_from from before (o ∷ oldests) totals versions (k ∷ tables) is long =
    let here : oldest_in (length before) from ≡ o = ap (λ ns. get_or ns (length before) 0) is ∙ get_at before o oldests in
    let more : length (before ++ o ∷ []) ≡ length before + 1 = length-append before (o ∷ []) in
    let rest = greatest_from from (before ++ o ∷ []) oldests totals versions tables (is ∙ sym (append_assoc before (o ∷ []) oldests)) (omega (arith, long)) in
    (λ j. max (sym here j) (greatest_of from.floor oldests)) ∙ ap (max (oldest_in (length before) from)) (rest ∙ ap (λ m. oldest_among from.floor (tables_in from m totals versions tables)) more)

pub greatest_is : (from : From) (totals : List (List ℕ)) (versions : List Contents) (tables : List Known) → length from.oldests ≡ length tables → greatest_of from.floor from.oldests ≡ oldest_among from.floor (tables_in from 0 totals versions tables)
greatest_is from totals versions tables long = greatest_from from [] from.oldests totals versions tables refl long

pub greatest_there : (floor next : ℕ) (oldests : List ℕ) → (floor < next) ⊎ ((floor ≡ 0) × (next ≡ 0)) → AllByRecursion (IsOldest floor next) oldests → (greatest_of floor oldests < next) ⊎ ((greatest_of floor oldests ≡ 0) × (next ≡ 0))
greatest_there floor next [] some all = some
greatest_there floor next (o ∷ oldests) some all = elim (greatest_there floor next oldests some all.1) [
  | inl rest ↦ elim all.0.1 [ inl own ↦ inl (omega (arith, rest, own)) | inr none ↦ absurd (omega (arith, rest, none.1)) ]
  | inr rest ↦ elim all.0.1 [ inl own ↦ absurd (omega (arith, rest.1, own)) | inr none ↦ inr (omega (arith, rest.0, none.0), none.1) ]
]

pub tables_pinned : (from : From) (next version n : ℕ) (totals : List (List ℕ)) (versions : List Contents) (again : Contents) (tables : List Known)
    → AllByRecursion (IsOldest from.floor next) from.oldests → AllByRecursion (λ oldest. oldest ≤ version) from.oldests → n + length tables ≡ length from.oldests → shared again ≡ shared (get_or versions (version - from.floor) [])
    → tables_in (only_at (length from.oldests) version) n totals (again ∷ []) tables ≡ map (table_pinned version) (tables_in from n totals versions tables)
tables_pinned from next version n totals versions again [] above below long same = refl
tables_pinned from next version n totals versions again (k ∷ tables) above below long same =
    let lt : n < length from.oldests = omega (arith, long) in
    let oldest : oldest_in n (only_at (length from.oldests) version) ≡ version = oldest_only (length from.oldests) version n lt in
    let none : oldest_in n (only_at (length from.oldests) version) - version ≡ 0 = omega (arith, oldest) in
    let high = above_floor from.floor next from.oldests n above lt in
    let first = high.0 in
    let low : oldest_in n from ≤ version = all_at (λ o. o ≤ version) from.oldests n 0 below (omega arith) in
    let place : gone_in n from + (version - oldest_in n from) ≡ version - from.floor = omega (arith, first, low) in
    let content : content_in n again ≡ get_or (drop (gone_in n from) (contents_in n versions)) (version - oldest_in n from) [] =
    content_again n versions (version - from.floor) again same ∙ ap (λ i. get_or (contents_in n versions) i []) (sym place) ∙ sym (get_or-drop (gone_in n from) (contents_in n versions) (version - oldest_in n from) []) in
    λ j. record {
      name = k.name;
      lineage = k.lineage;
      totals = totals_in n totals;
      oldest = oldest j;
      contents = (ap (λ m. drop m (content_in n again ∷ [])) none ∙ ap (λ rows. rows ∷ []) content) j;
    } ∷ tables_pinned from next version (n + 1) totals versions again tables above below (omega (arith, long)) same j

one_each : (count version : ℕ) → AllByRecursion (IsOldest version (version + 1)) (replicate count version)
one_each zero version = tt
one_each (suc count) version = ((omega arith, inl (omega arith)), one_each count version)

pub pinned_kept : (tables : List Known) (totals : List (List ℕ)) (versions : List Contents) (from : From) (next m version : ℕ) (again : Contents) → AreKept tables totals versions from next → version < next
    → shared again ≡ shared (get_or versions m []) → AreKept tables totals (again ∷ []) (only_at (length from.oldests) version) (version + 1)
pinned_kept tables totals versions from next m version again kept before same =
    let width : length (get_or versions m []) ≤ length tables = all_at (λ (c : Contents). length c ≤ length tables) versions m [] kept.widths (omega arith) in
    record {
      few = kept.few;
      count = kept.count;
      oldests = length-replicate (length from.oldests) version ∙ kept.oldests;
      apart = one_each (length from.oldests) version;
      widths = (omega (arith, ap length same, length-map again (λ a. a.value), length-map (get_or versions m []) (λ a. a.value), width), tt);
      numbers = refl;
      floor = inl (omega arith);
      most = omega (arith, kept.most, before);
      have = kept.have;
      held = λ n k e. (subst (IsHeld (columns_of k.lineage) (totals_in n totals)) (sym (content_again n versions m again same)) (all_at (IsHeld (columns_of k.lineage) (totals_in n totals)) (contents_in n versions) m [] (kept.held n k e) (nothing_held (columns_of k.lineage) (totals_in n totals) (kept.have n k e))), tt);
    }

pub length-tables_in : (from : From) (n : ℕ) (totals : List (List ℕ)) (versions : List Contents) (tables : List Known) → length (tables_in from n totals versions tables) ≡ length tables
length-tables_in from n totals versions [] = refl
length-tables_in from n totals versions (k ∷ tables) = ap suc (length-tables_in from (n + 1) totals versions tables)
