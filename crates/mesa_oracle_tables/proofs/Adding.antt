-- A table more.
use Rattle.std.proofs.Common.{◌≡◌, ◌<◌, ◌≤◌, ◌+◌, ◌-◌, ℕ, zero, suc, List, [], ◌∷◌, ◌++◌, drop, length, get_or, replicate, cond, Some, refl, sym, ◌∙◌, ap, subst, arith, append_assoc, length-append}
use Rattle.std.specs.Prelude.{slice_get}
use Rattle.std.specs.List.{AllByRecursion}
use Rattle.std.proofs.lemmas.List.{length-map, length-replicate}
use Rattle.std.proofs.lemmas.Option.{slice_get_within}
use Rattle.mesa_value.specs.declared.Agg.{Agg}
use Rattle.mesa_value.specs.declared.Agg.TheVariants as agg
use Rattle.mesa_answer.specs.mesa_columns.Columns.{Columns, aggs_of}
use Rattle.mesa_schema.specs.Changes.{columns_of}
use Rattle.mesa_batch.specs.Glance.{Known}
use Rattle.mesa_batch.specs.Totals.{is_sum, sum_bound, sums_in}
use Rattle.mesa_model.specs.Warehouse.{max_tables}
use Rattle.mesa_oracle_tables.specs.Kept.{Contents, From, contents_in, oldest_in, shared, tables_in}
use Rattle.mesa_oracle_tables.specs.Sound.{AreKept, HasTotals, IsHeld, IsOldest}
use Rattle.mesa_oracle_tables.proofs.Items.{get_or-before, get_or-last, one_more}
use Rattle.mesa_oracle_tables.proofs.Newest.{past}
use Rattle.mesa_oracle_tables.proofs.Stores.{nothing_held}
use Rattle.mesa_batch.proofs.SumNames.{named}

-- one more table, of which the floor is the oldest version
abbrev pub from_more : From → From
from_more from = record { floor = from.floor; oldests = from.oldests ++ from.floor ∷ [] }

pub tables_more : (from : From) (n : ℕ) (totals : List (List ℕ)) (t : List ℕ) (versions : List Contents) (tables : List Known) (k : Known) → n + length tables ≡ length totals → length from.oldests ≡ length totals
    → tables_in (from_more from) n (totals ++ t ∷ []) versions (tables ++ k ∷ []) ≡ tables_in from n totals versions tables ++ record { name = k.name; lineage = k.lineage; totals = t; oldest = from.floor; contents = contents_in (length totals) versions } ∷ []
tables_more from n totals t versions [] k e many =
    let at : n ≡ length totals = omega (arith, e) in
    let last : get_or (totals ++ t ∷ []) n [] ≡ t = ap (λ m. get_or (totals ++ t ∷ []) m []) at ∙ get_or-last totals t [] in
    let place : n ≡ length from.oldests = omega (arith, at, many) in
    let oldest : oldest_in n (from_more from) ≡ from.floor = ap (λ m. get_or (from.oldests ++ from.floor ∷ []) m 0) place ∙ get_or-last from.oldests from.floor 0 in
    let none : oldest_in n (from_more from) - from.floor ≡ 0 = omega (arith, oldest) in
    λ j. record { name = k.name; lineage = k.lineage; totals = last j; oldest = oldest j; contents = (ap (λ m. drop m (contents_in n versions)) none ∙ ap (λ m. contents_in m versions) at) j } ∷ []
tables_more from n totals t versions (q ∷ tables) k e many =
    let same : get_or (totals ++ t ∷ []) n [] ≡ get_or totals n [] = get_or-before totals t [] n (omega (arith, e)) in
    let oldest : oldest_in n (from_more from) ≡ oldest_in n from = get_or-before from.oldests from.floor 0 n (omega (arith, e, many)) in
    λ j. record { name = q.name; lineage = q.lineage; totals = same j; oldest = oldest j; contents = drop (oldest j - from.floor) (contents_in n versions) } ∷ tables_more from (n + 1) totals t versions tables k (omega (arith, e)) many j

-- no version has a content of a table that isn't there
pub none_there : (number : ℕ) (versions : List Contents) → AllByRecursion (λ (c : Contents). length c ≤ number) versions → contents_in number versions ≡ replicate (length versions) []
none_there number [] all = refl
none_there number (c ∷ versions) all = λ j. past (shared c) number [] (omega (arith, all.0, length-map c (λ a. a.value))) j ∷ none_there number versions all.1 j

wider : (n m : ℕ) (versions : List Contents) → n ≤ m → AllByRecursion (λ (c : Contents). length c ≤ n) versions → AllByRecursion (λ (c : Contents). length c ≤ m) versions
wider n m [] le all = tt
wider n m (c ∷ versions) le all = (omega (arith, le, all.0), wider n m versions le all.1)

get-before : {X : Type 0} (xs : List X) (x : X) (i : ℕ) → i < length xs → slice_get (xs ++ x ∷ []) i ≡ slice_get xs i
get-before [] x i lt = absurd (omega arith)
get-before (y ∷ ys) x zero lt = refl
get-before (y ∷ ys) x (suc i) lt = get-before ys x i (omega arith)

get-last : {X : Type 0} (xs : List X) (x : X) → slice_get (xs ++ x ∷ []) (length xs) ≡ Some x
get-last [] x = refl
get-last (y ∷ ys) x = get-last ys x

zeros_below : (n : ℕ) → AllByRecursion (λ total. total < sum_bound) (replicate n 0)
zeros_below zero = tt
zeros_below (suc n) = (omega arith, zeros_below n)

zeros_are : (s : Columns) → HasTotals s (replicate (sums_in (aggs_of s)) 0)
zeros_are s = record { count = length-replicate (sums_in (aggs_of s)) 0; bound = zeros_below (sums_in (aggs_of s)) }

all_empty : (s : Columns) (totals : List ℕ) (n : ℕ) → IsHeld s totals [] → AllByRecursion (IsHeld s totals) (replicate n [])
all_empty s totals zero none = tt
all_empty s totals (suc n) none = (none, all_empty s totals n none)

all_more : {X : Type 0} (P : X → Type 0) (xs : List X) (x : X) → AllByRecursion P xs → P x → AllByRecursion P (xs ++ x ∷ [])
all_more P [] x all own = (own, tt)
all_more P (y ∷ xs) x all own = (all.0, all_more P xs x all.1 own)

pub kept_more : (tables : List Known) (totals : List (List ℕ)) (versions : List Contents) (from : From) (next : ℕ) (k : Known) (t : List ℕ) → AreKept tables totals versions from next → length tables < max_tables → t ≡ replicate (sums_in (aggs_of (columns_of k.lineage))) 0
    → AreKept (tables ++ k ∷ []) (totals ++ t ∷ []) versions (from_more from) next
kept_more tables totals versions from next k t kept few is =
    let all = tables ++ k ∷ [] in
    let long : length all ≡ length tables + 1 = length-append tables (k ∷ []) in
    let there : slice_get all (length tables) ≡ Some k = get-last tables k in
    let has : HasTotals (columns_of k.lineage) t = subst (HasTotals (columns_of k.lineage)) (sym is) (zeros_are (columns_of k.lineage)) in
    let none : contents_in (length tables) versions ≡ replicate (length versions) [] = none_there (length tables) versions kept.widths in
    let empty : AllByRecursion (IsHeld (columns_of k.lineage) t) (contents_in (length tables) versions) = subst (AllByRecursion (IsHeld (columns_of k.lineage) t)) (sym none) (all_empty (columns_of k.lineage) t (length versions) (nothing_held (columns_of k.lineage) t has)) in
    record {
      few = omega (arith, long, few);
      count = omega (arith, long, length-append totals (t ∷ []), kept.count);
      oldests = omega (arith, long, length-append from.oldests (from.floor ∷ []), kept.oldests);
      apart = all_more (IsOldest from.floor next) from.oldests from.floor kept.apart (omega arith, kept.floor);
      widths = wider (length tables) (length all) versions (omega (arith, long)) kept.widths;
      numbers = kept.numbers;
      floor = kept.floor;
      most = kept.most;
      have = λ n q e. one_more (λ (m : ℕ) (p : Known) (ts : List ℕ). HasTotals (columns_of p.lineage) ts) totals t [] all (length tables) k kept.count there has (λ m p lt f. kept.have m p (sym (get-before tables k m lt) ∙ f)) n q (omega (arith, long, slice_get_within all n q e)) e;
      held = λ n q e. one_more (λ (m : ℕ) (p : Known) (ts : List ℕ). AllByRecursion (IsHeld (columns_of p.lineage) ts) (contents_in m versions)) totals t [] all (length tables) k kept.count there empty (λ m p lt f. kept.held m p (sym (get-before tables k m lt) ∙ f)) n q (omega (arith, long, slice_get_within all n q e)) e;
    }

-- the tables with one more, which has no rows at each version that is there
pub added : (tables : List Known) (totals : List (List ℕ)) (versions : List Contents) (from : From) (next : ℕ) (k : Known) (t : List ℕ) (s : Columns) → AreKept tables totals versions from next → k.lineage ≡ record { begins = 0; first = s; changes = []; views = [] } → t ≡ replicate (sums_in (aggs_of s)) 0
    → tables_in (from_more from) 0 (totals ++ t ∷ []) versions (tables ++ k ∷ []) ≡ tables_in from 0 totals versions tables ++ record { name = k.name; lineage = record { begins = 0; first = s; changes = []; views = [] }; totals = replicate (sums_in (aggs_of s)) 0; oldest = from.floor; contents = replicate (next - from.floor) [] } ∷ []
added tables totals versions from next k t s kept lineage is =
    let many : length versions ≡ next - from.floor = omega (arith, kept.numbers) in
    let none : contents_in (length totals) versions ≡ replicate (next - from.floor) [] = ap (λ n. contents_in n versions) kept.count ∙ none_there (length tables) versions kept.widths ∙ ap (λ n. replicate n []) many in
    tables_more from 0 totals t versions tables k (omega (arith, kept.count)) (kept.oldests ∙ sym kept.count)
    ∙ (λ j. tables_in from 0 totals versions tables ++ record { name = k.name; lineage = lineage j; totals = is j; oldest = from.floor; contents = none j } ∷ [])

-- ---- zeros for the sum columns

pub zero_more : (g : Agg) (name : List ℕ) (totals : List ℕ) (names : List (List ℕ)) → totals ++ cond (is_sum g) (0 ∷ []) [] ++ replicate (length names) 0 ≡ totals ++ replicate (length (named g name names)) 0
zero_more agg.Sum name totals names = append_assoc totals (0 ∷ []) (replicate (length names) 0)
zero_more agg.Min name totals names = append_assoc totals [] (replicate (length names) 0)
zero_more agg.Max name totals names = append_assoc totals [] (replicate (length names) 0)
zero_more agg.Replace name totals names = append_assoc totals [] (replicate (length names) 0)
