-- The tables of a store, whose totals and contents are kept in lists of their own.
use Rattle.std.proofs.Common.{◌≡◌, ◌<◌, ◌≤◌, ◌+◌, inl, inr, ℕ, zero, suc, List, [], ◌∷◌, ◌++◌, drop, drop-drop, get_or, length, length-drop, map, set, Some, None, Ok, refl, sym, ◌∙◌, ap, subst, arith, add-zero, zero-add}
use Rattle.std.specs.Prelude.{max, slice_get, zip, ◌-◌, ◌⊎◌}
use Rattle.std.specs.List.{AllByRecursion}
use Rattle.std.proofs.lemmas.List.{length-map, length-set, map-append}
use Rattle.std.proofs.lemmas.Slice.Zip.{length-zip}
use Rattle.mesa_value.specs.declared.Agg.{Agg}
use Rattle.mesa_answer.specs.mesa_columns.declared.rows.Row.{Row}
use Rattle.mesa_answer.specs.mesa_columns.Columns.{Columns, aggs_of}
use Rattle.mesa_schema.specs.Changes.{columns_of}
use Rattle.mesa_answer.specs.mesa_fold.Folded.{folded, rows_of}
use Rattle.mesa_answer.specs.mesa_fold.Laws.{AreFull}
use Rattle.mesa_answer.specs.mesa_columns.Rows.{AreRowsOf}
use Rattle.mesa_answer.proofs.mesa_fold.Forms.{folded_form}
use Rattle.mesa_answer.proofs.mesa_fold.Refolds.{refolded}
use Rattle.mesa_batch.specs.Batch.{Placed, rows_for}
use Rattle.mesa_batch.specs.Gathered.{Batched, rows_at}
use Rattle.mesa_batch.specs.Glance.{Known}
use Rattle.mesa_batch.specs.Totals.{AreAtMost, abs_total, abs_totals, over_bound, sum_bound, sum_places, totals_with}
use Rattle.mesa_batch.specs.Bound.{KeepsBound}
use Rattle.mesa_answer.proofs.mesa_fold.Folds.{folded-folded}
use Rattle.mesa_batch.proofs.Kept.{put_rows-fold}
use Rattle.mesa_batch.proofs.Merged.{abs_total-put_rows}
use Rattle.mesa_model.specs.Load.{bound_checked, bounds_checked, newest_content, tables_loaded}
use Rattle.mesa_model.specs.Versions.{table_from}
use Rattle.mesa_model.specs.Warehouse.{Table}
use Rattle.mesa_oracle_tables.specs.Kept.{Contents, From, content_in, contents_in, gone_in, oldest_in, table_in, tables_in, totals_in}
use Rattle.mesa_oracle_tables.specs.Sound.{AreHeld, AreKept, HasTotals, HaveTotals, IsHeld, IsOldest}
use Rattle.mesa_oracle_tables.specs.Found.{no_known}
use Rattle.mesa_oracle_tables.specs.Grown.{AreContentsWith, AreTotalsWith, CanTake, HasRows, IsBatchOf}
use Rattle.mesa_oracle_tables.proofs.Tables.{bound_none}
use Rattle.mesa_list.specs.Checks.{◌>>◌}
use Rattle.mesa_oracle_tables.proofs.Bounds.{all_sums, at_most-folded, at_most-more, sum_at, sums_below, with_bound}

-- ---- what a load makes of them

-- a table with a load's rows: what its totals and its content come to
pub record IsLoaded (placed : List Placed) (number : ℕ) (known : Known) (totals after : List (List ℕ)) (versions : List Contents) (contents : Contents) : Type 0 where
  pub more : totals_in number after ≡ totals_with (totals_in number totals) (abs_totals (columns_of known.lineage) (rows_for number placed))
  pub folds : content_in number contents ≡ folded (aggs_of (columns_of known.lineage)) (newest_content (contents_in number versions) ∷ rows_for number placed ∷ [])

shifted : (n i : ℕ) → n + suc i ≡ n + 1 + i
shifted n i = omega arith

-- ---- versions that a table has let go

-- the newest content is among those that are left, and one more comes behind them
pub newest_left : (k : ℕ) (xs : List (List Row)) → (k < length xs) ⊎ (length xs ≡ 0) → newest_content (drop k xs) ≡ newest_content xs
newest_left zero xs some = refl
newest_left (suc k) [] some = refl
newest_left (suc k) (x ∷ []) (inl lt) = absurd (omega (arith, lt))
newest_left (suc k) (x ∷ []) (inr none) = absurd (omega (arith, none))
newest_left (suc k) (x ∷ y ∷ xs) (inl lt) = newest_left k (y ∷ xs) (inl (omega (arith, lt)))
newest_left (suc k) (x ∷ y ∷ xs) (inr none) = absurd (omega (arith, none))

pub pushed_left : (k : ℕ) (xs : List (List Row)) (x : List Row) → k ≤ length xs → drop k (xs ++ x ∷ []) ≡ drop k xs ++ x ∷ []
pushed_left zero xs x le = refl
pushed_left (suc k) [] x le = absurd (omega (arith, le))
pushed_left (suc k) (y ∷ xs) x le = pushed_left k xs x (omega (arith, le))

-- a table has let go fewer versions than there are, or there is none
abbrev pub HasNewest : From → ℕ → ℕ → Type 0
HasNewest from versions number = (gone_in number from < versions) ⊎ ((gone_in number from ≡ 0) × (versions ≡ 0))

oldest_there : (floor next : ℕ) (oldests : List ℕ) (n : ℕ) → (floor < next) ⊎ ((floor ≡ 0) × (next ≡ 0)) → AllByRecursion (IsOldest floor next) oldests → (get_or oldests n 0 < next) ⊎ ((get_or oldests n 0 ≡ 0) × (next ≡ 0))
oldest_there floor next [] n some all = elim some [ inl lt ↦ inl (omega (arith, lt)) | inr none ↦ inr (refl, none.1) ]
oldest_there floor next (o ∷ oldests) zero some all = all.0.1
oldest_there floor next (o ∷ oldests) (suc n) some all = oldest_there floor next oldests n some all.1

pub newest_there : (tables : List Known) (totals : List (List ℕ)) (versions : List Contents) (from : From) (next : ℕ) → AreKept tables totals versions from next → (m : ℕ) → HasNewest from (length versions) m
newest_there tables totals versions from next kept m = elim kept.floor [
  | inl some ↦ elim (oldest_there from.floor next from.oldests m kept.floor kept.apart) [
    | inl lt ↦ inl (omega (arith, some, lt, kept.numbers))
    | inr none ↦ absurd (omega (arith, some, none.1))
  ]
  | inr none ↦ elim (oldest_there from.floor next from.oldests m kept.floor kept.apart) [
    | inl lt ↦ absurd (omega (arith, none.1, lt))
    | inr first ↦ inr (omega (arith, first.0), omega (arith, none.1, kept.numbers))
  ]
]

loaded_from : (from : From) (placed : List Placed) (n : ℕ) (tables : List Known) (totals after : List (List ℕ)) (versions : List Contents) (contents : Contents) → ((m : ℕ) → HasNewest from (length versions) m)
    → ((i : ℕ) (k : Known) → slice_get tables i ≡ Some k → IsLoaded placed (n + i) k totals after versions contents)
    → tables_in from n after (versions ++ contents ∷ []) tables ≡ tables_loaded placed n (tables_in from n totals versions tables)
loaded_from from placed n [] totals after versions contents newest h = refl
loaded_from from placed n (k ∷ tables) totals after versions contents newest h =
    let own = subst (λ m. IsLoaded placed m k totals after versions contents) (add-zero n) (h zero k refl) in
    let rest = loaded_from from placed (n + 1) tables totals after versions contents newest (λ i q e. subst (λ m. IsLoaded placed m q totals after versions contents) (shifted n i) (h (suc i) q e)) in
    let gone = gone_in n from in
    let old = contents_in n versions in
    let long : length old ≡ length versions = length-map versions (content_in n) in
    let aggs = aggs_of (columns_of k.lineage) in
    let few : gone ≤ length old = elim (newest n) [ inl lt ↦ omega (arith, lt, long) | inr none ↦ omega (arith, none.0, none.1, long) ] in
    let some : (gone < length old) ⊎ (length old ≡ 0) = elim (newest n) [ inl lt ↦ inl (omega (arith, lt, long)) | inr none ↦ inr (omega (arith, none.1, long)) ] in
    let grown : contents_in n (versions ++ contents ∷ []) ≡ old ++ folded aggs (newest_content old ∷ rows_for n placed ∷ []) ∷ [] = map-append (content_in n) versions (contents ∷ []) ∙ ap (λ rows. old ++ rows ∷ []) own.folds in
    let left : drop gone (contents_in n (versions ++ contents ∷ [])) ≡ drop gone old ++ folded aggs (newest_content (drop gone old) ∷ rows_for n placed ∷ []) ∷ [] =
    ap (drop gone) grown ∙ pushed_left gone old (folded aggs (newest_content old ∷ rows_for n placed ∷ [])) few
    ∙ ap (λ (newest : List Row). drop gone old ++ folded aggs (newest ∷ rows_for n placed ∷ []) ∷ []) (sym (newest_left gone old some)) in
    λ j. record { name = k.name; lineage = k.lineage; totals = own.more j; oldest = oldest_in n from; contents = left j } ∷ rest j

-- a batch's rows may be folded first
batch_folded : (aggs : List Agg) (content rows : List Row) → folded aggs (content ∷ folded aggs (rows ∷ []) ∷ []) ≡ folded aggs (content ∷ rows ∷ [])
batch_folded aggs content rows = refolded aggs (content ∷ []) (rows ∷ []) []

pub loaded : (from : From) (placed : List Placed) (tables : List Known) (batch : Batched) (totals after : List (List ℕ)) (versions : List Contents) (contents : Contents) → ((m : ℕ) → HasNewest from (length versions) m) → HasRows placed batch → AreTotalsWith tables totals batch after → AreContentsWith tables versions batch contents
    → tables_in from 0 after (versions ++ contents ∷ []) tables ≡ tables_loaded placed 0 (tables_in from 0 totals versions tables)
loaded from placed tables batch totals after versions contents newest has with grown = loaded_from from placed 0 tables totals after versions contents newest (λ i k e. subst (λ m. IsLoaded placed m k totals after versions contents) (sym (zero-add i)) (record {
  more = with.more i k e ∙ ap (totals_with (totals_in i totals)) (has.totals i (columns_of k.lineage));
  folds =
      let aggs = aggs_of (columns_of k.lineage) in
      let content = newest_content (contents_in i versions) in
      grown.folds i k e ∙ ap (λ rows. folded aggs (content ∷ rows ∷ [])) (has.rows i aggs) ∙ batch_folded aggs content (rows_for i placed);
}))

-- ---- what keeps sums within their type

newest_held : (s : Columns) (totals : List ℕ) (contents : List (List Row)) → AllByRecursion (IsHeld s totals) contents → IsHeld s totals [] → IsHeld s totals (newest_content contents)
newest_held s totals [] all none = none
newest_held s totals (content ∷ []) all none = all.0
newest_held s totals (content ∷ next ∷ contents) all none = newest_held s totals (next ∷ contents) all.1 none

no_rows : (places totals : List ℕ) → length totals ≡ length places → AreAtMost (map (λ c. abs_total c []) places) totals
no_rows [] [] e = tt
no_rows [] (t ∷ totals) e = absurd (omega arith)
no_rows (c ∷ places) [] e = absurd (omega arith)
no_rows (c ∷ places) (t ∷ totals) e = (omega arith, no_rows places totals (omega arith))

pub nothing_held : (s : Columns) (totals : List ℕ) → HasTotals s totals → IsHeld s totals []
nothing_held s totals has = record { forms = tt; fold = refl; sums = no_rows (sum_places 0 (aggs_of s)) totals has.count }

pub newest-held : (tables : List Known) (totals : List (List ℕ)) (versions : List Contents) → HaveTotals tables totals → AreHeld tables totals versions → (n : ℕ) (k : Known) → slice_get tables n ≡ Some k
    → IsHeld (columns_of k.lineage) (totals_in n totals) (newest_content (contents_in n versions))
newest-held tables totals versions have held n k e = newest_held (columns_of k.lineage) (totals_in n totals) (contents_in n versions) (held n k e) (nothing_held (columns_of k.lineage) (totals_in n totals) (have n k e))

keeps_bound : (s : Columns) (totals : List ℕ) (content rows : List Row) → AreAtMost (abs_totals s content) totals → over_bound totals (abs_totals s rows) ≡ None → KeepsBound (aggs_of s) content rows
keeps_bound s totals content rows most none c p =
    let below = sums_below (λ n. abs_total n content) (λ n. abs_total n rows) (sum_places 0 (aggs_of s)) totals most (with_bound totals (abs_totals s rows) none) in
    subst (λ n. abs_total n content + abs_total n rows < sum_bound) (zero-add c) (sum_at (λ n. abs_total n content + abs_total n rows < sum_bound) (aggs_of s) 0 c below p)

pub can_take : (tables : List Known) (totals after : List (List ℕ)) (versions : List Contents) (batch : Batched) → HaveTotals tables totals → AreHeld tables totals versions → AreTotalsWith tables totals batch after → CanTake tables versions batch
can_take tables totals after versions batch have held with = record {
  forms = λ n k e. (newest-held tables totals versions have held n k e).forms;
  fold = λ n k e. (newest-held tables totals versions have held n k e).fold;
  bounded = λ n k e. keeps_bound (columns_of k.lineage) (totals_in n totals) (newest_content (contents_in n versions)) (rows_at n batch) (newest-held tables totals versions have held n k e).sums (with.bound n k e);
}

as_many : (totals more : List ℕ) → length totals ≡ length more → length (totals_with totals more) ≡ length totals
as_many totals more e = omega (arith, length-map (zip totals more) (λ (p : ℕ × ℕ). p.0 + p.1), length-zip totals more, e)

many : (s : Columns) (totals : List ℕ) (rows : List Row) → HasTotals s totals → length totals ≡ length (abs_totals s rows)
many s totals rows has = has.count ∙ sym (length-map (sum_places 0 (aggs_of s)) (λ column. abs_total column rows))

-- the totals with a batch are totals of the tables
pub have_after : (tables : List Known) (totals after : List (List ℕ)) (batch : Batched) → HaveTotals tables totals → AreTotalsWith tables totals batch after → HaveTotals tables after
have_after tables totals after batch have with n k e =
    let s = columns_of k.lineage in
    let more = abs_totals s (rows_at n batch) in
    subst (HasTotals s) (sym (with.more n k e)) (record {
      count = as_many (totals_in n totals) more (many s (totals_in n totals) (rows_at n batch) (have n k e)) ∙ (have n k e).count;
      bound = with_bound (totals_in n totals) more (with.bound n k e);
    })

still_held : (s : Columns) (totals more : List ℕ) (contents : List (List Row)) → length totals ≡ length more → AllByRecursion (IsHeld s totals) contents → AllByRecursion (IsHeld s (totals_with totals more)) contents
still_held s totals more [] e all = tt
still_held s totals more (content ∷ contents) e all = (record { forms = all.0.forms; fold = all.0.fold; sums = at_most-more (abs_totals s content) totals more all.0.sums e }, still_held s totals more contents e all.1)

all_and : {X : Type 0} (P : X → Type 0) (xs : List X) (x : X) → AllByRecursion P xs → P x → AllByRecursion P (xs ++ x ∷ [])
all_and P [] x all own = (own, tt)
all_and P (y ∷ ys) x all own = (all.0, all_and P ys x all.1 own)

both_forms : (s : Columns) (xs ys : List Row) → AreRowsOf s xs → AreRowsOf s ys → AreRowsOf s (rows_of (xs ∷ ys ∷ []))
both_forms s [] [] a b = tt
both_forms s [] (y ∷ ys) a b = (b.0, both_forms s [] ys a b.1)
both_forms s (x ∷ xs) ys a b = (a.0, both_forms s xs ys a.1 b)

full : (s : Columns) (rows : List Row) → AreRowsOf s rows → AreFull (aggs_of s) rows
full s [] a = tt
full s (row ∷ rows) a = (a.0.values ∙ sym (length-map s.values _), full s rows a.1)

folded_held : (s : Columns) (totals : List ℕ) (content rows : List Row) → IsHeld s totals content → AreRowsOf s rows → IsHeld s (totals_with totals (abs_totals s rows)) (folded (aggs_of s) (content ∷ rows ∷ []))
folded_held s totals content rows held forms =
    let aggs = aggs_of s in
    let put = put_rows-fold aggs content rows held.fold in
    record {
      forms = folded_form s (content ∷ rows ∷ []) (both_forms s content rows held.forms forms);
      fold = folded-folded aggs (content ∷ rows ∷ []) [];
      sums = at_most-folded (λ c. abs_total c content) (λ c. abs_total c rows) (λ c. abs_total c (folded aggs (content ∷ rows ∷ []))) (sum_places 0 aggs) totals held.sums
          (all_sums (λ c. abs_total c (folded aggs (content ∷ rows ∷ [])) ≤ abs_total c content + abs_total c rows) aggs 0 (λ c p.
          subst (λ n. abs_total n (folded aggs (content ∷ rows ∷ [])) ≤ abs_total n content + abs_total n rows) (sym (zero-add c)) (subst (λ rs. abs_total c rs ≤ abs_total c content + abs_total c rows) put (abs_total-put_rows aggs content rows c p (full s content held.forms) (full s rows forms)))));
    }

-- no content passes the totals with a batch
pub held_after : (tables : List Known) (totals after : List (List ℕ)) (versions : List Contents) (contents : Contents) (batch : Batched) → HaveTotals tables totals → AreHeld tables totals versions → IsBatchOf tables batch → AreTotalsWith tables totals batch after → AreContentsWith tables versions batch contents
    → AreHeld tables after (versions ++ contents ∷ [])
held_after tables totals after versions contents batch have held of with grown n k e =
    let s = columns_of k.lineage in
    let own = totals_in n totals in
    let rows = rows_at n batch in
    let old = still_held s own (abs_totals s rows) (contents_in n versions) (many s own rows (have n k e)) (held n k e) in
    let new = folded_held s own (newest_content (contents_in n versions)) rows (newest-held tables totals versions have held n k e) (of.forms n k e) in
    let all = all_and (IsHeld s (totals_with own (abs_totals s rows))) (contents_in n versions) (content_in n contents) old (subst (IsHeld s (totals_with own (abs_totals s rows))) (sym (grown.folds n k e)) new) in
    subst (λ ts. AllByRecursion (IsHeld s ts) (contents_in n (versions ++ contents ∷ []))) (sym (with.more n k e)) (subst (AllByRecursion (IsHeld s (totals_with own (abs_totals s rows)))) (sym (map-append (content_in n) versions (contents ∷ []))) all)

pub widths_after : (versions : List Contents) (contents : Contents) (count : ℕ) → AllByRecursion (λ (c : Contents). length c ≤ count) versions → length contents ≡ count → AllByRecursion (λ (c : Contents). length c ≤ count) (versions ++ contents ∷ [])
widths_after versions contents count all e = all_and (λ (c : Contents). length c ≤ count) versions contents all (omega (arith, e))

-- ---- versions let go

dropped : {X : Type 0} (P : X → Type 0) (n : ℕ) (xs : List X) → AllByRecursion P xs → AllByRecursion P (drop n xs)
dropped P zero xs all = all
dropped P (suc n) [] all = all
dropped P (suc n) (x ∷ xs) all = dropped P n xs all.1

pub drop-map : {X Y : Type 0} (f : X → Y) (n : ℕ) (xs : List X) → map f (drop n xs) ≡ drop n (map f xs)
drop-map f zero xs = refl
drop-map f (suc n) [] = refl
drop-map f (suc n) (x ∷ xs) = drop-map f n xs

-- the versions from one on
abbrev pub raised : From → ℕ → From
raised from version = record { floor = version; oldests = map (λ oldest. max oldest version) from.oldests }

oldest_raised : (oldests : List ℕ) (n version : ℕ) → n < length oldests → get_or (map (λ oldest. max oldest version) oldests) n 0 ≡ max (get_or oldests n 0) version
oldest_raised [] n version lt = absurd (omega (arith, lt))
oldest_raised (o ∷ oldests) zero version lt = refl
oldest_raised (o ∷ oldests) (suc n) version lt = oldest_raised oldests n version (omega (arith, lt))

pub above_floor : (floor next : ℕ) (oldests : List ℕ) (n : ℕ) → AllByRecursion (IsOldest floor next) oldests → n < length oldests → IsOldest floor next (get_or oldests n 0)
above_floor floor next [] n all lt = absurd (omega (arith, lt))
above_floor floor next (o ∷ oldests) zero all lt = all.0
above_floor floor next (o ∷ oldests) (suc n) all lt = above_floor floor next oldests n all.1 (omega (arith, lt))

-- Tables without the versions below one.
pub tables_from : (from : From) (next version n : ℕ) (totals : List (List ℕ)) (versions : List Contents) (tables : List Known) → AllByRecursion (IsOldest from.floor next) from.oldests → n + length tables ≡ length from.oldests → from.floor ≤ version
    → tables_in (raised from version) n totals (drop (version - from.floor) versions) tables ≡ map (table_from version) (tables_in from n totals versions tables)
tables_from from next version n totals versions [] all long le = refl
tables_from from next version n totals versions (k ∷ tables) all long le =
    let oldest = oldest_in n from in
    let own = above_floor from.floor next from.oldests n all (omega (arith, long)) in
    let first = own.0 in
    let is : oldest_in n (raised from version) ≡ max oldest version = oldest_raised from.oldests n version (omega (arith, long)) in
    let old = contents_in n versions in
    let gone : (version - from.floor) + (max oldest version - version) ≡ (oldest - from.floor) + (version - oldest) = omega (arith, le, first) in
    let left : drop (oldest_in n (raised from version) - version) (contents_in n (drop (version - from.floor) versions)) ≡ drop (version - oldest) (drop (gone_in n from) old) =
    (λ j. drop (is j - version) (drop-map (content_in n) (version - from.floor) versions j))
    ∙ drop-drop (max oldest version - version) (version - from.floor) old ∙ ap (λ m. drop m old) gone ∙ sym (drop-drop (version - oldest) (gone_in n from) old) in
    λ j. record { name = k.name; lineage = k.lineage; totals = totals_in n totals; oldest = is j; contents = left j } ∷ tables_from from next version (n + 1) totals versions tables all (omega (arith, long)) le j

pub held_from : (m : ℕ) (tables : List Known) (totals : List (List ℕ)) (versions : List Contents) → AreHeld tables totals versions → AreHeld tables totals (drop m versions)
held_from m tables totals versions held n k e = subst (AllByRecursion (IsHeld (columns_of k.lineage) (totals_in n totals))) (sym (drop-map (content_in n) m versions)) (dropped (IsHeld (columns_of k.lineage) (totals_in n totals)) m (contents_in n versions) (held n k e))

pub widths_from : (m count : ℕ) (versions : List Contents) → AllByRecursion (λ (c : Contents). length c ≤ count) versions → AllByRecursion (λ (c : Contents). length c ≤ count) (drop m versions)
widths_from m count versions all = dropped (λ (c : Contents). length c ≤ count) m versions all

raised_apart : (floor next version : ℕ) (oldests : List ℕ) → version < next → AllByRecursion (IsOldest floor next) oldests → AllByRecursion (IsOldest version next) (map (λ oldest. max oldest version) oldests)
raised_apart floor next version [] lt all = tt
raised_apart floor next version (o ∷ oldests) lt all = ((omega arith, elim all.0.1 [ inl there ↦ inl (omega (arith, lt, there)) | inr none ↦ inl (omega (arith, lt, none.0)) ]), raised_apart floor next version oldests lt all.1)

-- what is kept from a version on still fits together
pub kept_from : (tables : List Known) (totals : List (List ℕ)) (versions : List Contents) (from : From) (next version : ℕ) → AreKept tables totals versions from next → from.floor ≤ version → version < next
    → AreKept tables totals (drop (version - from.floor) versions) (raised from version) next
kept_from tables totals versions from next version kept low high = record {
  few = kept.few;
  count = kept.count;
  oldests = length-map from.oldests (λ oldest. max oldest version) ∙ kept.oldests;
  apart = raised_apart from.floor next version from.oldests high kept.apart;
  widths = widths_from (version - from.floor) (length tables) versions kept.widths;
  numbers = omega (arith, length-drop (version - from.floor) versions, kept.numbers, low, high);
  floor = inl high;
  most = kept.most;
  have = kept.have;
  held = held_from (version - from.floor) tables totals versions kept.held;
}

-- ---- one table's versions let go

oldest_set : (oldests : List ℕ) (i version : ℕ) → i < length oldests → get_or (set oldests i version) i 0 ≡ version
oldest_set [] i version lt = absurd (omega (arith, lt))
oldest_set (o ∷ oldests) zero version lt = refl
oldest_set (o ∷ oldests) (suc i) version lt = oldest_set oldests i version (omega (arith, lt))

oldest_other : (oldests : List ℕ) (i n version : ℕ) → (i ≡ n → ⊥) → get_or (set oldests i version) n 0 ≡ get_or oldests n 0
oldest_other [] i n version apart = refl
oldest_other (o ∷ oldests) zero zero version apart = absurd (apart refl)
oldest_other (o ∷ oldests) zero (suc n) version apart = refl
oldest_other (o ∷ oldests) (suc i) zero version apart = refl
oldest_other (o ∷ oldests) (suc i) (suc n) version apart = oldest_other oldests i n version (λ e. apart (ap suc e))

-- where the table of a number has no version below one
abbrev pub from_one : From → ℕ → ℕ → From
from_one from i version = record { floor = from.floor; oldests = set from.oldests i version }

-- the tables behind it stay
others_stay : (from : From) (i version n : ℕ) (totals : List (List ℕ)) (versions : List Contents) (tables : List Known) → i < n → tables_in (from_one from i version) n totals versions tables ≡ tables_in from n totals versions tables
others_stay from i version n totals versions [] lt = refl
others_stay from i version n totals versions (k ∷ tables) lt =
    let same = oldest_other from.oldests i n version (λ e. absurd (omega (arith, lt, e))) in
    λ j. record { name = k.name; lineage = k.lineage; totals = totals_in n totals; oldest = same j; contents = drop (same j - from.floor) (contents_in n versions) } ∷ others_stay from i version (n + 1) totals versions tables (omega (arith, lt)) j

pub tables_one : (from : From) (next version n i : ℕ) (totals : List (List ℕ)) (versions : List Contents) (tables : List Known) → AllByRecursion (IsOldest from.floor next) from.oldests → n + length tables ≡ length from.oldests → i < length tables → oldest_in (n + i) from ≤ version
    → tables_in (from_one from (n + i) version) n totals versions tables ≡ set (tables_in from n totals versions tables) i (table_from version (table_in from (n + i) totals versions (get_or tables i no_known)))
tables_one from next version n i totals versions [] all long lt low = absurd (omega (arith, lt))
tables_one from next version n zero totals versions (k ∷ tables) all long lt low =
    let at : n + 0 ≡ n = add-zero n in
    let here : n < length from.oldests = omega (arith, long) in
    let oldest = oldest_in n from in
    let below : oldest ≤ version = subst (λ m. oldest_in m from ≤ version) at low in
    let first = (above_floor from.floor next from.oldests n all here).0 in
    let is : oldest_in n (from_one from n version) ≡ version = oldest_set from.oldests n version here in
    let greatest : version ≡ max oldest version = omega (arith, below) in
    let old = contents_in n versions in
    let gone : version - from.floor ≡ (oldest - from.floor) + (version - oldest) = omega (arith, below, first) in
    let left : drop (oldest_in n (from_one from n version) - from.floor) old ≡ drop (version - oldest) (drop (gone_in n from) old) =
    ap (λ o. drop (o - from.floor) old) is ∙ ap (λ m. drop m old) gone ∙ sym (drop-drop (version - oldest) (gone_in n from) old) in
    let one : tables_in (from_one from n version) n totals versions (k ∷ tables) ≡ table_from version (table_in from n totals versions k) ∷ tables_in from (n + 1) totals versions tables =
    λ j. record { name = k.name; lineage = k.lineage; totals = totals_in n totals; oldest = (is ∙ greatest) j; contents = left j } ∷ others_stay from n version (n + 1) totals versions tables (omega arith) j in
    subst (λ m. tables_in (from_one from m version) n totals versions (k ∷ tables) ≡ table_from version (table_in from m totals versions k) ∷ tables_in from (n + 1) totals versions tables) (sym at) one
tables_one from next version n (suc i) totals versions (k ∷ tables) all long lt low =
    let at : n + suc i ≡ n + 1 + i = shifted n i in
    let same = oldest_other from.oldests (n + suc i) n version (λ e. absurd (omega (arith, e))) in
    let rest = tables_one from next version (n + 1) i totals versions tables all (omega (arith, long)) (omega (arith, lt)) (subst (λ m. oldest_in m from ≤ version) at low) in
    let there = subst (λ m. tables_in (from_one from m version) (n + 1) totals versions tables ≡ set (tables_in from (n + 1) totals versions tables) i (table_from version (table_in from m totals versions (get_or tables i no_known)))) (sym at) rest in
    λ j. record { name = k.name; lineage = k.lineage; totals = totals_in n totals; oldest = same j; contents = drop (same j - from.floor) (contents_in n versions) } ∷ there j

-- the tables where the one of a number has no version below one
pub one_from : (from : From) (next version i : ℕ) (totals : List (List ℕ)) (versions : List Contents) (tables : List Known) → AllByRecursion (IsOldest from.floor next) from.oldests → length tables ≡ length from.oldests → i < length tables → oldest_in i from ≤ version
    → tables_in (from_one from i version) 0 totals versions tables ≡ set (tables_in from 0 totals versions tables) i (table_from version (table_in from i totals versions (get_or tables i no_known)))
one_from from next version i totals versions tables all long lt low =
    subst (λ m. tables_in (from_one from m version) 0 totals versions tables ≡ set (tables_in from 0 totals versions tables) i (table_from version (table_in from m totals versions (get_or tables i no_known)))) (zero-add i)
    (tables_one from next version 0 i totals versions tables all (omega (arith, long)) lt (subst (λ m. oldest_in m from ≤ version) (sym (zero-add i)) low))

set_apart : (floor next i version : ℕ) (oldests : List ℕ) → IsOldest floor next version → AllByRecursion (IsOldest floor next) oldests → AllByRecursion (IsOldest floor next) (set oldests i version)
set_apart floor next i version [] own all = tt
set_apart floor next zero version (o ∷ oldests) own all = (own, all.1)
set_apart floor next (suc i) version (o ∷ oldests) own all = (all.0, set_apart floor next i version oldests own all.1)

pub kept_one : (tables : List Known) (totals : List (List ℕ)) (versions : List Contents) (from : From) (next i version : ℕ) → AreKept tables totals versions from next → from.floor ≤ version → version < next
    → AreKept tables totals versions (from_one from i version) next
kept_one tables totals versions from next i version kept low high = record {
  few = kept.few;
  count = kept.count;
  oldests = length-set from.oldests i version ∙ kept.oldests;
  apart = set_apart from.floor next i version from.oldests (low, inl high) kept.apart;
  widths = kept.widths;
  numbers = kept.numbers;
  floor = kept.floor;
  most = kept.most;
  have = kept.have;
  held = kept.held;
}

-- ---- as callers see them

pub known_again : (from : From) (n : ℕ) (totals : List (List ℕ)) (versions : List Contents) (tables : List Known) → map (λ (t : Table). record { name = t.name; lineage = t.lineage }) (tables_in from n totals versions tables) ≡ tables
known_again from n totals versions [] = refl
known_again from n totals versions (k ∷ tables) = ap (λ ks. k ∷ ks) (known_again from (n + 1) totals versions tables)

-- bounds don't hang on contents
pub bounds_any : (from other : From) (placed : List Placed) (n : ℕ) (totals : List (List ℕ)) (versions others : List Contents) (tables : List Known) → bounds_checked placed n (tables_in from n totals versions tables) ≡ bounds_checked placed n (tables_in other n totals others tables)
bounds_any from other placed n totals versions others [] = refl
bounds_any from other placed n totals versions others (k ∷ tables) = ap (λ rest. bound_checked (table_in from n totals versions k) (rows_for n placed) >> rest) (bounds_any from other placed (n + 1) totals versions others tables)

bounds_pass : (from : From) (placed : List Placed) (n : ℕ) (totals : List (List ℕ)) (versions : List Contents) (tables : List Known) → ((i : ℕ) (k : Known) → slice_get tables i ≡ Some k → over_bound (totals_in (n + i) totals) (abs_totals (columns_of k.lineage) (rows_for (n + i) placed)) ≡ None)
    → bounds_checked placed n (tables_in from n totals versions tables) ≡ Ok tt
bounds_pass from placed n totals versions [] h = refl
bounds_pass from placed n totals versions (k ∷ tables) h =
    let none : over_bound (totals_in n totals) (abs_totals (columns_of k.lineage) (rows_for n placed)) ≡ None = subst (λ m. over_bound (totals_in m totals) (abs_totals (columns_of k.lineage) (rows_for m placed)) ≡ None) (add-zero n) (h zero k refl) in
    ap (λ r. r >> bounds_checked placed (n + 1) (tables_in from (n + 1) totals versions tables)) (bound_none (table_in from n totals versions k) (rows_for n placed) none)
    ∙ bounds_pass from placed (n + 1) totals versions tables (λ i q e. subst (λ m. over_bound (totals_in m totals) (abs_totals (columns_of q.lineage) (rows_for m placed)) ≡ None) (shifted n i) (h (suc i) q e))

pub bounds_passed : (from : From) (placed : List Placed) (tables : List Known) (totals after : List (List ℕ)) (versions : List Contents) (batch : Batched) → HasRows placed batch → AreTotalsWith tables totals batch after → bounds_checked placed 0 (tables_in from 0 totals versions tables) ≡ Ok tt
bounds_passed from placed tables totals after versions batch has with = bounds_pass from placed 0 totals versions tables (λ i k e.
    subst (λ m. over_bound (totals_in m totals) (abs_totals (columns_of k.lineage) (rows_for m placed)) ≡ None) (sym (zero-add i)) (ap (over_bound (totals_in i totals)) (sym (has.totals i (columns_of k.lineage))) ∙ with.bound i k e))
