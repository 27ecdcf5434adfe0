-- A table whose schema is changed.
use Rattle.std.proofs.Common.{◌≡◌, ◌≢◌, ◌≤◌, ◌<◌, ◌+◌, ◌-◌, ◌⊎◌, ℕ, zero, suc, List, [], ◌∷◌, ◌++◌, length, map, take, drop, get_or, set, cond, true, false, Some, refl, sym, ◌∙◌, ap, subst, arith, inl, inr, zero-add}
use Rattle.std.specs.Prelude.{slice_get, unwrap_or}
use Rattle.std.specs.List.{AllByRecursion}
use Rattle.std.proofs.lemmas.List.{append-nil, get_or-set_other, get_or-set_same, length-map, length-set}
use Rattle.std.proofs.lemmas.Option.{get_or_from_slice_get, slice_get-get_or}
use Rattle.std.specs.declared.alloc.Global.{Global}
use Rattle.std.specs.declared.sync.Arc.{Arc}
use Rattle.mesa_answer.specs.mesa_columns.declared.changes.Change.{Change}
use Rattle.mesa_answer.specs.mesa_columns.declared.changes.Change.TheVariants as change
use Rattle.mesa_answer.specs.mesa_columns.declared.lifting.Lift.{Lift}
use Rattle.mesa_answer.specs.mesa_columns.declared.rows.Row.{Row}
use Rattle.mesa_answer.specs.mesa_columns.Columns.{Columns, aggs_of, place_of, value_names}
use Rattle.mesa_answer.specs.mesa_columns.Changes.{changed, lifted_once}
use Rattle.mesa_schema.specs.Changes.{Lineage, columns_at, columns_of, epoch_of, lifted, with_change}
use Rattle.mesa_answer.specs.mesa_fold.Folded.{rows_of}
use Rattle.mesa_answer.specs.mesa_columns.Lifting.{lifted_with}
use Rattle.mesa_schema.specs.Lifting.{Lifts}
use Rattle.mesa_schema.specs.Lineages.{HasDefault}
use Rattle.mesa_answer.specs.mesa_columns.Rows.{AreRowsOf}
use Rattle.mesa_schema.proofs.Forms.{lifts_folded}
use Rattle.mesa_schema.proofs.PresentRows.{columns_more, forms_more, lifted_more, lifted_now}
use Rattle.mesa_batch.specs.Glance.{Known}
use Rattle.mesa_batch.specs.Totals.{AreAtMost, abs_total, abs_totals, is_sum, sum_bound, sum_places, sums_in, totals_after}
use Rattle.mesa_batch.proofs.LastTotals.{totals_last}
use Rattle.mesa_model.specs.Tables.{table_changed}
use Rattle.mesa_oracle_tables.specs.Found.{known_at, no_known}
use Rattle.mesa_oracle_tables.specs.Kept.{Contents, From, all_shared, content_in, contents_in, contents_lifted, contents_with, gone_in, oldest_in, shared, table_in, tables_in, totals_in}
use Rattle.mesa_oracle_tables.specs.Sound.{AreKept, HasTotals, IsHeld}
use Rattle.mesa_oracle_tables.proofs.Items.{map_there}
use Rattle.mesa_oracle_tables.proofs.Stores.{drop-map, nothing_held}

-- ---- a row through one change

front_is : {X : Type 0} (xs : List X) (x : X) → take (length xs) (xs ++ x ∷ []) ≡ xs
front_is [] x = refl
front_is (y ∷ xs) x = ap (λ ys. y ∷ ys) (front_is xs x)

-- a lift from the epoch before the last change takes rows through that change
pub lift_once : (l : Lineage) (c : Change) (lift : Lift) (epoch : ℕ) → epoch ≡ epoch_of l → Lifts lift (with_change l c) epoch → (row : Row) → length row.values ≡ length (columns_of l).values
    → lifted_with lift row ≡ lifted_once (columns_of l) c row
lift_once l c lift epoch is lifts row full =
    let since : epoch_of l - l.begins ≡ length l.changes = omega arith in
    let front : take (epoch_of l - l.begins) (l.changes ++ c ∷ []) ≡ l.changes = ap (λ n. take n (l.changes ++ c ∷ [])) since ∙ front_is l.changes c in
    let before : columns_at (with_change l c) epoch ≡ columns_of l = ap (columns_at (with_change l c)) is ∙ ap (λ cs. columns_of (record l { changes = cs })) front in
    lifts row (full ∙ sym (ap (λ (s : Columns). length s.values) before))
    ∙ ap (λ e. lifted (with_change l c) e (epoch_of (with_change l c)) row) is
    ∙ lifted_more l c (epoch_of l) row (omega arith)
    ∙ ap (lifted_once (columns_of l) c) (lifted_now l row)

rows_once : (l : Lineage) (c : Change) (lift : Lift) (epoch : ℕ) → epoch ≡ epoch_of l → Lifts lift (with_change l c) epoch → (rows : List Row) → AreRowsOf (columns_of l) rows → map (lifted_with lift) rows ≡ map (lifted_once (columns_of l) c) rows
rows_once l c lift epoch is lifts [] all = refl
rows_once l c lift epoch is lifts (row ∷ rows) all = λ j. lift_once l c lift epoch is lifts row all.0.values j ∷ rows_once l c lift epoch is lifts rows all.1 j

contents_once : (l : Lineage) (c : Change) (lift : Lift) (epoch : ℕ) → epoch ≡ epoch_of l → Lifts lift (with_change l c) epoch → (totals : List ℕ) (contents : List (List Row)) → AllByRecursion (IsHeld (columns_of l) totals) contents
    → map (map (lifted_with lift)) contents ≡ map (map (lifted_once (columns_of l) c)) contents
contents_once l c lift epoch is lifts totals [] all = refl
contents_once l c lift epoch is lifts totals (rows ∷ contents) all = λ j. rows_once l c lift epoch is lifts rows all.0.forms j ∷ contents_once l c lift epoch is lifts totals contents all.1 j

-- ---- totals through one change

pub as_many : (xs ys : List ℕ) → AreAtMost xs ys → length xs ≡ length ys
as_many [] [] most = refl
as_many [] (y ∷ ys) most = absurd most
as_many (x ∷ xs) [] most = absurd most
as_many (x ∷ xs) (y ∷ ys) most = ap suc (as_many xs ys most.1)

below_both : (xs ys : List ℕ) → AllByRecursion (λ total. total < sum_bound) xs → AllByRecursion (λ total. total < sum_bound) ys → AllByRecursion (λ total. total < sum_bound) (xs ++ ys)
below_both [] ys a b = b
below_both (x ∷ xs) ys a b = (a.0, below_both xs ys a.1 b)

below_take : (n : ℕ) (xs : List ℕ) → AllByRecursion (λ total. total < sum_bound) xs → AllByRecursion (λ total. total < sum_bound) (take n xs)
below_take zero xs a = tt
below_take (suc n) [] a = tt
below_take (suc n) (x ∷ xs) a = (a.0, below_take n xs a.1)

below_drop : (n : ℕ) (xs : List ℕ) → AllByRecursion (λ total. total < sum_bound) xs → AllByRecursion (λ total. total < sum_bound) (drop n xs)
below_drop zero xs a = a
below_drop (suc n) [] a = tt
below_drop (suc n) (x ∷ xs) a = below_drop n xs a.1

below_after : (s : Columns) (c : Change) (totals : List ℕ) → AllByRecursion (λ total. total < sum_bound) totals → AllByRecursion (λ total. total < sum_bound) (totals_after s c totals)
below_after s (change.AddValue column default) totals a =
    elim (is_sum column.agg) as (λ b. AllByRecursion (λ total. total < sum_bound) (cond b (totals ++ 0 ∷ []) totals)) [ true ↦ below_both totals (0 ∷ []) a (omega arith, tt) | false ↦ a ]
below_after s (change.DropValue name) totals a =
    let place = unwrap_or (place_of name (value_names s)) (length s.values) in
    below_both (take (sums_in (take place (aggs_of s))) totals) (drop (sums_in (take (place + 1) (aggs_of s))) totals) (below_take (sums_in (take place (aggs_of s))) totals a) (below_drop (sums_in (take (place + 1) (aggs_of s))) totals a)
below_after s (change.AddKey column default) totals a = a

has_after : (s : Columns) (c : Change) (totals : List ℕ) → HasDefault c → HasTotals s totals → HasTotals (changed s c) (totals_after s c totals)
has_after s c totals default has = record {
  count = sym (as_many (abs_totals (changed s c) []) (totals_after s c totals) (totals_last s c [] totals default tt (nothing_held s totals has).sums)) ∙ length-map (sum_places 0 (aggs_of (changed s c))) (λ column. abs_total column []);
  bound = below_after s c totals has.bound;
}

-- ---- contents through one change

pub alone : (s : Columns) (rows : List Row) → AreRowsOf s rows → AreRowsOf s (rows_of (rows ∷ []))
alone s rows forms = subst (AreRowsOf s) (sym (append-nil rows)) forms

lifted_held : (s : Columns) (c : Change) (totals : List ℕ) (rows : List Row) → HasDefault c → IsHeld s totals rows → IsHeld (changed s c) (totals_after s c totals) (map (lifted_once s c) rows)
lifted_held s c totals rows default held = record {
  forms = forms_more s c rows default held.forms;
  fold = sym (lifts_folded s (c ∷ []) (rows ∷ []) (default, tt) (alone s rows held.forms)) ∙ ap (map (lifted_once s c)) held.fold;
  sums = totals_last s c rows totals default held.forms held.sums;
}

all_lifted : (s : Columns) (c : Change) (totals : List ℕ) (contents : List (List Row)) → HasDefault c → AllByRecursion (IsHeld s totals) contents → AllByRecursion (IsHeld (changed s c) (totals_after s c totals)) (map (map (lifted_once s c)) contents)
all_lifted s c totals [] default all = tt
all_lifted s c totals (rows ∷ contents) default all = (lifted_held s c totals rows default all.0, all_lifted s c totals contents default all.1)

-- ---- one table's contents among those of all

-- each version's content of the table of a number
abbrev at_all : ℕ → List (List (List Row)) → List (List Row)
at_all n contents = map (λ (rows : List (List Row)). get_or rows n []) contents

at_shared : (n : ℕ) (versions : List Contents) → contents_in n versions ≡ at_all n (all_shared versions)
at_shared n [] = refl
at_shared n (contents ∷ versions) = ap (λ rest. content_in n contents ∷ rest) (at_shared n versions)

own_with : (f : List Row → List Row) → f [] ≡ [] → (i : ℕ) (rows : List (List Row)) → get_or (contents_with i f rows) i [] ≡ f (get_or rows i [])
own_with f none i [] = sym none
own_with f none zero (row ∷ rows) = refl
own_with f none (suc i) (row ∷ rows) = own_with f none i rows

-- a version that has no content of the table stays as it is
pub with_past : (f : List Row → List Row) (i : ℕ) (rows : List (List Row)) → length rows ≤ i → rows ≡ contents_with i f rows
with_past f i [] past = refl
with_past f zero (row ∷ rows) past = absurd (omega (arith, past))
with_past f (suc i) (row ∷ rows) past = ap (λ rest. row ∷ rest) (with_past f i rows (omega (arith, past)))

pub lifted_past : (lift : Lift) (i : ℕ) (rows : List (List Row)) → length rows ≤ i → rows ≡ contents_lifted i lift rows
lifted_past lift i rows past = with_past (map (lifted_with lift)) i rows past

all_own : (f : List Row → List Row) → f [] ≡ [] → (i : ℕ) (all : List (List (List Row))) → at_all i (map (contents_with i f) all) ≡ map f (at_all i all)
all_own f none i [] = refl
all_own f none i (rows ∷ all) = λ j. own_with f none i rows j ∷ all_own f none i all j

all_others : (f : List Row → List Row) (i n : ℕ) (all : List (List (List Row))) → n ≢ i → at_all n (map (contents_with i f) all) ≡ at_all n all
all_others f i n [] other = refl
all_others f i n (rows ∷ all) other = λ j. get_or-set_other rows i n (f (get_or rows i [])) [] other j ∷ all_others f i n all other j

-- the contents of the table, and those of the others
pub own_contents : (f : List Row → List Row) → f [] ≡ [] → (i : ℕ) (versions later : List Contents) → all_shared later ≡ map (contents_with i f) (all_shared versions) → contents_in i later ≡ map f (contents_in i versions)
own_contents f none i versions later is = at_shared i later ∙ ap (at_all i) is ∙ all_own f none i (all_shared versions) ∙ sym (ap (map f) (at_shared i versions))

pub other_contents : (f : List Row → List Row) (i n : ℕ) (versions later : List Contents) → n ≢ i → all_shared later ≡ map (contents_with i f) (all_shared versions) → contents_in n later ≡ contents_in n versions
other_contents f i n versions later other is = at_shared n later ∙ ap (at_all n) is ∙ all_others f i n (all_shared versions) other ∙ sym (at_shared n versions)

-- the rows of a content that is there
pub content_there : (contents : Contents) (i : ℕ) (content : Arc (List Row) Global) → i < length contents → content ≡ get_or contents i content → get_or (shared contents) i [] ≡ content.value
content_there contents i content lt is = get_or_from_slice_get (shared contents) i content.value [] (map_there (λ (a : Arc (List Row) Global). a.value) contents i content lt is)

-- ---- what a change makes of tables

-- The table of a number was changed, and the others stayed.
pub record IsChanged (s : Columns) (c : Change) (i : ℕ) (totals after : List (List ℕ)) (versions later : List Contents) : Type 0 where
  pub own_totals : totals_in i after ≡ totals_after s c (totals_in i totals)
  pub other_totals : (n : ℕ) → n ≢ i → totals_in n after ≡ totals_in n totals
  pub own_contents : contents_in i later ≡ map (map (lifted_once s c)) (contents_in i versions)
  pub other_contents : (n : ℕ) → n ≢ i → contents_in n later ≡ contents_in n versions

tables_same : (from : From) (n i : ℕ) (totals after : List (List ℕ)) (versions later : List Contents) (tables : List Known) → i < n → ((m : ℕ) → m ≢ i → totals_in m after ≡ totals_in m totals) → ((m : ℕ) → m ≢ i → contents_in m later ≡ contents_in m versions)
    → tables_in from n after later tables ≡ tables_in from n totals versions tables
tables_same from n i totals after versions later [] below same stay = refl
tables_same from n i totals after versions later (k ∷ tables) below same stay =
    let other : n ≢ i = λ e. omega (arith, below, e) in
    λ j. record { name = k.name; lineage = k.lineage; totals = same n other j; oldest = oldest_in n from; contents = drop (gone_in n from) (stay n other j) } ∷ tables_same from (n + 1) i totals after versions later tables (omega (arith, below)) same stay j

pub tables_set : (from : From) (n i at : ℕ) (totals after : List (List ℕ)) (versions later : List Contents) (tables : List Known) (q : Known) → at ≡ n + i → i < length tables → ((m : ℕ) → m ≢ at → totals_in m after ≡ totals_in m totals) → ((m : ℕ) → m ≢ at → contents_in m later ≡ contents_in m versions)
    → tables_in from n after later (set tables i q) ≡ set (tables_in from n totals versions tables) i (table_in from at after later q)
tables_set from n i at totals after versions later [] q is lt same stay = absurd (omega (arith, lt))
tables_set from n zero at totals after versions later (k ∷ tables) q is lt same stay =
    let here : n ≡ at = omega (arith, is) in
    λ j. table_in from (here j) after later q ∷ tables_same from (n + 1) at totals after versions later tables (omega (arith, is)) same stay j
tables_set from n (suc i) at totals after versions later (k ∷ tables) q is lt same stay =
    let other : n ≢ at = λ e. omega (arith, is, e) in
    λ j. record { name = k.name; lineage = k.lineage; totals = same n other j; oldest = oldest_in n from; contents = drop (gone_in n from) (stay n other j) } ∷ tables_set from (n + 1) i at totals after versions later tables q (omega (arith, is)) (omega (arith, lt)) same stay j

pub tables_changed : (from : From) (s : Columns) (c : Change) (i : ℕ) (totals after : List (List ℕ)) (versions later : List Contents) (tables : List Known) → IsChanged s c i totals after versions later → i < length tables → s ≡ columns_of (known_at i tables).lineage
    → tables_in from 0 after later (set tables i (record (known_at i tables) { lineage = with_change (known_at i tables).lineage c })) ≡ set (tables_in from 0 totals versions tables) i (table_changed (table_in from i totals versions (known_at i tables)) c)
tables_changed from s c i totals after versions later tables is lt columns =
    let k = known_at i tables in
    let own : totals_in i after ≡ totals_after (columns_of k.lineage) c (totals_in i totals) = is.own_totals ∙ ap (λ (p : Columns). totals_after p c (totals_in i totals)) columns in
    let contents : contents_in i later ≡ map (map (lifted_once (columns_of k.lineage) c)) (contents_in i versions) = is.own_contents ∙ ap (λ (p : Columns). map (map (lifted_once p c)) (contents_in i versions)) columns in
    let left : drop (gone_in i from) (contents_in i later) ≡ map (map (lifted_once (columns_of k.lineage) c)) (drop (gone_in i from) (contents_in i versions)) =
    ap (drop (gone_in i from)) contents ∙ sym (drop-map (map (lifted_once (columns_of k.lineage) c)) (gone_in i from) (contents_in i versions)) in
    tables_set from 0 i i totals after versions later tables (record k { lineage = with_change k.lineage c }) (sym (zero-add i)) lt is.other_totals is.other_contents
    ∙ (λ j. set (tables_in from 0 totals versions tables) i (record { name = k.name; lineage = with_change k.lineage c; totals = own j; oldest = oldest_in i from; contents = left j }))

-- ---- what is kept of them

some_same : {X : Type 0} (x y : X) → Some x ≡ Some y → x ≡ y
some_same x y e = cc

-- an item of a list in which one was set
one_set : {X : Type 0} (xs : List X) (i n : ℕ) (q x : X) → slice_get (set xs i q) n ≡ Some x → ((n ≡ i) × (q ≡ x)) ⊎ ((n ≢ i) × (slice_get xs n ≡ Some x))
one_set [] i n q x e = absurd (cc)
one_set (y ∷ xs) zero zero q x e = inl (refl, some_same q x e)
one_set (y ∷ xs) zero (suc n) q x e = inr (λ f. omega (arith, f), e)
one_set (y ∷ xs) (suc i) zero q x e = inr (λ f. omega (arith, f), e)
one_set (y ∷ xs) (suc i) (suc n) q x e = elim (one_set xs i n q x e) [
  | inl is ↦ inl (ap suc is.0, is.1)
  | inr is ↦ inr (λ f. is.0 (omega (arith, f)), is.1)
]

length_with : (f : List Row → List Row) (i : ℕ) (contents before : Contents) → shared contents ≡ contents_with i f (shared before) → length contents ≡ length before
length_with f i contents before is =
    sym (length-map contents (λ a. a.value)) ∙ ap length is ∙ length-set (shared before) i (f (get_or (shared before) i [])) ∙ length-map before (λ a. a.value)

widths_with : (f : List Row → List Row) (i count : ℕ) (versions later : List Contents) → all_shared later ≡ map (contents_with i f) (all_shared versions) → AllByRecursion (λ (c : Contents). length c ≤ count) versions → AllByRecursion (λ (c : Contents). length c ≤ count) later
widths_with f i count [] [] is all = tt
widths_with f i count [] (d ∷ later) is all = absurd (cc)
widths_with f i count (c ∷ versions) [] is all = absurd (cc)
widths_with f i count (c ∷ versions) (d ∷ later) is all =
    let own : shared d ≡ contents_with i f (shared c) = cc in
    let rest : all_shared later ≡ map (contents_with i f) (all_shared versions) = cc in
    (omega (arith, all.0, length_with f i d c own), widths_with f i count versions later rest all.1)

many_with : (f : List Row → List Row) (i : ℕ) (versions later : List Contents) → all_shared later ≡ map (contents_with i f) (all_shared versions) → length later ≡ length versions
many_with f i versions later is = sym (length-map later shared) ∙ ap length is ∙ length-map (all_shared versions) (contents_with i f) ∙ length-map versions shared

-- what is kept still fits together where one table has other columns, totals and rows that do
pub kept_with : (tables : List Known) (totals after : List (List ℕ)) (versions later : List Contents) (from : From) (next i : ℕ) (l : Lineage) (f : List Row → List Row) → AreKept tables totals versions from next → i < length tables
    → HasTotals (columns_of l) (totals_in i after) → AllByRecursion (IsHeld (columns_of l) (totals_in i after)) (contents_in i later)
    → ((n : ℕ) → n ≢ i → totals_in n after ≡ totals_in n totals) → ((n : ℕ) → n ≢ i → contents_in n later ≡ contents_in n versions)
    → length after ≡ length totals → all_shared later ≡ map (contents_with i f) (all_shared versions)
    → AreKept (set tables i (record (known_at i tables) { lineage = l })) after later from next
kept_with tables totals after versions later from next i l f kept lt has held same stay as_before made =
    let q : Known = record (known_at i tables) { lineage = l } in
    let long : length (set tables i q) ≡ length tables = length-set tables i q in
    record {
      few = omega (arith, long, kept.few);
      count = as_before ∙ kept.count ∙ sym long;
      oldests = kept.oldests ∙ sym long;
      apart = kept.apart;
      widths = subst (λ n. AllByRecursion (λ (contents : Contents). length contents ≤ n) later) (sym long) (widths_with f i (length tables) versions later made kept.widths);
      numbers = omega (arith, many_with f i versions later made, kept.numbers);
      floor = kept.floor;
      most = kept.most;
      have = λ n p e. elim (one_set tables i n q p e) [
        | inl w ↦ subst (λ (x : Known). HasTotals (columns_of x.lineage) (totals_in n after)) w.1 (subst (λ m. HasTotals (columns_of q.lineage) (totals_in m after)) (sym w.0) has)
        | inr w ↦ subst (HasTotals (columns_of p.lineage)) (sym (same n w.0)) (kept.have n p w.1)
      ];
      held = λ n p e. elim (one_set tables i n q p e) [
        | inl w ↦ subst (λ (x : Known). AllByRecursion (IsHeld (columns_of x.lineage) (totals_in n after)) (contents_in n later)) w.1 (subst (λ m. AllByRecursion (IsHeld (columns_of q.lineage) (totals_in m after)) (contents_in m later)) (sym w.0) held)
        | inr w ↦ subst (λ ts. AllByRecursion (IsHeld (columns_of p.lineage) ts) (contents_in n later)) (sym (same n w.0)) (subst (AllByRecursion (IsHeld (columns_of p.lineage) (totals_in n totals))) (sym (stay n w.0)) (kept.held n p w.1))
      ];
    }

pub kept_changed : (tables : List Known) (totals after : List (List ℕ)) (versions later : List Contents) (from : From) (next i : ℕ) (c : Change) (lift : Lift) → AreKept tables totals versions from next → i < length tables → HasDefault c
    → IsChanged (columns_of (known_at i tables).lineage) c i totals after versions later → length after ≡ length totals → all_shared later ≡ map (contents_lifted i lift) (all_shared versions)
    → AreKept (set tables i (record (known_at i tables) { lineage = with_change (known_at i tables).lineage c })) after later from next
kept_changed tables totals after versions later from next i c lift kept lt default is as_before lifted =
    let k = known_at i tables in
    let l = k.lineage in
    let s : Columns = columns_of l in
    let there : slice_get tables i ≡ Some k = slice_get-get_or tables i no_known lt in
    let columns : changed s c ≡ columns_of (with_change l c) = sym (columns_more l c) in
    let own_totals : totals_after s c (totals_in i totals) ≡ totals_in i after = sym is.own_totals in
    let has : HasTotals (columns_of (with_change l c)) (totals_in i after) = subst (λ (p : Columns). HasTotals p (totals_in i after)) columns (subst (HasTotals (changed s c)) own_totals (has_after s c (totals_in i totals) default (kept.have i k there))) in
    let held : AllByRecursion (IsHeld (columns_of (with_change l c)) (totals_in i after)) (contents_in i later) =
    subst (λ (p : Columns). AllByRecursion (IsHeld p (totals_in i after)) (contents_in i later)) columns
    (subst (λ ts. AllByRecursion (IsHeld (changed s c) ts) (contents_in i later)) own_totals
    (subst (AllByRecursion (IsHeld (changed s c) (totals_after s c (totals_in i totals)))) (sym is.own_contents) (all_lifted s c (totals_in i totals) (contents_in i versions) default (kept.held i k there)))) in
    kept_with tables totals after versions later from next i (with_change l c) (map (lifted_with lift)) kept lt has held is.other_totals is.other_contents as_before lifted

-- the totals in which those of one table were set, and the versions in which its rows were lifted, are those after a change
pub is_changed : (tables : List Known) (totals : List (List ℕ)) (own : List ℕ) (versions later : List Contents) (from : From) (next i epoch : ℕ) (c : Change) (lift : Lift) → AreKept tables totals versions from next → i < length tables
    → own ≡ totals_after (columns_of (known_at i tables).lineage) c (totals_in i totals) → epoch ≡ epoch_of (known_at i tables).lineage → Lifts lift (with_change (known_at i tables).lineage c) epoch → all_shared later ≡ map (contents_lifted i lift) (all_shared versions)
    → IsChanged (columns_of (known_at i tables).lineage) c i totals (set totals i own) versions later
is_changed tables totals own versions later from next i epoch c lift kept lt is at lifts lifted =
    let k = known_at i tables in
    let there : slice_get tables i ≡ Some k = slice_get-get_or tables i no_known lt in
    record {
      own_totals = get_or-set_same totals i own [] (omega (arith, lt, kept.count)) ∙ is;
      other_totals = λ n other. get_or-set_other totals i n own [] other;
      own_contents = own_contents (map (lifted_with lift)) refl i versions later lifted ∙ contents_once k.lineage c lift epoch at lifts (totals_in i totals) (contents_in i versions) (kept.held i k there);
      other_contents = λ n other. other_contents (map (lifted_with lift)) i n versions later other lifted;
    }

-- the totals of a table that is there
pub own_count : (tables : List Known) (totals : List (List ℕ)) (versions : List Contents) (from : From) (next i : ℕ) → AreKept tables totals versions from next → i < length tables → length (totals_in i totals) ≡ sums_in (aggs_of (columns_of (known_at i tables).lineage))
own_count tables totals versions from next i kept lt = (kept.have i (known_at i tables) (slice_get-get_or tables i no_known lt)).count

-- ---- the same as a change of a store tells it

module _ (tables later_tables : List Known) (totals : List (List ℕ)) (own : List ℕ) (versions later : List Contents) (from : From) (next i epoch : ℕ) (c : Change) (lift : Lift) (before after : Lineage) where
  after_is : before ≡ (known_at i tables).lineage → after ≡ with_change before c → after ≡ with_change (known_at i tables).lineage c
  after_is was is = is ∙ ap (λ l. with_change l c) was

  all_is : before ≡ (known_at i tables).lineage → after ≡ with_change before c → later_tables ≡ set tables i (record (known_at i tables) { lineage = after })
      → later_tables ≡ set tables i (record (known_at i tables) { lineage = with_change (known_at i tables).lineage c })
  all_is was is put = put ∙ ap (λ l. set tables i (record (known_at i tables) { lineage = l })) (after_is was is)

  changed_so : AreKept tables totals versions from next → i < length tables → before ≡ (known_at i tables).lineage → after ≡ with_change before c → own ≡ totals_after (columns_of before) c (totals_in i totals) → epoch ≡ epoch_of before → Lifts lift after epoch
      → all_shared later ≡ map (contents_lifted i lift) (all_shared versions) → IsChanged (columns_of (known_at i tables).lineage) c i totals (set totals i own) versions later
  changed_so kept lt was is owned at lifts lifted =
      is_changed tables totals own versions later from next i epoch c lift kept lt (owned ∙ ap (λ l. totals_after (columns_of l) c (totals_in i totals)) was) (at ∙ ap epoch_of was) (subst (λ l. Lifts lift l epoch) (after_is was is) lifts) lifted

  -- what is kept still fits together
  pub kept_after : AreKept tables totals versions from next → i < length tables → HasDefault c → before ≡ (known_at i tables).lineage → after ≡ with_change before c → later_tables ≡ set tables i (record (known_at i tables) { lineage = after })
      → own ≡ totals_after (columns_of before) c (totals_in i totals) → epoch ≡ epoch_of before → Lifts lift after epoch → all_shared later ≡ map (contents_lifted i lift) (all_shared versions) → AreKept later_tables (set totals i own) later from next
  kept_after kept lt default was is put owned at lifts lifted =
      subst (λ ks. AreKept ks (set totals i own) later from next) (sym (all_is was is put))
      (kept_changed tables totals (set totals i own) versions later from next i c lift kept lt default (changed_so kept lt was is owned at lifts lifted) (length-set totals i own) lifted)

  -- and the tables are those before, but for the one that was changed
  pub tables_after : AreKept tables totals versions from next → i < length tables → before ≡ (known_at i tables).lineage → after ≡ with_change before c → later_tables ≡ set tables i (record (known_at i tables) { lineage = after })
      → own ≡ totals_after (columns_of before) c (totals_in i totals) → epoch ≡ epoch_of before → Lifts lift after epoch → all_shared later ≡ map (contents_lifted i lift) (all_shared versions)
      → tables_in from 0 (set totals i own) later later_tables ≡ set (tables_in from 0 totals versions tables) i (table_changed (table_in from i totals versions (known_at i tables)) c)
  tables_after kept lt was is put owned at lifts lifted =
      ap (tables_in from 0 (set totals i own) later) (all_is was is put)
      ∙ tables_changed from (columns_of (known_at i tables).lineage) c i totals (set totals i own) versions later tables (changed_so kept lt was is owned at lifts lifted) lt refl
