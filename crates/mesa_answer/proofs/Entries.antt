-- Groups by place, found and put row by row.
use Rattle.std.proofs.Common.{◌≡◌, ℕ, zero, suc, ◌<◌, ◌≤◌, ◌-◌, List, [], ◌∷◌, ◌++◌, length, take, get_or, set, inl, inr, refl, sym, ◌∙◌, ap, subst, arith, Option, Some, None, Result, Ok, Err, ◌+◌, cond, true, false}
use Rattle.std.specs.Prelude.{ℤ, ◌↔◌, IfSome, IsSome, OnErr, OnOk, Vec, T, is_some, slice_get}
use Rattle.std.specs.List.{AllByRecursion}
use Rattle.std.specs.List.Sorted.{IsStrictlySortedBy}
use Rattle.std.specs.Map.{keys_of, lookup}
use Rattle.std.specs.BTreeMap.{insert_entry}
use Rattle.std.specs.Ordering.{is_eq, is_lt, match_ordering}
use Rattle.std.specs.declared.alloc.Global.{Global}
use Rattle.std.specs.declared.cmp.Ordering.{Ordering}
use Rattle.std.specs.declared.cmp.Ordering.TheVariants.{Less, Equal, Greater}
use Rattle.std.specs.Cmp.Lexicographic.{nat_list_cmp_total}
use Rattle.std.specs.FinMap.{slice_cmp-IsAntisymmetric, nat_cmp-IsAntisymmetric}
use Rattle.std.specs.FinMap.Entries.{by_order}
use Rattle.std.proofs.lemmas.Bool.{cases_eq}
use Rattle.std.proofs.lemmas.List.{get_or-append-add, get_or-set_other, get_or-set_same, get_or_append_left, length-append, length-map, length-set, map-append, take_all}
use Rattle.std.proofs.lemmas.Map.Keys.{sorted_head, sorted_tail}
use Rattle.mesa_batch.proofs.Place.{flipped}
use Rattle.mesa_model.proofs.mesa_fold.Folding.{is_less}
use Rattle.mesa_value.specs.declared.Agg.{Agg}
use Rattle.mesa_key.specs.Order.{byte_cmp}
use Rattle.mesa_model.specs.mesa_columns.declared.rows.Row.{Row}
use Rattle.mesa_model.specs.mesa_fold.Folded.{row_combined}
use Rattle.mesa_model.specs.mesa_fold.Laws.{AreFull}
use Rattle.mesa_model.specs.mesa_fold.Put.{put_row}
use Rattle.mesa_answer.specs.Held.{ArePlaced, Entry, HasPlace, IsNotBehind, StandsAt, is_key, key_cmp, key_in, no_row, row_in, rows_in, value_at, values_in, with_values}
use Rattle.mesa_answer.proofs.ColumnsAt.{take-front}

-- ---- keys

pub same_key : (a b : List ℕ) → byte_cmp a b ≡ Equal → a ≡ b
same_key a b e = slice_cmp-IsAntisymmetric nat_cmp-IsAntisymmetric a b e

pub self_equal : (k : List ℕ) → byte_cmp k k ≡ Equal
self_equal k = elim (byte_cmp k k) as (λ o. byte_cmp k k ≡ o → o ≡ Equal) [
  | Less ↦ λ e. let other = flipped k k Less e in cc
  | Equal ↦ λ e. refl
  | Greater ↦ λ e. let other = flipped k k Greater e in cc
] refl

-- keys of which one comes before the other differ
not_less : (a b : List ℕ) → a ≡ b → byte_cmp a b ≡ Less → ⊥
not_less a b same less = let equal = subst (λ k. byte_cmp a k ≡ Equal) same (self_equal a) in cc

-- a key behind one that no other is behind is behind them all
behind_last : (last k key : List ℕ) (o : Ordering) → byte_cmp last k ≡ o → is_lt o ≡ false → byte_cmp last key ≡ Less → byte_cmp key k ≡ Greater
behind_last last k key Less e not_less less = cc
behind_last last k key Equal e not_less less =
    let same : last ≡ k = same_key last k e in
    flipped key k Less (subst (λ q. byte_cmp q key ≡ Less) same less)
behind_last last k key Greater e not_less less = flipped key k Less (nat_list_cmp_total.trans k last key (flipped k last Greater e) less)

all_behind : (last key : List ℕ) (ks : List (Vec ℕ Global)) → byte_cmp last key ≡ Less → AllByRecursion (λ (k : Vec ℕ Global). is_lt (byte_cmp last k.items) ≡ false) ks → AllByRecursion (λ (k : Vec ℕ Global). byte_cmp key k.items ≡ Greater) ks
all_behind last key [] less all = tt
all_behind last key (k ∷ ks) less all = (behind_last last k.items key _ refl all.0 less, all_behind last key ks less all.1)

-- a key that another isn't before, and that isn't that one, comes before it
before_other : (last key : List ℕ) (o : Ordering) → byte_cmp last key ≡ o → is_lt o ≡ false → is_eq (byte_cmp key last) ≡ false → byte_cmp key last ≡ Less
before_other last key Less e not_less other = cc
before_other last key Equal e not_less other = let same = flipped key last Equal e in cc
before_other last key Greater e not_less other = flipped key last Greater e

-- ---- places

abbrev pub Stand : List Row → List Entry → Type 0
Stand groups es = AllByRecursion (λ (e : Entry). StandsAt groups e.1 e.0.items) es

-- what is looked up stands at its place
pub found_at : (groups : List Row) (es : List Entry) (key : List ℕ) (place : ℕ) → Stand groups es → lookup (is_key key) es ≡ Some place → HasPlace place es × StandsAt groups place key
found_at groups [] key place stand some = cc
found_at groups (e ∷ es) key place stand some =
    let later : lookup (is_key key) es ≡ Some place → HasPlace place (e ∷ es) × StandsAt groups place key = λ s. let there = found_at groups es key place stand.1 s in (inr there.0, there.1) in
    elim (byte_cmp key e.0.items) as (λ o. byte_cmp key e.0.items ≡ o → cond (is_eq o) (Some e.1) (lookup (is_key key) es) ≡ Some place → HasPlace place (e ∷ es) × StandsAt groups place key) [
      | Less ↦ λ o. later
      | Equal ↦ λ o s.
          let same : e.1 ≡ place = cc in
          (inl same, subst (λ p. StandsAt groups p key) same (subst (λ k. StandsAt groups e.1 k) (sym (same_key key e.0.items o)) stand.0))
      | Greater ↦ λ o. later
    ] refl some

-- the key at a place of rising entries is behind what comes before them
above : (groups : List Row) (k : Vec ℕ Global) (es : List Entry) (place : ℕ) → AllByRecursion (λ y. key_cmp k y ≡ Less) (keys_of es) → Stand groups es → HasPlace place es → byte_cmp k.items (key_in groups place) ≡ Less
above groups k [] place below stand has = absurd has
above groups k (e ∷ es) place below stand has = elim has [
  | inl is ↦ subst (λ p. byte_cmp k.items (key_in groups p) ≡ Less) is (subst (λ q. byte_cmp k.items q ≡ Less) (sym stand.0.1) below.0)
  | inr more ↦ above groups k es place below.1 stand.1 more
]

-- entries behind a key don't have its place
abbrev pub Apart : ℕ → List Entry → Type 0
Apart place es = AllByRecursion (λ (e : Entry). e.1 ≡ place → ⊥) es

pub apart : (groups : List Row) (k : Vec ℕ Global) (place : ℕ) (es : List Entry) → key_in groups place ≡ k.items → AllByRecursion (λ y. key_cmp k y ≡ Less) (keys_of es) → Stand groups es → Apart place es
apart groups k place [] at below stand = tt
apart groups k place (e ∷ es) at below stand =
    (λ is. not_less k.items e.0.items (sym at ∙ ap (key_in groups) (sym is) ∙ stand.0.1) below.0, apart groups k place es at below.1 stand.1)

-- groups that differ at one place have the same rows elsewhere
pub rows_apart : (groups after : List Row) (place : ℕ) (es : List Entry) → ((q : ℕ) → (q ≡ place → ⊥) → values_in after q ≡ values_in groups q) → Apart place es → rows_in after es ≡ rows_in groups es
rows_apart groups after place [] others away = refl
rows_apart groups after place (e ∷ es) others away =
    λ i. record { key = e.0.items; values = others e.1 away.0 i } ∷ rows_apart groups after place es others away.1 i

-- ---- a group at its place

-- A row of a group that is at a place is combined with it.
put-found : (aggs : List Agg) (groups after : List Row) (es : List Entry) (place : ℕ) (new : List ℤ) → IsStrictlySortedBy key_cmp (keys_of es) → Stand groups es → HasPlace place es
    → values_in after place ≡ row_combined aggs (values_in groups place) new → ((q : ℕ) → (q ≡ place → ⊥) → values_in after q ≡ values_in groups q)
    → rows_in after es ≡ put_row aggs (record { key = key_in groups place; values = new }) (rows_in groups es)
put-found aggs groups after [] place new rise stand has here others = absurd has
put-found aggs groups after (e ∷ es) place new rise stand has here others =
    let key : List ℕ = key_in groups place in
    let row : Row = record { key = key; values = new } in
    let below = sorted_head key_cmp e.0 (keys_of es) rise in
    let both : Row = record { key = e.0.items; values = row_combined aggs (values_in groups e.1) new } in
    let ordered : Ordering → List Row = λ o. by_order o (row ∷ row_in groups e ∷ rows_in groups es) (both ∷ rows_in groups es) (row_in groups e ∷ put_row aggs row (rows_in groups es)) in
    elim has [
      | inl is ↦
          let own : key ≡ e.0.items = ap (key_in groups) (sym is) ∙ stand.0.1 in
          let equal : byte_cmp key e.0.items ≡ Equal = subst (λ k. byte_cmp key k ≡ Equal) own (self_equal key) in
          let values : values_in after e.1 ≡ row_combined aggs (values_in groups e.1) new = subst (λ p. values_in after p ≡ row_combined aggs (values_in groups p) new) (sym is) here in
          let rest = rows_apart groups after place es others (apart groups e.0 place es own below stand.1) in
          (λ i. record { key = e.0.items; values = values i } ∷ rest i) ∙ sym (ap ordered equal)
      | inr more ↦
          let less : byte_cmp e.0.items key ≡ Less = above groups e.0 es place below stand.1 more in
          let greater : byte_cmp key e.0.items ≡ Greater = flipped key e.0.items Less less in
          let away : e.1 ≡ place → ⊥ = λ is. not_less e.0.items key (sym stand.0.1 ∙ ap (key_in groups) is) less in
          let rest = put-found aggs groups after es place new (sorted_tail key_cmp e.0 (keys_of es) rise) stand.1 more here others in
          (λ i. record { key = e.0.items; values = others e.1 away i } ∷ rest i) ∙ sym (ap ordered greater)
    ]

-- and its values are those that the rows have at its key
value_found : (groups : List Row) (es : List Entry) (place : ℕ) → IsStrictlySortedBy key_cmp (keys_of es) → Stand groups es → HasPlace place es → value_at (key_in groups place) (rows_in groups es) ≡ Some (values_in groups place)
value_found groups [] place rise stand has = absurd has
value_found groups (e ∷ es) place rise stand has =
    let key : List ℕ = key_in groups place in
    let below = sorted_head key_cmp e.0 (keys_of es) rise in
    let chosen_by : Ordering → Option (List ℤ) = λ o. cond (is_eq o) (Some (values_in groups e.1)) (value_at key (rows_in groups es)) in
    elim has [
      | inl is ↦
          let own : key ≡ e.0.items = ap (key_in groups) (sym is) ∙ stand.0.1 in
          ap chosen_by (subst (λ k. byte_cmp key k ≡ Equal) own (self_equal key)) ∙ ap (λ p. Some (values_in groups p)) is
      | inr more ↦
          let less : byte_cmp e.0.items key ≡ Less = above groups e.0 es place below stand.1 more in
          ap chosen_by (flipped key e.0.items Less less) ∙ value_found groups es place (sorted_tail key_cmp e.0 (keys_of es) rise) stand.1 more
    ]

-- each group has a value for each column
full_at : (aggs : List Agg) (rows : List Row) (key : List ℕ) (old : List ℤ) → AreFull aggs rows → value_at key rows ≡ Some old → length old ≡ length aggs
full_at aggs [] key old full some = cc
full_at aggs (row ∷ rows) key old full some =
    elim (byte_cmp key row.key) as (λ o. cond (is_eq o) (Some row.values) (value_at key rows) ≡ Some old → length old ≡ length aggs) [
      | Less ↦ λ s. full_at aggs rows key old full.1 s
      | Equal ↦ λ s. let same : row.values ≡ old = cc in subst (λ (vs : List ℤ). length vs ≡ length aggs) same full.0
      | Greater ↦ λ s. full_at aggs rows key old full.1 s
    ] some

-- the same of the group of a key, whichever way its place was found
pub value_stands : (groups : List Row) (es : List Entry) (place : ℕ) (key : List ℕ) → ArePlaced groups es → StandsAt groups place key → value_at key (rows_in groups es) ≡ Some (values_in groups place)
value_stands groups es place key placed at = subst (λ k. value_at k (rows_in groups es) ≡ Some (values_in groups place)) at.1 (value_found groups es place placed.rise placed.stand (placed.all place at.0))

pub full_stands : (aggs : List Agg) (groups : List Row) (es : List Entry) (place : ℕ) (key : List ℕ) → ArePlaced groups es → StandsAt groups place key → AreFull aggs (rows_in groups es) → length (values_in groups place) ≡ length aggs
full_stands aggs groups es place key placed at full = full_at aggs (rows_in groups es) key (values_in groups place) full (value_stands groups es place key placed at)

-- ---- other values at a place

key_with : (groups : List Row) (place : ℕ) (values : List ℤ) (q : ℕ) → place < length groups → key_in (with_values groups place values) q ≡ key_in groups q
key_with groups place values q lt =
    let row : Row = record { key = key_in groups place; values = values } in
    elim (cases_eq q place) [
      | inl is ↦ subst (λ p. key_in (with_values groups place values) p ≡ key_in groups p) (sym is) (ap (λ (r : Row). r.key) (get_or-set_same groups place row no_row lt))
      | inr other ↦ ap (λ (r : Row). r.key) (get_or-set_other groups place q row no_row other)
    ]

value_with : (groups : List Row) (place : ℕ) (values : List ℤ) → place < length groups → values_in (with_values groups place values) place ≡ values
value_with groups place values lt = ap (λ (r : Row). r.values) (get_or-set_same groups place (record { key = key_in groups place; values = values }) no_row lt)

value_beside : (groups : List Row) (place : ℕ) (values : List ℤ) (q : ℕ) → (q ≡ place → ⊥) → values_in (with_values groups place values) q ≡ values_in groups q
value_beside groups place values q other = ap (λ (r : Row). r.values) (get_or-set_other groups place q (record { key = key_in groups place; values = values }) no_row other)

length-with : (groups : List Row) (place : ℕ) (values : List ℤ) → length (with_values groups place values) ≡ length groups
length-with groups place values = length-set groups place (record { key = key_in groups place; values = values })

-- places stay those of their keys
pub stand_with : (groups : List Row) (place : ℕ) (values : List ℤ) (es : List Entry) → place < length groups → Stand groups es → Stand (with_values groups place values) es
stand_with groups place values [] lt stand = tt
stand_with groups place values (e ∷ es) lt stand =
    ((subst (λ n. e.1 < n) (sym (length-with groups place values)) stand.0.0, key_with groups place values e.1 lt ∙ stand.0.1), stand_with groups place values es lt stand.1)

pub placed_with : (groups : List Row) (place : ℕ) (values : List ℤ) (es : List Entry) → place < length groups → ArePlaced groups es → ArePlaced (with_values groups place values) es
placed_with groups place values es lt placed = record {
  rise = placed.rise;
  stand = stand_with groups place values es lt placed.stand;
  all = λ q within. placed.all q (subst (λ n. q < n) (length-with groups place values) within);
}

-- and other rows stay
pub rows_beside : (groups : List Row) (place : ℕ) (values : List ℤ) (es : List Entry) → Apart place es → rows_in (with_values groups place values) es ≡ rows_in groups es
rows_beside groups place values es away = rows_apart groups (with_values groups place values) place es (value_beside groups place values) away

pub length-rows_in : (groups : List Row) (es : List Entry) → length (rows_in groups es) ≡ length es
length-rows_in groups es = length-map es (row_in groups)

-- A ROW OF A GROUP that stands at a place is put among the rows.
pub put_at : (aggs : List Agg) (groups : List Row) (es : List Entry) (place : ℕ) (key : List ℕ) (new : List ℤ) → ArePlaced groups es → StandsAt groups place key
    → rows_in (with_values groups place (row_combined aggs (values_in groups place) new)) es ≡ put_row aggs (record { key = key; values = new }) (rows_in groups es)
put_at aggs groups es place key new placed at =
    let values : List ℤ = row_combined aggs (values_in groups place) new in
    put-found aggs groups (with_values groups place values) es place new placed.rise placed.stand (placed.all place at.0) (value_with groups place values at.0) (value_beside groups place values)
    ∙ ap (λ k. put_row aggs (record { key = k; values = new }) (rows_in groups es)) at.1

-- none falls off where there are few enough
pub fitting : (most : ℕ) (groups : List Row) (es : List Entry) (rows : List Row) → rows_in groups es ≡ rows → length es ≤ most → rows_in groups es ≡ take most rows
fitting most groups es rows put le = put ∙ sym (take_all most rows (omega (arith, ap length put, length-rows_in groups es, le)))

-- a row more is one group more at most
length-put_row : (aggs : List Agg) (row : Row) (rows : List Row) → length (put_row aggs row rows) ≤ suc (length rows)
length-put_row aggs row [] = omega arith
length-put_row aggs row (x ∷ xs) =
    let both : Row = record x { values = row_combined aggs x.values row.values } in
    let rest = length-put_row aggs row xs in
    elim (byte_cmp row.key x.key) as (λ o. length (by_order o (row ∷ x ∷ xs) (both ∷ xs) (x ∷ put_row aggs row xs)) ≤ suc (length (x ∷ xs))) [
      | Less ↦ omega arith
      | Equal ↦ omega arith
      | Greater ↦ omega (arith, rest)
    ]

-- and where there is room for it none falls off
pub put_room : (most : ℕ) (aggs : List Agg) (row : Row) (rows : List Row) → length rows < most → put_row aggs row rows ≡ take most (put_row aggs row rows)
put_room most aggs row rows few = sym (take_all most (put_row aggs row rows) (omega (arith, few, length-put_row aggs row rows)))

-- What is known where the group of a key is met again: what is held, and where the group stands.
pub record Meets (groups : List Row) (es : List Entry) (held : List Row) (place : ℕ) (key : List ℕ) : Type 0 where
  pub placed : ArePlaced groups es
  pub at : StandsAt groups place key
  pub seen : rows_in groups es ≡ held

pub met_full : (aggs : List Agg) (groups : List Row) (es : List Entry) (held : List Row) (place : ℕ) (key : List ℕ) → Meets groups es held place key → AreFull aggs held → length (values_in groups place) ≡ length aggs
met_full aggs groups es held place key m full = full_stands aggs groups es place key m.placed m.at (subst (AreFull aggs) (sym m.seen) full)

pub met_placed : {X E : Type 0} (r : Result X E) (groups after : List Row) (es : List Entry) (held : List Row) (place : ℕ) (key : List ℕ) (values : List ℤ) → Meets groups es held place key
    → OnOk r (after ≡ with_values groups place values) → OnErr r (after ≡ groups) → ArePlaced after es
met_placed (Ok x) groups after es held place key values m ok err = subst (λ (gs : List Row). ArePlaced gs es) (sym ok) (placed_with groups place values es m.at.0 m.placed)
met_placed (Err e) groups after es held place key values m ok err = subst (λ (gs : List Row). ArePlaced gs es) (sym err) m.placed

pub met_put : (most : ℕ) (aggs : List Agg) (groups after : List Row) (es : List Entry) (held : List Row) (place : ℕ) (key : List ℕ) (new : List ℤ) → Meets groups es held place key → length held ≤ most
    → after ≡ with_values groups place (row_combined aggs (values_in groups place) new) → rows_in after es ≡ take most (put_row aggs (record { key = key; values = new }) held)
met_put most aggs groups after es held place key new m le is =
    fitting most after es (put_row aggs (record { key = key; values = new }) held)
    (ap (λ (gs : List Row). rows_in gs es) is ∙ put_at aggs groups es place key new m.placed m.at ∙ ap (put_row aggs (record { key = key; values = new })) m.seen)
    (omega (arith, le, ap length m.seen, length-rows_in groups es))

pub met_value : (groups : List Row) (es : List Entry) (held : List Row) (place : ℕ) (key : List ℕ) → Meets groups es held place key → value_at key held ≡ Some (values_in groups place)
met_value groups es held place key m = subst (λ (rows : List Row). value_at key rows ≡ Some (values_in groups place)) m.seen (value_stands groups es place key m.placed m.at)

-- ---- a key that isn't there

-- it gets an entry of its own
put-absent : (aggs : List Agg) (groups : List Row) (es : List Entry) (k : Vec ℕ Global) (place : ℕ) → lookup (is_key k.items) es ≡ None → rows_in groups (insert_entry key_cmp es k place) ≡ put_row aggs (row_in groups (k, place)) (rows_in groups es)
put-absent aggs groups [] k place none = refl
put-absent aggs groups (e ∷ es) k place none =
    let row : Row = row_in groups (k, place) in
    let x : Row = row_in groups e in
    let xs : List Row = rows_in groups es in
    elim (byte_cmp k.items e.0.items) as (λ o. cond (is_eq o) (Some e.1) (lookup (is_key k.items) es) ≡ None → rows_in groups (match_ordering o ((k, place) ∷ e ∷ es) ((e.0, place) ∷ es) (e ∷ insert_entry key_cmp es k place)) ≡ by_order o (row ∷ x ∷ xs) (record x { values = row_combined aggs x.values row.values } ∷ xs) (x ∷ put_row aggs row xs)) [
      | Less ↦ λ n. refl
      | Equal ↦ λ n. cc
      | Greater ↦ λ n. ap (λ ys. x ∷ ys) (put-absent aggs groups es k place n)
    ] none

-- what holds of all entries and of the new one
all_inserted : (P : Entry → Type 0) (es : List Entry) (k : Vec ℕ Global) (place : ℕ) → lookup (is_key k.items) es ≡ None → AllByRecursion P es → P (k, place) → AllByRecursion P (insert_entry key_cmp es k place)
all_inserted P [] k place none all own = (own, tt)
all_inserted P (e ∷ es) k place none all own =
    elim (byte_cmp k.items e.0.items) as (λ o. cond (is_eq o) (Some e.1) (lookup (is_key k.items) es) ≡ None → AllByRecursion P (match_ordering o ((k, place) ∷ e ∷ es) ((e.0, place) ∷ es) (e ∷ insert_entry key_cmp es k place))) [
      | Less ↦ λ n. (own, (all.0, all.1))
      | Equal ↦ λ n. cc
      | Greater ↦ λ n. (all.0, all_inserted P es k place n all.1 own)
    ] none

-- the new place is there, and so are the others
own_place : (es : List Entry) (k : Vec ℕ Global) (place : ℕ) → HasPlace place (insert_entry key_cmp es k place)
own_place [] k place = inl refl
own_place (e ∷ es) k place =
    elim (byte_cmp k.items e.0.items) as (λ o. HasPlace place (match_ordering o ((k, place) ∷ e ∷ es) ((e.0, place) ∷ es) (e ∷ insert_entry key_cmp es k place))) [
      | Less ↦ inl refl
      | Equal ↦ inl refl
      | Greater ↦ inr (own_place es k place)
    ]

other_place : (es : List Entry) (k : Vec ℕ Global) (place q : ℕ) → lookup (is_key k.items) es ≡ None → HasPlace q es → HasPlace q (insert_entry key_cmp es k place)
other_place [] k place q none has = absurd has
other_place (e ∷ es) k place q none has =
    elim (byte_cmp k.items e.0.items) as (λ o. cond (is_eq o) (Some e.1) (lookup (is_key k.items) es) ≡ None → HasPlace q (match_ordering o ((k, place) ∷ e ∷ es) ((e.0, place) ∷ es) (e ∷ insert_entry key_cmp es k place))) [
      | Less ↦ λ n. inr has
      | Equal ↦ λ n. cc
      | Greater ↦ λ n. elim has [ inl is ↦ inl is | inr more ↦ inr (other_place es k place q n more) ]
    ] none

pub length-inserted : (es : List Entry) (k : Vec ℕ Global) (place : ℕ) → lookup (is_key k.items) es ≡ None → length (insert_entry key_cmp es k place) ≡ suc (length es)
length-inserted [] k place none = refl
length-inserted (e ∷ es) k place none =
    elim (byte_cmp k.items e.0.items) as (λ o. cond (is_eq o) (Some e.1) (lookup (is_key k.items) es) ≡ None → length (match_ordering o ((k, place) ∷ e ∷ es) ((e.0, place) ∷ es) (e ∷ insert_entry key_cmp es k place)) ≡ suc (length (e ∷ es))) [
      | Less ↦ λ n. refl
      | Equal ↦ λ n. cc
      | Greater ↦ λ n. ap suc (length-inserted es k place n)
    ] none

-- a key is there just where the rows have it
pub same_there : (groups : List Row) (es : List Entry) (key : List ℕ) → is_some (lookup (is_key key) es) ≡ is_some (value_at key (rows_in groups es))
same_there groups [] key = refl
same_there groups (e ∷ es) key =
    elim (is_key key e.0) as (λ b. is_some (cond b (Some e.1) (lookup (is_key key) es)) ≡ is_some (cond b (Some (values_in groups e.1)) (value_at key (rows_in groups es)))) [
      | true ↦ refl
      | false ↦ same_there groups es key
    ]

-- ---- at a place of its own

group_before : (groups : List Row) (row : Row) (q : ℕ) → q < length groups → get_or (groups ++ row ∷ []) q no_row ≡ get_or groups q no_row
group_before groups row q lt = get_or_append_left groups (row ∷ []) no_row q lt

group_last : (groups : List Row) (row : Row) → get_or (groups ++ row ∷ []) (length groups) no_row ≡ row
group_last groups row = ap (λ n. get_or (groups ++ row ∷ []) n no_row) (omega arith) ∙ get_or-append-add groups (row ∷ []) 0 no_row

length-more : (groups : List Row) (row : Row) → length (groups ++ row ∷ []) ≡ length groups + 1
length-more groups row = length-append groups (row ∷ [])

stand_more : (groups : List Row) (row : Row) (es : List Entry) → Stand groups es → Stand (groups ++ row ∷ []) es
stand_more groups row [] stand = tt
stand_more groups row (e ∷ es) stand =
    ((omega (arith, stand.0.0, length-more groups row), ap (λ (r : Row). r.key) (group_before groups row e.1 stand.0.0) ∙ stand.0.1), stand_more groups row es stand.1)

rows_more : (groups : List Row) (row : Row) (es : List Entry) → Stand groups es → rows_in (groups ++ row ∷ []) es ≡ rows_in groups es
rows_more groups row [] stand = refl
rows_more groups row (e ∷ es) stand =
    λ i. record { key = e.0.items; values = (group_before groups row e.1 stand.0.0 i).values } ∷ rows_more groups row es stand.1 i

pub placed_more : (groups : List Row) (row : Row) (es : List Entry) (k : Vec ℕ Global) → ArePlaced groups es → lookup (is_key k.items) es ≡ None → row.key ≡ k.items → IsStrictlySortedBy key_cmp (keys_of (insert_entry key_cmp es k (length groups)))
    → ArePlaced (groups ++ row ∷ []) (insert_entry key_cmp es k (length groups))
placed_more groups row es k placed none own rise = record {
  rise = rise;
  stand = all_inserted (λ (e : Entry). StandsAt (groups ++ row ∷ []) e.1 e.0.items) es k (length groups) none (stand_more groups row es placed.stand) (omega (arith, length-more groups row), ap (λ (r : Row). r.key) (group_last groups row) ∙ own);
  all = λ q within. elim (cases_eq q (length groups)) [
    | inl is ↦ subst (λ p. HasPlace p (insert_entry key_cmp es k (length groups))) (sym is) (own_place es k (length groups))
    | inr other ↦ other_place es k (length groups) q none (placed.all q (omega (arith, length-more groups row, within, other)))
  ];
}

-- A GROUP THAT IS ADDED is put among the rows.
pub put_more : (aggs : List Agg) (groups : List Row) (row : Row) (es : List Entry) (k : Vec ℕ Global) → ArePlaced groups es → lookup (is_key k.items) es ≡ None → row.key ≡ k.items
    → rows_in (groups ++ row ∷ []) (insert_entry key_cmp es k (length groups)) ≡ put_row aggs row (rows_in groups es)
put_more aggs groups row es k placed none own =
    let made : row_in (groups ++ row ∷ []) (k, length groups) ≡ row = λ i. record { key = sym own i; values = (group_last groups row i).values } in
    put-absent aggs (groups ++ row ∷ []) es k (length groups) none ∙ (λ i. put_row aggs (made i) (rows_more groups row es placed.stand i))

-- ---- at the place of the last group

-- a list by all but its last
split_at : (es : List Entry) (n : ℕ) (last : Entry) → length es ≡ suc n → slice_get es n ≡ Some last → es ≡ take n es ++ last ∷ []
split_at [] n last count at = cc
split_at (e ∷ []) zero last count at = let same : e ≡ last = cc in ap (λ x. x ∷ []) same
split_at (e ∷ f ∷ es) zero last count at = absurd (omega (arith, count))
split_at (e ∷ es) (suc n) last count at = ap (λ ys. e ∷ ys) (split_at es n last (omega (arith, count)) at)

pub split_last : (es : List Entry) (last : Entry) → slice_get es (length es - 1) ≡ Some last → es ≡ take (length es - 1) es ++ last ∷ []
split_last [] last at = cc
split_last (e ∷ es) last at =
    let same : length (e ∷ es) - 1 ≡ length es = omega arith in
    subst (λ n. e ∷ es ≡ take n (e ∷ es) ++ last ∷ []) (sym same) (split_at (e ∷ es) (length es) last refl (subst (λ n. slice_get (e ∷ es) n ≡ Some last) same at))

-- two lists with one more each
pub same_front : (xs ys : List Entry) (x y : Entry) → xs ++ x ∷ [] ≡ ys ++ y ∷ [] → xs ≡ ys
same_front [] [] x y e = refl
same_front [] (y' ∷ ys) x y e = absurd (omega (arith, ap length e, length-append ys (y ∷ [])))
same_front (x' ∷ xs) [] x y e = absurd (omega (arith, ap length e, length-append xs (x ∷ [])))
same_front (x' ∷ xs) (y' ∷ ys) x y e =
    let head : x' ≡ y' = cc in
    let tail : xs ++ x ∷ [] ≡ ys ++ y ∷ [] = cc in
    (λ i. head i ∷ same_front xs ys x y tail i)

-- a key that isn't in a list isn't in its front, and isn't its last
none_front : (front : List Entry) (last : Entry) (key : List ℕ) → lookup (is_key key) (front ++ last ∷ []) ≡ None → (lookup (is_key key) front ≡ None) × (is_eq (byte_cmp key last.0.items) ≡ false)
none_front [] last key none = (refl, elim (is_key key last.0) as (λ b. cond b (Some last.1) None ≡ None → b ≡ false) [ true ↦ λ n. cc | false ↦ λ n. refl ] none)
none_front (e ∷ es) last key none =
    elim (is_key key e.0) as (λ b. cond b (Some e.1) (lookup (is_key key) (es ++ last ∷ [])) ≡ None → (cond b (Some e.1) (lookup (is_key key) es) ≡ None) × (is_eq (byte_cmp key last.0.items) ≡ false)) [
      | true ↦ λ n. cc
      | false ↦ λ n. none_front es last key n
    ] none

-- what holds of a list holds of its last, and of its front
all_last : {X : Type 0} (P : X → Type 0) (front : List X) (last : X) → AllByRecursion P (front ++ last ∷ []) → P last
all_last P [] last all = all.0
all_last P (x ∷ xs) last all = all_last P xs last all.1

all_front : {X : Type 0} (P : X → Type 0) (front : List X) (last : X) → AllByRecursion P (front ++ last ∷ []) → AllByRecursion P front
all_front P [] last all = tt
all_front P (x ∷ xs) last all = (all.0, all_front P xs last all.1)

-- the front doesn't have the last one's place
apart_last : (groups : List Row) (front : List Entry) (last : Entry) → IsStrictlySortedBy key_cmp (keys_of (front ++ last ∷ [])) → Stand groups (front ++ last ∷ []) → Apart last.1 front
apart_last groups [] last rise stand = tt
apart_last groups (e ∷ es) last rise stand =
    let below : AllByRecursion (λ y. key_cmp e.0 y ≡ Less) (keys_of es ++ last.0 ∷ []) = subst (AllByRecursion (λ y. key_cmp e.0 y ≡ Less)) (map-append (λ (f : Entry). f.0) es (last ∷ [])) (sorted_head key_cmp e.0 (keys_of (es ++ last ∷ [])) rise) in
    let at : key_in groups last.1 ≡ last.0.items = (all_last (λ (f : Entry). StandsAt groups f.1 f.0.items) es last stand.1).1 in (
      λ is. not_less e.0.items last.0.items (sym stand.0.1 ∙ ap (key_in groups) is ∙ at) (all_last (λ y. key_cmp e.0 y ≡ Less) (keys_of es) last.0 below),
      apart_last groups es last (sorted_tail key_cmp e.0 (keys_of (es ++ last ∷ [])) rise) stand.1,
    )

-- another place is in the front
place_front : (front : List Entry) (last : Entry) (q : ℕ) → (q ≡ last.1 → ⊥) → HasPlace q (front ++ last ∷ []) → HasPlace q front
place_front [] last q other has = elim has [ inl is ↦ absurd (other (sym is)) | inr none ↦ absurd none ]
place_front (e ∷ es) last q other has = elim has [ inl is ↦ inl is | inr more ↦ inr (place_front es last q other more) ]

-- an entry before the last goes into the front
insert_front : (front : List Entry) (last : Entry) (k : Vec ℕ Global) (place : ℕ) → byte_cmp k.items last.0.items ≡ Less → insert_entry key_cmp (front ++ last ∷ []) k place ≡ insert_entry key_cmp front k place ++ last ∷ []
insert_front [] last k place less = ap (λ o. match_ordering o ((k, place) ∷ last ∷ []) ((last.0, place) ∷ []) (last ∷ (k, place) ∷ [])) less
insert_front (e ∷ es) last k place less =
    elim (byte_cmp k.items e.0.items) as (λ o. match_ordering o ((k, place) ∷ e ∷ (es ++ last ∷ [])) ((e.0, place) ∷ (es ++ last ∷ [])) (e ∷ insert_entry key_cmp (es ++ last ∷ []) k place) ≡ match_ordering o ((k, place) ∷ e ∷ es) ((e.0, place) ∷ es) (e ∷ insert_entry key_cmp es k place) ++ last ∷ []) [
      | Less ↦ refl
      | Equal ↦ refl
      | Greater ↦ ap (λ ys. e ∷ ys) (insert_front es last k place less)
    ]

-- and so does a row
put_front : (aggs : List Agg) (front : List Row) (last row : Row) → byte_cmp row.key last.key ≡ Less → put_row aggs row (front ++ last ∷ []) ≡ put_row aggs row front ++ last ∷ []
put_front aggs [] last row less = ap (λ o. by_order o (row ∷ last ∷ []) (record last { values = row_combined aggs last.values row.values } ∷ []) (last ∷ row ∷ [])) less
put_front aggs (x ∷ xs) last row less =
    let both : Row = record x { values = row_combined aggs x.values row.values } in
    elim (byte_cmp row.key x.key) as (λ o. by_order o (row ∷ x ∷ (xs ++ last ∷ [])) (both ∷ (xs ++ last ∷ [])) (x ∷ put_row aggs row (xs ++ last ∷ [])) ≡ by_order o (row ∷ x ∷ xs) (both ∷ xs) (x ∷ put_row aggs row xs) ++ last ∷ []) [
      | Less ↦ refl
      | Equal ↦ refl
      | Greater ↦ ap (λ ys. x ∷ ys) (put_front aggs xs last row less)
    ]

-- What is known where a group comes and the last falls off.
pub record Replaces (groups : List Row) (row : Row) (es after : List Entry) (k : Vec ℕ Global) (last popped : Entry) : Type 0 where
  pub placed : ArePlaced groups es
  pub at : slice_get es (length es - 1) ≡ Some last
  pub none : lookup (is_key k.items) es ≡ None
  pub before : IsNotBehind k.items es
  pub own : row.key ≡ k.items
  pub popped_is : insert_entry key_cmp es k last.1 ≡ after ++ popped ∷ []
  pub rise : IsStrictlySortedBy key_cmp (keys_of after)

-- of entries that there are one is taken out
pub popped_of : (before after : List Entry) (r : Option Entry) → 0 < length before → (IsSome r ↔ (0 < length before)) → IfSome r (λ p. before ≡ after ++ p ∷ []) → (p : Entry) × (before ≡ after ++ p ∷ [])
popped_of before after None more there is = let never : false ≡ true = there.1 more in cc
popped_of before after (Some p) more there is = (p, is)

-- the front of the entries, and what follows of it
record Fronted (groups : List Row) (row : Row) (es after : List Entry) (k : Vec ℕ Global) (last : Entry) : Type 0 where
  front : List Entry
  split : es ≡ front ++ last ∷ []
  none : lookup (is_key k.items) front ≡ None
  less : byte_cmp k.items last.0.items ≡ Less
  is : after ≡ insert_entry key_cmp front k last.1
  away : Apart last.1 front
  stand : Stand groups front
  own : StandsAt groups last.1 last.0.items

fronted : (groups : List Row) (row : Row) (es after : List Entry) (k : Vec ℕ Global) (last popped : Entry) → Replaces groups row es after k last popped → Fronted groups row es after k last
fronted groups row es after k last popped h =
    let front : List Entry = take (length es - 1) es in
    let split : es ≡ front ++ last ∷ [] = split_last es last h.at in
    let none = none_front front last k.items (subst (λ (xs : List Entry). lookup (is_key k.items) xs ≡ None) split h.none) in
    let less : byte_cmp k.items last.0.items ≡ Less = before_other last.0.items k.items _ refl (h.before last h.at) none.1 in
    let stand : Stand groups (front ++ last ∷ []) = subst (Stand groups) split h.placed.stand in
    let inserted : insert_entry key_cmp front k last.1 ++ last ∷ [] ≡ after ++ popped ∷ [] = sym (insert_front front last k last.1 less) ∙ ap (λ (xs : List Entry). insert_entry key_cmp xs k last.1) (sym split) ∙ h.popped_is in
    let P : Entry → Type 0 = λ (f : Entry). StandsAt groups f.1 f.0.items in
    record {
      front = front;
      split = split;
      none = none.0;
      less = less;
      is = sym (same_front (insert_entry key_cmp front k last.1) after last popped inserted);
      away = apart_last groups front last (subst (λ (xs : List Entry). IsStrictlySortedBy key_cmp (keys_of xs)) split h.placed.rise) stand;
      stand = all_front P front last stand;
      own = all_last P front last stand;
    }

-- the last group's place is there
pub last_within : (groups : List Row) (es : List Entry) (last : Entry) → ArePlaced groups es → slice_get es (length es - 1) ≡ Some last → last.1 < length groups
last_within groups es last placed at =
    (all_last (λ (f : Entry). StandsAt groups f.1 f.0.items) (take (length es - 1) es) last (subst (Stand groups) (split_last es last at) placed.stand)).0

group_beside : (groups : List Row) (row : Row) (place q : ℕ) → (q ≡ place → ⊥) → get_or (set groups place row) q no_row ≡ get_or groups q no_row
group_beside groups row place q other = get_or-set_other groups place q row no_row other

stand_beside : (groups : List Row) (row : Row) (place : ℕ) (es : List Entry) → Apart place es → Stand groups es → Stand (set groups place row) es
stand_beside groups row place [] away stand = tt
stand_beside groups row place (e ∷ es) away stand =
    ((subst (λ n. e.1 < n) (sym (length-set groups place row)) stand.0.0, ap (λ (r : Row). r.key) (group_beside groups row place e.1 away.0) ∙ stand.0.1), stand_beside groups row place es away.1 stand.1)

pub placed_replaced : (groups : List Row) (row : Row) (es after : List Entry) (k : Vec ℕ Global) (last popped : Entry) → Replaces groups row es after k last popped → ArePlaced (set groups last.1 row) after
placed_replaced groups row es after k last popped h =
    let f = fronted groups row es after k last popped h in
    let place : ℕ = last.1 in
    let here : StandsAt (set groups place row) place k.items = (subst (λ n. place < n) (sym (length-set groups place row)) f.own.0, ap (λ (r : Row). r.key) (get_or-set_same groups place row no_row f.own.0) ∙ h.own) in
    record {
      rise = h.rise;
      stand = subst (Stand (set groups place row)) (sym f.is) (all_inserted (λ (e : Entry). StandsAt (set groups place row) e.1 e.0.items) f.front k place f.none (stand_beside groups row place f.front f.away f.stand) here);
      all = λ q within. subst (HasPlace q) (sym f.is) (elim (cases_eq q place) [
        | inl is ↦ subst (λ p. HasPlace p (insert_entry key_cmp f.front k place)) (sym is) (own_place f.front k place)
        | inr other ↦ other_place f.front k place q f.none (place_front f.front last q other (subst (HasPlace q) f.split (h.placed.all q (subst (λ n. q < n) (length-set groups place row) within))))
      ]);
    }

-- A GROUP THAT COMES where there are as many as are wanted is put among the rows, and the last falls off.
pub put_replaced : (aggs : List Agg) (groups : List Row) (row : Row) (es after : List Entry) (k : Vec ℕ Global) (last popped : Entry) → Replaces groups row es after k last popped
    → rows_in (set groups last.1 row) after ≡ take (length es) (put_row aggs row (rows_in groups es))
put_replaced aggs groups row es after k last popped h =
    let f = fronted groups row es after k last popped h in
    let place : ℕ = last.1 in
    let groups' : List Row = set groups place row in
    let made : row_in groups' (k, place) ≡ row = λ i. record { key = sym h.own i; values = (get_or-set_same groups place row no_row f.own.0 i).values } in
    let kept : rows_in groups' f.front ≡ rows_in groups f.front = rows_apart groups groups' place f.front (λ q other. ap (λ (r : Row). r.values) (group_beside groups row place q other)) f.away in
    let found : rows_in groups' after ≡ put_row aggs row (rows_in groups f.front) = ap (rows_in groups') f.is ∙ put-absent aggs groups' f.front k place f.none ∙ (λ i. put_row aggs (made i) (kept i)) in
    let all : rows_in groups es ≡ rows_in groups f.front ++ row_in groups last ∷ [] = ap (rows_in groups) f.split ∙ map-append (row_in groups) f.front (last ∷ []) in
    let less : byte_cmp row.key last.0.items ≡ Less = subst (λ q. byte_cmp q last.0.items ≡ Less) (sym h.own) f.less in
    let put : put_row aggs row (rows_in groups es) ≡ put_row aggs row (rows_in groups f.front) ++ row_in groups last ∷ [] = ap (put_row aggs row) all ∙ put_front aggs (rows_in groups f.front) (row_in groups last) row less in
    let same_count : length after ≡ length es = omega (arith, length-inserted es k place h.none, ap length h.popped_is, length-append after (popped ∷ [])) in
    let count : length (put_row aggs row (rows_in groups f.front)) ≡ length es = ap length (sym found) ∙ length-rows_in groups' after ∙ same_count in
    found ∙ sym (ap (take (length es)) put ∙ take-front (length es) (put_row aggs row (rows_in groups f.front)) (row_in groups last ∷ []) count)

-- ---- a row behind all groups

-- a key above all others gets the last place
put-last : (aggs : List Agg) (groups : List Row) (es : List Entry) (row : Row) → AllByRecursion (λ (k : Vec ℕ Global). byte_cmp row.key k.items ≡ Greater) (keys_of es) → put_row aggs row (rows_in groups es) ≡ rows_in groups es ++ row ∷ []
put-last aggs groups [] row all = refl
put-last aggs groups (e ∷ es) row all =
    let x : Row = row_in groups e in
    let xs : List Row = rows_in groups es in
    ap (λ o. by_order o (row ∷ x ∷ xs) (record x { values = row_combined aggs x.values row.values } ∷ xs) (x ∷ put_row aggs row xs)) all.0 ∙ ap (λ ys. x ∷ ys) (put-last aggs groups es row all.1)

-- where there are so many groups, one behind them all doesn't count
pub put-beyond : (most : ℕ) (last : List ℕ) (groups : List Row) (es : List Entry) (row : Row) → is_lt (byte_cmp last row.key) ≡ true → AllByRecursion (λ (k : Vec ℕ Global). is_lt (byte_cmp last k.items) ≡ false) (keys_of es) → length es ≡ most
    → (aggs : List Agg) → take most (put_row aggs row (rows_in groups es)) ≡ rows_in groups es
put-beyond most last groups es row less all full aggs =
    let behind = all_behind last row.key (keys_of es) (is_less _ (subst T (sym less) tt)) all in
    ap (take most) (put-last aggs groups es row behind) ∙ take-front most (rows_in groups es) (row ∷ []) (length-rows_in groups es ∙ full)
