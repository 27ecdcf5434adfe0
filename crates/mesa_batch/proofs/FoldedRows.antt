-- Rows of which no two have one key fold to themselves, in the order of their keys.
use Rattle.std.proofs.Common.{◌≡◌, ℕ, List, [], ◌∷◌, refl, sym, ◌∙◌, ap}
use Rattle.std.proofs.lemmas.List.{append-nil}
use Rattle.std.specs.Prelude.{true, false, cond, T, map, filter}
use Rattle.std.specs.List.{AllByRecursion}
use Rattle.std.specs.declared.cmp.Ordering.{Ordering}
use Rattle.std.specs.declared.cmp.Ordering.TheVariants.{Less, Equal, Greater}
use Rattle.std.specs.Ordering.{is_eq, is_lt}
use Rattle.std.specs.Cmp.{eq_by_cmp_equiv}
use Rattle.std.specs.Cmp.Lexicographic.{nat_list_cmp_total, texts_ties}
use Rattle.std.specs.FinMap.Entries.{below_all}
use Rattle.mesa_list.specs.Bytes.{same_bytes}
use Rattle.mesa_schema.specs.mesa_value.declared.Agg.{Agg}
use Rattle.mesa_schema.specs.mesa_key.Order.{byte_cmp}
use Rattle.mesa_schema.specs.mesa_columns.declared.rows.Row.{Row}
use Rattle.mesa_schema.specs.mesa_fold.Folded.{all_combined, folded, folded_at, keys_of, values_at}
use Rattle.mesa_schema.proofs.mesa_fold.Keys.{has, is_rising, pairs, same_rising}
use Rattle.mesa_schema.proofs.mesa_fold.Folds.{both_false, has-keys_of, keys, not_below, rising-keys_of, values_at_none, values_at_some}

-- each row alone has its key, among these
abbrev pub AreAlone : List Row → List Row → Type 0
AreAlone among rows = AllByRecursion (λ (r : Row). values_at r.key among ≡ r.values ∷ []) rows

not_less : (o : Ordering) → T (is_lt o) → is_eq o ≡ false
not_less Less h = refl
not_less Equal h = absurd h
not_less Greater h = absurd h

-- a row before them takes no key of theirs
still_alone : (y : Row) (rest rows : List Row) → T (below_all byte_cmp y.key (pairs (keys rows))) → AreAlone rest rows → AreAlone (y ∷ rest) rows
still_alone y rest [] below all = tt
still_alone y rest (r ∷ rows) below all =
    let parts : T (is_lt (byte_cmp y.key r.key)) × T (below_all byte_cmp y.key (pairs (keys rows))) = both_false _ _ below in
    let other : same_bytes r.key y.key ≡ false = texts_ties r.key y.key ∙ (eq_by_cmp_equiv nat_list_cmp_total).symm r.key y.key ∙ not_less _ parts.0 in
    let same : values_at r.key (y ∷ rest) ≡ values_at r.key rest = ap (λ b. map (λ (r : Row). r.values) (cond b (y ∷ filter (λ (x : Row). same_bytes r.key x.key) rest) (filter (λ (x : Row). same_bytes r.key x.key) rest))) other in
    (same ∙ all.0, still_alone y rest rows parts.1 all.1)

pub alone : (rows : List Row) → T (is_rising (keys rows)) → AreAlone rows rows
alone [] rising = tt
alone (y ∷ rows) rising =
    let parts : T (below_all byte_cmp y.key (pairs (keys rows))) × T (is_rising (keys rows)) = both_false _ _ rising in
    let own : same_bytes y.key y.key ≡ true = texts_ties y.key y.key ∙ (eq_by_cmp_equiv nat_list_cmp_total).refl y.key in
    let here : values_at y.key (y ∷ rows) ≡ y.values ∷ values_at y.key rows = ap (λ b. map (λ (r : Row). r.values) (cond b (y ∷ filter (λ (x : Row). same_bytes y.key x.key) rows) (filter (λ (x : Row). same_bytes y.key x.key) rows))) own in
    (here ∙ ap (λ vs. y.values ∷ vs) (values_at_none y.key rows (not_below y.key (keys rows) parts.0)), still_alone y rows rows parts.0 (alone rows parts.1))

folded_alone : (aggs : List Agg) (among rows : List Row) → AreAlone among rows → map (folded_at aggs among) (keys rows) ≡ rows
folded_alone aggs among [] all = refl
folded_alone aggs among (r ∷ rows) all = λ i. record { key = r.key; values = all_combined aggs (all.0 i) } ∷ folded_alone aggs among rows all.1 i

same_there : (q : List ℕ) (xs ys : List Row) → values_at q xs ≡ values_at q ys → has q (keys xs) ≡ has q (keys ys)
same_there q xs ys same =
    elim (has q (keys xs)) as (λ a. has q (keys xs) ≡ a → a ≡ has q (keys ys)) [
      | true ↦ λ e. elim (has q (keys ys)) as (λ b. has q (keys ys) ≡ b → true ≡ b) [
        | true ↦ λ f. refl
        | false ↦ λ f. let some = values_at_some q xs e in let none : values_at q ys ≡ [] = values_at_none q ys f in let both : some.0 ∷ some.1 ≡ [] = sym some.2 ∙ same ∙ none in cc
      ] refl
      | false ↦ λ e. elim (has q (keys ys)) as (λ b. has q (keys ys) ≡ b → false ≡ b) [
        | true ↦ λ f. let some = values_at_some q ys f in let none : values_at q xs ≡ [] = values_at_none q xs e in let both : some.0 ∷ some.1 ≡ [] = sym some.2 ∙ sym same ∙ none in cc
        | false ↦ λ f. refl
      ] refl
    ] refl

AreAlone-same : (xs ys rows : List Row) → ((q : List ℕ) → values_at q xs ≡ values_at q ys) → AreAlone ys rows → AreAlone xs rows
AreAlone-same xs ys [] same all = tt
AreAlone-same xs ys (r ∷ rows) same all = (same r.key ∙ all.0, AreAlone-same xs ys rows same all.1)

-- Rows whose keys rise are the fold of all rows that have the same values at each key.
pub folds_to : (aggs : List Agg) (xs ys : List Row) → T (is_rising (keys ys)) → ((q : List ℕ) → values_at q xs ≡ values_at q ys) → folded aggs (xs ∷ []) ≡ ys
folds_to aggs xs ys rising same =
    let in_order : keys_of xs ≡ keys ys = same_rising (keys_of xs) (keys ys) (rising-keys_of xs) rising (λ q. has-keys_of q xs ∙ same_there q xs ys (same q)) in
    ap (λ rows. map (folded_at aggs rows) (keys_of rows)) (append-nil xs)
    ∙ ap (map (folded_at aggs xs)) in_order
    ∙ folded_alone aggs xs ys (AreAlone-same xs ys ys same (alone ys rising))
