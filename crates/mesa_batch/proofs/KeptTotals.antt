-- The totals of columns that are kept, name after name.
use Rattle.std.proofs.Common.{◌≡◌, ◌+◌, ◌<◌, ℕ, suc, List, [], ◌∷◌, ◌++◌, length, map, drop, get_or, take, cond, Bool, refl, sym, ◌∙◌, ap, arith, add-one, append_assoc, drop-cons, zero-add, Option, Some, None}
use Rattle.std.specs.Prelude.{count_by, option_map, slice_get, slice_index_or}
use Rattle.std.specs.List.{cons_option}
use Rattle.std.proofs.lemmas.List.{take-map}
use Rattle.std.proofs.lemmas.List.Sums.{sum_by-cons}
use Rattle.std.proofs.lemmas.Option.{slice_get-get_or, slice_get-map}
use Rattle.mesa_schema.specs.mesa_value.declared.Agg.{Agg}
use Rattle.mesa_schema.specs.mesa_value.declared.Agg.TheVariants as agg
use Rattle.mesa_schema.specs.mesa_columns.declared.columns.ValueColumn.{ValueColumn}
use Rattle.mesa_schema.specs.mesa_columns.Columns.{place_of, places_in}
use Rattle.mesa_batch.specs.Totals.{chosen_totals, is_sum, sum_places, sums_in, with_total}

-- ---- how many columns are sums

abbrev agg_of : ValueColumn → Agg
agg_of column = column.agg

abbrev adds : ValueColumn → Bool
adds column = is_sum column.agg

first : (g : Agg) (i n : ℕ) (aggs : List Agg) → length (sum_places (i + 1) aggs) ≡ n → length (sum_places i (g ∷ aggs)) ≡ cond (is_sum g) 1 0 + n
first agg.Sum i n aggs e = omega (arith, e)
first agg.Min i n aggs e = e ∙ sym (zero-add n)
first agg.Max i n aggs e = e ∙ sym (zero-add n)
first agg.Replace i n aggs e = e ∙ sym (zero-add n)

counted_from : (i : ℕ) (columns : List ValueColumn) → length (sum_places i (map agg_of columns)) ≡ count_by adds columns
counted_from i [] = refl
counted_from i (c ∷ columns) = first c.agg i (count_by adds columns) (map agg_of columns) (counted_from (i + 1) columns) ∙ sym (sum_by-cons (λ (x : ValueColumn). cond (adds x) 1 0) c columns)

-- there are as many as are counted
pub counted : (columns : List ValueColumn) → sums_in (map (λ (c : ValueColumn). c.agg) columns) ≡ count_by (λ (c : ValueColumn). is_sum c.agg) columns
counted columns = counted_from 0 columns

-- what the column at a place gives, its total standing behind those of the sums before it
pub kept_at : (columns : List ValueColumn) (totals : List ℕ) (place before total : ℕ) (d : ValueColumn) → place < length columns
    → before ≡ sums_in (map (λ (c : ValueColumn). c.agg) (take place columns)) → total ≡ slice_index_or totals before 0
    → with_total (Some (get_or columns place d).agg) total [] ≡ with_total (slice_get (map (λ (c : ValueColumn). c.agg) columns) place) (slice_index_or totals (sums_in (take place (map (λ (c : ValueColumn). c.agg) columns))) 0) []
kept_at columns totals place before total d h counts reads =
    let at : slice_get (map agg_of columns) place ≡ Some (get_or columns place d).agg = slice_get-map agg_of columns place ∙ ap (option_map agg_of) (slice_get-get_or columns place d h) in
    let there : total ≡ slice_index_or totals (sums_in (take place (map agg_of columns))) 0 = reads ∙ ap (λ n. slice_index_or totals n 0) (counts ∙ ap sums_in (sym (take-map agg_of place columns))) in
    λ i. with_total (sym at i) (there i) []

-- ---- name after name

with_front : (o : Option Agg) (total : ℕ) (rest : List ℕ) → with_total o total rest ≡ with_total o total [] ++ rest
with_front None total rest = refl
with_front (Some agg.Sum) total rest = refl
with_front (Some agg.Min) total rest = refl
with_front (Some agg.Max) total rest = refl
with_front (Some agg.Replace) total rest = refl

-- one name's total stands before the others'
name_first : (aggs : List Agg) (totals : List ℕ) (names : List (List ℕ)) (name : List ℕ) (rest : List (List ℕ))
    → chosen_totals aggs totals (places_in names (name ∷ rest)) ≡ chosen_totals aggs totals (places_in names (name ∷ [])) ++ chosen_totals aggs totals (places_in names rest)
name_first aggs totals names name rest =
    elim (place_of name names) as (λ o. chosen_totals aggs totals (cons_option o (places_in names rest)) ≡ chosen_totals aggs totals (cons_option o []) ++ chosen_totals aggs totals (places_in names rest)) [
      | None ↦ refl
      | Some place ↦ with_front (slice_get aggs place) (slice_index_or totals (sums_in (take place aggs)) 0) (chosen_totals aggs totals (places_in names rest))
    ]

-- One name more: the totals so far grow by what it gives.
pub kept_next : (aggs : List Agg) (totals : List ℕ) (names asked : List (List ℕ)) (name : List ℕ) (i : ℕ) (after more all : List ℕ) → i < length asked → name ≡ get_or asked i name
    → more ≡ after ++ chosen_totals aggs totals (places_in names (name ∷ []))
    → after ++ chosen_totals aggs totals (places_in names (drop i asked)) ≡ all
    → more ++ chosen_totals aggs totals (places_in names (drop (i + 1) asked)) ≡ all
kept_next aggs totals names asked name i after more all lt is grown before =
    let cut : drop i asked ≡ name ∷ drop (i + 1) asked = rw add-one (drop-cons asked i name lt ∙ ap (λ x. x ∷ drop (suc i) asked) (sym is)) in
    ap (λ l. l ++ chosen_totals aggs totals (places_in names (drop (i + 1) asked))) grown
    ∙ append_assoc after (chosen_totals aggs totals (places_in names (name ∷ []))) (chosen_totals aggs totals (places_in names (drop (i + 1) asked)))
    ∙ ap (λ l. after ++ l) (sym (ap (λ l. chosen_totals aggs totals (places_in names l)) cut ∙ name_first aggs totals names name (drop (i + 1) asked)))
    ∙ before
