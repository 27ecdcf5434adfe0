-- A table that is recast.
use Rattle.std.proofs.Common.{◌≡◌, ◌≢◌, ◌<◌, ℕ, List, [], ◌∷◌, length, map, drop, get_or, set, take, Option, Some, None, refl, sym, ◌∙◌, ap, subst, arith, zero, suc, zero-add}
use Rattle.std.specs.Prelude.{slice_get}
use Rattle.std.specs.List.{AllByRecursion}
use Rattle.std.proofs.lemmas.List.{append-nil, get_or-set_other, get_or-set_same, length-set}
use Rattle.std.proofs.lemmas.Option.{slice_get-get_or}
use Rattle.mesa_value.specs.declared.Agg.{Agg}
use Rattle.mesa_value.specs.declared.Agg.TheVariants as agg
use Rattle.mesa_answer.specs.mesa_columns.declared.rows.Row.{Row}
use Rattle.mesa_answer.specs.mesa_columns.Columns.{Columns, aggs_of}
use Rattle.mesa_schema.specs.Changes.{columns_of}
use Rattle.mesa_answer.specs.mesa_fold.Folded.{rows_of}
use Rattle.mesa_schema.specs.Recasts.{IsRecastOf, Recast, recast_columns, recast_lineage, recast_rows, recast_values}
use Rattle.mesa_answer.specs.mesa_columns.Rows.{AreRowsOf}
use Rattle.mesa_schema.proofs.Recasting.{recast_folds, recast_form}
use Rattle.mesa_batch.specs.Glance.{Known}
use Rattle.mesa_batch.specs.Totals.{AreAtMost, abs_totals, chosen_totals, sum_bound, sums_in, totals_recast, with_total}
use Rattle.mesa_batch.proofs.RecastTotals.{totals_count, totals_last}
use Rattle.mesa_model.specs.Tables.{table_recast}
use Rattle.mesa_oracle_tables.specs.Found.{known_at, no_known}
use Rattle.mesa_oracle_tables.specs.Kept.{Contents, From, all_shared, contents_in, contents_recast, gone_in, oldest_in, table_in, tables_in, totals_in}
use Rattle.mesa_oracle_tables.specs.Sound.{AreKept, CanGroup, HasTotals, IsHeld}
use Rattle.mesa_oracle_tables.proofs.Changes.{alone, kept_with, other_contents, own_contents, tables_set}
use Rattle.mesa_oracle_tables.proofs.Seen.{keeps_sums}
use Rattle.mesa_oracle_tables.proofs.Stores.{drop-map}

-- ---- totals

below_at : (n : ℕ) (totals : List ℕ) → AllByRecursion (λ total. total < sum_bound) totals → get_or totals n 0 < sum_bound
below_at n [] all = omega arith
below_at zero (x ∷ totals) all = all.0
below_at (suc n) (x ∷ totals) all = below_at n totals all.1

below_with : (o : Option Agg) (total : ℕ) (rest : List ℕ) → total < sum_bound → AllByRecursion (λ t. t < sum_bound) rest → AllByRecursion (λ t. t < sum_bound) (with_total o total rest)
below_with None total rest lt all = all
below_with (Some agg.Sum) total rest lt all = (lt, all)
below_with (Some agg.Min) total rest lt all = all
below_with (Some agg.Max) total rest lt all = all
below_with (Some agg.Replace) total rest lt all = all

below_chosen : (aggs : List Agg) (totals places : List ℕ) → AllByRecursion (λ total. total < sum_bound) totals → AllByRecursion (λ total. total < sum_bound) (chosen_totals aggs totals places)
below_chosen aggs totals [] all = tt
below_chosen aggs totals (place ∷ places) all =
    below_with (slice_get aggs place) (get_or totals (sums_in (take place aggs)) 0) (chosen_totals aggs totals places) (below_at (sums_in (take place aggs)) totals all) (below_chosen aggs totals places all)

module _ (s : Columns) (r : Recast) (is : IsRecastOf s r) where
  has_recast : (totals : List ℕ) → HasTotals s totals → HasTotals (recast_columns s r) (totals_recast s r totals)
  has_recast totals has = record { count = totals_count s r is totals; bound = below_chosen (aggs_of s) totals (recast_values s r) has.bound }

  -- a content that is held is held once it is grouped
  held_recast : (totals : List ℕ) (rows : List Row) → IsHeld s totals rows → IsHeld (recast_columns s r) (totals_recast s r totals) (recast_rows s r rows)
  held_recast totals rows held =
      let all : AreRowsOf s (rows_of (rows ∷ [])) = alone s rows held.forms in
      record {
        forms = recast_form s r rows held.forms;
        fold = sym (recast_folds s r (rows ∷ []) is all) ∙ ap (recast_rows s r) held.fold;
        sums = subst (λ (rs : List Row). AreAtMost (abs_totals (recast_columns s r) rs) (totals_recast s r totals)) (append-nil (recast_rows s r rows))
            (totals_last s r is (rows ∷ []) totals all (subst (λ (rs : List Row). AreAtMost (abs_totals s rs) totals) (sym (append-nil rows)) held.sums));
      }

  all_recast : (totals : List ℕ) (contents : List (List Row)) → AllByRecursion (IsHeld s totals) contents → AllByRecursion (IsHeld (recast_columns s r) (totals_recast s r totals)) (map (recast_rows s r) contents)
  all_recast totals [] all = tt
  all_recast totals (rows ∷ contents) all = (held_recast totals rows all.0, all_recast totals contents all.1)

-- what is held may be grouped
pub can_group : (s : Columns) (totals : List ℕ) (contents : List (List Row)) → HasTotals s totals → AllByRecursion (IsHeld s totals) contents → AllByRecursion (CanGroup s) contents
can_group s totals [] has all = tt
can_group s totals (rows ∷ contents) has all = (record { forms = all.0.forms; sums = keeps_sums s totals rows has all.0 }, can_group s totals contents has all.1)

-- ---- as a recast of a store tells it

module _ (tables later_tables : List Known) (totals : List (List ℕ)) (own : List ℕ) (versions later : List Contents) (from : From) (next i : ℕ) (r : Recast) (kept : AreKept tables totals versions from next) (lt : i < length tables)
    (is : IsRecastOf (columns_of (known_at i tables).lineage) r) (owned : own ≡ totals_recast (columns_of (known_at i tables).lineage) r (totals_in i totals))
    (put : later_tables ≡ set tables i (record (known_at i tables) { lineage = recast_lineage (known_at i tables).lineage r })) (made : all_shared later ≡ map (contents_recast i (columns_of (known_at i tables).lineage) r) (all_shared versions)) where
  abbrev s : Columns
  s = columns_of (known_at i tables).lineage

  there : slice_get tables i ≡ Some (known_at i tables)
  there = slice_get-get_or tables i no_known lt

  own_totals : totals_in i (set totals i own) ≡ totals_recast (columns_of (known_at i tables).lineage) r (totals_in i totals)
  own_totals = get_or-set_same totals i own [] (omega (arith, lt, kept.count)) ∙ owned

  contents : contents_in i later ≡ map (recast_rows (columns_of (known_at i tables).lineage) r) (contents_in i versions)
  contents = own_contents (recast_rows (columns_of (known_at i tables).lineage) r) refl i versions later made

  others : (n : ℕ) → n ≢ i → contents_in n later ≡ contents_in n versions
  others n other = other_contents (recast_rows (columns_of (known_at i tables).lineage) r) i n versions later other made

  -- what is kept still fits together
  pub kept_recast : AreKept later_tables (set totals i own) later from next
  kept_recast =
      let has : HasTotals (recast_columns s r) (totals_in i (set totals i own)) = subst (HasTotals (recast_columns s r)) (sym own_totals) (has_recast s r is (totals_in i totals) (kept.have i (known_at i tables) there)) in
      let held : AllByRecursion (IsHeld (recast_columns s r) (totals_in i (set totals i own))) (contents_in i later) =
      subst (λ ts. AllByRecursion (IsHeld (recast_columns s r) ts) (contents_in i later)) (sym own_totals)
      (subst (AllByRecursion (IsHeld (recast_columns s r) (totals_recast s r (totals_in i totals)))) (sym contents) (all_recast s r is (totals_in i totals) (contents_in i versions) (kept.held i (known_at i tables) there))) in
      subst (λ ks. AreKept ks (set totals i own) later from next) (sym put)
      (kept_with tables totals (set totals i own) versions later from next i (recast_lineage (known_at i tables).lineage r) (recast_rows s r) kept lt has held (λ n other. get_or-set_other totals i n own [] other) others (length-set totals i own) made)

  -- and the tables are those before, but for the one that was recast
  pub tables_recast : tables_in from 0 (set totals i own) later later_tables ≡ set (tables_in from 0 totals versions tables) i (table_recast (table_in from i totals versions (known_at i tables)) r)
  tables_recast =
      let k = known_at i tables in
      let left : drop (gone_in i from) (contents_in i later) ≡ map (recast_rows s r) (drop (gone_in i from) (contents_in i versions)) =
      ap (drop (gone_in i from)) contents ∙ sym (drop-map (recast_rows s r) (gone_in i from) (contents_in i versions)) in
      ap (tables_in from 0 (set totals i own) later) put
      ∙ tables_set from 0 i i totals (set totals i own) versions later tables (record k { lineage = recast_lineage k.lineage r }) (sym (zero-add i)) lt (λ n other. get_or-set_other totals i n own [] other) others
      ∙ (λ j. set (tables_in from 0 totals versions tables) i (record { name = k.name; lineage = recast_lineage k.lineage r; totals = own_totals j; oldest = oldest_in i from; contents = left j }))
