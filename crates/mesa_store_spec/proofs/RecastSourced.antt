-- What the deltas of a table that is recast were made of: what was written of it, regrouped.
use Rattle.std.proofs.Common.{◌≡◌, ℕ, ◌+◌, ◌<◌, List, [], ◌∷◌, map, length, refl, sym, ◌∙◌, ap, subst, arith, Option, Some, None, cond, true, false, Bool}
use Rattle.std.specs.Prelude.{IfSome}
use Rattle.mesa_history_spec.specs.mesa_columns.Columns.{aggs_of}
use Rattle.mesa_history_spec.specs.mesa_schema.Changes.{Lineage, columns_of, epoch_of}
use Rattle.mesa_history_spec.specs.mesa_fold.Folded.{folded}
use Rattle.mesa_history_spec.specs.mesa_schema.Recasts.{IsRecastOf, Recast, recast_lineage, recast_rows}
use Rattle.mesa_history_spec.specs.mesa_columns.Rows.{AreRowsOf}
use Rattle.mesa_history_spec.proofs.mesa_schema.LineageRecasts.{columns_first}
use Rattle.mesa_history_spec.proofs.mesa_columns.Lists.{all_map, all_so}
use Rattle.mesa_history_spec.proofs.mesa_schema.Recasting.{recast_folds, recast_form}
use Rattle.mesa_history_spec.specs.mesa_span.Ranges.{Rise}
use Rattle.mesa_history_spec.specs.Sources.{Source, Written, range_rows, source_recast, source_written, sources_from, version_written, written_recast}
use Rattle.mesa_store_spec.specs.Catalog.{Delta, Ending, TableMeta, start_in, meta_renewed}
use Rattle.mesa_store_spec.specs.Contents.{Rows}
use Rattle.mesa_store_spec.specs.Shape.{IsShaped}
use Rattle.mesa_store_spec.specs.Sourced.{AreMadeOf, HasForm, IsMadeOf, IsSourced}
use Rattle.mesa_store_spec.proofs.Contents.{present_now}
use Rattle.mesa_store_spec.proofs.Lifted.{form_now, forms_now, now, range_now}
use Rattle.mesa_store_spec.proofs.Recasting.{IsRecastTo, TakePlaces, TakesBase, TakesPlace, count_places, present_place, same_start}
use Rattle.mesa_store_spec.proofs.Sourcing.{forms_from}
use Rattle.mesa_store_spec.proofs.Written.{From, is_within}

module _ (l : Lineage) (r : Recast) where
  from_again : (from to : ℕ) (written : List Written) → sources_from from to (map (written_recast l r) written) ≡ map (source_recast l r) (sources_from from to written)
  from_again from to [] = refl
  from_again from to (w ∷ written) = by (is_within from to w) (from_again from to written)
    where
      by : (b : Bool) → map source_written (From from to (map (written_recast l r) written)) ≡ map (source_recast l r) (map source_written (From from to written))
          → map source_written (cond b (written_recast l r w ∷ From from to (map (written_recast l r) written)) (From from to (map (written_recast l r) written))) ≡ map (source_recast l r) (map source_written (cond b (w ∷ From from to written) (From from to written)))
      by true rest = ap (λ ss. source_recast l r w.source ∷ ss) rest
      by false rest = rest

  now_again : (sources : List Source) → map (now (recast_lineage l r)) (map (source_recast l r) sources) ≡ map (recast_rows (columns_of l) r) (map (now l) sources)
  now_again [] = refl
  now_again (s ∷ sources) = λ i. present_now (recast_lineage l r) (source_recast l r s).rows i ∷ now_again sources i

  versions_again : (written : List Written) → map version_written (map (written_recast l r) written) ≡ map version_written written
  versions_again [] = refl
  versions_again (w ∷ written) = ap (λ vs. w.version ∷ vs) (versions_again written)

module _ (rows : Rows) (floor next : ℕ) (written : List Written) (t : TableMeta) (r : Recast) (base : Option Ending) (singles : List Delta) (shaped : IsShaped floor next t) (sourced : IsSourced rows written t) (rules : IsRecastOf (columns_of t.lineage) r)
    (is : IsRecastTo rows t r base singles) where
  -- a delta that takes the place of one made of a range is made of it
  made_again : (from to : ℕ) (old new : Delta) → TakesPlace rows t.lineage r old new → IsMadeOf rows t.lineage written from to old → IsMadeOf rows (recast_lineage t.lineage r) (map (written_recast t.lineage r) written) from to new
  made_again from to old new place made =
      present_place rows t.lineage r old new place
      ∙ ap (recast_rows (columns_of t.lineage) r) (made ∙ range_now t.lineage (sources_from from to written))
      ∙ recast_folds (columns_of t.lineage) r (map (now t.lineage) (sources_from from to written)) rules (forms_now t.lineage (sources_from from to written) shaped.lineage (forms_from t.lineage from to written sourced.are.forms))
      ∙ ap (folded (aggs_of (columns_of (recast_lineage t.lineage r)))) (sym (now_again t.lineage r (sources_from from to written)))
      ∙ sym (range_now (recast_lineage t.lineage r) (map (source_recast t.lineage r) (sources_from from to written)))
      ∙ ap (range_rows (recast_lineage t.lineage r) (epoch_of (recast_lineage t.lineage r))) (sym (from_again t.lineage r from to written))

  singles_again : (version : ℕ) (olds news : List Delta) → TakePlaces rows t.lineage r olds news → AreMadeOf rows t.lineage written version olds → AreMadeOf rows (recast_lineage t.lineage r) (map (written_recast t.lineage r) written) version news
  singles_again version [] [] places all = tt
  singles_again version [] (new ∷ news) places all = absurd places
  singles_again version (old ∷ olds) [] places all = absurd places
  singles_again version (old ∷ olds) (new ∷ news) places all = (made_again version version old new places.0 all.0, singles_again (version + 1) olds news places.1 all.1)

  base_again : (old new : Option Ending) → TakesBase rows t.lineage r old new → IfSome old (λ (e : Ending). IsMadeOf rows t.lineage written 0 e.to e.delta)
      → IfSome new (λ (e : Ending). IsMadeOf rows (recast_lineage t.lineage r) (map (written_recast t.lineage r) written) 0 e.to e.delta)
  base_again None None takes made = tt
  base_again None (Some new) takes made = absurd takes
  base_again (Some old) None takes made = absurd takes
  base_again (Some old) (Some new) takes made =
      subst (λ to. IsMadeOf rows (recast_lineage t.lineage r) (map (written_recast t.lineage r) written) 0 to new.delta) (sym takes.0) (made_again 0 old.to old.delta new.delta takes.1 made)

  written_form : (w : Written) → HasForm t.lineage w.source → HasForm (recast_lineage t.lineage r) (written_recast t.lineage r w).source
  written_form w has =
      let its = recast_form (columns_of t.lineage) r (now t.lineage w.source) (form_now t.lineage w.source shaped.lineage has) in
      record {
        epoch = omega arith;
        form = subst (λ s. AreRowsOf s (recast_rows (columns_of t.lineage) r (now t.lineage w.source))) (sym (columns_first t.lineage r (epoch_of (recast_lineage t.lineage r)))) its;
      }

  pub recast_sourced : IsSourced rows (map (written_recast t.lineage r) written) (meta_renewed t r base singles)
  recast_sourced =
      let start : start_in (meta_renewed t r base singles) ≡ start_in t = same_start rows t r base singles is.at_base in
      let count : length singles ≡ length t.singles = count_places rows t.lineage r t.singles singles is.at_singles in
      record {
        are = record {
          rise = subst (Rise 0) (sym (versions_again t.lineage r written)) sourced.are.rise;
          forms = all_map (λ (w : Written). HasForm (recast_lineage t.lineage r) w.source) (written_recast t.lineage r) written
              (all_so (λ (w : Written). HasForm t.lineage w.source) (λ w. HasForm (recast_lineage t.lineage r) (written_recast t.lineage r w).source) written written_form sourced.are.forms);
        };
        there = all_map (λ (w : Written). w.version < start_in (meta_renewed t r base singles) + length singles) (written_recast t.lineage r) written
            (all_so (λ (w : Written). w.version < start_in t + length t.singles) (λ w. w.version < start_in (meta_renewed t r base singles) + length singles) written (λ w lt. (let g : w.version < start_in (meta_renewed t r base singles) + length singles = omega (arith, lt, start, count) in g)) sourced.there);
        base = base_again t.base base is.at_base sourced.base;
        cumulatives = tt;
        singles = subst (λ v. AreMadeOf rows (recast_lineage t.lineage r) (map (written_recast t.lineage r) written) v singles) (sym start) (singles_again (start_in t) t.singles singles is.at_singles sourced.singles);
      }
