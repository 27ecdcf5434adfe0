-- What holds of a table's rows holds once it is recast.
use Rattle.std.proofs.Common.{◌≡◌, ℕ, List, [], ◌∷◌, ◌++◌, map, flat_map, refl, sym, ◌∙◌, ap, subst, Option, Some, None, slice_get, true}
use Rattle.std.specs.Prelude.{IfSome}
use Rattle.std.specs.List.{AllByRecursion, list_all}
use Rattle.std.proofs.lemmas.Bool.{and_parts}
use Rattle.mesa_history_spec.specs.mesa_columns.declared.views.View.{View}
use Rattle.mesa_history_spec.specs.mesa_schema.Changes.{Lineage, columns_of}
use Rattle.mesa_history_spec.specs.mesa_fold.Folded.{rows_of}
use Rattle.mesa_history_spec.specs.mesa_schema.Laws.{Outlasts}
use Rattle.mesa_history_spec.specs.mesa_schema.Lineages.{is_view_of}
use Rattle.mesa_history_spec.specs.mesa_schema.Recasts.{IsRecastOf, Recast, keeps_view, recast_lineage}
use Rattle.mesa_history_spec.specs.mesa_columns.Rows.{AreRowsOf}
use Rattle.mesa_history_spec.specs.mesa_schema.Views.{view_rows}
use Rattle.mesa_history_spec.specs.mesa_batch.Totals.{AreAtMost, abs_totals, totals_recast}
use Rattle.mesa_history_spec.proofs.mesa_batch.RecastTotals.{totals_last}
use Rattle.mesa_history_spec.proofs.mesa_columns.Lists.{all_both, all_got, all_so}
use Rattle.mesa_history_spec.proofs.mesa_schema.Outlasting.{outlasts}
use Rattle.mesa_record.specs.declared.record.Files.{Files}
use Rattle.mesa_record.specs.declared.record.ViewRef.{ViewRef}
use Rattle.mesa_store_spec.specs.Catalog.{Delta, Ending, TableMeta, meta_renewed}
use Rattle.mesa_store_spec.specs.Contents.{Rows, present}
use Rattle.mesa_store_spec.specs.Fitting.{LiveFile, base_deltas, columns_seen, delta_own, delta_live, deltas_of, files_live, own_live, meta_live, view_live}
use Rattle.mesa_store_spec.specs.Shape.{IsShaped}
use Rattle.mesa_store_spec.specs.Sound.{AreGrouped, IsGrouped, IsGroupedAs, HasSoundRows, IsTold, IsTotalled}
use Rattle.mesa_store_spec.proofs.Formed.{rows_formed, without_merged}
use Rattle.mesa_store_spec.proofs.Lists.{all_flat, all_unflat}
use Rattle.mesa_store_spec.proofs.RecastContents.{formed}
use Rattle.mesa_store_spec.proofs.RecastFits.{view_refs}
use Rattle.mesa_store_spec.proofs.Recasting.{IsRecastTo, TakePlaces, TakesPlace, all_places, base_places, places_append, present_all, present_place}

-- ---- views

all_allowed : (l : Lineage) (views : List View) → list_all (is_view_of (columns_of l)) views ≡ true → AllByRecursion (λ v. is_view_of (columns_of l) v ≡ true) views
all_allowed l [] h = tt
all_allowed l (v ∷ views) h = let parts = and_parts (is_view_of (columns_of l) v) (list_all (is_view_of (columns_of l)) views) h in (parts.0, all_allowed l views parts.1)

-- the views of a table outlast its recast
pub all_outlast : (l : Lineage) (r : Recast) → IsRecastOf (columns_of l) r → list_all (is_view_of (columns_of l)) l.views ≡ true → AllByRecursion (λ v. keeps_view r v ≡ true) l.views → AllByRecursion (Outlasts (columns_of l) r) l.views
all_outlast l r rules allowed kept =
    all_both (λ v. is_view_of (columns_of l) v ≡ true) (λ v. keeps_view r v ≡ true) (Outlasts (columns_of l) r) l.views (λ v ok keeps. outlasts (columns_of l) r v rules ok keeps) (all_allowed l l.views allowed) kept

module _ (l : Lineage) (r : Recast) (last : AllByRecursion (Outlasts (columns_of l) r) l.views) where
  seen : (o : Option View) → ((view : View) → o ≡ Some view → Outlasts (columns_of l) r view) → columns_seen (columns_of (recast_lineage l r)) o ≡ columns_seen (columns_of l) o
  seen None f = refl
  seen (Some view) f = (f view refl).columns

  -- a view's file stays under its columns
  same_view : (v : ViewRef) → view_live (recast_lineage l r) v ≡ view_live l v
  same_view v = ap (λ columns. record { columns = columns; file = v.file }) (seen (slice_get l.views v.view) (λ view at. all_got (Outlasts (columns_of l) r) l.views v.view view at last))

  pub same_views : (vs : List ViewRef) → map (view_live (recast_lineage l r)) vs ≡ map (view_live l) vs
  same_views [] = refl
  same_views (v ∷ vs) = λ i. same_view v i ∷ same_views vs i

-- ---- files

-- what holds of a delta's own file and of the view files whose place they take
module _ (rows : Rows) (l : Lineage) (r : Recast) (last : AllByRecursion (Outlasts (columns_of l) r) l.views) (P : LiveFile → Type 0) where
  views_in : (files : Option Files) (epoch : ℕ) → AllByRecursion P (files_live l epoch files) → AllByRecursion P (map (view_live l) (view_refs files))
  views_in None epoch all = tt
  views_in (Some f) epoch all = all.1

  both_in : (files : Option Files) (epoch : ℕ) → AllByRecursion P (own_live (recast_lineage l r) epoch files) → AllByRecursion P (map (view_live l) (view_refs files)) → AllByRecursion P (files_live (recast_lineage l r) epoch files)
  both_in None epoch own views = tt
  both_in (Some f) epoch own views = (own.0, subst (AllByRecursion P) (sym (same_views l r last f.views)) views)

  pub live_place : (old new : Delta) → view_refs new.files ≡ view_refs old.files → AllByRecursion P (delta_own (recast_lineage l r) new) → AllByRecursion P (delta_live l old) → AllByRecursion P (delta_live (recast_lineage l r) new)
  live_place old new views own all = both_in new.files new.epoch own (subst (λ vs. AllByRecursion P (map (view_live l) vs)) (sym views) (views_in old.files old.epoch all))

  pub live_places : (olds news : List Delta) → TakePlaces rows l r olds news → AllByRecursion (λ (d : Delta). AllByRecursion P (delta_live l d)) olds → AllByRecursion (λ (d : Delta). AllByRecursion P (delta_own (recast_lineage l r) d)) news
      → AllByRecursion (λ (d : Delta). AllByRecursion P (delta_live (recast_lineage l r) d)) news
  live_places [] [] takes all own = tt
  live_places [] (new ∷ news) takes all own = absurd takes
  live_places (old ∷ olds) [] takes all own = absurd takes
  live_places (old ∷ olds) (new ∷ news) takes all own = (live_place old new takes.0.views own.0 all.0, live_places olds news takes.1 all.1 own.1)

-- ---- a table

module _ (rows : Rows) (floor next : ℕ) (t : TableMeta) (r : Recast) (base : Option Ending) (singles : List Delta) (shaped : IsShaped floor next t) (sound_rows : HasSoundRows rows t) (rules : IsRecastOf (columns_of t.lineage) r)
    (kept : AllByRecursion (λ v. keeps_view r v ≡ true) t.lineage.views) (is : IsRecastTo rows t r base singles) where
  outlast : AllByRecursion (Outlasts (columns_of t.lineage) r) t.lineage.views
  outlast = all_outlast t.lineage r rules shaped.lineage.views kept

  -- the base and the singletons
  pub places : TakePlaces rows t.lineage r (base_deltas t.base ++ t.singles) (base_deltas base ++ singles)
  places = places_append rows t.lineage r (base_deltas t.base) (base_deltas base) t.singles singles (base_places rows t.lineage r t.base base is.at_base) is.at_singles

  told_place : (old new : Delta) → TakesPlace rows t.lineage r old new → AllByRecursion (IsTold rows) (delta_live t.lineage old) → AllByRecursion (IsTold rows) (delta_live (recast_lineage t.lineage r) new)
  told_place old new place told = live_place rows t.lineage r outlast (IsTold rows) old new place.views place.told told

  -- each file that is named then was named before or is brought
  pub named_recast : (P : LiveFile → Type 0) → AllByRecursion P (meta_live t) → AllByRecursion P (flat_map (delta_own (recast_lineage t.lineage r)) (base_deltas base ++ singles)) → AllByRecursion P (meta_live (meta_renewed t r base singles))
  named_recast P all own =
      all_flat P (delta_live (recast_lineage t.lineage r)) (base_deltas base ++ singles)
      (live_places rows t.lineage r outlast P (base_deltas t.base ++ t.singles) (base_deltas base ++ singles) places
      (without_merged (λ d. AllByRecursion P (delta_live t.lineage d)) t (all_unflat P (delta_live t.lineage) (deltas_of t) all))
      (all_unflat P (delta_own (recast_lineage t.lineage r)) (base_deltas base ++ singles) own))

  -- ---- view files

  grouped_view : (old new : Delta) (v : ViewRef) → TakesPlace rows t.lineage r old new → AreRowsOf (columns_of t.lineage) (present rows t.lineage old) → IsGrouped rows t.lineage old v → IsGrouped rows (recast_lineage t.lineage r) new v
  grouped_view old new v place form g = by (slice_get t.lineage.views v.view) refl g
    where
      by : (o : Option View) → slice_get t.lineage.views v.view ≡ o → IsGroupedAs rows t.lineage old o v → IsGroupedAs rows (recast_lineage t.lineage r) new o v
      by None at g = g
      by (Some view) at g =
          g ∙ sym ((all_got (Outlasts (columns_of t.lineage) r) t.lineage.views v.view view at outlast).rows (present rows t.lineage old) form)
          ∙ ap (view_rows (columns_of (recast_lineage t.lineage r)) view) (sym (present_place rows t.lineage r old new place))

  views_of_files : (d : Delta) (files : Option Files) → IfSome files (λ f. AllByRecursion (IsGrouped rows t.lineage d) f.views) → AllByRecursion (IsGrouped rows t.lineage d) (view_refs files)
  views_of_files d None g = tt
  views_of_files d (Some f) g = g

  files_of_views : (d : Delta) (files : Option Files) → AllByRecursion (IsGrouped rows (recast_lineage t.lineage r) d) (view_refs files) → IfSome files (λ f. AllByRecursion (IsGrouped rows (recast_lineage t.lineage r) d) f.views)
  files_of_views d None g = tt
  files_of_views d (Some f) g = g

  grouped_place : (old new : Delta) → TakesPlace rows t.lineage r old new → AreRowsOf (columns_of t.lineage) (present rows t.lineage old) × AreGrouped rows t.lineage old → AreGrouped rows (recast_lineage t.lineage r) new
  grouped_place old new place both =
      files_of_views new new.files (subst (AllByRecursion (IsGrouped rows (recast_lineage t.lineage r) new)) (sym place.views)
      (all_so (IsGrouped rows t.lineage old) (IsGrouped rows (recast_lineage t.lineage r) new) (view_refs old.files) (λ v g. grouped_view old new v place both.0 g) (views_of_files old old.files both.1)))

  -- ---- all of it

  any_of : (ds : List Delta) → AllByRecursion (λ (d : Delta). Unit {0}) ds
  any_of [] = tt
  any_of (d ∷ ds) = (tt, any_of ds)

  pub recast_sound_rows : HasSoundRows rows (meta_renewed t r base singles)
  recast_sound_rows =
      let forms = formed rows floor next t r base singles shaped sound_rows rules is in
      let told = all_unflat (IsTold rows) (delta_live t.lineage) (deltas_of t) sound_rows.files in
      record {
        files = all_flat (IsTold rows) (delta_live (recast_lineage t.lineage r)) (base_deltas base ++ singles)
            (all_places rows t.lineage r (λ d. AllByRecursion (IsTold rows) (delta_live t.lineage d)) (λ d. AllByRecursion (IsTold rows) (delta_live (recast_lineage t.lineage r) d)) (base_deltas t.base ++ t.singles) (base_deltas base ++ singles) places told_place
            (without_merged (λ d. AllByRecursion (IsTold rows) (delta_live t.lineage d)) t told));
        merged = tt;
        grouped = all_places rows t.lineage r (λ d. AreRowsOf (columns_of t.lineage) (present rows t.lineage d) × AreGrouped rows t.lineage d) (AreGrouped rows (recast_lineage t.lineage r)) (base_deltas t.base ++ t.singles) (base_deltas base ++ singles) places grouped_place
            (without_merged (λ d. AreRowsOf (columns_of t.lineage) (present rows t.lineage d) × AreGrouped rows t.lineage d) t
            (all_both (λ d. AreRowsOf (columns_of t.lineage) (present rows t.lineage d)) (AreGrouped rows t.lineage) (λ d. AreRowsOf (columns_of t.lineage) (present rows t.lineage d) × AreGrouped rows t.lineage d) (deltas_of t) (λ d f g. (f, g)) forms sound_rows.grouped));
        totals = all_places rows t.lineage r (λ d. Unit {0}) (IsTotalled rows (recast_lineage t.lineage r)) t.singles singles is.at_singles (λ old new place any. place.totals) (any_of t.singles);
        bound =
            subst (λ parts. AreAtMost (abs_totals (columns_of (recast_lineage t.lineage r)) (rows_of parts)) (totals_recast (columns_of t.lineage) r t.totals)) (sym (present_all rows t.lineage r (base_deltas t.base ++ t.singles) (base_deltas base ++ singles) places))
            (totals_last (columns_of t.lineage) r rules (map (present rows t.lineage) (base_deltas t.base ++ t.singles)) t.totals
            (rows_formed rows t.lineage (base_deltas t.base ++ t.singles) (without_merged (λ (d : Delta). AreRowsOf (columns_of t.lineage) (present rows t.lineage d)) t forms)) sound_rows.bound);
      }
