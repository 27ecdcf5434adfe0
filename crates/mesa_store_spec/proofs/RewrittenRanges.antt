-- What rewritten ranges bring to their table.
use Rattle.std.proofs.Common.{◌≡◌, ℕ, ◌+◌, ◌-◌, ◌<◌, ◌≤◌, List, [], ◌∷◌, ◌++◌, map, flat_map, length, replicate, refl, sym, ◌∙◌, ap, subst, arith, Option, Some, None, cond, true, false, ◌==◌, ◌&&◌, slice_get, Ok, is_ok}
use Rattle.std.specs.Prelude.{IfSome, IsTrue, option_map, ⊤}
use Rattle.std.specs.List.{AllByRecursion, list_all}
use Rattle.std.proofs.lemmas.Bool.{and_from, and_parts, eq-eqb, eqb-true}
use Rattle.mesa_history_spec.specs.mesa_columns.declared.views.View.{View}
use Rattle.mesa_history_spec.specs.mesa_schema.Changes.{Lineage, columns_at, columns_of, epoch_of, lifted}
use Rattle.mesa_history_spec.specs.mesa_schema.Laws.{Outlasts}
use Rattle.mesa_history_spec.specs.mesa_schema.Recasts.{Recast, recast_checked, recast_columns, recast_lineage, recast_rows}
use Rattle.mesa_history_spec.specs.mesa_batch.Totals.{abs_totals}
use Rattle.mesa_history_spec.proofs.mesa_schema.LineageRecasts.{columns_first, recast_allowed}
use Rattle.mesa_history_spec.proofs.mesa_columns.Lists.{all_append, all_got}
use Rattle.mesa_history_spec.specs.Sources.{Written, range_rows, sources_from}
use Rattle.mesa_history_spec.specs.mesa_file.declared.file_ref.FileRef.{FileRef}
use Rattle.mesa_record.specs.declared.record.Files.{Files}
use Rattle.mesa_record.specs.declared.record.ViewRef.{ViewRef}
use Rattle.mesa_record.specs.declared.checkpoint.CheckpointSingle.{CheckpointSingle}
use Rattle.mesa_store_spec.specs.Catalog.{Delta, Ending, TableMeta, base_recast, base_told, empty_delta, singles_stated, singles_told, start_in}
use Rattle.mesa_store_spec.specs.Checkpoint.{stating_single, stating_singles, totals_or_none}
use Rattle.mesa_store_spec.specs.Contents.{Rows, present, rows_if_any}
use Rattle.mesa_store_spec.specs.Fitting.{base_deltas, base_renewed, counts_columns, counts_view, delta_in, delta_own, files_fit, files_fit_if_any, files_renewed, is_view_ref, ranges_renewed, recast_fits, single_renewed, singles_renewed, totals_fit}
use Rattle.mesa_store_spec.specs.SameFiles.{same_views}
use Rattle.mesa_store_spec.specs.Shape.{IsShaped}
use Rattle.mesa_store_spec.specs.Sound.{IsTold}
use Rattle.mesa_store_spec.proofs.SameFiles.{views_again}
use Rattle.mesa_store_spec.specs.Brought.{AreRegrouped, BringsRecast, IsBaseRegrouped, IsRegrouped}
use Rattle.mesa_store_spec.specs.Countable.{CountsFiles, IsCounted}
use Rattle.mesa_store_spec.specs.Rewritten.{AreCovered, CountsRange, Covers, IsCoveredAt, IsRewritten, Rewritten, base_rewritten, file_live, files_at, files_rewritten, files_with, recasting_of, rewritten_at, rows_of_file, single_at, single_rewritten, single_with, singles_rewritten}
use Rattle.mesa_store_spec.specs.Sourced.{AreMadeOf, IsMadeOf, IsSourced}
use Rattle.mesa_store_spec.proofs.Lists.{all_back, all_flat, all_front}
use Rattle.mesa_store_spec.proofs.RecastFits.{told_more}
use Rattle.mesa_store_spec.proofs.RecastSoundRows.{all_outlast}
use Rattle.mesa_store_spec.proofs.Stating.{StartsFrom, empty_more, starts_lower}

-- a range that is found is one of them, and is that range
record IsFound (P : Rewritten → Type 0) (from to : ℕ) (x : Rewritten) : Type 0 where
  at_from : x.from ≡ from
  at_to : x.to ≡ to
  has : P x

found_is : (P : Rewritten → Type 0) (from to : ℕ) (made : List Rewritten) (x : Rewritten) → rewritten_at from to made ≡ Some x → AllByRecursion P made → IsFound P from to x
found_is P from to [] x e all = absurd (cc)
found_is P from to (y ∷ made) x e all = elim ((y.from == from) && (y.to == to)) as (λ b. ((y.from == from) && (y.to == to)) ≡ b → cond b (Some y) (rewritten_at from to made) ≡ Some x → IsFound P from to x) [
  | true ↦ λ t f.
      let same : y ≡ x = cc in
      let parts = and_parts (y.from == from) (y.to == to) t in
      subst (IsFound P from to) same (record { at_from = eqb-true y.from from parts.0; at_to = eqb-true y.to to parts.1; has = all.0 })
  | false ↦ λ t f. found_is P from to made x f all.1
] refl e

-- ---- rows

-- A delta brings the rows of another, regrouped, in a file with a true reference.
record IsBrought (rows : Rows) (l : Lineage) (r : Recast) (old new : Delta) : Type 0 where
  regrouped : IsRegrouped rows l r old new
  told : AllByRecursion (IsTold rows) (delta_own (recast_lineage l r) new)

abbrev AreBrought : Rows → Lineage → Recast → List Delta → List Delta → Type 0
AreBrought rows l r [] [] = ⊤
AreBrought rows l r [] (new ∷ news) = ⊥
AreBrought rows l r (old ∷ olds) [] = ⊥
AreBrought rows l r (old ∷ olds) (new ∷ news) = IsBrought rows l r old new × AreBrought rows l r olds news

each_regrouped : (rows : Rows) (l : Lineage) (r : Recast) (olds news : List Delta) → AreBrought rows l r olds news → AreRegrouped rows l r olds news
each_regrouped rows l r [] [] is = tt
each_regrouped rows l r [] (new ∷ news) is = absurd is
each_regrouped rows l r (old ∷ olds) [] is = absurd is
each_regrouped rows l r (old ∷ olds) (new ∷ news) is = (is.0.regrouped, each_regrouped rows l r olds news is.1)

each_told : (rows : Rows) (l : Lineage) (r : Recast) (olds news : List Delta) → AreBrought rows l r olds news → AllByRecursion (λ (d : Delta). AllByRecursion (IsTold rows) (delta_own (recast_lineage l r) d)) news
each_told rows l r [] [] is = tt
each_told rows l r [] (new ∷ news) is = absurd is
each_told rows l r (old ∷ olds) [] is = absurd is
each_told rows l r (old ∷ olds) (new ∷ news) is = (is.0.told, each_told rows l r olds news is.1)

module _ (rows : Rows) (l : Lineage) (r : Recast) (written : List Written) (made : List Rewritten) (all : AllByRecursion (IsRewritten rows l r written) made) where
  -- the rows of a range that was rewritten are those of a delta that is made of it, regrouped
  rows_found : (from to : ℕ) (d : Delta) (x : Rewritten) (file : FileRef) → IsMadeOf rows l written from to d → rewritten_at from to made ≡ Some x → x.file ≡ Some file → rows file.id ≡ recast_rows (columns_of l) r (present rows l d)
  rows_found from to d x file is at has =
      let its = found_is (IsRewritten rows l r written) from to made x at all in
      sym (ap (rows_of_file rows) has) ∙ its.has.rows_are
      ∙ (λ i. recast_rows (columns_of l) r (range_rows l (epoch_of l) (sources_from (its.at_from i) (its.at_to i) written))) ∙ ap (recast_rows (columns_of l) r) (sym is)

  told_found : (from to : ℕ) (x : Rewritten) (file : FileRef) → rewritten_at from to made ≡ Some x → x.file ≡ Some file → IsTold rows (record { columns = columns_at (recast_lineage l r) (epoch_of l + 1); file = file })
  told_found from to x file at has =
      let its = found_is (IsRewritten rows l r written) from to made x at all in
      let told : AllByRecursion (IsTold rows) (file_live (recast_columns (columns_of l) r) (Some file)) = subst (λ o. AllByRecursion (IsTold rows) (file_live (recast_columns (columns_of l) r) o)) has its.has.told in
      subst (λ s. IsTold rows (record { columns = s; file = file })) (sym (columns_first l r (epoch_of l + 1))) told.0

  totals_found : (from to : ℕ) (x : Rewritten) (file : FileRef) → rewritten_at from to made ≡ Some x → x.file ≡ Some file → x.totals ≡ abs_totals (recast_columns (columns_of l) r) (rows file.id)
  totals_found from to x file at has = (found_is (IsRewritten rows l r written) from to made x at all).has.totals ∙ ap (λ o. abs_totals (recast_columns (columns_of l) r) (rows_of_file rows o)) has

  -- a delta without files has none afterwards
  nothing_there : (d : Delta) → d.files ≡ None → [] ≡ recast_rows (columns_of l) r (present rows l d)
  nothing_there d e = sym (ap (λ files. recast_rows (columns_of l) r (map (lifted l d.epoch (epoch_of l)) (rows_if_any rows files))) e)

  none_brought : (d new : Delta) → d.files ≡ None → new.files ≡ None → new.totals ≡ None → IsBrought rows l r d new
  none_brought d new e none uncounted = by new.files new.totals none uncounted
    where
      by : (files : Option Files) (totals : Option (List ℕ)) → files ≡ None → totals ≡ None → IsBrought rows l r d (record { epoch = new.epoch; files = files; totals = totals })
      by None None a b = record { regrouped = record { rows_are = nothing_there d e; totals = tt }; told = tt }
      by (Some f) totals a b = absurd (cc)
      by None (Some ts) a b = absurd (cc)

  -- ---- singletons

  starts_one : (epoch from : ℕ) (files : Option Files) (rest : List CheckpointSingle) → StartsFrom (from + 1) rest → StartsFrom from (single_rewritten epoch from made files ++ rest)
  starts_one epoch from None rest is = starts_lower from rest is
  starts_one epoch from (Some f) rest is = by_range (rewritten_at from from made)
    where
      by_file : (totals : List ℕ) (o : Option FileRef) → StartsFrom from (single_with epoch from f.views totals o ++ rest)
      by_file totals None = starts_lower from rest is
      by_file totals (Some file) = (let le : from ≤ from = omega arith in le)

      by_range : (o : Option Rewritten) → StartsFrom from (single_at epoch from f.views o ++ rest)
      by_range None = starts_lower from rest is
      by_range (Some x) = by_file x.totals x.file

  starts_rewritten : (epoch from : ℕ) (ds : List Delta) → StartsFrom from (singles_rewritten epoch from made ds)
  starts_rewritten epoch from [] = tt
  starts_rewritten epoch from (d ∷ ds) = starts_one epoch from d.files (singles_rewritten epoch (from + 1) made ds) (starts_rewritten epoch (from + 1) ds)

  one_brought : (from next : ℕ) (d : Delta) (ds : List Delta) (rest : List CheckpointSingle) (files : Option Files) → d.files ≡ files → IsMadeOf rows l written from from d → IsCoveredAt from from made files → from < next → StartsFrom (from + 1) rest
      → AreBrought rows l r ds (singles_stated (from + 1) next rest) → AreBrought rows l r (d ∷ ds) (singles_stated from next (single_rewritten (epoch_of l + 1) from made files ++ rest))
  one_brought from next d ds rest None is of c lt start behind = subst (AreBrought rows l r (d ∷ ds)) (sym (empty_more from next rest lt start)) (none_brought d empty_delta is refl refl, behind)
  one_brought from next d ds rest (Some f) is of c lt start behind =
      let s : CheckpointSingle = record { version = from; epoch = epoch_of l + 1; files = record { file = c.1; views = f.views }; totals = c.0.totals } in
      subst (λ o. AreBrought rows l r (d ∷ ds) (singles_stated from next (single_at (epoch_of l + 1) from f.views o ++ rest))) (sym c.2)
      (subst (λ o. AreBrought rows l r (d ∷ ds) (singles_stated from next (single_with (epoch_of l + 1) from f.views c.0.totals o ++ rest))) (sym c.3)
      (subst (AreBrought rows l r (d ∷ ds)) (sym (told_more from next s rest refl)) (
        record {
          regrouped = record { rows_are = rows_found from from d c.0 c.1 of c.2 c.3; totals = totals_found from from c.0 c.1 c.2 c.3 };
          told = (told_found from from c.0 c.1 c.2 c.3, tt);
        },
        behind,
      )))

  singles_brought : (from next : ℕ) (ds : List Delta) → from + length ds ≡ next → AreMadeOf rows l written from ds → AreCovered from made ds → AreBrought rows l r ds (singles_stated from next (singles_rewritten (epoch_of l + 1) from made ds))
  singles_brought from next [] len of c =
      let none : next - from ≡ 0 = omega (arith, len) in
      subst (λ n. AreBrought rows l r [] (replicate n empty_delta)) (sym none) tt
  singles_brought from next (d ∷ ds) len of c =
      one_brought from next d ds (singles_rewritten (epoch_of l + 1) (from + 1) made ds) d.files refl of.0 c.0 (omega (arith, len)) (starts_rewritten (epoch_of l + 1) (from + 1) ds) (singles_brought (from + 1) next ds (omega (arith, len)) of.1 c.1)

  -- ---- the base

  delta_brought : (e : Ending) (files : Option Files) → e.delta.files ≡ files → IsMadeOf rows l written 0 e.to e.delta → IsCoveredAt 0 e.to made files
      → IsBrought rows l r e.delta (record { epoch = epoch_of l + 1; files = files_rewritten 0 e.to made files; totals = None })
  delta_brought e None is of c = none_brought e.delta (record { epoch = epoch_of l + 1; files = None; totals = None }) is refl refl
  delta_brought e (Some f) is of c =
      subst (λ o. IsBrought rows l r e.delta (record { epoch = epoch_of l + 1; files = files_at f.views o; totals = None })) (sym c.2)
      (subst (λ o. IsBrought rows l r e.delta (record { epoch = epoch_of l + 1; files = files_with f.views o; totals = None })) (sym c.3)
      (record { regrouped = record { rows_are = rows_found 0 e.to e.delta c.0 c.1 of c.2 c.3; totals = tt }; told = (told_found 0 e.to c.0 c.1 c.2 c.3, tt) }))

  base_regrouped : (o : Option Ending) → IfSome o (λ (e : Ending). IsMadeOf rows l written 0 e.to e.delta) → IfSome o (λ (e : Ending). IsCoveredAt 0 e.to made e.delta.files)
      → IsBaseRegrouped rows l r o (option_map (base_recast (epoch_of l + 1)) (base_rewritten made o))
  base_regrouped None of c = tt
  base_regrouped (Some e) of c = (delta_brought e e.delta.files refl of c).regrouped

  base_of_told : (o : Option Ending) → IfSome o (λ (e : Ending). IsMadeOf rows l written 0 e.to e.delta) → IfSome o (λ (e : Ending). IsCoveredAt 0 e.to made e.delta.files)
      → AllByRecursion (λ (d : Delta). AllByRecursion (IsTold rows) (delta_own (recast_lineage l r) d)) (base_deltas (option_map (base_recast (epoch_of l + 1)) (base_rewritten made o)))
  base_of_told None of c = tt
  base_of_told (Some e) of c = ((delta_brought e e.delta.files refl of c).told, tt)

-- Ranges that were rewritten from what was written in them, and that cover a table, bring its rows, regrouped, in files with true references.
module _ (rows : Rows) (written : List Written) (next table : ℕ) (t : TableMeta) (r : Recast) (made : List Rewritten) (whole : start_in t + length t.singles ≡ next) (sourced : IsSourced rows written t) (all : AllByRecursion (IsRewritten rows t.lineage r written) made)
    (covers : Covers made t) where
  its_singles : AreBrought rows t.lineage r t.singles (singles_told next t (recasting_of table t r made))
  its_singles = singles_brought rows t.lineage r written made all (start_in t) next t.singles whole sourced.singles covers.singles

  pub rewritten_brings : BringsRecast rows next t (recasting_of table t r made)
  rewritten_brings = record {
    base = base_regrouped rows t.lineage r written made all t.base sourced.base covers.base;
    singles = each_regrouped rows t.lineage r t.singles (singles_told next t (recasting_of table t r made)) its_singles;
  }

  pub rewritten_told : AllByRecursion (IsTold rows) (flat_map (delta_own (recast_lineage t.lineage r)) (base_deltas (base_told (recasting_of table t r made)) ++ singles_told next t (recasting_of table t r made)))
  rewritten_told =
      all_flat (IsTold rows) (delta_own (recast_lineage t.lineage r)) (base_deltas (base_told (recasting_of table t r made)) ++ singles_told next t (recasting_of table t r made))
      (all_append (λ (d : Delta). AllByRecursion (IsTold rows) (delta_own (recast_lineage t.lineage r) d)) (base_deltas (base_told (recasting_of table t r made))) (singles_told next t (recasting_of table t r made))
      (base_of_told rows t.lineage r written made all t.base sourced.base covers.base) (each_told rows t.lineage r t.singles (singles_told next t (recasting_of table t r made)) its_singles))

-- ---- the record fits

same_number : (n : ℕ) → (n == n) ≡ true
same_number n = eq-eqb n n refl

module _ (l : Lineage) (r : Recast) (last : AllByRecursion (Outlasts (columns_of l) r) l.views) where
  seen_counted : (o : Option View) (v : ViewRef) → ((view : View) → o ≡ Some view → Outlasts (columns_of l) r view) → counts_view (columns_of (recast_lineage l r)) o v.file ≡ counts_view (columns_of l) o v.file
  seen_counted None v f = refl
  seen_counted (Some view) v f = ap (λ s. counts_columns s v.file) (f view refl).columns

  views_counted : (vs : List ViewRef) → list_all (is_view_ref (recast_lineage l r)) vs ≡ list_all (is_view_ref l) vs
  views_counted [] = refl
  views_counted (v ∷ vs) = λ i. seen_counted (slice_get l.views v.view) v (λ view at. all_got (Outlasts (columns_of l) r) l.views v.view view at last) i && views_counted vs i

  -- a rewritten file beside the view files that a delta has
  files_renew : (epoch : ℕ) (d : Delta) (f : Files) (file : FileRef) → d.files ≡ Some f → CountsFiles l d → counts_columns (recast_columns (columns_of l) r) file ≡ true
      → files_renewed (recast_lineage l r) epoch (Some f) (Some (record { file = file; views = f.views })) ≡ true
  files_renew epoch d f file is counts own =
      let its : files_fit l d.epoch f ≡ true = subst (λ o. files_fit_if_any l d.epoch o ≡ true) is counts in
      let views = (and_parts (counts_columns (columns_at l d.epoch) f.file) (list_all (is_view_ref l) f.views) its).1 in
      and_from (same_views f.views f.views) (files_fit (recast_lineage l r) epoch (record { file = file; views = f.views })) (views_again f.views)
      (and_from (counts_columns (columns_at (recast_lineage l r) epoch) file) (list_all (is_view_ref (recast_lineage l r)) f.views) (ap (λ s. counts_columns s file) (columns_first l r epoch) ∙ own) (views_counted f.views ∙ views))

module _ (l : Lineage) (r : Recast) (last : AllByRecursion (Outlasts (columns_of l) r) l.views) (epoch : ℕ) (made : List Rewritten) (counted : AllByRecursion (CountsRange (recast_columns (columns_of l) r)) made) where
  file_counted : (from to : ℕ) (x : Rewritten) (file : FileRef) → rewritten_at from to made ≡ Some x → x.file ≡ Some file → counts_columns (recast_columns (columns_of l) r) file ≡ true
  file_counted from to x file at has =
      subst (λ o. IfSome o (λ f. IsTrue (counts_columns (recast_columns (columns_of l) r) f))) has (found_is (CountsRange (recast_columns (columns_of l) r)) from to made x at counted).has.file

  totals_counted : (from to : ℕ) (x : Rewritten) → rewritten_at from to made ≡ Some x → totals_fit (columns_at (recast_lineage l r) epoch) x.totals ≡ true
  totals_counted from to x at = ap (λ s. totals_fit s x.totals) (columns_first l r epoch) ∙ (found_is (CountsRange (recast_columns (columns_of l) r)) from to made x at counted).has.totals

  -- of singletons
  single_fits : (from : ℕ) (d : Delta) (olds news : List CheckpointSingle) (files : Option Files) → d.files ≡ files → CountsFiles l d → IsCoveredAt from from made files → singles_renewed (recast_lineage l r) epoch olds news ≡ true
      → singles_renewed (recast_lineage l r) epoch (stating_single from d.epoch d.totals files ++ olds) (single_rewritten epoch from made files ++ news) ≡ true
  single_fits from d olds news None is counts c rest = rest
  single_fits from d olds news (Some f) is counts c rest =
      let old : CheckpointSingle = record { version = from; epoch = d.epoch; files = f; totals = totals_or_none d.totals } in
      let new : CheckpointSingle = record { version = from; epoch = epoch; files = record { file = c.1; views = f.views }; totals = c.0.totals } in
      let one : single_renewed (recast_lineage l r) epoch old new ≡ true =
      and_from ((from == from) && (epoch == epoch) && files_renewed (recast_lineage l r) epoch (Some f) (Some new.files)) (totals_fit (columns_at (recast_lineage l r) epoch) c.0.totals)
      (and_from ((from == from) && (epoch == epoch)) (files_renewed (recast_lineage l r) epoch (Some f) (Some new.files)) (and_from (from == from) (epoch == epoch) (same_number from) (same_number epoch))
      (files_renew l r last epoch d f c.1 is counts (file_counted from from c.0 c.1 c.2 c.3))) (totals_counted from from c.0 c.2) in
      subst (λ o. singles_renewed (recast_lineage l r) epoch (old ∷ olds) (single_at epoch from f.views o ++ news) ≡ true) (sym c.2)
      (subst (λ o. singles_renewed (recast_lineage l r) epoch (old ∷ olds) (single_with epoch from f.views c.0.totals o ++ news) ≡ true) (sym c.3)
      (and_from (single_renewed (recast_lineage l r) epoch old new) (singles_renewed (recast_lineage l r) epoch olds news) one rest))

  singles_fit : (from : ℕ) (ds : List Delta) → AllByRecursion (CountsFiles l) ds → AreCovered from made ds → singles_renewed (recast_lineage l r) epoch (stating_singles from ds) (singles_rewritten epoch from made ds) ≡ true
  singles_fit from [] counts c = refl
  singles_fit from (d ∷ ds) counts c = single_fits from d (stating_singles (from + 1) ds) (singles_rewritten epoch (from + 1) made ds) d.files refl counts.0 c.0 (singles_fit (from + 1) ds counts.1 c.1)

  -- of the base
  base_files_fit : (e : Ending) (files : Option Files) → e.delta.files ≡ files → CountsFiles l e.delta → IsCoveredAt 0 e.to made files → files_renewed (recast_lineage l r) epoch files (files_rewritten 0 e.to made files) ≡ true
  base_files_fit e None is counts c = refl
  base_files_fit e (Some f) is counts c =
      subst (λ o. files_renewed (recast_lineage l r) epoch (Some f) (files_at f.views o) ≡ true) (sym c.2)
      (subst (λ o. files_renewed (recast_lineage l r) epoch (Some f) (files_with f.views o) ≡ true) (sym c.3) (files_renew l r last epoch e.delta f c.1 is counts (file_counted 0 e.to c.0 c.1 c.2 c.3)))

  base_fit : (o : Option Ending) → AllByRecursion (CountsFiles l) (base_deltas o) → IfSome o (λ (e : Ending). IsCoveredAt 0 e.to made e.delta.files) → base_renewed (recast_lineage l r) epoch o (base_rewritten made o) ≡ true
  base_fit None counts c = refl
  base_fit (Some e) counts c = and_from (e.to == e.to) (files_renewed (recast_lineage l r) epoch e.delta.files (files_rewritten 0 e.to made e.delta.files)) (same_number e.to) (base_files_fit e e.delta.files refl counts.0 c)

-- Ranges that count their columns, and that cover a table, make a record that fits, where the recast is allowed.
pub rewritten_fits : (floor next table : ℕ) (t : TableMeta) (r : Recast) (made : List Rewritten) → IsShaped floor next t → IsCounted t → recast_checked t.lineage r ≡ Ok tt → AllByRecursion (CountsRange (recast_columns (columns_of t.lineage) r)) made → Covers made t
    → recast_fits t (recasting_of table t r made) ≡ true
rewritten_fits floor next table t r made shaped is checked counted covers =
    let allowed = recast_allowed t.lineage r checked in
    let last = all_outlast t.lineage r allowed.rules shaped.lineage.views allowed.kept in
    let m = recast_lineage t.lineage r in
    let e = epoch_of t.lineage + 1 in
    let k = recasting_of table t r made in
    let base = base_fit t.lineage r last (epoch_of t.lineage + 1) made counted t.base (all_front (CountsFiles t.lineage) (base_deltas t.base) (map delta_in t.cumulatives ++ t.singles) is.files) covers.base in
    let singles = singles_fit t.lineage r last (epoch_of t.lineage + 1) made counted (start_in t) t.singles
    (all_back (CountsFiles t.lineage) (map delta_in t.cumulatives) t.singles (all_back (CountsFiles t.lineage) (base_deltas t.base) (map delta_in t.cumulatives ++ t.singles) is.files)) covers.singles in
    and_from (is_ok (recast_checked t.lineage r) && (epoch_of t.lineage + 1 == epoch_of t.lineage + 1)) (ranges_renewed m t k)
    (and_from (is_ok (recast_checked t.lineage r)) (epoch_of t.lineage + 1 == epoch_of t.lineage + 1) (ap is_ok checked) (same_number (epoch_of t.lineage + 1)))
    (and_from (base_renewed m e t.base k.base) (singles_renewed m e (stating_singles (start_in t) t.singles) k.singles) base singles)
