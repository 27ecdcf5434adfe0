-- The files of deltas that were found, and their rows.
use Rattle.std.proofs.Common.{◌≡◌, ℕ, zero, suc, ◌+◌, ◌<◌, List, [], ◌∷◌, ◌++◌, map, refl, sym, ◌∙◌, ap, subst, arith, Bool, true, false, cond}
use Rattle.std.specs.Prelude.{flat_map, is_some, nat_lt, slice_get, unwrap_or, Option, None, Some, IfSome}
use Rattle.std.specs.List.{AllByRecursion, list_all}
use Rattle.std.proofs.lemmas.Bool.Decides.{nat_tests}
use Rattle.mesa_pick_files.specs.mesa_value.declared.Agg.{Agg}
use Rattle.mesa_pick_files.specs.mesa_value.declared.Agg.TheVariants as agg
use Rattle.mesa_pick_files.specs.mesa_columns.declared.rows.Row.{Row}
use Rattle.mesa_pick_files.specs.mesa_columns.declared.views.View.{View}
use Rattle.mesa_schema.specs.Changes.{Lineage, columns_at, columns_of, epoch_of, lifted}
use Rattle.mesa_pick_files.specs.mesa_columns.Columns.{Columns, aggs_of}
use Rattle.mesa_schema.specs.mesa_fold.Folded.{folded, rows_of}
use Rattle.mesa_schema.specs.Views.{view_rows}
use Rattle.mesa_batch.specs.Bound.{KeepsBound}
use Rattle.mesa_batch.specs.Totals.{abs_total, sum_bound, sum_places}
use Rattle.mesa_disk.specs.Image.{Image}
use Rattle.mesa_record.specs.declared.record.Files.{Files}
use Rattle.mesa_record.specs.declared.record.ViewRef.{ViewRef}
use Rattle.mesa_store_spec.specs.Catalog.{Delta}
use Rattle.mesa_store_spec.specs.Contents.{present, rows_if_any}
use Rattle.mesa_store_spec.specs.Fitting.{LiveFile, delta_live, files_live, view_live}
use Rattle.mesa_store_spec.proofs.Lists.{all_unmap, both_true}
use Rattle.mesa_compare.specs.mesa_open_files.declared.opening.Wanted.{Wanted}
use Rattle.mesa_pick_files.specs.Files.{Want, files_wanted, table_wanted, want_of}
use Rattle.mesa_pick_files.specs.Lent.{with_rows}
use Rattle.mesa_compare.specs.Difference.{first_difference}
use Rattle.mesa_compare.specs.Compared.{HaveFiles, IsLiftedTo, present_parts, present_rows}
use Rattle.mesa_check.specs.Found.{AreFound, Found, IsFoundAs, rows_found}
use Rattle.mesa_check.specs.Faults.{are_files_found, is_found, is_view_found, keep_bound, key_if, view_key, view_keys, view_keys_in}
use Rattle.mesa_check.specs.Shown.{key_list}
use Rattle.mesa_check.specs.Tested.{AreThere, IsThere, live_file_of}

-- ---- sums that keep their bound

bounds : (f : ℕ → ℕ) (aggs : List Agg) (i c : ℕ) → list_all (λ total. nat_lt total sum_bound) (map f (sum_places i aggs)) ≡ true → slice_get aggs c ≡ Some agg.Sum → f (i + c) < sum_bound
bounds f [] i c all p = absurd cc
bounds f (agg.Sum ∷ aggs) i zero all p =
    let here = (both_true (nat_lt (f i) sum_bound) (list_all (λ total. nat_lt total sum_bound) (map f (sum_places (i + 1) aggs))) all).0 in
    let same : i ≡ i + 0 = omega arith in
    subst (λ n. f n < sum_bound) same (below (f i) here)
  where
    below : (n : ℕ) → nat_lt n sum_bound ≡ true → n < sum_bound
    below n e = grind (arith, nat_tests)
bounds f (agg.Min ∷ aggs) i zero all p = absurd cc
bounds f (agg.Max ∷ aggs) i zero all p = absurd cc
bounds f (agg.Replace ∷ aggs) i zero all p = absurd cc
bounds f (agg.Sum ∷ aggs) i (suc c) all p =
    subst (λ n. f n < sum_bound) (omega arith) (bounds f aggs (i + 1) c (both_true (nat_lt (f i) sum_bound) (list_all (λ total. nat_lt total sum_bound) (map f (sum_places (i + 1) aggs))) all).1 p)
bounds f (agg.Min ∷ aggs) i (suc c) all p = subst (λ n. f n < sum_bound) (omega arith) (bounds f aggs (i + 1) c all p)
bounds f (agg.Max ∷ aggs) i (suc c) all p = subst (λ n. f n < sum_bound) (omega arith) (bounds f aggs (i + 1) c all p)
bounds f (agg.Replace ∷ aggs) i (suc c) all p = subst (λ n. f n < sum_bound) (omega arith) (bounds f aggs (i + 1) c all p)

pub keeps_sums : (s : Columns) (rows : List Row) → keep_bound s rows ≡ true → (c : ℕ) → slice_get (aggs_of s) c ≡ Some agg.Sum → abs_total c rows < sum_bound
keeps_sums s rows all c p = let same : 0 + c ≡ c = omega arith in subst (λ n. abs_total n rows < sum_bound) same (bounds (λ n. abs_total n rows) (aggs_of s) 0 c all p)

pub keeps_bound : (s : Columns) (rows : List Row) → keep_bound s rows ≡ true → KeepsBound (aggs_of s) [] rows
keeps_bound s rows all c p = let h = keeps_sums s rows all c p in plus (abs_total c rows) h
  where
    plus : (n : ℕ) → n < sum_bound → 0 + n < sum_bound
    plus n h = omega (arith, h)

-- ---- files that were found

module _ (i : Image) (found : Found) where
  one_there : (x : LiveFile) (o : Option (List Row)) → found x.file.id ≡ o → is_some o ≡ true → IsFoundAs i x (found x.file.id) → IsThere i found x
  one_there x None e some is = absurd cc
  one_there x (Some rows) e some is =
      subst (λ (r : List Row). IsFoundAs i x (Some r)) (ap (λ (o : Option (List Row)). unwrap_or o []) (sym e)) (subst (IsFoundAs i x) e is)

  views_there : (l : Lineage) (views : List ViewRef) → list_all (is_view_found found l) views ≡ true → AreFound i found (map (view_live l) views) → AllByRecursion (IsThere i found) (map (view_live l) views)
  views_there l [] all are = tt
  views_there l (v ∷ views) all are =
      let parts = both_true (is_view_found found l v) (list_all (is_view_found found l) views) all in
      (one_there (view_live l v) (found v.file.id) refl (both_true (is_some (slice_get l.views v.view)) (is_some (found v.file.id)) parts.0).1 are.0, views_there l views parts.1 are.1)

  pub are_there : (l : Lineage) (d : Delta) → is_found found l d ≡ true → AreFound i found (delta_live l d) → AreThere i found l d
  are_there l d so are = by d.files so are
    where
      by : (o : Option Files) → are_files_found found l o ≡ true → AreFound i found (files_live l d.epoch o) → AllByRecursion (IsThere i found) (files_live l d.epoch o)
      by None so are = tt
      by (Some f) so are =
          let parts = both_true (is_some (found f.file.id)) (list_all (is_view_found found l) f.views) so in
          (one_there (record { columns = columns_at l d.epoch; file = f.file }) (found f.file.id) refl parts.0 are.0, views_there l f.views parts.1 are.1)

  pub all_there : (l : Lineage) (ds : List Delta) → list_all (is_found found l) ds ≡ true → AllByRecursion (λ d. AreFound i found (delta_live l d)) ds → AllByRecursion (AreThere i found l) ds
  all_there l [] so are = tt
  all_there l (d ∷ ds) so are = let parts = both_true (is_found found l d) (list_all (is_found found l) ds) so in (are_there l d parts.0 are.0, all_there l ds parts.1 are.1)

  -- ---- as they are wanted

  abbrev rows_at : Wanted → List Row
  rows_at w = rows_found found w.file.now.id

  pub have_files : (ws : List Wanted) → AllByRecursion (λ w. IsThere i found (live_file_of w)) ws → HaveFiles i ws (map (λ (w : Wanted). rows_found found w.file.now.id) ws)
  have_files [] all = tt
  have_files (w ∷ ws) all = (all.0, have_files ws all.1)

-- the file that is wanted, with its columns
abbrev pub want_live_file : Want → LiveFile
want_live_file t = record { columns = columns_at t.lineage t.epoch; file = t.file }

module _ {X : Type 0} (f : Delta → List X) (none : (d : Delta) → d.files ≡ None → f d ≡ []) where
  rows_alone : (ds : List Delta) → flat_map f ds ≡ flat_map f (with_rows ds)
  rows_alone [] = refl
  rows_alone (d ∷ ds) = by d.files refl (rows_alone ds)
    where
      by : (o : Option Files) → d.files ≡ o → flat_map f ds ≡ flat_map f (with_rows ds) → f d ++ flat_map f ds ≡ flat_map f (cond (is_some d.files) (d ∷ with_rows ds) (with_rows ds))
      by None is more = ap (λ (xs : List X). xs ++ flat_map f ds) (none d is) ∙ more ∙ sym (ap (λ (o : Option Files). flat_map f (cond (is_some o) (d ∷ with_rows ds) (with_rows ds))) is)
      by (Some x) is more = ap (λ (xs : List X). f d ++ xs) more ∙ sym (ap (λ (o : Option Files). flat_map f (cond (is_some o) (d ∷ with_rows ds) (with_rows ds))) is)

  pub same_rows : (xs ys : List Delta) → with_rows xs ≡ with_rows ys → flat_map f xs ≡ flat_map f ys
  same_rows xs ys same = rows_alone xs ∙ ap (flat_map f) same ∙ sym (rows_alone ys)

-- the files of deltas that are alike but for those without rows
pub same_wanted : (l : Lineage) (xs ys : List Delta) → with_rows xs ≡ with_rows ys → flat_map (table_wanted l) xs ≡ flat_map (table_wanted l) ys
same_wanted l xs ys same = same_rows (table_wanted l) (λ d is. ap (files_wanted l d.epoch) is) xs ys same

pub wanted_lineage : (l : Lineage) (ds : List Delta) → AllByRecursion (λ (t : Want). columns_of t.lineage ≡ columns_of l) (flat_map (table_wanted l) ds)
wanted_lineage l [] = tt
wanted_lineage l (d ∷ ds) = by d.files (wanted_lineage l ds)
  where
    by : (o : Option Files) → AllByRecursion (λ (t : Want). columns_of t.lineage ≡ columns_of l) (flat_map (table_wanted l) ds) → AllByRecursion (λ (t : Want). columns_of t.lineage ≡ columns_of l) (files_wanted l d.epoch o ++ flat_map (table_wanted l) ds)
    by None rest = rest
    by (Some f) rest = (refl, rest)

module _ (ws : List Wanted) (l : Lineage) (ds : List Delta) (are : map want_of ws ≡ flat_map (table_wanted l) ds) where
  pub all_lifted : AllByRecursion (IsLiftedTo (columns_of l)) ws
  all_lifted = all_unmap (λ (t : Want). columns_of t.lineage ≡ columns_of l) want_of ws (subst (AllByRecursion (λ (t : Want). columns_of t.lineage ≡ columns_of l)) (sym are) (wanted_lineage l ds))

  module _ (i : Image) (found : Found) where
    wanted_there : (ds : List Delta) → AllByRecursion (AreThere i found l) ds → AllByRecursion (λ t. IsThere i found (want_live_file t)) (flat_map (table_wanted l) ds)
    wanted_there [] all = tt
    wanted_there (d ∷ ds) all = by d.files all.0 (wanted_there ds all.1)
      where
        by : (o : Option Files) → AllByRecursion (IsThere i found) (files_live l d.epoch o) → AllByRecursion (λ t. IsThere i found (want_live_file t)) (flat_map (table_wanted l) ds) → AllByRecursion (λ t. IsThere i found (want_live_file t)) (files_wanted l d.epoch o ++ flat_map (table_wanted l) ds)
        by None its rest = rest
        by (Some f) its rest = (its.0, rest)

    pub singles_there : AllByRecursion (AreThere i found l) ds → HaveFiles i ws (map (λ (w : Wanted). rows_found found w.file.now.id) ws)
    singles_there all = have_files i found ws (all_unmap (λ t. IsThere i found (want_live_file t)) want_of ws (subst (AllByRecursion (λ t. IsThere i found (want_live_file t))) (sym are) (wanted_there ds all)))

    abbrev part_of : Want → List Row
    part_of t = map (lifted t.lineage t.epoch (epoch_of t.lineage)) (rows_found found t.file.id)

    parts_flat : (ws : List Wanted) → rows_of (present_parts ws (map (λ (w : Wanted). rows_found found w.file.now.id) ws)) ≡ flat_map part_of (map want_of ws)
    parts_flat [] = refl
    parts_flat (w ∷ ws) = ap (λ xs. present_rows w (rows_found found w.file.now.id) ++ xs) (parts_flat ws)

    deltas_flat : (ds : List Delta) → flat_map part_of (flat_map (table_wanted l) ds) ≡ rows_of (map (present (rows_found found) l) ds)
    deltas_flat [] = refl
    deltas_flat (d ∷ ds) = by d.files (deltas_flat ds)
      where
        by : (o : Option Files) → flat_map part_of (flat_map (table_wanted l) ds) ≡ rows_of (map (present (rows_found found) l) ds)
            → flat_map part_of (files_wanted l d.epoch o ++ flat_map (table_wanted l) ds) ≡ map (lifted l d.epoch (epoch_of l)) (rows_if_any (rows_found found) o) ++ rows_of (map (present (rows_found found) l) ds)
        by None rest = rest
        by (Some f) rest = ap (λ xs. map (lifted l d.epoch (epoch_of l)) (rows_found found f.file.id) ++ xs) rest

    pub singles_rows : rows_of (present_parts ws (map (λ (w : Wanted). rows_found found w.file.now.id) ws)) ≡ rows_of (map (present (rows_found found) l) ds)
    singles_rows = parts_flat ws ∙ ap (flat_map part_of) are ∙ deltas_flat ds

-- parts with the same rows have one fold
pub same_fold : (aggs : List Agg) (xs ys : List (List Row)) → rows_of xs ≡ rows_of ys → folded aggs xs ≡ folded aggs ys
same_fold aggs xs ys same = ap (λ (rs : List Row). map (Rattle.mesa_schema.specs.mesa_fold.Folded.folded_at aggs rs) (Rattle.mesa_schema.specs.mesa_fold.Folded.keys_of rs)) same

-- ---- keys

pub key_shown : (b : Bool) (o key : Option (List ℕ)) → b ≡ true → o ≡ key → key_list o ≡ key_if b key
key_shown true o None is same = ap key_list same
key_shown true o (Some key) is same = ap key_list same
key_shown false o key is same = absurd cc

pub no_key : (b : Bool) (key : Option (List ℕ)) → b ≡ false → key_list None ≡ key_if b key
no_key true key is = absurd cc
no_key false key is = refl

-- a view's key, where the view is there
pub view_shown : (found : Found) (l : Lineage) (d : Delta) (v : ViewRef) (o : Option View) (shown : Option (List ℕ)) → is_some o ≡ true → keep_bound (columns_of l) (present (rows_found found) l d) ≡ true
    → IfSome o (λ view. shown ≡ first_difference (view_rows (columns_of l) view (present (rows_found found) l d)) (rows_found found v.file.id)) → key_list shown ≡ view_key found l d v o
view_shown found l d v None shown there keeps is = absurd cc
view_shown found l d v (Some view) shown there keeps is =
    key_shown (keep_bound (columns_of l) (present (rows_found found) l d)) shown (first_difference (view_rows (columns_of l) view (present (rows_found found) l d)) (rows_found found v.file.id)) keeps is

-- ---- the files of views

pub nil_flat : {A B : Type 0} (f : A → List B) (xs : List A) → ((x : A) → f x ≡ []) → flat_map f xs ≡ []
nil_flat f [] none = refl
nil_flat f (x ∷ xs) none = (λ k. none x k ++ flat_map f xs) ∙ nil_flat f xs none

-- where rows don't keep the bound, no key is asked
pub no_keys : (found : Found) (l : Lineage) (d : Delta) → keep_bound (columns_of l) (present (rows_found found) l d) ≡ false → view_keys found l d ≡ []
no_keys found l d e = by d.files
  where
    one : (v : ViewRef) (o : Option View) → view_key found l d v o ≡ []
    one v None = refl
    one v (Some view) = ap (λ b. key_if b (first_difference (view_rows (columns_of l) view (present (rows_found found) l d)) (rows_found found v.file.id))) e ∙ out (first_difference (view_rows (columns_of l) view (present (rows_found found) l d)) (rows_found found v.file.id))
      where
        out : (key : Option (List ℕ)) → key_if false key ≡ []
        out None = refl
        out (Some key) = refl

    by : (o : Option Files) → view_keys_in found l d o ≡ []
    by None = refl
    by (Some f) = nil_flat (λ (v : ViewRef). view_key found l d v (slice_get l.views v.view)) f.views (λ v. one v (slice_get l.views v.view))

-- the files of a delta, one by one
pub there_files : (i : Image) (found : Found) (l : Lineage) (d : Delta) (f : Files) → d.files ≡ Some f → AreThere i found l d
    → IsThere i found (record { columns = columns_at l d.epoch; file = f.file }) × AllByRecursion (λ (v : ViewRef). IsThere i found (view_live l v)) f.views
there_files i found l d f is there =
    let all = subst (λ (o : Option Files). AllByRecursion (IsThere i found) (files_live l d.epoch o)) is there in
    (all.0, all_unmap (IsThere i found) (view_live l) f.views all.1)

-- a table's rows of a delta at present
pub present_is : (found : Found) (l : Lineage) (d : Delta) (f : Files) (epoch : ℕ) → d.files ≡ Some f → epoch ≡ d.epoch → present (rows_found found) l d ≡ map (lifted l epoch (epoch_of l)) (rows_found found f.file.id)
present_is found l d f epoch is at = ap (λ (o : Option Files). map (lifted l d.epoch (epoch_of l)) (rows_if_any (rows_found found) o)) is ∙ ap (λ e. map (lifted l e (epoch_of l)) (rows_found found f.file.id)) (sym at)
