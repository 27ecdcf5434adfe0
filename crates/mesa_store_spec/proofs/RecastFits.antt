-- What a recast that fits tells of the ranges of its table.
use Rattle.std.proofs.Common.{◌≡◌, ℕ, suc, ◌+◌, ◌-◌, ◌<◌, ◌≤◌, List, [], ◌∷◌, ◌++◌, length, replicate, true, false, ◌&&◌, ◌==◌, nat_lt, is_ok, Option, Some, None, Result, Ok, Err, refl, sym, ◌∙◌, ap, subst, arith}
use Rattle.std.specs.Prelude.{option_map, IfSome, ⊤}
use Rattle.std.specs.List.{AllByRecursion, list_all}
use Rattle.mesa_history_spec.specs.mesa_columns.Columns.{aggs_of}
use Rattle.mesa_history_spec.specs.mesa_schema.Changes.{Lineage, columns_at, epoch_of}
use Rattle.mesa_history_spec.specs.mesa_schema.Recasts.{recast_checked, recast_lineage}
use Rattle.mesa_history_spec.specs.mesa_batch.Totals.{sum_bound, sums_in}
use Rattle.mesa_record.specs.declared.record.Files.{Files}
use Rattle.mesa_record.specs.declared.record.ViewRef.{ViewRef}
use Rattle.mesa_record.specs.declared.checkpoint.CheckpointSingle.{CheckpointSingle}
use Rattle.mesa_record.specs.declared.recasting.RecastBase.{RecastBase}
use Rattle.mesa_record.specs.declared.recasting.Recasting.{Recasting}
use Rattle.mesa_store_spec.specs.Catalog.{Delta, Ending, TableMeta, base_recast, base_told, empty_delta, recast_in, single_stated, singles_stated, singles_told, start_in}
use Rattle.mesa_store_spec.specs.Checkpoint.{stating_single, stating_singles, totals_or_none}
use Rattle.mesa_store_spec.specs.Fitting.{base_deltas, base_renewed, files_fit, files_fit_if_any, files_renewed, ranges_renewed, recast_fits, single_renewed, singles_renewed, totals_fit}
use Rattle.mesa_store_spec.specs.SameFiles.{same_views}
use Rattle.mesa_store_spec.specs.Shape.{IsWithinBound}
use Rattle.mesa_store_spec.proofs.SameFiles.{views_are}
use Rattle.mesa_store_spec.specs.Countable.{CountsFiles, CountsTotals}
use Rattle.mesa_store_spec.proofs.Lists.{both_true, is_equal}
use Rattle.mesa_store_spec.proofs.StatedShape.{all_below}
use Rattle.mesa_store_spec.proofs.Stating.{StartsFrom, empty_more, starts}

-- ---- the tests of a recast

ok_is : {E : Type 0} (c : Result (Unit {0}) E) → is_ok c ≡ true → c ≡ Ok tt
ok_is (Ok x) h = refl
ok_is (Err e) h = cc

pub record Fits (t : TableMeta) (k : Recasting) : Type 0 where
  pub checked : recast_checked t.lineage (recast_in k) ≡ Ok tt
  pub epoch : k.epoch ≡ epoch_of t.lineage + 1
  pub base : base_renewed (recast_lineage t.lineage (recast_in k)) k.epoch t.base k.base ≡ true
  pub singles : singles_renewed (recast_lineage t.lineage (recast_in k)) k.epoch (stating_singles (start_in t) t.singles) k.singles ≡ true

pub fits_of : (t : TableMeta) (k : Recasting) → recast_fits t k ≡ true → Fits t k
fits_of t k e =
    let l = recast_lineage t.lineage (recast_in k) in
    let last = both_true (is_ok (recast_checked t.lineage (recast_in k)) && (k.epoch == epoch_of t.lineage + 1)) (ranges_renewed l t k) e in
    let first = both_true (is_ok (recast_checked t.lineage (recast_in k))) (k.epoch == epoch_of t.lineage + 1) last.0 in
    let ranges = both_true (base_renewed l k.epoch t.base k.base) (singles_renewed l k.epoch (stating_singles (start_in t) t.singles) k.singles) last.1 in
    record { checked = ok_is (recast_checked t.lineage (recast_in k)) first.0; epoch = is_equal k.epoch (epoch_of t.lineage + 1) first.1; base = ranges.0; singles = ranges.1 }

-- ---- a range in the place of another

-- the view files of a delta
abbrev pub view_refs : Option Files → List ViewRef
view_refs None = []
view_refs (Some f) = f.views

-- A delta takes the place of another, as far as its record tells: it has the other's view files and, if it has files, the epoch; they count the columns, and so do its totals, which are within the bound.
pub record IsPlaced (l : Lineage) (epoch : ℕ) (old new : Delta) : Type 0 where
  pub views : view_refs new.files ≡ view_refs old.files
  pub begun : IfSome new.files (λ f. new.epoch ≡ epoch)
  pub low : new.epoch ≤ epoch
  pub files : CountsFiles l new
  pub totals : CountsTotals l new
  pub bounded : IsWithinBound new

abbrev pub ArePlaced : Lineage → ℕ → List Delta → List Delta → Type 0
ArePlaced l epoch [] [] = ⊤
ArePlaced l epoch [] (new ∷ news) = ⊥
ArePlaced l epoch (old ∷ olds) [] = ⊥
ArePlaced l epoch (old ∷ olds) (new ∷ news) = IsPlaced l epoch old new × ArePlaced l epoch olds news

abbrev pub IsBasePlaced : Lineage → ℕ → Option Ending → Option Ending → Type 0
IsBasePlaced l epoch None None = ⊤
IsBasePlaced l epoch None (Some new) = ⊥
IsBasePlaced l epoch (Some old) None = ⊥
IsBasePlaced l epoch (Some old) (Some new) = (new.to ≡ old.to) × (new.delta.epoch ≡ epoch) × IsPlaced l epoch old.delta new.delta

-- what files say that take the place of others
record AreRenewed (l : Lineage) (epoch : ℕ) (old new : Option Files) : Type 0 where
  views : view_refs new ≡ view_refs old
  counts : files_fit_if_any l epoch new ≡ true

renewed_files : (l : Lineage) (epoch : ℕ) (old new : Option Files) → files_renewed l epoch old new ≡ true → AreRenewed l epoch old new
renewed_files l epoch None None e = record { views = refl; counts = refl }
renewed_files l epoch None (Some new) e = absurd (let f : false ≡ true = e in cc)
renewed_files l epoch (Some old) None e = absurd (let f : false ≡ true = e in cc)
renewed_files l epoch (Some old) (Some new) e =
    let both = both_true (same_views old.views new.views) (files_fit l epoch new) e in
    record { views = sym (views_are old.views new.views both.0); counts = both.1 }

some_begun : (files : Option Files) (epoch : ℕ) → IfSome files (λ f. epoch ≡ epoch)
some_begun None epoch = tt
some_begun (Some f) epoch = refl

-- ---- the base

pub base_placed : (l : Lineage) (epoch : ℕ) (old : Option Ending) (new : Option RecastBase) → base_renewed l epoch old new ≡ true → IsBasePlaced l epoch old (option_map (base_recast epoch) new)
base_placed l epoch None None e = tt
base_placed l epoch None (Some b) e = absurd (let f : false ≡ true = e in cc)
base_placed l epoch (Some old) None e = absurd (let f : false ≡ true = e in cc)
base_placed l epoch (Some old) (Some b) e =
    let both = both_true (old.to == b.to) (files_renewed l epoch old.delta.files b.files) e in
    let files = renewed_files l epoch old.delta.files b.files both.1 in
    let to : old.to ≡ b.to = is_equal old.to b.to both.0 in
    (sym to, refl, record { views = files.views; begun = some_begun b.files epoch; low = omega arith; files = files.counts; totals = tt; bounded = tt })

-- ---- the singletons

-- a singleton without files takes the place of one without
none_placed : (l : Lineage) (epoch : ℕ) (d : Delta) → d.files ≡ None → IsPlaced l epoch d empty_delta
none_placed l epoch d e = record { views = sym (ap view_refs e); begun = tt; low = omega arith; files = refl; totals = tt; bounded = tt }

-- one with files, of one with files
some_placed : (l : Lineage) (epoch : ℕ) (d : Delta) (f : Files) (old new : CheckpointSingle) → d.files ≡ Some f → old.files ≡ f → single_renewed l epoch old new ≡ true → IsPlaced l epoch d (single_stated new)
some_placed l epoch d f old new e own fit =
    let last = both_true ((old.version == new.version) && (new.epoch == epoch) && files_renewed l epoch (Some old.files) (Some new.files)) (totals_fit (columns_at l epoch) new.totals) fit in
    let third = both_true ((old.version == new.version) && (new.epoch == epoch)) (files_renewed l epoch (Some old.files) (Some new.files)) last.0 in
    let first = both_true (old.version == new.version) (new.epoch == epoch) third.0 in
    let same : new.epoch ≡ epoch = is_equal new.epoch epoch first.1 in
    let files = renewed_files l epoch (Some old.files) (Some new.files) third.1 in
    let totals = both_true (length new.totals == sums_in (aggs_of (columns_at l epoch))) (list_all (λ total. nat_lt total sum_bound) new.totals) last.1 in
    record {
      views = files.views ∙ ap (λ (g : Files). g.views) own ∙ sym (ap view_refs e);
      begun = same;
      low = omega (arith, same);
      files = subst (λ n. files_fit_if_any l n (Some new.files) ≡ true) (sym same) files.counts;
      totals = is_equal (length new.totals) (sums_in (aggs_of (columns_at l epoch))) totals.0 ∙ ap (λ n. sums_in (aggs_of (columns_at l n))) (sym same);
      bounded = all_below new.totals totals.1;
    }

version_same : (l : Lineage) (epoch : ℕ) (old new : CheckpointSingle) → single_renewed l epoch old new ≡ true → old.version ≡ new.version
version_same l epoch old new fit =
    let last = both_true ((old.version == new.version) && (new.epoch == epoch) && files_renewed l epoch (Some old.files) (Some new.files)) (totals_fit (columns_at l epoch) new.totals) fit in
    let third = both_true ((old.version == new.version) && (new.epoch == epoch)) (files_renewed l epoch (Some old.files) (Some new.files)) last.0 in
    is_equal old.version new.version (both_true (old.version == new.version) (new.epoch == epoch) third.0).0

-- they start where those start whose places they take
starts_renewed : (l : Lineage) (epoch from : ℕ) (olds news : List CheckpointSingle) → StartsFrom from olds → singles_renewed l epoch olds news ≡ true → StartsFrom from news
starts_renewed l epoch from [] [] at e = tt
starts_renewed l epoch from [] (new ∷ news) at e = absurd (let f : false ≡ true = e in cc)
starts_renewed l epoch from (old ∷ olds) [] at e = absurd (let f : false ≡ true = e in cc)
starts_renewed l epoch from (old ∷ olds) (new ∷ news) at e =
    let same = version_same l epoch old new (both_true (single_renewed l epoch old new) (singles_renewed l epoch olds news) e).0 in
    (let le : from ≤ new.version = omega (arith, at, same) in le)

-- a version with rows is told, and what is behind it
pub told_more : (from next : ℕ) (s : CheckpointSingle) (rest : List CheckpointSingle) → s.version ≡ from → singles_stated from next (s ∷ rest) ≡ single_stated s ∷ singles_stated (from + 1) next rest
told_more from next s rest at =
    let none : from - from ≡ 0 = omega arith in
    (λ i. replicate (at i - from) empty_delta ++ single_stated s ∷ singles_stated (at i + 1) next rest)
    ∙ ap (λ n. replicate n empty_delta ++ single_stated s ∷ singles_stated (from + 1) next rest) none

module _ (l : Lineage) (epoch next : ℕ) where
  -- what holds of the singletons behind a version
  abbrev Behind : ℕ → List Delta → Type 0
  Behind from ds = (rest : List CheckpointSingle) → singles_renewed l epoch (stating_singles from ds) rest ≡ true → ArePlaced l epoch ds (singles_stated from next rest)

  one_more : (from : ℕ) (d : Delta) (ds : List Delta) (news : List CheckpointSingle) (files : Option Files) → d.files ≡ files → from < next → singles_renewed l epoch (stating_single from d.epoch d.totals files ++ stating_singles (from + 1) ds) news ≡ true
      → Behind (from + 1) ds → ArePlaced l epoch (d ∷ ds) (singles_stated from next news)
  one_more from d ds news None is lt e behind =
      let start = starts_renewed l epoch (from + 1) (stating_singles (from + 1) ds) news (starts (from + 1) ds) e in
      subst (ArePlaced l epoch (d ∷ ds)) (sym (empty_more from next news lt start)) (none_placed l epoch d is, behind news e)
  one_more from d ds [] (Some f) is lt e behind = absurd (let g : false ≡ true = e in cc)
  one_more from d ds (new ∷ news) (Some f) is lt e behind =
      let old : CheckpointSingle = record { version = from; epoch = d.epoch; files = f; totals = totals_or_none d.totals } in
      let both = both_true (single_renewed l epoch old new) (singles_renewed l epoch (stating_singles (from + 1) ds) news) e in
      let at : new.version ≡ from = sym (version_same l epoch old new both.0) in
      subst (ArePlaced l epoch (d ∷ ds)) (sym (told_more from next new news at)) (some_placed l epoch d f old new is refl both.0, behind news both.1)

  pub singles_placed : (from : ℕ) (ds : List Delta) (news : List CheckpointSingle) → from + length ds ≡ next → singles_renewed l epoch (stating_singles from ds) news ≡ true → ArePlaced l epoch ds (singles_stated from next news)
  singles_placed from [] [] len e =
      let none : next - from ≡ 0 = omega (arith, len) in
      subst (λ n. ArePlaced l epoch [] (replicate n empty_delta)) (sym none) tt
  singles_placed from [] (new ∷ news) len e = absurd (let f : false ≡ true = e in cc)
  singles_placed from (d ∷ ds) news len e =
      one_more from d ds news d.files refl (omega (arith, len)) e (λ rest f. singles_placed (from + 1) ds rest (omega (arith, len)) f)

-- ---- what each of them has

pub placed_count : (l : Lineage) (epoch : ℕ) (olds news : List Delta) → ArePlaced l epoch olds news → length news ≡ length olds
placed_count l epoch [] [] is = refl
placed_count l epoch [] (new ∷ news) is = absurd is
placed_count l epoch (old ∷ olds) [] is = absurd is
placed_count l epoch (old ∷ olds) (new ∷ news) is = ap suc (placed_count l epoch olds news is.1)

pub placed_all : (P : Delta → Type 0) (l : Lineage) (epoch : ℕ) (olds news : List Delta) → ((old new : Delta) → IsPlaced l epoch old new → P new) → ArePlaced l epoch olds news → AllByRecursion P news
placed_all P l epoch [] [] f is = tt
placed_all P l epoch [] (new ∷ news) f is = absurd is
placed_all P l epoch (old ∷ olds) [] f is = absurd is
placed_all P l epoch (old ∷ olds) (new ∷ news) f is = (f old new is.0, placed_all P l epoch olds news f is.1)

pub base_among : (l : Lineage) (epoch : ℕ) (old new : Option Ending) → IsBasePlaced l epoch old new → ArePlaced l epoch (base_deltas old) (base_deltas new)
base_among l epoch None None is = tt
base_among l epoch None (Some new) is = absurd is
base_among l epoch (Some old) None is = absurd is
base_among l epoch (Some old) (Some new) is = (is.2, tt)

pub placed_append : (l : Lineage) (epoch : ℕ) (olds news more_olds more_news : List Delta) → ArePlaced l epoch olds news → ArePlaced l epoch more_olds more_news → ArePlaced l epoch (olds ++ more_olds) (news ++ more_news)
placed_append l epoch [] [] more_olds more_news is more = more
placed_append l epoch [] (new ∷ news) more_olds more_news is more = absurd is
placed_append l epoch (old ∷ olds) [] more_olds more_news is more = absurd is
placed_append l epoch (old ∷ olds) (new ∷ news) more_olds more_news is more = (is.0, placed_append l epoch olds news more_olds more_news is.1 more)

-- ---- a table

-- the first version behind the base stays
pub start_placed : (l : Lineage) (epoch : ℕ) (t : TableMeta) (new : Option Ending) → IsBasePlaced l epoch t.base new → start_in (record t { base = new }) ≡ start_in t
start_placed l epoch t new is = by t.base refl new is
  where
    by : (old : Option Ending) → t.base ≡ old → (new : Option Ending) → IsBasePlaced l epoch old new → start_in (record t { base = new }) ≡ start_in t
    by None e None is = sym (ap (λ b. start_in (record t { base = b })) e)
    by None e (Some new) is = absurd is
    by (Some old) e None is = absurd is
    by (Some old) e (Some new) is = ap (λ to. to + 1) is.0 ∙ sym (ap (λ b. start_in (record t { base = b })) e)

-- the base and the singletons that a recast tells take the places of those of its table
pub record Places (next : ℕ) (t : TableMeta) (k : Recasting) : Type 0 where
  pub base : IsBasePlaced (recast_lineage t.lineage (recast_in k)) k.epoch t.base (base_told k)
  pub singles : ArePlaced (recast_lineage t.lineage (recast_in k)) k.epoch t.singles (singles_told next t k)

pub places_of : (next : ℕ) (t : TableMeta) (k : Recasting) → start_in t + length t.singles ≡ next → Fits t k → Places next t k
places_of next t k whole fit = record {
  base = base_placed (recast_lineage t.lineage (recast_in k)) k.epoch t.base k.base fit.base;
  singles = singles_placed (recast_lineage t.lineage (recast_in k)) k.epoch next (start_in t) t.singles k.singles whole fit.singles;
}
