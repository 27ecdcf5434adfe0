-- Rows of deltas that take the places of others in a recast.
use Rattle.std.proofs.Common.{◌≡◌, ℕ, zero, suc, ◌+◌, List, [], ◌∷◌, ◌++◌, map, length, take, flat_map, refl, sym, ◌∙◌, ap, Option, Some, None}
use Rattle.std.specs.Prelude.{IfSome, ⊤}
use Rattle.std.specs.List.{AllByRecursion}
use Rattle.mesa_history_spec.specs.mesa_schema.Changes.{Lineage, columns_at, columns_of, epoch_of, lifted}
use Rattle.mesa_history_spec.specs.mesa_schema.Recasts.{Recast, recast_columns, recast_lineage, recast_rows}
use Rattle.mesa_history_spec.specs.mesa_batch.Totals.{abs_totals}
use Rattle.mesa_history_spec.proofs.mesa_schema.LineageRecasts.{columns_first}
use Rattle.mesa_record.specs.declared.record.Files.{Files}
use Rattle.mesa_record.specs.declared.recasting.Recasting.{Recasting}
use Rattle.mesa_store_spec.specs.Catalog.{Delta, Ending, TableMeta, base_told, recast_in, singles_told, start_in, meta_renewed}
use Rattle.mesa_store_spec.specs.Contents.{Rows, present, rows_in}
use Rattle.mesa_store_spec.specs.Fitting.{base_deltas, delta_own}
use Rattle.mesa_store_spec.specs.Sound.{IsTold}
use Rattle.mesa_store_spec.specs.Brought.{AreRegrouped, BringsRecast, IsBaseRegrouped, IsRegrouped}
use Rattle.mesa_store_spec.proofs.Contents.{present_now}
use Rattle.mesa_store_spec.proofs.Lists.{all_back, all_front, all_unflat}
use Rattle.mesa_store_spec.proofs.RecastFits.{ArePlaced, IsBasePlaced, IsPlaced, Places, view_refs}

-- A delta of a table that is recast takes another's place: it has the other's present rows, regrouped, in a file of the new epoch with a true reference, and the other's view files; if totals are recorded for it, they are those of its rows.
pub record TakesPlace (rows : Rows) (l : Lineage) (r : Recast) (old new : Delta) : Type 0 where
  pub epoch : IfSome new.files (λ f. new.epoch ≡ epoch_of (recast_lineage l r))
  pub rows_are : rows_in rows new ≡ recast_rows (columns_of l) r (present rows l old)
  pub views : view_refs new.files ≡ view_refs old.files
  pub told : AllByRecursion (IsTold rows) (delta_own (recast_lineage l r) new)
  pub totals : IfSome new.totals (λ totals. totals ≡ abs_totals (columns_at (recast_lineage l r) new.epoch) (rows_in rows new))

-- one in the place of each
abbrev pub TakePlaces : Rows → Lineage → Recast → List Delta → List Delta → Type 0
TakePlaces rows l r [] [] = ⊤
TakePlaces rows l r [] (new ∷ news) = ⊥
TakePlaces rows l r (old ∷ olds) [] = ⊥
TakePlaces rows l r (old ∷ olds) (new ∷ news) = TakesPlace rows l r old new × TakePlaces rows l r olds news

-- a base in the place of a base, with the same end
abbrev pub TakesBase : Rows → Lineage → Recast → Option Ending → Option Ending → Type 0
TakesBase rows l r None None = ⊤
TakesBase rows l r None (Some new) = ⊥
TakesBase rows l r (Some old) None = ⊥
TakesBase rows l r (Some old) (Some new) = (new.to ≡ old.to) × TakesPlace rows l r old.delta new.delta

-- ---- from a record that fits and brings the rows

module _ (rows : Rows) (l : Lineage) (r : Recast) (epoch : ℕ) (now : epoch ≡ epoch_of (recast_lineage l r)) where
  taken_totals : (old new : Delta) → IsRegrouped rows l r old new → IfSome new.totals (λ totals. totals ≡ abs_totals (columns_at (recast_lineage l r) new.epoch) (rows_in rows new))
  taken_totals old new brings = by new.totals brings.totals
    where
      by : (o : Option (List ℕ)) → IfSome o (λ totals. totals ≡ abs_totals (recast_columns (columns_of l) r) (rows_in rows new)) → IfSome o (λ totals. totals ≡ abs_totals (columns_at (recast_lineage l r) new.epoch) (rows_in rows new))
      by None is = tt
      by (Some totals) is = is ∙ ap (λ s. abs_totals s (rows_in rows new)) (sym (columns_first l r new.epoch))

  taken_epoch : (new : Delta) → IfSome new.files (λ f. new.epoch ≡ epoch) → IfSome new.files (λ f. new.epoch ≡ epoch_of (recast_lineage l r))
  taken_epoch new begun = by new.files begun
    where
      by : (o : Option Files) → IfSome o (λ f. new.epoch ≡ epoch) → IfSome o (λ f. new.epoch ≡ epoch_of (recast_lineage l r))
      by None is = tt
      by (Some f) is = is ∙ now

  takes : (old new : Delta) → IsPlaced (recast_lineage l r) epoch old new → IsRegrouped rows l r old new → AllByRecursion (IsTold rows) (delta_own (recast_lineage l r) new) → TakesPlace rows l r old new
  takes old new placed brings told = record { epoch = taken_epoch new placed.begun; rows_are = brings.rows_are; views = placed.views; told = told; totals = taken_totals old new brings }

  take_each : (olds news : List Delta) → ArePlaced (recast_lineage l r) epoch olds news → AreRegrouped rows l r olds news → AllByRecursion (λ (d : Delta). AllByRecursion (IsTold rows) (delta_own (recast_lineage l r) d)) news → TakePlaces rows l r olds news
  take_each [] [] placed brings told = tt
  take_each [] (new ∷ news) placed brings told = absurd placed
  take_each (old ∷ olds) [] placed brings told = absurd placed
  take_each (old ∷ olds) (new ∷ news) placed brings told = (takes old new placed.0 brings.0 told.0, take_each olds news placed.1 brings.1 told.1)

  take_base : (old new : Option Ending) → IsBasePlaced (recast_lineage l r) epoch old new → IsBaseRegrouped rows l r old new → AllByRecursion (λ (d : Delta). AllByRecursion (IsTold rows) (delta_own (recast_lineage l r) d)) (base_deltas new) → TakesBase rows l r old new
  take_base None None placed brings told = tt
  take_base None (Some new) placed brings told = absurd placed
  take_base (Some old) None placed brings told = absurd placed
  take_base (Some old) (Some new) placed brings told = (placed.0, takes old.delta new.delta placed.2 brings told.0)

-- What a recast brings to a table: each of its ranges is regrouped.
pub record IsRecastTo (rows : Rows) (t : TableMeta) (r : Recast) (base : Option Ending) (singles : List Delta) : Type 0 where
  pub at_base : TakesBase rows t.lineage r t.base base
  pub at_singles : TakePlaces rows t.lineage r t.singles singles

pub recast_to : (rows : Rows) (next : ℕ) (t : TableMeta) (k : Recasting) → k.epoch ≡ epoch_of (recast_lineage t.lineage (recast_in k)) → Places next t k → BringsRecast rows next t k
    → AllByRecursion (IsTold rows) (flat_map (delta_own (recast_lineage t.lineage (recast_in k))) (base_deltas (base_told k) ++ singles_told next t k)) → IsRecastTo rows t (recast_in k) (base_told k) (singles_told next t k)
recast_to rows next t k now places brings told =
    let T = λ (d : Delta). AllByRecursion (IsTold rows) (delta_own (recast_lineage t.lineage (recast_in k)) d) in
    let all = all_unflat (IsTold rows) (delta_own (recast_lineage t.lineage (recast_in k))) (base_deltas (base_told k) ++ singles_told next t k) told in
    record {
      at_base = take_base rows t.lineage (recast_in k) k.epoch now t.base (base_told k) places.base brings.base (all_front T (base_deltas (base_told k)) (singles_told next t k) all);
      at_singles = take_each rows t.lineage (recast_in k) k.epoch now t.singles (singles_told next t k) places.singles brings.singles (all_back T (base_deltas (base_told k)) (singles_told next t k) all);
    }

-- ---- rows

module _ (rows : Rows) (l : Lineage) (r : Recast) where
  -- files of the new epoch have its rows
  rows_now : (new : Delta) → IfSome new.files (λ f. new.epoch ≡ epoch_of (recast_lineage l r)) → present rows (recast_lineage l r) new ≡ rows_in rows new
  rows_now new at = by new.files new.epoch new.totals at
    where
      by : (files : Option Files) (epoch : ℕ) (totals : Option (List ℕ)) → IfSome files (λ f. epoch ≡ epoch_of (recast_lineage l r))
          → present rows (recast_lineage l r) (record { epoch = epoch; files = files; totals = totals }) ≡ rows_in rows (record { epoch = epoch; files = files; totals = totals })
      by None epoch totals at = refl
      by (Some f) epoch totals at = ap (λ e. map (lifted (recast_lineage l r) e (epoch_of (recast_lineage l r))) (rows f.file.id)) at ∙ present_now (recast_lineage l r) (rows f.file.id)

  -- its present rows are the other's, regrouped
  pub present_place : (old new : Delta) → TakesPlace rows l r old new → present rows (recast_lineage l r) new ≡ recast_rows (columns_of l) r (present rows l old)
  present_place old new is = rows_now new is.epoch ∙ is.rows_are

  pub present_all : (olds news : List Delta) → TakePlaces rows l r olds news → map (present rows (recast_lineage l r)) news ≡ map (recast_rows (columns_of l) r) (map (present rows l) olds)
  present_all [] [] is = refl
  present_all [] (new ∷ news) is = absurd is
  present_all (old ∷ olds) [] is = absurd is
  present_all (old ∷ olds) (new ∷ news) is = λ i. present_place old new is.0 i ∷ present_all olds news is.1 i

  pub count_places : (olds news : List Delta) → TakePlaces rows l r olds news → length news ≡ length olds
  count_places [] [] is = refl
  count_places [] (new ∷ news) is = absurd is
  count_places (old ∷ olds) [] is = absurd is
  count_places (old ∷ olds) (new ∷ news) is = ap suc (count_places olds news is.1)

  -- the base among them
  pub base_places : (old new : Option Ending) → TakesBase rows l r old new → TakePlaces rows l r (base_deltas old) (base_deltas new)
  base_places None None is = tt
  base_places None (Some new) is = absurd is
  base_places (Some old) None is = absurd is
  base_places (Some old) (Some new) is = (is.1, tt)

  pub places_append : (olds news more_olds more_news : List Delta) → TakePlaces rows l r olds news → TakePlaces rows l r more_olds more_news → TakePlaces rows l r (olds ++ more_olds) (news ++ more_news)
  places_append [] [] more_olds more_news is more = more
  places_append [] (new ∷ news) more_olds more_news is more = absurd is
  places_append (old ∷ olds) [] more_olds more_news is more = absurd is
  places_append (old ∷ olds) (new ∷ news) more_olds more_news is more = (is.0, places_append olds news more_olds more_news is.1 more)

  pub places_take : (n : ℕ) (olds news : List Delta) → TakePlaces rows l r olds news → TakePlaces rows l r (take n olds) (take n news)
  places_take zero olds news is = tt
  places_take (suc n) [] [] is = tt
  places_take (suc n) [] (new ∷ news) is = absurd is
  places_take (suc n) (old ∷ olds) [] is = absurd is
  places_take (suc n) (old ∷ olds) (new ∷ news) is = (is.0, places_take n olds news is.1)

  -- what each of the others has, each of these has
  pub all_places : (P Q : Delta → Type 0) (olds news : List Delta) → TakePlaces rows l r olds news → ((old new : Delta) → TakesPlace rows l r old new → P old → Q new) → AllByRecursion P olds → AllByRecursion Q news
  all_places P Q [] [] is f all = tt
  all_places P Q [] (new ∷ news) is f all = absurd is
  all_places P Q (old ∷ olds) [] is f all = absurd is
  all_places P Q (old ∷ olds) (new ∷ news) is f all = (f old new is.0 all.0, all_places P Q olds news is.1 f all.1)

-- the first version behind the base stays
pub same_start : (rows : Rows) (t : TableMeta) (r : Recast) (base : Option Ending) (singles : List Delta) → TakesBase rows t.lineage r t.base base → start_in (meta_renewed t r base singles) ≡ start_in t
same_start rows t r base singles is = by t.base refl base is
  where
    by : (old : Option Ending) → t.base ≡ old → (new : Option Ending) → TakesBase rows t.lineage r old new → start_in (meta_renewed t r new singles) ≡ start_in t
    by None e None is = sym (ap (λ b. start_in (record t { base = b })) e)
    by None e (Some new) is = absurd is
    by (Some old) e None is = absurd is
    by (Some old) e (Some new) is = ap (λ to. to + 1) is.0 ∙ sym (ap (λ b. start_in (record t { base = b })) e)
