-- Every record that fits keeps what catalogues keep.
use Rattle.std.proofs.Common.{◌≡◌, inl, inr, ℕ, suc, ◌+◌, ◌-◌, ◌<◌, ◌≤◌, List, [], ◌∷◌, ◌++◌, map, drop, length, Option, Some, None, true, false, refl, sym, ◌∙◌, ap, subst, arith, length-append, length-drop, is_none}
use Rattle.std.specs.Prelude.{flat_map, max}
use Rattle.std.proofs.lemmas.List.{length-map, map-append}
use Rattle.std.specs.List.{AllByRecursion}
use Rattle.mesa_history_spec.specs.mesa_columns.Columns.{aggs_of}
use Rattle.mesa_history_spec.specs.mesa_schema.Changes.{columns_of, epoch_of}
use Rattle.mesa_history_spec.specs.mesa_batch.Totals.{sum_bound, totals_with}
use Rattle.mesa_history_spec.specs.mesa_batch.Totals.{sums_in}
use Rattle.mesa_history_spec.specs.mesa_span.declared.works.Work.TheVariants as work
use Rattle.mesa_history_spec.specs.mesa_span.Ranges.{IsReachable}
use Rattle.mesa_history_spec.specs.mesa_span.Work.{swapped}
use Rattle.mesa_record.specs.declared.record.Part.{Part}
use Rattle.mesa_record.specs.declared.record.Record.TheVariants as record_of
use Rattle.mesa_store_spec.specs.Catalog.{Delta, Ending, TableMeta, Catalog, start_in, ranges_of, meta_from, meta_loaded, meta_swapped, applied, empty_delta, part_delta}
use Rattle.mesa_store_spec.specs.Fitting.{base_deltas, delta_in, deltas_of, names_in}
use Rattle.mesa_history_spec.specs.mesa_model.Warehouse.{max_tables}
use Rattle.mesa_history_spec.specs.mesa_columns.Names.{repeated}
use Rattle.mesa_store_spec.specs.Shape.{HasBegun, HasBegunIfAny, IsShaped, IsCatalog, IsWithinBound, merged_deltas}
use Rattle.mesa_history_spec.proofs.mesa_columns.Lists.{all_append, all_drop, all_map, all_so}
use Rattle.mesa_store_spec.proofs.Lists.{all_front, all_back}
use Rattle.mesa_store_spec.proofs.Kept.{ranges_swapped}

-- ---- runs and expiries

pub run_shaped : (c : Catalog) (number : ℕ) → IsCatalog c → IsCatalog (applied c (record_of.Run number))
run_shaped c number is = record { tables = is.tables; names = is.names; floor = is.floor; few = is.few; most = is.most }

-- a table without versions below one that is there, under a floor that is at most its oldest version then
pub from_shaped : (floor later version next : ℕ) (t : TableMeta) → later ≤ max t.oldest version → version < next → IsShaped floor next t → IsShaped later next (meta_from version t)
from_shaped floor later version next t above lt is = record {
  lineage = is.lineage;
  totals = is.totals;
  bounded = is.bounded;
  above = above;
  oldest = inl (elim is.oldest [ inl old ↦ omega (arith, old, lt) | inr none ↦ omega (arith, none.1, lt) ]);
  singles = is.singles;
  base = (let base = is.base in omega (arith, base));
  reachable = is.reachable;
  ends = is.ends;
  epochs = is.epochs;
  merged_begun = is.merged_begun;
  singles_begun = is.singles_begun;
  recorded = is.recorded;
}

-- names stay where versions are let go
names_from : (version : ℕ) (tables : List TableMeta) → flat_map names_in (map (meta_from version) tables) ≡ flat_map names_in tables
names_from version [] = refl
names_from version (t ∷ tables) = ap (λ names. names_in t ++ names) (names_from version tables)

pub expire_shaped : (c : Catalog) (version : ℕ) → version < c.next → IsCatalog c → IsCatalog (applied c (record_of.Expire version))
expire_shaped c version lt is = record {
  tables = all_map (IsShaped version c.next) (meta_from version) c.tables (all_so (IsShaped c.floor c.next) (λ t. IsShaped version c.next (meta_from version t)) c.tables (λ t shaped. from_shaped c.floor version version c.next t (omega arith) lt shaped) is.tables);
  names = ap (λ names. is_none (repeated names)) (names_from version c.tables) ∙ is.names;
  floor = inl lt;
  few = subst (λ n. n ≤ max_tables) (sym (length-map c.tables (meta_from version))) is.few;
  most = is.most;
}

-- ---- a batch

-- what a part that fits gives
pub record PartFits (t : TableMeta) (p : Part) : Type 0 where
  pub epoch : p.epoch ≡ epoch_of t.lineage
  pub count : length p.totals ≡ sums_in (aggs_of (columns_of t.lineage))
  pub bound : AllByRecursion (λ total. total < sum_bound) (totals_with t.totals p.totals)

length-totals : (totals more : List ℕ) → length more ≡ length totals → length (totals_with totals more) ≡ length totals
length-totals [] [] e = refl
length-totals [] (m ∷ more) e = absurd (omega (arith, e))
length-totals (t ∷ totals) [] e = absurd (omega (arith, e))
length-totals (t ∷ totals) (m ∷ more) e = ap suc (length-totals totals more (omega (arith, e)))

-- what is added to totals is within the bound where the sums are
more_below : (totals more : List ℕ) → length more ≡ length totals → AllByRecursion (λ total. total < sum_bound) (totals_with totals more) → AllByRecursion (λ total. total < sum_bound) more
more_below [] [] e all = tt
more_below [] (m ∷ more) e all = absurd (omega (arith, e))
more_below (t ∷ totals) [] e all = tt
more_below (t ∷ totals) (m ∷ more) e all = (let below = all.0 in omega (arith, below), more_below totals more (omega (arith, e)) all.1)

-- what holds of all deltas, with a singleton more
deltas_loaded : (P : Delta → Type 0) (t : TableMeta) (d : Delta) → P d → AllByRecursion P (deltas_of t) → AllByRecursion P (base_deltas t.base ++ (map delta_in t.cumulatives ++ (t.singles ++ d ∷ [])))
deltas_loaded P t d its all =
    let rest = all_back P (base_deltas t.base) (map delta_in t.cumulatives ++ t.singles) all in
    all_append P (base_deltas t.base) _ (all_front P (base_deltas t.base) (map delta_in t.cumulatives ++ t.singles) all)
    (all_append P (map delta_in t.cumulatives) _ (all_front P (map delta_in t.cumulatives) t.singles rest) (all_append P t.singles (d ∷ []) (all_back P (map delta_in t.cumulatives) t.singles rest) (its, tt)))

-- with another base
deltas_based : (P : Delta → Type 0) (t : TableMeta) (n : ℕ) (d : Delta) → P d → AllByRecursion P (deltas_of t) → P d × AllByRecursion P (drop n t.singles)
deltas_based P t n d its all = (its, all_drop P n t.singles (all_back P (map delta_in t.cumulatives) t.singles (all_back P (base_deltas t.base) (map delta_in t.cumulatives ++ t.singles) all)))

-- and with a cumulative more
deltas_covered : (P : Delta → Type 0) (t : TableMeta) (ending : Ending) → P ending.delta → AllByRecursion P (deltas_of t) → AllByRecursion P (base_deltas t.base ++ (map delta_in (t.cumulatives ++ ending ∷ []) ++ t.singles))
deltas_covered P t ending its all =
    let rest = all_back P (base_deltas t.base) (map delta_in t.cumulatives ++ t.singles) all in
    all_append P (base_deltas t.base) _ (all_front P (base_deltas t.base) (map delta_in t.cumulatives ++ t.singles) all)
    (all_append P (map delta_in (t.cumulatives ++ ending ∷ [])) t.singles
    (subst (AllByRecursion P) (sym (map-append delta_in t.cumulatives (ending ∷ []))) (all_append P (map delta_in t.cumulatives) (ending.delta ∷ []) (all_front P (map delta_in t.cumulatives) t.singles rest) (its, tt)))
    (all_back P (map delta_in t.cumulatives) t.singles rest))

-- what holds of the base and the cumulatives, with a cumulative more
merged_more : (P : Delta → Type 0) (t : TableMeta) (ending : Ending) → P ending.delta → AllByRecursion P (merged_deltas t) → AllByRecursion P (base_deltas t.base ++ map delta_in (t.cumulatives ++ ending ∷ []))
merged_more P t ending its all =
    all_append P (base_deltas t.base) (map delta_in (t.cumulatives ++ ending ∷ [])) (all_front P (base_deltas t.base) (map delta_in t.cumulatives) all)
    (subst (AllByRecursion P) (sym (map-append delta_in t.cumulatives (ending ∷ []))) (all_append P (map delta_in t.cumulatives) (ending.delta ∷ []) (all_back P (base_deltas t.base) (map delta_in t.cumulatives) all) (its, tt)))

ends_later : (next : ℕ) (es : List Ending) → AllByRecursion (λ (e : Ending). e.to < next) es → AllByRecursion (λ (e : Ending). e.to < next + 1) es
ends_later next es all = all_so (λ (e : Ending). e.to < next) (λ (e : Ending). e.to < next + 1) es (λ e lt. (let n : e.to < next + 1 = omega (arith, lt) in n)) all

abbrev pub FitsIfAny : TableMeta → Option Part → Type 0
FitsIfAny t None = Unit {0}
FitsIfAny t (Some p) = PartFits t p

pub loaded_shaped : (floor next : ℕ) (t : TableMeta) (p : Option Part) → IsShaped floor next t → FitsIfAny t p → IsShaped floor (next + 1) (meta_loaded t p)
loaded_shaped floor next t None is fit = record {
  lineage = is.lineage;
  totals = is.totals;
  bounded = is.bounded;
  above = is.above;
  oldest = inl (elim is.oldest [ inl lt ↦ omega (arith, lt) | inr none ↦ omega (arith, none.0) ]);
  singles = omega (arith, is.singles, length-append t.singles (empty_delta ∷ []));
  base = is.base;
  reachable = is.reachable;
  ends = ends_later next t.cumulatives is.ends;
  epochs = deltas_loaded (λ (d : Delta). d.epoch ≤ epoch_of t.lineage) t empty_delta (omega arith) is.epochs;
  merged_begun = is.merged_begun;
  singles_begun = all_append (HasBegunIfAny t.lineage) t.singles (empty_delta ∷ []) is.singles_begun (tt, tt);
  recorded = deltas_loaded IsWithinBound t empty_delta tt is.recorded;
}
loaded_shaped floor next t (Some p) is fit = record {
  lineage = is.lineage;
  totals = length-totals t.totals p.totals (fit.count ∙ sym is.totals) ∙ is.totals;
  bounded = fit.bound;
  above = is.above;
  oldest = inl (elim is.oldest [ inl lt ↦ omega (arith, lt) | inr none ↦ omega (arith, none.0) ]);
  singles = omega (arith, is.singles, length-append t.singles (part_delta p ∷ []));
  base = is.base;
  reachable = is.reachable;
  ends = ends_later next t.cumulatives is.ends;
  epochs = deltas_loaded (λ (d : Delta). d.epoch ≤ epoch_of t.lineage) t (part_delta p) (omega (arith, fit.epoch)) is.epochs;
  merged_begun = is.merged_begun;
  singles_begun = all_append (HasBegunIfAny t.lineage) t.singles (part_delta p ∷ []) is.singles_begun ((let since : t.lineage.begins ≤ p.epoch = omega (arith, fit.epoch) in since), tt);
  recorded = deltas_loaded IsWithinBound t (part_delta p) (more_below t.totals p.totals (fit.count ∙ sym is.totals) fit.bound) is.recorded;
}

-- ---- a merged range

pub based_shaped : (floor next : ℕ) (t : TableMeta) (to : ℕ) (d : Delta) → start_in t ≤ to → to ≤ t.oldest → to < next → HasBegun t.lineage d → d.epoch ≤ epoch_of t.lineage → IsWithinBound d → IsReachable (swapped (work.Base to) (ranges_of t)) → IsShaped floor next t → IsShaped floor next (meta_swapped t true to d)
based_shaped floor next t to d behind within lt begun epoch bounded reachable is =
    let n = to + 1 - start_in t in
    record {
      lineage = is.lineage;
      totals = is.totals;
      bounded = is.bounded;
      above = is.above;
      oldest = is.oldest;
      singles = omega (arith, is.singles, length-drop n t.singles, behind, lt);
      base = omega (arith, within);
      reachable = reachable;
      ends = tt;
      epochs = deltas_based (λ (x : Delta). x.epoch ≤ epoch_of t.lineage) t n d epoch is.epochs;
      merged_begun = (begun, tt);
      singles_begun = all_drop (HasBegunIfAny t.lineage) n t.singles is.singles_begun;
      recorded = deltas_based IsWithinBound t n d bounded is.recorded;
    }

pub covered_shaped : (floor next : ℕ) (t : TableMeta) (to : ℕ) (d : Delta) → to < next → HasBegun t.lineage d → d.epoch ≤ epoch_of t.lineage → IsWithinBound d → IsReachable (swapped (work.Cumulative (start_in t) to) (ranges_of t)) → IsShaped floor next t → IsShaped floor next (meta_swapped t false to d)
covered_shaped floor next t to d lt begun epoch bounded reachable is =
    let ending : Ending = record { to = to; delta = d } in
    record {
      lineage = is.lineage;
      totals = is.totals;
      bounded = is.bounded;
      above = is.above;
      oldest = is.oldest;
      singles = is.singles;
      base = is.base;
      reachable = subst IsReachable (sym (ranges_swapped t false (start_in t) to d)) reachable;
      ends = all_append (λ (e : Ending). e.to < next) t.cumulatives (ending ∷ []) is.ends (lt, tt);
      epochs = deltas_covered (λ (x : Delta). x.epoch ≤ epoch_of t.lineage) t ending epoch is.epochs;
      merged_begun = merged_more (HasBegun t.lineage) t ending begun is.merged_begun;
      singles_begun = is.singles_begun;
      recorded = deltas_covered IsWithinBound t ending bounded is.recorded;
    }
