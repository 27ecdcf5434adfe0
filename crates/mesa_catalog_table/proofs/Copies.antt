-- Copies that share their deltas stand for the same.
use Rattle.std.proofs.Common.{◌≡◌, ℕ, ◌+◌, ◌-◌, ◌*◌, ◌≤◌, ◌<◌, List, [], ◌∷◌, ◌++◌, length, map, refl, sym, ◌∙◌, ap, subst, arith}
use Rattle.std.specs.Prelude.{Option, Some, None, option_map, replicate, ⊤}
use Rattle.std.specs.declared.alloc.Global.{Global}
use Rattle.std.specs.declared.sync.Arc.{Arc}
use Rattle.std.proofs.lemmas.List.{length-map}
use Rattle.mesa_span.specs.Ranges.{start_behind}
use Rattle.mesa_store_spec.specs.Catalog.{Delta, Ending, empty_delta, end_in}
use Rattle.mesa_catalog_table.specs.declared.table.Base.{Base}
use Rattle.mesa_catalog_table.specs.declared.table.Loaded.{Loaded}
use Rattle.mesa_catalog_table.specs.declared.table.Table.{Table}
use Rattle.mesa_catalog_table.specs.Copied.{loaded_as, value_in}
use Rattle.mesa_catalog_table.specs.Meaning.{AreLoaded, IsTable, delta_or_empty, ending_of, singles_from, start_of_base, meta_of, tens_from, widths_of}
use Rattle.mesa_catalog_table.proofs.Tens.{base_ends}

-- ---- by values alone

tens_of : ℕ → List Delta → List Ending
tens_of start [] = []
tens_of start (d ∷ ds) = record { to = start + 9; delta = d } ∷ tens_of (start + 10) ds

tens_are : (start : ℕ) (ds : List (Arc Delta Global)) → tens_from start ds ≡ tens_of start (map value_in ds)
unfolding tens_of
tens_are start [] = refl
tens_are start (d ∷ ds) = ap (λ es. record { to = start + 9; delta = d.value } ∷ es) (tens_are (start + 10) ds)

singles_of : ℕ → ℕ → List (ℕ × Delta) → List Delta
singles_of from next [] = replicate (next - from) empty_delta
singles_of from next (l ∷ loaded) = replicate (l.0 - from) empty_delta ++ l.1 ∷ singles_of (l.0 + 1) next loaded

singles_are : (from next : ℕ) (loaded : List Loaded) → singles_from from next loaded ≡ singles_of from next (map loaded_as loaded)
unfolding singles_of
singles_are from next [] = refl
singles_are from next (l ∷ loaded) = ap (λ ds. replicate (l.version - from) empty_delta ++ l.delta.value ∷ ds) (singles_are (l.version + 1) next loaded)

Rising : ℕ → ℕ → List (ℕ × Delta) → Type 0
Rising from next [] = ⊤
Rising from next (l ∷ loaded) = (from ≤ l.0) × (l.0 < next) × Rising (l.0 + 1) next loaded

rising_of : (from next : ℕ) (loaded : List Loaded) → AreLoaded from next loaded → Rising from next (map loaded_as loaded)
unfolding Rising
rising_of from next [] are = tt
rising_of from next (l ∷ loaded) are = (are.0, are.1, rising_of (l.version + 1) next loaded are.2)

loaded_of : (from next : ℕ) (loaded : List Loaded) → Rising from next (map loaded_as loaded) → AreLoaded from next loaded
unfolding Rising
loaded_of from next [] are = tt
loaded_of from next (l ∷ loaded) are = (are.0, are.1, loaded_of (l.version + 1) next loaded are.2)

-- ---- a base

pub ends_same : (to : ℕ) (d e : Option (Arc Delta Global)) → option_map value_in d ≡ option_map value_in e → delta_or_empty d ≡ delta_or_empty e
ends_same to d e same = delta_is d ∙ ap given same ∙ sym (delta_is e)
  where
    given : Option Delta → Delta
    given None = empty_delta
    given (Some x) = x

    delta_is : (o : Option (Arc Delta Global)) → delta_or_empty o ≡ given (option_map value_in o)
    delta_is None = refl
    delta_is (Some x) = refl

starts_same : (a b : Option Base) → option_map ending_of a ≡ option_map ending_of b → start_of_base a ≡ start_of_base b
starts_same a b same = ap start_behind (sym (base_ends a) ∙ ap (option_map end_in) same ∙ base_ends b)

-- ---- a table

-- A table has the same content, whatever the pointers to its deltas.
pub record IsShared (old new : Table) : Type 0 where
  pub name : new.name ≡ old.name
  pub evolving : new.evolving.value ≡ old.evolving.value
  pub widths : new.widths ≡ old.widths
  pub totals : new.totals ≡ old.totals
  pub oldest : new.oldest ≡ old.oldest
  pub base : option_map ending_of new.base ≡ option_map ending_of old.base
  pub cumulatives : map value_in new.cumulatives.items ≡ map value_in old.cumulatives.items
  pub loaded : map loaded_as new.loaded.items ≡ map loaded_as old.loaded.items

pub shared_meta : (next : ℕ) (old new : Table) → IsShared old new → meta_of next new ≡ meta_of next old
shared_meta next old new shared =
    let start = starts_same new.base old.base shared.base in
    let tens = tens_are (start_of_base new.base) new.cumulatives.items ∙ (λ i. tens_of (start i) (shared.cumulatives i)) ∙ sym (tens_are (start_of_base old.base) old.cumulatives.items) in
    let singles = singles_are (start_of_base new.base) next new.loaded.items ∙ (λ i. singles_of (start i) next (shared.loaded i)) ∙ sym (singles_are (start_of_base old.base) next old.loaded.items) in
    λ i. record { name = shared.name i; lineage = shared.evolving i; totals = shared.totals i; oldest = shared.oldest i; base = shared.base i; cumulatives = tens i; singles = singles i }

pub shared_table : (next : ℕ) (old new : Table) → IsShared old new → IsTable next old → IsTable next new
shared_table next old new shared table =
    let start = starts_same new.base old.base shared.base in
    let count : length new.cumulatives.items ≡ length old.cumulatives.items =
    sym (length-map new.cumulatives.items value_in) ∙ ap length shared.cumulatives ∙ length-map old.cumulatives.items value_in in
    record {
      tens = subst (λ n. n ≤ next) (λ i. sym start i + 10 * sym count i) table.tens;
      loaded = loaded_of (start_of_base new.base) next new.loaded.items
          (subst (λ n. Rising n next (map loaded_as new.loaded.items)) (sym start) (subst (Rising (start_of_base old.base) next) (sym shared.loaded) (rising_of (start_of_base old.base) next old.loaded.items table.loaded)));
      oldest = omega (arith, shared.oldest, table.oldest);
      widths = shared.widths ∙ table.widths ∙ ap widths_of (sym shared.evolving);
    }
