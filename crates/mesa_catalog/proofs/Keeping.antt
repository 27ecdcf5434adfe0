-- What a catalogue keeps of ids through a record.
use Rattle.std.proofs.Common.{◌≡◌, ⊎_elim, ℕ, ◌≤◌, ap, subst, sym, arith, true}
use Rattle.std.proofs.lemmas.Bool.{cases_lt}
use Rattle.std.specs.Prelude.{Option, Some, None, IfSome}
use Rattle.std.specs.List.{AllByRecursion}
use Rattle.mesa_catalog_records.specs.mesa_record.declared.record.Record.{Record}
use Rattle.mesa_catalog_records.specs.mesa_store_spec.Catalog.{Catalog, applied}
use Rattle.mesa_catalog_records.specs.mesa_store_spec.Fitting.{fits, kind_fits}
use Rattle.mesa_catalog_records.specs.mesa_store_spec.Ids.{named, times}
use Rattle.mesa_catalog_records.specs.declared.catalog_tables.CatalogTables.{CatalogTables}
use Rattle.mesa_catalog_records.specs.declared.ready.Ready.{Ready}
use Rattle.mesa_catalog.specs.Kept.{IsKept}
use Rattle.mesa_catalog_records.specs.Meaning.{AreCatalogTables, catalogue_of}
use Rattle.mesa_catalog_records.specs.Named.{ids_brought}
use Rattle.mesa_catalog_records.specs.Readied.{HasRoom, IsMade, IsReady, record_in}
use Rattle.mesa_catalog.proofs.Counted.{named_or_brought}
use Rattle.mesa_catalog_records.proofs.Ids.{below_counted, counted_below, ids_bring}

-- no id is greater than the greatest that was named, or that the record brings
pub most_after : (c : Catalog) (r : Record) (old new : ℕ) → kind_fits c r ≡ true → old ≤ new → AllByRecursion (λ id. id ≤ old) (named c) → AllByRecursion (λ id. id ≤ new) (ids_brought r)
    → AllByRecursion (λ id. id ≤ new) (named (applied c r))
most_after c r old new kind more were brings =
    below_counted new (named (applied c r)) (λ id some.
    let either = named_or_brought id c r kind some in
    ⊎_elim (λ was. (let below = counted_below old id (named c) were was in let le : id ≤ new = omega (arith, below, more) in le))
    (λ none. counted_below new id (ids_brought r) brings (let same = ap (times id) (ids_bring c r) in omega (arith, either, none, same))) (cases_lt 0 (times id (named c))))

-- more room in its lists changes nothing that a catalogue keeps
pub kept_roomier : (old new : CatalogTables) (made : Option Ready) (greatest : ℕ) → catalogue_of new ≡ catalogue_of old → AreCatalogTables new → (HasRoom old → HasRoom new) → IsKept old made greatest → IsKept new made greatest
kept_roomier old new made greatest same live_files room kept = record {
  catalog_tables = live_files;
  ready = ready_roomier made kept.ready;
  once = λ id. subst (λ (k : Catalog). times id (named k) ≤ 1) (sym same) (kept.once id);
  most = subst (λ (k : Catalog). AllByRecursion (λ id. id ≤ greatest) (named k)) (sym same) kept.most;
}
  where
    ready_roomier : (o : Option Ready) → IfSome o (IsReady old) → IfSome o (IsReady new)
    ready_roomier None ready = tt
    ready_roomier (Some y) ready = record {
      fits = subst (λ (k : Catalog). fits k (record_in y) ≡ true) (sym same) ready.fits;
      room = room ready.room;
      made = subst (λ (k : Catalog). IsMade k y) (sym same) ready.made;
    }
