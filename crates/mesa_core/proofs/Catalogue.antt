-- A vault's catalogue is what its run's history says.
use Rattle.std.proofs.Common.{◌≡◌, ℕ, List, length, map, Bool, false, sym, ◌∙◌, ap, Option}
use Rattle.std.specs.Prelude.{slice_index_or}
use Rattle.std.proofs.lemmas.List.{length-map}
use Rattle.std.proofs.lemmas.Simd.{map-map}
use Rattle.mesa_batch.specs.Glance.{Known, Sight}
use Rattle.mesa_engine.specs.mesa_catalog.Lookups.{generation_of, known_as}
use Rattle.mesa_core.specs.Handing.{store_after}
use Rattle.mesa_core.specs.Standing.{IsCatalogAfter}
use Rattle.mesa_disk.specs.Story.{Story}
use Rattle.mesa_core.specs.Known.{lineage_in}
use Rattle.mesa_recast_turns.specs.mesa_history_spec.Run.{State}
use Rattle.mesa_engine.specs.mesa_store_spec.Catalog.{Catalog, no_meta, meta_at}
use Rattle.mesa_recast_turns.proofs.mesa_catalog_records.TableMetas.{all_at}
use Rattle.mesa_engine.specs.mesa_store_spec.Shape.{IsShaped}
use Rattle.mesa_engine.specs.EngineState.{EngineState, projections}
use Rattle.mesa_engine.specs.Vault.{Starts, IsVault, IsVaultAt, outset_of}
use Rattle.mesa_model.specs.declared.commands.Script.{Script}
use Rattle.mesa_model.specs.declared.entries.Entry.{Entry}
use Rattle.mesa_model.specs.Warehouse.{Store, Table, Warehouse, no_table}
use Rattle.mesa_core.specs.Sight.{tables_known}
use Rattle.mesa_engine.proofs.mesa_history_spec.BareLists.{at_same}
use Rattle.mesa_recast_turns.specs.mesa_history_spec.Bare.{bare_store}
use Rattle.mesa_recast_turns.specs.mesa_history_spec.Rows.{Rows, no_rows}
use Rattle.mesa_recast_turns.specs.mesa_invariant_spec.Invariant.{run_of}

-- names and columns hang on no rows
bare_known : (s : Store) → tables_known (bare_store s) ≡ tables_known s
bare_known s = map-map _ _ s.tables

projections_known : (c : Catalog) → tables_known (projections c) ≡ map known_as c.tables
projections_known c = map-map _ _ c.tables

pub catalogue_is : (n : Starts) (l : EngineState) (story : Story) (held : Option (List ℕ)) (h : List Entry) (running refused : Bool) → IsVaultAt n l story held h running refused → generation_of l.catalogue ≡ l.generation
    → IsCatalogAfter n.script n.start (n.origin no_rows).generation h l.catalogue
catalogue_is n l story held h running refused v same = record {
  sight = λ i. record { generation = (same ∙ first.counts.generation) i; tables = tables i };
  next = λ w. sym (ap (λ (x : Warehouse). x.next) (v w false (λ is. absurd cc)).invariant.state.projection);
  lineages = λ number there. (all_at (IsShaped l.catalogue.floor l.catalogue.next) l.catalogue.tables number no_meta first.shaped.tables there).lineage;
}
  where
    first : IsVault (outset_of n no_rows) (n.origin no_rows) false l story held h running refused
    first = v no_rows false (λ is. absurd cc)

    tables : map known_as l.catalogue.tables ≡ tables_known (run_of (outset_of n no_rows) h).state.warehouse.store
    tables =
        sym (projections_known l.catalogue)
        ∙ ap (λ (w : Warehouse). tables_known w.store) (sym first.invariant.state.projection)
        ∙ bare_known (run_of (outset_of n no_rows) h).state.warehouse.store

module _ (script : Script) (start : Rows → State) (generation : ℕ) (h : List Entry) (c : Catalog) (is : IsCatalogAfter script start generation h c) where
  abbrev store : Store
  store = store_after script start h

  tables_are : map known_as c.tables ≡ tables_known store
  tables_are = ap (λ (s : Sight). s.tables) is.sight

  -- the history gives as many tables
  pub counted_is : length c.tables ≡ length store.tables
  counted_is = sym (length-map c.tables known_as) ∙ ap (λ (ts : List Known). length ts) tables_are ∙ length-map {B = Known} store.tables (λ (t : Table). record { name = t.name; lineage = t.lineage })

  -- and each of them its columns and views
  pub lineage_is : (number : ℕ) → (meta_at c number).lineage ≡ lineage_in store number
  lineage_is number =
      ap (λ (k : Known). k.lineage)
      (sym (at_same known_as c.tables number no_meta) ∙ ap (λ (ts : List Known). slice_index_or ts number (known_as no_meta)) tables_are ∙ at_same {B = Known} (λ (t : Table). record { name = t.name; lineage = t.lineage }) store.tables number no_table)
