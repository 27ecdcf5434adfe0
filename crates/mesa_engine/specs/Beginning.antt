-- What an engine is begun with.
use Rattle.std.specs.Prelude.{◌≡◌, ℕ, ◌+◌, ◌<◌, ◌≤◌, List, [], Bool, Option, IsTrue}
use Rattle.mesa_disk.specs.Story.{Story}
use Rattle.mesa_disk.specs.declared.area.Area.{Area}
use Rattle.mesa_invariant_spec.specs.mesa_history_spec.Claims.{HasRanges}
use Rattle.mesa_lease.specs.Book.{begun}
use Rattle.mesa_model.specs.Warehouse.{max_tables}
use Rattle.mesa_catalog.specs.mesa_store_spec.Catalog.{Catalog}
use Rattle.mesa_catalog.specs.mesa_store_spec.Held.{IsHeld}
use Rattle.mesa_catalog.specs.mesa_store_spec.Shape.{IsCatalog}
use Rattle.mesa_catalog.specs.mesa_store_spec.Sound.{HaveSoundRows}
use Rattle.mesa_catalog.specs.mesa_store_spec.Countable.{AreCounted}
use Rattle.mesa_catalog.specs.mesa_store_spec.Ids.{HasOwnIds, named}
use Rattle.mesa_catalog.specs.mesa_store_spec.Recordable.{AreRecordable}
use Rattle.mesa_catalog.specs.mesa_store_spec.Sourced.{HasSources}
use Rattle.mesa_invariant_spec.specs.mesa_history_spec.Rows.{Rows}
use Rattle.mesa_commit.specs.Holding.{Among}
use Rattle.mesa_invariant_spec.specs.Books.{AreBooksOf}
use Rattle.mesa_invariant_spec.specs.Invariant.{AllFound}
use Rattle.mesa_engine.specs.EngineState.{books_of, first_id}
use Rattle.mesa_engine.specs.Vault.{Starts, IsRead, IsReady, outset_of}
use Rattle.mesa_catalog.specs.Lookups.{generation_of}
use Rattle.mesa_engine.specs.Memory.{opened_state}

-- What a run of a family finds at its start, where the files have these rows. On every store: the catalogue is that of its start's projection and of this run, and has the shape and the ids of one, and what its files are to keep; the disk's clock and counts aren't behind those of the start; the sink has what the start says; and the disk is ready for the run's first record. On a sound store: a read gives an image, the journal that ends here, in this area, holds the catalogue with these rows, and whatever a crash since the start may have left is found.
pub record IsBegun (n : Starts) (w : Rows) (sound : Bool) (c : Catalog) (area : Area) (end turns : ℕ) (story : Story) (held : Option (List ℕ)) : Type 0 where
  pub bodies : List (List ℕ)
  pub state : AreBooksOf sound (books_of w (opened_state c area end turns)) (n.start w)
  pub leases : (n.start w).machine.leases ≡ begun max_tables turns
  pub ranges : HasRanges (n.start w)
  pub generation : (n.origin w).generation ≡ generation_of c
  pub run : (n.origin w).run ≡ c.run
  pub shaped : IsCatalog c
  pub own : HasOwnIds c
  pub columns : AreCounted c
  pub recordable : AreRecordable c
  pub named_given : (id : ℕ) → Among id (named c) → id < first_id c.run + 0
  pub ready : IsReady (opened_state c area end turns) story
  pub since : n.since ≤ story.moment
  pub counted : n.counted ≤ story.faults + story.read_faults
  pub sink : held ≡ n.at_start
  pub holds : IsTrue sound → IsHeld story area bodies end c w
  pub found : IsTrue sound → AllFound (outset_of n w) [] story
  pub sound_rows : IsTrue sound → HaveSoundRows w c
  pub read : IsTrue sound → IsRead story
  pub sourced : IsTrue sound → HasSources w (n.origin w).found c
