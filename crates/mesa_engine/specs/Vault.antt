-- What a vault keeps whenever no turn is under way.
use Rattle.std.specs.Prelude.{◌≡◌, ℕ, ◌+◌, ◌*◌, ◌<◌, ◌≤◌, List, map, Bool, Option, None, Some, IsTrue, length}
use Rattle.std.specs.List.{AllByRecursion}
use Rattle.mesa_disk.specs.Image.{Image}
use Rattle.mesa_disk.specs.Story.{Story}
use Rattle.mesa_commit.specs.Images.{Has}
use Rattle.mesa_model.specs.declared.commands.Script.{Script}
use Rattle.mesa_model.specs.declared.entries.Entry.{Entry}
use Rattle.mesa_invariant_spec.specs.mesa_history_spec.Claims.{HasRanges}
use Rattle.mesa_invariant_spec.specs.mesa_history_spec.Law.{written_in}
use Rattle.mesa_invariant_spec.specs.mesa_history_spec.Run.{State, begins}
use Rattle.mesa_invariant_spec.specs.mesa_history_spec.Sources.{Written}
use Rattle.mesa_catalog.specs.mesa_store_spec.Catalog.{Catalog}
use Rattle.mesa_catalog.specs.mesa_store_spec.Held.{IsHeld}
use Rattle.mesa_catalog.specs.mesa_store_spec.Shape.{IsCatalog}
use Rattle.mesa_catalog.specs.mesa_store_spec.Sound.{HaveSoundRows, StandsFor}
use Rattle.mesa_catalog.specs.mesa_store_spec.Countable.{AreCounted as AreColumnsCounted}
use Rattle.mesa_catalog.specs.mesa_store_spec.Ids.{HasOwnIds, named}
use Rattle.mesa_catalog.specs.mesa_store_spec.Recordable.{AreRecordable}
use Rattle.mesa_catalog.specs.mesa_store_spec.Sourced.{HasSources}
use Rattle.mesa_invariant_spec.specs.mesa_history_spec.Rows.{Rows}
use Rattle.mesa_commit.specs.Filed.{AreFresh, AreNamedOrWait, PinFiles}
use Rattle.mesa_commit.specs.Holding.{AreFiled, ids_of}
use Rattle.mesa_invariant_spec.specs.Sight.{schema_changes}
use Rattle.mesa_invariant_spec.specs.Invariant.{Outset, HoldsInvariant}
use Rattle.mesa_model.specs.Versions.{common_oldest}
use Rattle.mesa_engine.specs.EngineState.{HeldPin, EngineState, books_of, next_id, past_id, most_files, Holder, holders, ids_held, files_held, projections}

-- All that stands written of each table so far: what was found of it, and the batches that the run accepted since, each carried through the recasts behind it.
abbrev pub written_by : Outset → (ℕ → List Written) → List Entry → ℕ → List Written
written_by o found h number = written_in o.script (begins o.start) h number (found number)

-- The holds tell which files the pins and the open queries have; what waits isn't named; and all ids were given before the next one.
abbrev pub IsFiled : (ℕ → Catalog) → EngineState → List Entry → Type 0
IsFiled seen l h = AreFiled (length h) (next_id l) (named l.catalogue) l.trash (map ids_held (holders seen l))

-- While the vault is open, the journal has room for a body; the ids that the run may still give have no file; and each file that is there is named, or waits.
pub record IsReady (l : EngineState) (story : Story) : Type 0 where
  pub long : l.end < story.len l.area
  pub fresh : AreFresh (next_id l) (past_id l) story.told
  pub strays : AreNamedOrWait (named l.catalogue) (ids_of l.trash) story.told

-- A read gives an image.
abbrev pub IsRead : Story → Type 0
IsRead story = (i : Image) × (story.told ≡ Some i)

-- Whatever image a read gives: the files of every pin and every open query are there with the bytes of their rows.
abbrev pub AreThere : Rows → (ℕ → Catalog) → EngineState → Story → Type 0
AreThere rows seen l story = (i : Image) → story.told ≡ Some i → AllByRecursion (λ (p : PinFiles). Has p.1 i) (map (files_held rows) (holders seen l))

-- What a hold needs to be answered from: the catalogue that it was made of has the shape of one.
abbrev pub AreShaped : (ℕ → Catalog) → EngineState → Type 0
AreShaped seen l = AllByRecursion (λ (x : Holder). IsCatalog x.1) (holders seen l)

-- The rows of these catalogues' files are such as a sound store has.
abbrev pub AllHaveSoundRows : Rows → (ℕ → Catalog) → EngineState → Type 0
AllHaveSoundRows rows seen l = HaveSoundRows rows l.catalogue × AllByRecursion (λ (x : Holder). HaveSoundRows rows x.1) (holders seen l)

-- A pin's version is one that all tables of its copy of the catalogue have.
abbrev pub IsVersioned : HeldPin → Type 0
IsVersioned p = (common_oldest (projections p.copy) ≤ p.version) × (p.version < p.copy.next)

-- What a run has at its start beside its state: its number, what was written of each table, and the catalogue's generation.
pub record Origin : Type 0 where
  pub run : ℕ
  pub found : ℕ → List Written
  pub generation : ℕ

-- The counts of a vault: of leases and of pins none is more than there were turns, no turn adopted more files than there can be, the catalogue's generation rose once for each turn that made or changed a table, a view or columns, or recast a table, and its run is this one.
pub record AreCounted (o : Outset) (g : Origin) (l : EngineState) (h : List Entry) : Type 0 where
  pub leases : l.leases.granted ≤ length h
  pub given : AllByRecursion (λ n. n ≤ length h) l.given
  pub adopted : l.adopted ≤ most_files * length h
  pub generation : l.generation ≡ g.generation + schema_changes o.script (begins o.start) h
  pub run : l.catalogue.run ≡ g.run

-- What a vault keeps, for rows that its files may have, and the catalogues that stood at its open queries' positions: the invariant of its history with the books of its state; that each image stands for its catalogue while it is open; the shape of its catalogues, whose files count their columns and keep the rules of records, and its counts; its files, which a read gives where the store was sound; and what its rows are and were made of.
pub record IsVault (o : Outset) (g : Origin) (sound : Bool) (l : EngineState) (story : Story) (held : Option (List ℕ)) (h : List Entry) (running refused : Bool) : Type 0 where
  pub rows : Rows
  pub bodies : List (List ℕ)
  pub seen : ℕ → Catalog
  pub invariant : HoldsInvariant o sound (books_of rows l) story held h running refused
  pub ranges : HasRanges o.start
  pub stands : IsTrue sound → l.closed ≡ None → IsHeld story l.area bodies l.end l.catalogue rows
  pub shaped : IsCatalog l.catalogue
  pub own : HasOwnIds l.catalogue
  pub columns : AreColumnsCounted l.catalogue
  pub recordable : AreRecordable l.catalogue
  pub copies : AreShaped seen l
  pub versions : AllByRecursion IsVersioned l.pins
  pub counts : AreCounted o g l h
  pub filed : IsFiled seen l h
  pub ready : l.closed ≡ None → IsReady l story
  pub read : IsTrue sound → IsRead story
  pub there : IsTrue sound → AreThere rows seen l story
  pub sound_rows : IsTrue sound → AllHaveSoundRows rows seen l
  pub sourced : IsTrue sound → HasSources rows (written_by o g.found h) l.catalogue

-- ---- a family of starts

-- A run as its name tells it: what hangs on the rows of the files that were there when it began is told for all rows.
pub record Starts : Type 1 where
  pub script : Script
  pub start : Rows → State
  pub sound : Rows → Type 0
  pub since : ℕ
  pub counted : ℕ
  pub at_start : Option (List ℕ)
  pub origin : Rows → Origin

-- the run where the files had these rows
abbrev pub outset_of : Starts → Rows → Outset
outset_of n w = record { stands = StandsFor; script = n.script; start = n.start w; since = n.since; counted = n.counted; at_start = n.at_start }

-- A vault, whatever rows the files had when its run began; and with those of a sound store, where these are its rows.
abbrev pub IsVaultAt : Starts → EngineState → Story → Option (List ℕ) → List Entry → Bool → Bool → Type 0
IsVaultAt n l story held h running refused = (w : Rows) (b : Bool) → (IsTrue b → n.sound w) → IsVault (outset_of n w) (n.origin w) b l story held h running refused
