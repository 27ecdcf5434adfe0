-- What a vault has in its memory, and the books that it stands for.
use Rattle.std.specs.Prelude.{ℕ, ◌+◌, ◌*◌, ◌^◌, List, [], ◌++◌, map, Option}
use Rattle.mesa_disk.specs.declared.area.Area.{Area}
use Rattle.mesa_lease.specs.Book.{Book}
use Rattle.mesa_model.specs.Warehouse.{Table, Store, Pin}
use Rattle.mesa_model.specs.Pins.{store_at}
use Rattle.mesa_catalog.specs.mesa_store_spec.Catalog.{TableMeta, Catalog, ranges_of}
use Rattle.mesa_catalog.specs.mesa_store_spec.Fitting.{live_files}
use Rattle.mesa_catalog.specs.mesa_store_spec.Contents.{kept_of}
use Rattle.mesa_catalog.specs.mesa_store_spec.Sound.{wants}
use Rattle.mesa_catalog.specs.mesa_store_spec.Ids.{named}
use Rattle.mesa_invariant_spec.specs.mesa_history_spec.Rows.{Rows}
use Rattle.mesa_commit.specs.declared.trash.Dropped.{Dropped}
use Rattle.mesa_commit.specs.declared.trash.Hold.{Hold}
use Rattle.mesa_commit.specs.Filed.{PinFiles}
use Rattle.mesa_commit.specs.Holding.{Held}
use Rattle.mesa_invariant_spec.specs.Books.{Books}

-- A pin that is held: whose it is, its token and its version, its hold on files, and its own copy of the catalogue.
pub record HeldPin : Type 0 where
  pub session : ℕ
  pub token : ℕ
  pub version : ℕ
  pub hold : Hold
  pub copy : Catalog

-- A query that isn't closed yet and names no pin: its session, and its own hold on files.
pub record OpenQuery : Type 0 where
  pub session : ℕ
  pub hold : Hold

-- A vault's memory: the catalogue, and its generation; the pins, and the open queries; the files that wait for removal; the leases; how many pins each session was given; the position at which it closed, if it did; how many files the run adopted; and the journal's area, and where its next body goes there.
pub record EngineState : Type 0 where
  pub catalogue : Catalog
  pub generation : ℕ
  pub pins : List HeldPin
  pub queries : List OpenQuery
  pub trash : List Dropped
  pub leases : Book
  pub given : List ℕ
  pub closed : Option ℕ
  pub adopted : ℕ
  pub area : Area
  pub end : ℕ

-- ---- what it stands for

-- a table without its contents
abbrev pub projection_of : TableMeta → Table
projection_of t = record { name = t.name; lineage = t.lineage; totals = t.totals; oldest = t.oldest; contents = [] }

-- a catalogue's tables without their contents
abbrev pub projections : Catalog → Store
projections c = record { tables = map projection_of c.tables; floor = c.floor }

-- the same of one version alone
abbrev pub projection_at : ℕ → TableMeta → Table
projection_at version t = record { name = t.name; lineage = t.lineage; totals = t.totals; oldest = version; contents = [] }

abbrev pub projections_at : ℕ → Catalog → Store
projections_at version c = record { tables = map (projection_at version) c.tables; floor = version }

-- a pin without rows
abbrev pub bare_held : HeldPin → Pin
bare_held p = record { session = p.session; token = p.token; version = p.version; store = projections_at p.version p.copy }

-- a pin with the rows that its files have
abbrev pub held_with : Rows → HeldPin → Pin
held_with rows p = record { session = p.session; token = p.token; version = p.version; store = store_at (kept_of rows p.copy).store p.version }

-- The books that a state stands for, where the files have these rows.
abbrev pub books_of : Rows → EngineState → Books
books_of rows l = record {
  bare = record { store = projections l.catalogue; next = l.catalogue.next; given = l.given; pins = map bare_held l.pins; closed = l.closed };
  machine = record { ranges = map ranges_of l.catalogue.tables; leases = l.leases };
  kept = kept_of rows l.catalogue;
  pins = map (held_with rows) l.pins;
}

-- ---- files

-- the first id of the files that a run adopts
abbrev pub first_id : ℕ → ℕ
first_id run = run * 2 ^ 40

-- the id of the file that is adopted next
abbrev pub next_id : EngineState → ℕ
next_id l = first_id l.catalogue.run + l.adopted

-- the first id that the run doesn't give
abbrev pub past_id : EngineState → ℕ
past_id l = first_id (l.catalogue.run + 1)

-- how many ranges a recast rewrites at most: those of the singletons that its table had at the grant, its base, and those that came since
abbrev pub most_ranges : ℕ
most_ranges = 1200001

-- How many files a turn adopts at most: a recast one for each range. A load adopts one for each table and for each of its views, which are fewer.
abbrev pub most_files : ℕ
most_files = most_ranges

-- A hold on the files that a catalogue named.
abbrev pub Holder : Type 0
Holder = Hold × Catalog

-- a pin's hold, on the files that its copy names
abbrev pub pin_holder : HeldPin → Holder
pin_holder p = (p.hold, p.copy)

-- an open query's hold, on the files that the catalogue named which stood at the position of its turn
abbrev pub query_holder : (ℕ → Catalog) → OpenQuery → Holder
query_holder seen q = (q.hold, seen q.hold.at)

-- all holds: those of the pins, and those of the open queries
abbrev pub holders : (ℕ → Catalog) → EngineState → List Holder
holders seen l = map pin_holder l.pins ++ map (query_holder seen) l.queries

-- the ids of the files that a hold is on
abbrev pub ids_held : Holder → Held
ids_held x = (x.0, named x.1)

-- these files, with the bytes that their rows make
abbrev pub files_held : Rows → Holder → PinFiles
files_held rows x = (x.0, wants rows (live_files x.1))
