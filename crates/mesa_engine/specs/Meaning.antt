-- What the parts of a vault's memory stand for.
use Rattle.std.specs.Prelude.{ℕ, ◌+◌, ◌<◌, ◌≤◌, ◌^◌, List, ◌++◌, length, map, Vec, vec_capacity, vec_len, IfSome, IsTrue}
use Rattle.std.specs.declared.alloc.Global.{Global}
use Rattle.mesa_commit.specs.declared.trash.Hold.{Hold}
use Rattle.mesa_record.specs.declared.record.Record.{Record}
use Rattle.mesa_catalog.specs.mesa_store_spec.Fitting.{fits}
use Rattle.mesa_commit.specs.declared.trash.Dropped.{Dropped}
use Rattle.mesa_catalog.specs.Kept.{Reserved}
use Rattle.mesa_engine.specs.EngineState.{HeldPin, OpenQuery}
use Rattle.mesa_engine.specs.Recorded.{hold_of_pin, hold_of_query}
use Rattle.mesa_engine.specs.declared.holders.Pin.{Pin}
use Rattle.mesa_engine.specs.declared.holders.Query.{Query}
use Rattle.mesa_engine.specs.declared.holders.Holders.{Holders}
use Rattle.mesa_engine.specs.Index.{IsIndexOf}
use Rattle.mesa_engine.specs.Memory.{Readied}

abbrev pub pin_as : Pin → HeldPin
pin_as p = record { session = p.session; token = p.token; version = p.version; hold = p.hold; copy = p.copy.catalogue }

abbrev pub query_as : Query → OpenQuery
query_as q = record { session = q.session; hold = q.hold }

abbrev pub pins_in : Holders → List HeldPin
pins_in h = map pin_as h.pins.items

abbrev pub queries_in : Holders → List OpenQuery
queries_in h = map query_as h.queries.items

-- all holds
abbrev pub holds_by : Holders → List Hold
holds_by h = map hold_of_pin (pins_in h) ++ map hold_of_query (queries_in h)

abbrev pub readied : ℕ → Record → Readied
readied dropped r = record { entry = r; dropped = dropped }

-- The holds are indexed, and there is room in the index for each of them.
pub record AreIndexed (h : Holders) : Type 0 where
  pub index : IsIndexOf (holds_by h) h.index.items
  pub room : length h.pins.items + length h.queries.items ≤ vec_capacity h.index

-- There is room in the index for one hold more.
abbrev pub HasRoom : Holders → Type 0
HasRoom h = length h.pins.items + length h.queries.items + 1 ≤ vec_capacity h.index

-- What holds of them: the run has its place in the ids of files, and so has the count of those that it adopted; the record that is reserved for fits; there is room in the trash for what it drops; and the holds are indexed.
pub record IsKept (catalog : Reserved) (holders : Holders) (trash : Vec Dropped Global) (room adopted : ℕ) : Type 0 where
  pub run : catalog.catalogue.run < 2 ^ 24
  pub few : adopted < 2 ^ 40
  pub fitting : IfSome catalog.reserved (λ r. IsTrue (fits catalog.catalogue r))
  pub spare : vec_len trash + room ≤ vec_capacity trash
  pub indexed : AreIndexed holders
