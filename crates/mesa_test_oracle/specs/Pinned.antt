-- The warehouse that a plain warehouse is.
use Rattle.std.specs.Prelude.{ℕ, List, None}
use Rattle.mesa_model.specs.Warehouse.{Pin, Warehouse}
use Rattle.mesa_test_oracle.specs.declared.pins.PlainPin.{PlainPin}
use Rattle.mesa_oracle_tables.specs.Kept.{Versioned}

-- a pin with its copy of the tables
abbrev pub pin_seen : PlainPin → Pin
pin_seen pin = record { session = pin.session; token = pin.token; version = pin.version; store = pin.store.store }

-- the warehouse of these tables and pins; nothing in memory closes it
abbrev pub warehouse_of : Versioned → List ℕ → List Pin → Warehouse
warehouse_of s given pins = record { store = s.store; next = s.next; given = given; pins = pins; closed = None }
