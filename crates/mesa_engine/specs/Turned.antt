-- What turns that keep the catalogue do to a vault's memory.
use Rattle.std.specs.Prelude.{ℕ, ◌+◌, [], ◌∷◌, ◌++◌, filter, Bool, ◌&&◌, ◌==◌, not, Some}
use Rattle.mesa_lease.specs.Book.{Book}
use Rattle.mesa_model.specs.Pins.{count_at, counted_at}
use Rattle.mesa_commit.specs.declared.trash.Hold.{Hold}
use Rattle.mesa_engine.specs.EngineState.{HeldPin, OpenQuery, EngineState}

-- ---- pins

-- a session's next pin, of a version, with a hold and the catalogue's copy
abbrev pub pin_now : EngineState → ℕ → ℕ → Hold → HeldPin
pin_now l session version hold = record { session = session; token = count_at l.given session + 1; version = version; hold = hold; copy = l.catalogue }

-- The state with that pin.
abbrev pub pinned_state : EngineState → ℕ → ℕ → Hold → EngineState
pinned_state l session version hold = record l { pins = l.pins ++ pin_now l session version hold ∷ []; given = counted_at l.given session }

-- whether a pin is this session's, with this token
abbrev pub is_held_pin : ℕ → ℕ → HeldPin → Bool
is_held_pin session token p = (p.session == session) && (p.token == token)

-- The state without that pin of a session.
abbrev pub released_state : EngineState → ℕ → ℕ → EngineState
released_state l session token = record l { pins = filter (λ p. not (is_held_pin session token p)) l.pins }

-- ---- queries

-- The state with an open query more, of a session, with a hold.
abbrev pub queried_state : EngineState → ℕ → Hold → EngineState
queried_state l session hold = record l { queries = l.queries ++ record { session = session; hold = hold } ∷ [] }

-- The state with the open queries alone that a test leaves.
abbrev pub answered_state : EngineState → (OpenQuery → Bool) → EngineState
answered_state l stays = record l { queries = filter stays l.queries }

-- ---- leases

-- The state with other leases.
abbrev pub leased_state : EngineState → Book → EngineState
leased_state l leases = record l { leases = leases }

-- ---- its end

-- The state once it is closed at a position.
abbrev pub shut_state : EngineState → ℕ → EngineState
shut_state l position = record l { closed = Some position }
