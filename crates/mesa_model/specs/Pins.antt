-- Pins: versions that a session keeps.
use Rattle.std.specs.Prelude.{ℕ, zero, suc, ◌+◌, List, [], ◌∷◌, ◌++◌, map, filter, length, Bool, ◌&&◌, ◌==◌, not, nat_le, Option, find, is_none, slice_index_or, Result, Ok}
use Rattle.mesa_batch.specs.mesa_list.Checks.{◌>>=◌, ◌>>◌, refuse_if}
use Rattle.mesa_filter.specs.declared.words.VersionWord.{VersionWord}
use Rattle.mesa_model.specs.declared.replies.Refusal.{Refusal}
use Rattle.mesa_model.specs.declared.replies.Refusal.TheVariants as no
use Rattle.mesa_model.specs.declared.replies.Reply.{Reply}
use Rattle.mesa_model.specs.declared.replies.Reply.TheVariants as reply
use Rattle.mesa_model.specs.Warehouse.{Table, Store, Pin, Warehouse, max_pins, content_at}
use Rattle.mesa_model.specs.Refusals.{refuse_closed}
use Rattle.mesa_model.specs.Versions.{common_oldest, version_asked}

-- a count at a place; places behind the end count 0
abbrev pub count_at : List ℕ → ℕ → ℕ
count_at counts place = slice_index_or counts place 0

-- the counts with one more at a place
abbrev pub counted_at : List ℕ → ℕ → List ℕ
counted_at [] zero = 1 ∷ []
counted_at [] (suc place) = 0 ∷ counted_at [] place
counted_at (count ∷ counts) zero = (count + 1) ∷ counts
counted_at (count ∷ counts) (suc place) = count ∷ counted_at counts place

-- whether a pin is this session's, with this token
abbrev pub is_pin : ℕ → ℕ → Pin → Bool
is_pin session token pin = (pin.session == session) && (pin.token == token)

-- the pin of a session with this token, if it is held
abbrev pub pin_of : Warehouse → ℕ → ℕ → Option Pin
pin_of w session token = find (is_pin session token) w.pins

-- the table with its content at one version alone
abbrev pub table_pinned : ℕ → Table → Table
table_pinned version t = record t { oldest = version; contents = content_at t version ∷ [] }

-- a copy of the tables with their contents at one version alone
abbrev pub store_at : Store → ℕ → Store
store_at s version = record { tables = map (table_pinned version) s.tables; floor = version }

-- the token of a session's next pin: pins are counted from 1 in each session
abbrev pub next_token : Warehouse → ℕ → ℕ
next_token w session = count_at w.given session + 1

-- the warehouse with a pin more
abbrev pub with_pin : Warehouse → ℕ → ℕ → Warehouse
with_pin w session version = record w {
  given = counted_at w.given session;
  pins = w.pins ++ record { session = session; token = next_token w session; version = version; store = store_at w.store version } ∷ [];
}

-- The warehouse with a pin of the version asked, or the first refusal.
abbrev pub make_pin : Warehouse → ℕ → VersionWord → Result (Warehouse × Reply) Refusal
make_pin w session asked = do
  refuse_closed w.closed
  version ← version_asked w (common_oldest w.store) asked
  refuse_if (nat_le max_pins (length w.pins)) (no.PinsFull max_pins)
  Ok (with_pin w session version, reply.Pinned (next_token w session) version)

-- The warehouse without a pin of the session, or the refusal.
abbrev pub release_pin : Warehouse → ℕ → ℕ → Result (Warehouse × Reply) Refusal
release_pin w session token = do
  refuse_closed w.closed
  refuse_if (is_none (pin_of w session token)) (no.NoPin token)
  Ok (record w { pins = filter (λ pin. not (is_pin session token pin)) w.pins }, reply.Released token)
