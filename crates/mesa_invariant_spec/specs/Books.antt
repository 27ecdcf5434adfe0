-- What a vault's books stand for.
use Rattle.std.specs.Prelude.{◌≡◌, ℕ, List, [], ◌∷◌, ◌++◌, filter, Bool, true, false, not, Some, IsTrue}
use Rattle.mesa_history_spec.specs.mesa_schema.Recasts.{Recast}
use Rattle.mesa_history_spec.specs.mesa_model.Warehouse.{Pin, Warehouse}
use Rattle.mesa_history_spec.specs.mesa_model.Pins.{with_pin, next_token, store_at, is_pin}
use Rattle.mesa_history_spec.specs.mesa_model.Tables.{with_recast}
use Rattle.mesa_history_spec.specs.mesa_span.declared.works.Work.{Work}
use Rattle.mesa_history_spec.specs.Machine.{Machine, Claim, claimed, claim_renewed, claim_ended, claim_merged, claim_recast}
use Rattle.mesa_history_spec.specs.Run.{State}
use Rattle.mesa_history_spec.specs.Found.{Kept, kept_of}
use Rattle.mesa_history_spec.specs.Bare.{bare}

-- What a vault's books (its catalogue, pins, leases and closing position) stand for: a warehouse without rows and a range machine, on every store; and what the store keeps, and the pins, with the rows that the vault takes its files to have.
pub record Books : Type 0 where
  pub bare : Warehouse
  pub machine : Machine
  pub kept : Kept
  pub pins : List Pin

-- The books are those of a state: they have its projection and its range machine always, and what it keeps with all rows where the store was sound.
pub record AreBooksOf (sound : Bool) (books : Books) (s : State) : Type 0 where
  pub projection : bare s.warehouse ≡ books.bare
  pub machine : s.machine ≡ books.machine
  pub rows : IsTrue sound → kept_of s ≡ books.kept
  pub pins : IsTrue sound → s.warehouse.pins ≡ books.pins

-- ---- closed

-- the books once they are closed at a position
abbrev pub closed_books : ℕ → Books → Books
closed_books position books = record books { bare = record books.bare { closed = Some position } }

-- the same where a turn closes them
abbrev pub closed_books_if : Bool → ℕ → Books → Books
closed_books_if true position books = closed_books position books
closed_books_if false position books = books

-- ---- pins

-- a pin of a session, of what is kept at a version
abbrev pub pin_in : Books → ℕ → ℕ → Pin
pin_in books session version = record { session = session; token = next_token books.bare session; version = version; store = store_at books.kept.store version }

-- the books with a pin more
abbrev pub pinned_books : ℕ → ℕ → Books → Books
pinned_books session version books = record books { bare = bare (with_pin books.bare session version); pins = books.pins ++ pin_in books session version ∷ [] }

-- the pins without that of a session with a token
abbrev pub without_pin : ℕ → ℕ → List Pin → List Pin
without_pin session token pins = filter (λ pin. not (is_pin session token pin)) pins

-- the books with that pin less
abbrev pub released_books : ℕ → ℕ → Books → Books
released_books session token books = record books { bare = bare (record books.bare { pins = without_pin session token books.bare.pins }); pins = without_pin session token books.pins }

-- ---- leases

-- the books once a claim is granted at a position
abbrev pub granted_books : ℕ → Claim → Books → Books
granted_books position claim books = record books { machine = claimed books.machine position claim }

-- the books once a claim's lease holds anew from a position on
abbrev pub renewed_books : ℕ → Claim → Books → Books
renewed_books position claim books = record books { machine = claim_renewed books.machine position claim }

-- the books once a claim's lease has ended
abbrev pub ended_books : Claim → Books → Books
ended_books claim books = record books { machine = claim_ended books.machine claim }

-- the books once a claim's range is swapped in, with which the store keeps this
abbrev pub swapped_books : Claim → Work → Kept → Books → Books
swapped_books claim work kept books = record books { machine = claim_merged books.machine claim work; kept = kept }

-- the books once a claim's table is recast, with which the store keeps this
abbrev pub recast_books : Claim → Recast → Kept → Books → Books
recast_books claim r kept books = record books { bare = with_recast books.bare claim.table r; machine = claim_recast books.machine claim; kept = kept }
