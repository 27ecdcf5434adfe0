-- The leases under which tables are worked on, turn by turn.
use Rattle.std.specs.Prelude.{◌≡◌, ℕ, ◌+◌, List, Bool, true, false, ◌&&◌, ◌==◌, nat_lt, not, if◌then◌else◌, Option, Some, None, replicate, slice_set}
use Rattle.std.specs.List.{slice_index_or}
use Rattle.mesa_lease.specs.declared.lease.Lease.{Lease}
use Rattle.mesa_lease.specs.declared.lease.Lost.{Lost}

-- The book of leases: how many turns a lease holds, how many were granted, and each table's last one.
pub record Book : Type 0 where
  pub turns : ℕ
  pub granted : ℕ
  pub last : List (Option Lease)

-- the book at the start, for so many tables
abbrev pub begun : ℕ → ℕ → Book
begun tables turns = record { turns = turns; granted = 0; last = replicate tables None }

abbrev pub last_of : Book → ℕ → Option Lease
last_of book table = slice_index_or book.last table None

abbrev pub with_last : ℕ → Lease → Book → Book
with_last table lease book = record book { last = slice_set book.last table (Some lease) }

-- A lease holds at the positions before its end, unless it has ended.
abbrev pub holds_at : ℕ → Lease → Bool
holds_at position lease = nat_lt position lease.until && not lease.ended

-- The table's lease that holds at a position: only its last one can.
abbrev pub holder : Book → ℕ → ℕ → Option ℕ
holder book table position = holding (last_of book table)
  where
    holding : Option Lease → Option ℕ
    holding None = None
    holding (Some lease) = if holds_at position lease then Some lease.number else None

-- Whether this lease is the table's last, and holds at the position.
abbrev pub is_held : Book → ℕ → ℕ → ℕ → Bool
is_held book table number position = held (last_of book table)
  where
    held : Option Lease → Bool
    held None = false
    held (Some lease) = (lease.number == number) && holds_at position lease

-- The table's lease that holds at a position, where it is another than this one.
abbrev pub other_holder : Book → ℕ → ℕ → ℕ → Option ℕ
other_holder book table number position = other (holder book table position)
  where
    other : Option ℕ → Option ℕ
    other None = None
    other (Some holds) = if holds == number then None else Some holds

-- A lease is lost: it isn't the table's last, or doesn't hold, and the refusal names it and another that does.
pub record IsLost (book : Book) (table number position : ℕ) (lost : Lost) : Type 0 where
  pub not_held : is_held book table number position ≡ false
  pub lease : lost.lease ≡ number
  pub holder_is : lost.holder ≡ other_holder book table number position

-- The book once the table has a new lease: leases are counted from 1, and it holds for so many turns from its own on.
abbrev pub granted : ℕ → ℕ → Book → Book
granted table position book = record (with_last table (record { number = book.granted + 1; until = position + book.turns; ended = false }) book) { granted = book.granted + 1 }

-- The book once the table's lease holds anew from this turn on.
abbrev pub renewed : ℕ → ℕ → ℕ → Book → Book
renewed table number position book = with_last table (record { number = number; until = position + book.turns; ended = false }) book

-- The book once this lease has ended, where it is the table's last.
abbrev pub ended : ℕ → ℕ → Book → Book
ended table number book = ends (last_of book table)
  where
    ends : Option Lease → Book
    ends None = book
    ends (Some lease) = if lease.number == number then with_last table (record lease { ended = true }) book else book
