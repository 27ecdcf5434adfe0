-- What each step on the table tells, and how it changes the view that takes it.
use Rattle.std.specs.Prelude.{◌≡◌, ◌≢◌, ℕ, ◌+◌, ◌-◌, ◌<◌, List, [], ◌∷◌, ◌++◌, length, Option, Some, None, IsTrue}
use mathlib.Core.List.{IsPrefix}
use Rattle.atomic_table.specs.Table.{Me, Step, rest}
use Rattle.mesa_turn.specs.declared.view.View.{View}
use Rattle.mesa_turn.specs.declared.view.Turn.{Turn}
use Rattle.mesa_turn.specs.declared.view.Turn.TheVariants.{Idle, Drawn, Come, Marked}
use Rattle.mesa_turn.specs.History.{has, Exactly, longer_of, shorter_of, without, once}

-- the ticket, or 0 where there is none
abbrev pub number_of : Turn → ℕ
number_of Idle = 0
number_of (Drawn t) = t
number_of (Come t) = t
number_of (Marked t) = t

abbrev held_in : {V : Type 0} → (V → List ℕ) → Option V → List ℕ
held_in history None = []
held_in history (Some x) = history x

-- the list of the value in the slot that the seat holds
abbrev pub held : {V : Type 0} → (V → List ℕ) → List (ℕ × Option V) → List ℕ
held history [] = []
held history (x ∷ xs) = held_in history x.1

-- A drawer has a ticket, and its room is one less.
abbrev pub drawn : ℕ → View → View
drawn t v = record { names = v.names; seen = v.seen; shorter = v.shorter; own = v.own; room = v.room - 1; limit = v.limit; turn = Drawn t }

-- Its turn has come, and it sees the longest list.
abbrev pub called : ℕ → List ℕ → View → View
called t list v = record { names = v.names; seen = list; shorter = v.shorter; own = v.own; room = v.room; limit = v.limit; turn = Come t }

-- It sees the list with its one new entry, whose position is its own.
abbrev pub entered : List ℕ → View → View
entered list v = record { names = v.names; seen = list; shorter = v.shorter; own = length v.seen ∷ v.own; room = v.room; limit = v.limit; turn = Marked (number_of v.turn) }

-- It has no ticket any more.
abbrev pub rested : View → View
rested v = record { names = v.names; seen = v.seen; shorter = v.shorter; own = v.own; room = v.room; limit = v.limit; turn = Idle }

-- A pass that is split is without that name and that room.
abbrev pub kept_of : ℕ → ℕ → View → View
kept_of name room v = record { names = without name v.names; seen = v.seen; shorter = v.shorter; own = v.own; room = v.room - room; limit = v.limit; turn = v.turn }

-- The new pass has that name alone, that room and no own position, and has seen as much.
abbrev pub cut_of : ℕ → ℕ → View → View
cut_of name room v = record { names = name ∷ []; seen = v.seen; shorter = []; own = []; room = room; limit = v.limit; turn = Idle }

-- Of two passes one is made: it has the longer list, and the names, own positions and rooms of both. It remembers the shorter list until it has compared them.
abbrev pub both_of : View → View → View
both_of v w = record { names = v.names ++ w.names; seen = longer_of v.seen w.seen; shorter = shorter_of v.seen w.seen; own = v.own ++ w.own; room = v.room + w.room; limit = v.limit; turn = v.turn }

-- The shorter list was compared with the longer one, and is forgotten.
abbrev pub compared : View → View
compared v = record { names = v.names; seen = v.seen; shorter = []; own = v.own; room = v.room; limit = v.limit; turn = v.turn }

-- A list that a pass finds when its turn has come: it begins with all that was seen, and has as many entries as the ticket says.
pub record Found (v : View) (ticket : ℕ) (list : List ℕ) : Type 0 where
  pub seen : IsPrefix v.seen list
  pub count : length list ≡ ticket
  pub below : ticket < v.limit
  pub own : Exactly v.own v.names list
  pub own_seen : (k : ℕ) → IsTrue (has v.own k) → k < length v.seen

module _ {V : Type 0} where
  -- a draw gives the number found as ticket
  abbrev pub drew : Step (Option V) → Me (Option V) View → ℕ → Me (Option V) View → Type 0
  drew s m found m' = m' ≡ (drawn found m.0, m.1)

  -- where a look finds the ticket, the seat has the slot and its value; else nothing changes
  abbrev pub looked : (V → List ℕ) → Step (Option V) → Me (Option V) View → ℕ → Me (Option V) View → Type 0
  looked history s m found m' =
      (found ≡ number_of m.0.turn → (x : V) × (m' ≡ (called found (history x) m.0, (0, Some x) ∷ m.1)) × Found m.0 found (history x))
      × (found ≢ number_of m.0.turn → m' ≡ m)

  abbrev pub marked : (V → List ℕ) → Step (Option V) → Me (Option V) View → ℕ → Me (Option V) View → Type 0
  marked history s m found m' = (m' ≡ (entered (held history m.1) m.0, m.1)) × Exactly m'.0.own m'.0.names m'.0.seen

  abbrev pub passed : Step (Option V) → Me (Option V) View → ℕ → Me (Option V) View → Type 0
  passed s m found m' = m' ≡ (rested m.0, rest m.1)

  -- a pass that compares learns that the shorter list begins the longer, and what the rule says of its own positions and names
  abbrev pub compares : Step (Option V) → Me (Option V) View → ℕ → Me (Option V) View → Type 0
  compares s m found m' = (m' ≡ (compared m.0, m.1)) × IsPrefix m.0.shorter m'.0.seen × Exactly m'.0.own m'.0.names m'.0.seen × IsTrue (once m'.0.names)
