-- The rule of the lock, over its three words (the next ticket, the ticket that is served, the count of entries), its one slot and the views of all passes.
use Rattle.std.specs.Prelude.{◌≡◌, ◌≢◌, ◌⊎◌, ℕ, ◌+◌, ◌^◌, ◌<◌, ◌≤◌, Bool, true, false, List, [], ◌∷◌, length, Option, Some, None, IsTrue}
use Rattle.std.specs.List.{slice_get}
use mathlib.Core.Option.{some, none}
use mathlib.Core.List.{IsPrefix}
use lib.ListN.{get_elem?}
use Rattle.atomic_table.specs.Table.{State}
use Rattle.mesa_turn.specs.declared.view.View.{View}
use Rattle.mesa_turn.specs.declared.view.Turn.{Turn}
use Rattle.mesa_turn.specs.declared.view.Turn.TheVariants.{Idle, Drawn, Come, Marked}
use Rattle.mesa_turn.specs.History.{name_of, has, once, AreApart, Exactly}

abbrev pub ticket_of : Turn → Option ℕ
ticket_of Idle = None
ticket_of (Drawn t) = Some t
ticket_of (Come t) = Some t
ticket_of (Marked t) = Some t

-- whether the turn has come, and was not passed on yet
abbrev pub is_on : Turn → Bool
is_on Idle = false
is_on (Drawn t) = false
is_on (Come t) = true
is_on (Marked t) = true

-- how many entries a turn has added so far
abbrev pub added : Turn → ℕ
added (Marked t) = 1
added _ = 0

-- the rooms of all views
abbrev pub rooms : List View → ℕ
rooms [] = 0
rooms (v ∷ vs) = v.room + rooms vs

-- One view, against the longest list: what it has seen is a beginning of the list, its own positions are exactly those at which its names stand, and its ticket is in flight. A view without names is spent.
pub record Fits (limit : ℕ) (log : List ℕ) (next now : ℕ) (v : View) : Type 0 where
  pub seen : IsPrefix v.seen log
  pub shorter : IsPrefix v.shorter v.seen
  pub own : Exactly v.own v.names log
  pub own_seen : (k : ℕ) → IsTrue (has v.own k) → k < length v.seen
  pub names : (n : ℕ) → IsTrue (has v.names n) → n < 8
  pub single : IsTrue (once v.names)
  pub bound : v.names ≢ [] → v.limit ≡ limit
  pub spent : v.names ≡ [] → v.turn ≡ Idle
  pub ticket : (t : ℕ) → ticket_of v.turn ≡ Some t → (now ≤ t) × (t < next)
  pub on : IsTrue (is_on v.turn) → (ticket_of v.turn ≡ Some now) × (v.seen ≡ log)

-- Two views have no name and no ticket in common.
pub record Apart (v w : View) : Type 0 where
  pub names : AreApart v.names w.names
  pub tickets : (t : ℕ) → ticket_of v.turn ≡ Some t → ticket_of w.turn ≢ Some t

abbrev pub At : List View → ℕ → View → Type 0
At views i v = get_elem? views i ≡ some v

-- a view has the ticket
abbrev pub Holder : List View → ℕ → Type 0
Holder views t = (i : ℕ) × (v : View) × At views i v × (ticket_of v.turn ≡ Some t)

-- a view has seen all of the list
abbrev pub Knower : List View → List ℕ → Type 0
Knower views log = (i : ℕ) × (v : View) × At views i v × (v.seen ≡ log)

module _ {V : Type 0} (history : V → List ℕ) where
  -- The slot is at home, with a value that stands for the longest list, and no turn is on.
  pub record Home (s : State (Option V) View) (log : List ℕ) (serving : ℕ) : Type 0 where
    pub value : V
    pub slot : s.homes ≡ some (Some value) ∷ []
    pub stands : history value ≡ log
    pub count : length log ≡ serving
    pub none_on : (i : ℕ) (v : View) → At s.views i v → is_on v.turn ≡ false

  -- The slot is out with a view whose turn is on: the list has one entry more than were served, once that turn has marked its own.
  pub record Out (s : State (Option V) View) (log : List ℕ) (serving : ℕ) : Type 0 where
    pub at : ℕ
    pub view : View
    pub slot : s.homes ≡ none ∷ []
    pub there : At s.views at view
    pub on : IsTrue (is_on view.turn)
    pub count : length log ≡ serving + added view.turn

  -- The rule: the tickets in flight are the numbers from the one served to the last drawn, each in one view; there is a longest list, whose length is the count; and tickets and rooms stay within the limit, so no word wraps.
  pub record Turns (limit : ℕ) (s : State (Option V) View) : Type 0 where
    pub ticket : ℕ
    pub serving : ℕ
    pub log : List ℕ
    pub order : serving ≤ ticket
    pub words : s.words ≡ ticket ∷ serving ∷ length log ∷ []
    pub each : (i : ℕ) (v : View) → At s.views i v → Fits limit log ticket serving v
    pub apart : (i j : ℕ) (v w : View) → i ≢ j → At s.views i v → At s.views j w → Apart v w
    pub flight : (t : ℕ) → serving ≤ t → t < ticket → Holder s.views t
    pub longest : Knower s.views log
    pub slot : Home s log serving ⊎ Out s log serving
    pub names : (k x : ℕ) → slice_get log k ≡ Some x → name_of x < 8
    pub room : ticket + rooms s.views ≤ limit
    pub small : limit < 2 ^ 60

abbrev pub all_names : List ℕ
all_names = 0 ∷ 1 ∷ 2 ∷ 3 ∷ 4 ∷ 5 ∷ 6 ∷ 7 ∷ []

abbrev pub first_view : ℕ → View
first_view room = record { names = all_names; seen = []; shorter = []; own = []; room = room; limit = room; turn = Idle }

abbrev pub spent_view : View
spent_view = record { names = []; seen = []; shorter = []; own = []; room = 0; limit = 0; turn = Idle }
