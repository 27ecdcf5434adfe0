-- What a contract sees of a pass.
use Rattle.std.specs.Prelude.{◌≡◌, ◌≢◌, ℕ, ◌+◌, ◌-◌, ◌<◌, false, List, [], ◌∷◌, ◌++◌, length, IsTrue}
use Rattle.std.specs.List.{slice_get}
use mathlib.Core.List.{IsPrefix}
use Rattle.mesa_turn.specs.History.{has, has_at, AreApart, Exactly, longer_of, without}
use Rattle.atomic_table.specs.Seated.{TableId}
use Rattle.mesa_turn.specs.declared.view.View.{View}
use Rattle.mesa_turn.specs.declared.view.Turn.TheVariants.{Idle}
use Rattle.mesa_turn.specs.Rule.{spent_view, all_names}

-- A pass: its lock, the names that it holds, the list that it has seen, its own positions in it, the number of turns that it may still take, and the number that the lock gives in all.
pub record Known : Type 0 where
  pub lock : TableId
  pub names : List ℕ
  pub seen : List ℕ
  pub own : List ℕ
  pub room : ℕ
  pub limit : ℕ

abbrev pub known : TableId → View → Known
known z v = record { lock = z; names = v.names; seen = v.seen; own = v.own; room = v.room; limit = v.limit }

abbrev pub view_of : List View → View
view_of [] = spent_view
view_of (v ∷ vs) = v

-- The own positions are exactly those of the list seen at which a held name stands.
abbrev pub IsExact : Known → Type 0
IsExact p = Exactly p.own p.names p.seen

-- there is one view, which holds a name and no ticket
abbrev pub IsReady : List View → Type 0
IsReady vs = (vs ≡ view_of vs ∷ []) × ((view_of vs).turn ≡ Idle) × ((view_of vs).names ≢ []) × Exactly (view_of vs).own (view_of vs).names (view_of vs).seen

-- the table of a lock: three words and one slot
abbrev pub IsLockId : TableId → Type 0
IsLockId z = (z.words ≡ 3) × (z.slots ≡ 1)

-- The pass of a new lock holds all names.
abbrev pub whole : TableId → ℕ → Known
whole z room = record { lock = z; names = all_names; seen = []; own = []; room = room; limit = room }

-- The pass holds another name beside this one.
abbrev pub HasAnother : ℕ → Known → Type 0
HasAnother name p = (other : ℕ) × IsTrue (has p.names other) × (other ≢ name)

-- No own position of the pass has the name.
abbrev pub HasNone : ℕ → Known → Type 0
HasNone name p = (k : ℕ) → IsTrue (has p.own k) → has_at (name ∷ []) (slice_get p.seen k) ≡ false

-- The pass without the name and the room.
abbrev pub left_of : ℕ → ℕ → Known → Known
left_of name room p = record { lock = p.lock; names = without name p.names; seen = p.seen; own = p.own; room = p.room - room; limit = p.limit }

-- A pass with the name alone and the room, which has seen as much and has no own position.
abbrev pub part_of : ℕ → ℕ → Known → Known
part_of name room p = record { lock = p.lock; names = name ∷ []; seen = p.seen; own = []; room = room; limit = p.limit }

-- The longer list, and the names, own positions and rooms of both.
abbrev pub joined : Known → Known → Known
joined p q = record { lock = p.lock; names = p.names ++ q.names; seen = longer_of p.seen q.seen; own = p.own ++ q.own; room = p.room + q.room; limit = p.limit }

-- The pass in a turn that found the list.
abbrev pub during : List ℕ → Known → Known
during list p = record { lock = p.lock; names = p.names; seen = list; own = p.own; room = p.room - 1; limit = p.limit }

-- The pass after a turn that left the list.
abbrev pub after : List ℕ → Known → Known
after list p = record { lock = p.lock; names = p.names; seen = list; own = length p.seen ∷ p.own; room = p.room; limit = p.limit }

-- What is known of a pass that was made of two: it begins with what each had seen, and they had no name in common.
pub record Joins (a b p : Known) : Type 0 where
  pub is : p ≡ joined a b
  pub first_seen : IsPrefix a.seen p.seen
  pub second_seen : IsPrefix b.seen p.seen
  pub first_exact : IsExact a
  pub second_exact : IsExact b
  pub exact : IsExact p
  pub apart : AreApart a.names b.names

-- What a turn finds: a list with as many entries as the ticket says, which begins with what the pass has seen.
-- The positions in it whose names the pass holds are exactly the pass's own.
pub record Finds (p : Known) (ticket : ℕ) (list : List ℕ) : Type 0 where
  pub seen : IsPrefix p.seen list
  pub count : length list ≡ ticket
  pub below : ticket < p.limit
  pub own : Exactly p.own p.names list
  pub own_seen : (k : ℕ) → IsTrue (has p.own k) → k < length p.seen
