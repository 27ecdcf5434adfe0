-- Files that wait for removal, and which of them a pin holds.
use Rattle.std.specs.Prelude.{◌≡◌, ◌⊎◌, ℕ, ◌<◌, ◌≤◌, List, [], ◌∷◌, map, filter, Bool, ◌&&◌, not, nat_lt}
use Rattle.std.specs.List.{AllByRecursion, list_any}
use Rattle.mesa_commit.specs.declared.trash.Hold.{Hold}
use Rattle.mesa_commit.specs.declared.trash.Dropped.{Dropped}

-- ---- what the code computes

-- The file was dropped after the pin was made, and its id was given before.
abbrev pub holds : Dropped → Hold → Bool
holds d h = nat_lt h.at d.at && nat_lt d.id h.next

-- Some pin holds the file.
abbrev pub is_held : List Hold → Dropped → Bool
is_held hs d = list_any (holds d) hs

abbrev pub id_in : Dropped → ℕ
id_in d = d.id

-- the ids of files that wait
abbrev pub ids_of : List Dropped → List ℕ
ids_of ds = map id_in ds

-- the files that no pin holds
abbrev pub freed : List Hold → List Dropped → List Dropped
freed hs ds = filter (λ d. not (is_held hs d)) ds

-- the files that some pin holds
abbrev pub kept : List Hold → List Dropped → List Dropped
kept hs ds = filter (is_held hs) ds

-- a file dropped at a position
abbrev pub dropped_at : ℕ → ℕ → Dropped
dropped_at at id = record { id = id; at = at }

-- ---- what it means

-- An id is one of these.
abbrev pub Among : ℕ → List ℕ → Type 0
Among id [] = ⊥
Among id (x ∷ xs) = (x ≡ id) ⊎ Among id xs

-- A file of this id was dropped after a position.
abbrev pub IsDroppedAfter : ℕ → ℕ → List Dropped → Type 0
IsDroppedAfter at id [] = ⊥
IsDroppedAfter at id (d ∷ ds) = ((d.id ≡ id) × (at < d.at)) ⊎ IsDroppedAfter at id ds

-- A hold tells which files its pin had: their ids were given before; each is named still, or waits and was dropped after the pin was made; and each file given before that is named, or was dropped after, was had.
pub record IsHoldOf (named : List ℕ) (trash : List Dropped) (h : Hold) (had : List ℕ) : Type 0 where
  pub given : (id : ℕ) → Among id had → id < h.next
  pub there : (id : ℕ) → Among id had → Among id named ⊎ Among id (ids_of trash)
  pub since : (id : ℕ) → Among id had → AllByRecursion (λ (d : Dropped). d.id ≡ id → h.at < d.at) trash
  pub only : (id : ℕ) → id < h.next → Among id named ⊎ IsDroppedAfter h.at id trash → Among id had

-- a pin's hold, and the ids of the files that it had
abbrev pub Held : Type 0
Held = Hold × List ℕ

abbrev pub holds_of : List Held → List Hold
holds_of pins = map (λ (p : Held). p.0) pins

-- Some pin had the file.
abbrev pub IsHad : ℕ → List Held → Type 0
IsHad id [] = ⊥
IsHad id (p ∷ pins) = Among id p.1 ⊎ IsHad id pins

-- Before the turn at a position, with the next id to be given: each hold tells its pin's files and was made before; no file that waits is named; and all ids were given, and files dropped, before.
pub record AreFiled (position next : ℕ) (named : List ℕ) (trash : List Dropped) (pins : List Held) : Type 0 where
  pub held : AllByRecursion (λ (p : Held). IsHoldOf named trash p.0 p.1) pins
  pub before : AllByRecursion (λ (p : Held). (p.0.at < position) × (p.0.next ≤ next)) pins
  pub apart : (id : ℕ) → Among id (ids_of trash) → Among id named → ⊥
  pub named_given : (id : ℕ) → Among id named → id < next
  pub trash_given : (id : ℕ) → Among id (ids_of trash) → id < next
  pub past : AllByRecursion (λ (d : Dropped). d.at < position) trash
