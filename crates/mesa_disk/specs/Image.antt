-- What a disk holds, and what a call does to it.
use Rattle.std.specs.Prelude.{Option, IfSome, ◌≡◌, ◌⊎◌, ℕ, ◌+◌, ◌≤◌, max, List, ◌++◌, length, take, drop}
use Rattle.std.specs.Ordering.{nat_cmp}
use Rattle.std.specs.FinMap.{FinMap, get, insert, remove}
use Rattle.mesa_disk.specs.declared.area.Area.{Area}
use Rattle.mesa_disk.specs.declared.area.Area.TheVariants.{Zero, One}

-- two journal areas, and a finite map from the numbers of ids to the bytes of adopted files
pub record Image : Type 0 where
  pub zero : List ℕ
  pub one : List ℕ
  pub files : FinMap nat_cmp (List ℕ)

-- the bytes of an area
abbrev pub area_of : Area → Image → List ℕ
area_of Zero i = i.zero
area_of One i = i.one

-- with other bytes in an area
abbrev pub with_area : Area → List ℕ → Image → Image
with_area Zero bytes i = record i { zero = bytes }
with_area One bytes i = record i { one = bytes }

-- with a file of these bytes under this id
abbrev pub with_file : ℕ → List ℕ → Image → Image
with_file id bytes i = record i { files = insert i.files id bytes }

-- without a file of this id
abbrev pub without_file : ℕ → Image → Image
without_file id i = record i { files = remove i.files id }

-- the bytes of the file of this id, where it is there
abbrev pub file_of : Image → ℕ → Option (List ℕ)
file_of i id = get i.files id

-- bytes with others written over them from a place on
abbrev pub overwritten : ℕ → List ℕ → List ℕ → List ℕ
overwritten at bytes old = take at old ++ bytes ++ drop (at + length bytes) old

-- Any bytes in the range that n written bytes take, of which the part past the old end may be missing; all others stay.
pub record Torn (at n : ℕ) (old new : List ℕ) : Type 0 where
  pub before : take at new ≡ take at old
  pub after : drop (at + n) new ≡ drop (at + n) old
  pub no_shorter : length old ≤ length new
  pub no_longer : length new ≤ max (length old) (at + n)

-- A step in the bytes of one area, and nothing else.
pub record InArea (area : Area) (step : List ℕ → List ℕ → Type 0) (old new : Image) : Type 0 where
  pub bytes : List ℕ
  pub stepped : step (area_of area old) bytes
  pub same : new ≡ with_area area bytes old

-- An area has any bytes afterwards, and all else stays.
abbrev pub AnyChange : Area → Image → Image → Type 0
AnyChange area = InArea area (λ old new. Unit {0})

-- A write is done.
abbrev pub Overwrites : Area → ℕ → List ℕ → Image → Image → Type 0
Overwrites area at bytes old new = new ≡ with_area area (overwritten at bytes (area_of area old)) old

-- A write of n bytes is done, not done, or cut short in any way.
abbrev pub Tears : Area → ℕ → ℕ → Image → Image → Type 0
Tears area at n = InArea area (Torn at n)

-- A file is there whole: its id, and its bytes where they are told.
pub record Adopts (file : ℕ × Option (List ℕ)) (old new : Image) : Type 0 where
  pub bytes : List ℕ
  pub told : IfSome file.1 (λ b. b ≡ bytes)
  pub same : new ≡ with_file file.0 bytes old

-- A file is gone.
abbrev pub Loses : ℕ → Image → Image → Type 0
Loses id old new = new ≡ without_file id old

-- A step is done or not.
abbrev pub May : {A : Type 0} → (A → Image → Image → Type 0) → A → Image → Image → Type 0
May step x old new = (new ≡ old) ⊎ step x old new
