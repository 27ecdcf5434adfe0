-- What is known of a disk at one point of a run, and how a call changes it.
use Rattle.std.specs.Prelude.{Option, Some, ◌≡◌, ◌⊎◌, ◌↔◌, ℕ, ◌≤◌}
use Rattle.mesa_disk.specs.declared.area.Area.{Area}
use Rattle.mesa_disk.specs.Image.{Image}

-- What a read gives, where it is told, the lengths of the areas, the clock, what a crash now may leave, what a crash since a moment may have left, and the counts of faults and of read faults.
pub record Story : Type 1 where
  pub told : Option Image
  pub len : Area → ℕ
  pub moment : ℕ
  pub may_leave : Image → Type 0
  pub may_have_left : ℕ → Image → Type 0
  pub faults : ℕ
  pub read_faults : ℕ

-- What a read gives makes a step; it is told before exactly where it is told after.
pub record Steps (step : Image → Image → Type 0) (old new : Option Image) : Type 0 where
  pub on : (i : Image) → old ≡ Some i → (j : Image) × (new ≡ Some j) × step i j
  pub back : (j : Image) → new ≡ Some j → (i : Image) × (old ≡ Some i) × step i j

-- An image that an old one becomes by a step.
abbrev pub After : (Image → Image → Type 0) → (Image → Type 0) → Image → Type 0
After step old c = (d : Image) × old d × step d c

-- Each image that a crash may leave now is one that it might have left before, after a step.
abbrev pub Follows : (Image → Image → Type 0) → (Image → Type 0) → (Image → Type 0) → Type 0
Follows step old new = (c : Image) → new c → After step old c

-- Time goes on: a crash since a moment may have left what it may have left before, or an image that has P.
pub record Elapses (P : Image → Type 0) (old new : Story) : Type 0 where
  pub later : old.moment ≤ new.moment
  pub nothing_else : (t : ℕ) (c : Image) → t ≤ old.moment → new.may_have_left t c → old.may_have_left t c ⊎ P c
  pub keeps : (t : ℕ) (c : Image) → t ≤ old.moment → old.may_have_left t c → new.may_have_left t c

-- A run of calls, of which a crash at any moment leaves what one before might have left, or an image that has P; a crash now leaves one that has P.
pub record Spans (P : Image → Type 0) (old new : Story) : Type 0 where
  pub run : Elapses P old new
  pub left : (c : Image) → new.may_leave c → P c

-- A call that moves no image.
pub record Unmoved (old new : Story) : Type 0 where
  pub told : new.told ≡ old.told
  pub len : (a : Area) → new.len a ≡ old.len a
  pub moment : new.moment ≡ old.moment
  pub may_leave : (c : Image) → new.may_leave c ↔ old.may_leave c
  pub may_have_left : (t : ℕ) (c : Image) → new.may_have_left t c ↔ old.may_have_left t c
