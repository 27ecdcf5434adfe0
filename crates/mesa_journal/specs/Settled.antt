-- What a journal on a disk stands for, over each image that a crash may leave.
use Rattle.std.specs.Prelude.{◌≡◌, ◌⊎◌, ℕ, ◌+◌, List, [], ◌∷◌, ◌++◌, length, Some}
use Rattle.mesa_disk.specs.Image.{Image, area_of, InArea}
use Rattle.mesa_disk.specs.Story.{Story, After}
use Rattle.mesa_disk.specs.declared.area.Area.{Area}
use Rattle.mesa_journal.specs.Journal.{Closed}

-- What a read gives, and each image that a crash now may leave, has these bodies and this end.
pub record IsSettled (story : Story) (area : Area) (bodies : List (List ℕ)) (end : ℕ) : Type 0 where
  pub read : (i : Image) → story.told ≡ Some i → Closed (area_of area i) bodies end
  pub left : (c : Image) → story.may_leave c → Closed (area_of area c) bodies end

-- An area has the bodies, with one more or without it.
abbrev pub WithOrWithout : List (List ℕ) → ℕ → List ℕ → List ℕ → Type 0
WithOrWithout bodies end body area = Closed area bodies end ⊎ Closed area (bodies ++ body ∷ []) (end + length body + 5)

-- An image from the start, whose area has the bodies; or what a read gave at the start, whose area has them with one more or without it. So where one more is, all else is what a read gave: its gate is opened behind a sync.
abbrev pub IsWithinAppend : Story → Area → List (List ℕ) → ℕ → List ℕ → Image → Type 0
IsWithinAppend start area bodies end body c =
    After (InArea area (λ old new. Closed new bodies end)) start.may_leave c
    ⊎ After (InArea area (λ old new. WithOrWithout bodies end body new)) (λ i. start.told ≡ Some i) c
