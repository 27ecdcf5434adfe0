-- What the device work of a turn does to images.
use Rattle.std.specs.Prelude.{◌≡◌, ◌⊎◌, ℕ, ◌+◌, List, [], ◌∷◌, ◌++◌, map, length, Option, None, Some}
use Rattle.std.specs.List.{AllByRecursion}
use Rattle.mesa_disk.specs.Image.{Image, file_of}
use Rattle.mesa_disk.specs.Files.{HasOtherIds, IsNoneOf}
use Rattle.mesa_disk.specs.Story.{Story}
use Rattle.mesa_disk.specs.declared.area.Area.{Area}
use Rattle.mesa_commit.specs.Images.{ids_of, Has, Shows, Stands}

-- files whose bytes are told
abbrev pub told_files : List (ℕ × List ℕ) → List (ℕ × Option (List ℕ))
told_files files = map (λ (w : ℕ × List ℕ). (w.0, Some w.1)) files

-- None of these ids is one of those.
abbrev pub AreApart : List ℕ → List ℕ → Type 0
AreApart ids others = AllByRecursion (IsNoneOf ids) others

-- A turn brings files and a body: these files are there before it, and none of them is brought; those after it are there once the brought ones are added; and none of those is dropped.
pub record Brings (story : Story) (area : Area) (bodies : List (List ℕ)) (end : ℕ) (before brought after : List (ℕ × List ℕ)) (dropped : List ℕ) : Type 0 where
  pub stands : Stands story area bodies end before
  pub apart : AreApart (ids_of brought) (ids_of before)
  pub there : (c : Image) → Has brought c → Has before c → Has after c
  pub gone : AreApart dropped (ids_of after)

-- An image is as before the turn, or as after it with one body more.
abbrev pub OldOrNew : Area → List (List ℕ) → ℕ → List (ℕ × List ℕ) → List ℕ → List (ℕ × List ℕ) → Image → Type 0
OldOrNew area bodies end before body after c = Shows area bodies end before c ⊎ Shows area (bodies ++ body ∷ []) (end + length body + 5) after c

-- Each file but those made and those dropped is as it was, and of those that aren't made none came.
pub record MovesOnly (made : List (ℕ × Option (List ℕ))) (dropped : List ℕ) (old new : Image) : Type 0 where
  pub others : (id : ℕ) → HasOtherIds id made → IsNoneOf dropped id → file_of new id ≡ file_of old id
  pub none_new : (id : ℕ) → HasOtherIds id made → file_of old id ≡ None → file_of new id ≡ None

-- the ids of files that are made
abbrev pub made_ids : List (ℕ × Option (List ℕ)) → List ℕ
made_ids made = map (λ (file : ℕ × Option (List ℕ)). file.0) made
