-- What an image of a store shows: the bodies of its journal, and files that are there.
use Rattle.std.specs.Prelude.{◌≡◌, ℕ, List, map, Some}
use Rattle.std.specs.List.{AllByRecursion}
use Rattle.mesa_disk.specs.Image.{Image, area_of, file_of}
use Rattle.mesa_disk.specs.Story.{Story}
use Rattle.mesa_disk.specs.declared.area.Area.{Area}
use Rattle.mesa_journal.specs.Journal.{Closed}
use Rattle.mesa_journal.specs.Areas.{other_of, IsBehind}

-- the ids of files, each of which is given by its id and its bytes
abbrev pub ids_of : List (ℕ × List ℕ) → List ℕ
ids_of files = map (λ (w : ℕ × List ℕ). w.0) files

-- An image has files of these ids with these bytes.
abbrev pub Has : List (ℕ × List ℕ) → Image → Type 0
Has files image = AllByRecursion (λ (w : ℕ × List ℕ). file_of image w.0 ≡ Some w.1) files

-- An image's live area has these bodies, behind which the next gate is shut at this place, the other area is whole and isn't live, and these files are there.
pub record Shows (area : Area) (bodies : List (List ℕ)) (end : ℕ) (files : List (ℕ × List ℕ)) (image : Image) : Type 0 where
  pub journal : Closed (area_of area image) bodies end
  pub behind : IsBehind area bodies (area_of (other_of area) image)
  pub has : Has files image

-- What a read gives, and each image that a crash now may leave, has these bodies and these files.
pub record Stands (story : Story) (area : Area) (bodies : List (List ℕ)) (end : ℕ) (files : List (ℕ × List ℕ)) : Type 0 where
  pub read : (i : Image) → story.told ≡ Some i → Shows area bodies end files i
  pub left : (c : Image) → story.may_leave c → Shows area bodies end files c
