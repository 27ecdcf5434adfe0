-- A journal that is stated anew in the other area.
use Rattle.std.specs.Prelude.{◌≡◌, ◌⊎◌, ℕ, ◌+◌, List, [], ◌∷◌, length, Some}
use Rattle.mesa_disk.specs.Image.{Image}
use Rattle.mesa_disk.specs.Story.{Story}
use Rattle.mesa_disk.specs.declared.area.Area.{Area}
use Rattle.mesa_journal.specs.Areas.{other_of, Leads}
use Rattle.mesa_commit.specs.Images.{Shows, Stands}

-- A body is to take the place of a journal, in the other area: what a read gives is all that a crash leaves, and the body's number is the greater one.
pub record TakesOver (story : Story) (live : Area) (bodies : List (List ℕ)) (end : ℕ) (files : List (ℕ × List ℕ)) (body : List ℕ) : Type 0 where
  pub stands : Stands story live bodies end files
  pub alone : (c : Image) → story.may_leave c → story.told ≡ Some c
  pub leads : Leads (other_of live) (body ∷ []) bodies

-- An image has the journal as it was, or the other area is live with this one body; the files are there.
abbrev pub OldOrRestated : Area → List (List ℕ) → ℕ → List (ℕ × List ℕ) → List ℕ → Image → Type 0
OldOrRestated live bodies end files body c = Shows live bodies end files c ⊎ Shows (other_of live) (body ∷ []) (length body + 5) files c
