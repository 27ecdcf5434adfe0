-- What reading the journal of both areas gives.
use Rattle.std.specs.Prelude.{◌≡◌, ℕ, ◌+◌, List, [], ◌∷◌, length, Option, Some, None, Result, Ok, Err}
use Rattle.mesa_disk.specs.Image.{Image, area_of}
use Rattle.mesa_disk.specs.declared.area.Area.{Area}
use Rattle.mesa_journal.specs.Journal.{IsJournal, IsDamaged}
use Rattle.mesa_journal.specs.Areas.{number_in, number_of, other_of, HasJournal, IsDamagedIn, holds_body}
use Rattle.mesa_journal.specs.Read.{bodies_of, placed_from}
use Rattle.mesa_journal.specs.declared.both.LiveJournal.{LiveJournal}
use Rattle.mesa_journal.specs.declared.reading.JournalError.{JournalError}
use Rattle.mesa_journal.specs.declared.reading.JournalError.TheVariants.{Fault, Damaged, Memory}

-- the number of an area's first body, if it has one
abbrev pub first_number : List (List ℕ) → Option ℕ
first_number [] = None
first_number (body ∷ bodies) = Some (number_in body)

-- how an area ranks by the number of its first body
abbrev pub rank_of : Option ℕ → ℕ
rank_of None = 0
rank_of (Some number) = number + 1

-- An area is whole, and its first body has this number, if it has one.
pub record IsScanned (area : List ℕ) (first : Option ℕ) : Type 0 where
  pub bodies : List (List ℕ)
  pub end : ℕ
  pub whole : IsJournal area bodies end
  pub is : first ≡ first_number bodies

-- An area isn't read: damage is told as it is.
abbrev pub IsUnread : List ℕ → JournalError → Type 0
IsUnread area (Damaged at want found) = IsDamaged area at want × (found ≡ length area)
IsUnread area Fault = Unit {0}
IsUnread area Memory = Unit {0}

-- An image has this journal.
pub record IsLiveJournal (image : Image) (x : LiveJournal) : Type 0 where
  pub journal : HasJournal image x.live (bodies_of x.read.bodies) x.read.end
  pub places : x.read.bodies ≡ placed_from 0 (bodies_of x.read.bodies)
  pub number : x.number ≡ number_of (bodies_of x.read.bodies)
  pub holds : x.holds ≡ holds_body (area_of (other_of x.live) image)

-- A journal isn't read: the damage of an area is told as it is.
abbrev pub IsUnreadIn : Image → Area → JournalError → Type 0
IsUnreadIn image area (Damaged at want found) = IsDamagedIn area at want image × (found ≡ length (area_of area image))
IsUnreadIn image area Fault = Unit {0}
IsUnreadIn image area Memory = Unit {0}

-- Reading gives the journal that an image has, or the damage of one of its areas.
abbrev pub FindsLive : Image → Result LiveJournal (Area × JournalError) → Type 0
FindsLive image (Ok x) = IsLiveJournal image x
FindsLive image (Err e) = IsUnreadIn image e.0 e.1
