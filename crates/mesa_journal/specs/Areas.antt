-- The journal of an image: which of its two areas is live, with what bodies, and what the other one holds.
use Rattle.std.specs.Prelude.{◌≡◌, ◌⊎◌, ℕ, ◌+◌, ◌<◌, ◌≤◌, List, [], ◌∷◌, length, Bool, false, ◌||◌, ◌==◌, if◌then◌else◌}
use Rattle.mesa_disk.specs.Image.{Image, area_of}
use Rattle.mesa_disk.specs.declared.area.Area.{Area}
use Rattle.mesa_disk.specs.declared.area.Area.TheVariants.{Zero, One}
use Rattle.mesa_journal.specs.Journal.{of_word, IsJournal, IsDamaged}

-- the other of the two areas
abbrev pub other_of : Area → Area
other_of Zero = One
other_of One = Zero

-- the kinds of a checkpoint's record, one for each edition
abbrev pub is_checkpoint : ℕ → Bool
is_checkpoint kind = (kind == 8) || (kind == 11) || (kind == 13) || (kind == 15)

-- The number of a checkpoint, in the four bytes behind its kind; 0 for another body. It is read whether or not the rest of the body spells a checkpoint: so one that doesn't still leads, and is told, where an older area would be opened in its place.
unfoldable pub number_in : List ℕ → ℕ
number_in (kind ∷ a ∷ b ∷ c ∷ d ∷ rest) = if is_checkpoint kind then of_word (a ∷ b ∷ c ∷ d ∷ []) else 0
number_in body = 0

-- the number of an area by its bodies: that of the first, and 0 without any
abbrev pub number_of : List (List ℕ) → ℕ
number_of [] = 0
number_of (body ∷ bodies) = number_in body

-- how an area ranks by its bodies: 0 without any, else one more than the number of the first
abbrev pub rank : List (List ℕ) → ℕ
rank [] = 0
rank (body ∷ bodies) = number_in body + 1

-- An area with these bodies is the live one beside one with those: its number is greater, no body counting as less than any number; for area 0 it is enough that it isn't less.
abbrev pub Leads : Area → List (List ℕ) → List (List ℕ) → Type 0
Leads Zero bodies others = rank others ≤ rank bodies
Leads One bodies others = rank others < rank bodies

-- Bytes of an area that is whole, and isn't the live one beside one with these bodies.
pub record IsBehind (live : Area) (bodies : List (List ℕ)) (other : List ℕ) : Type 0 where
  pub others : List (List ℕ)
  pub end : ℕ
  pub whole : IsJournal other others end
  pub leads : Leads live bodies others

-- JournalGrammar: neither area is damaged, and the live one has these bodies up to this end.
pub record HasJournal (image : Image) (live : Area) (bodies : List (List ℕ)) (end : ℕ) : Type 0 where
  pub whole : IsJournal (area_of live image) bodies end
  pub behind : IsBehind live bodies (area_of (other_of live) image)

-- An area without damage.
abbrev pub IsWhole : List ℕ → Type 0
IsWhole area = (bodies : List (List ℕ)) × (end : ℕ) × IsJournal area bodies end

-- Damage of either area is damage of the journal, that of area 0 first.
abbrev pub IsDamagedIn : Area → ℕ → ℕ → Image → Type 0
IsDamagedIn Zero at want image = IsDamaged image.zero at want
IsDamagedIn One at want image = IsWhole image.zero × IsDamaged image.one at want

-- whether an area that isn't damaged holds a body: it has more than one byte, and its first gate is open
abbrev pub holds_body : List ℕ → Bool
holds_body (gate ∷ next ∷ rest) = gate == 1
holds_body area = false

-- The first gate of an area may be closed: there is none yet, or it is open.
abbrev pub MayClose : List ℕ → Type 0
MayClose area = (length area ≤ 1) ⊎ ((rest : List ℕ) × (area ≡ 1 ∷ rest))

-- What an area becomes while its first gate is closed: one without a body, or as it was.
abbrev pub Closes : List ℕ → List ℕ → Type 0
Closes old new = IsJournal new [] 0 ⊎ (new ≡ old)
