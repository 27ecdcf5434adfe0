-- What reading an area gives.
use Rattle.std.specs.Prelude.{◌≡◌, ℕ, ◌+◌, ◌<◌, List, [], ◌∷◌, map, length, Result, Ok, Err}
use Rattle.mesa_journal.specs.Journal.{IsJournal, IsDamaged}
use Rattle.mesa_journal.specs.declared.reading.Body.{Body}
use Rattle.mesa_journal.specs.declared.reading.JournalRead.{JournalRead}
use Rattle.mesa_journal.specs.declared.reading.JournalError.{JournalError}
use Rattle.mesa_journal.specs.declared.reading.JournalError.TheVariants.{Fault, Damaged, Memory}

-- bodies without their places
abbrev pub bodies_of : List Body → List (List ℕ)
bodies_of bodies = map (λ b. b.bytes) bodies

-- bodies with the places of their gates, the first of which is this
abbrev pub placed_from : ℕ → List (List ℕ) → List Body
placed_from at [] = []
placed_from at (body ∷ bodies) = record { at = at; bytes = body } ∷ placed_from (at + length body + 5) bodies

-- Reading gives the bodies with their places, and the end; or the place of damage, the length needed and the length there.
abbrev pub Finds : List ℕ → Result JournalRead JournalError → Type 0
Finds area (Ok read) = IsJournal area (bodies_of read.bodies) read.end × (read.bodies ≡ placed_from 0 (bodies_of read.bodies))
Finds area (Err (Damaged at want found)) = IsDamaged area at want × (found ≡ length area)
Finds area (Err Fault) = Unit {0}
Finds area (Err Memory) = Unit {0}

-- Reading gives these bodies and this end, or nothing for another cause than damage.
abbrev pub Agrees : List (List ℕ) → ℕ → Result JournalRead JournalError → Type 0
Agrees bodies end (Ok read) = (read.bodies ≡ placed_from 0 bodies) × (read.end ≡ end)
Agrees bodies end (Err (Damaged at want found)) = ⊥
Agrees bodies end (Err Fault) = Unit {0}
Agrees bodies end (Err Memory) = Unit {0}

-- Reading gives this damage, or nothing for another cause.
abbrev pub AgreesOnDamage : List ℕ → ℕ → ℕ → Result JournalRead JournalError → Type 0
AgreesOnDamage area at want (Ok read) = ⊥
AgreesOnDamage area at want (Err (Damaged a w found)) = (a ≡ at) × (w ≡ want) × (found ≡ length area)
AgreesOnDamage area at want (Err Fault) = Unit {0}
AgreesOnDamage area at want (Err Memory) = Unit {0}

-- Damage is that the area has fewer bytes than are needed.
abbrev pub IsShort : JournalError → Type 0
IsShort (Damaged at want found) = found < want
IsShort Fault = Unit {0}
IsShort Memory = Unit {0}
