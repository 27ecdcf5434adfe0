-- Which refusal a body of the journal gives.
use Rattle.std.specs.Prelude.{◌≡◌, ◌⊎◌, ℕ, List}
use Rattle.mesa_store_spec.specs.mesa_file.declared.damage.Seen.TheVariants as seen
use Rattle.mesa_store_spec.specs.mesa_record_fields.declared.error.RecordError.{RecordError}
use Rattle.mesa_store_spec.specs.mesa_record_fields.declared.error.RecordError.TheVariants as fault
use Rattle.mesa_journal.specs.declared.reading.JournalError.{JournalError}
use Rattle.mesa_journal.specs.declared.reading.JournalError.TheVariants as journal
use Rattle.mesa_recover.specs.declared.error.OpenError.{OpenError}
use Rattle.mesa_recover.specs.declared.error.OpenError.TheVariants as open_error
use Rattle.mesa_recover.specs.Damages.{IsFirstMisfit, MisfitsBehind, code_of}
use Rattle.mesa_disk.specs.declared.area.Area.{Area}

-- the refusal of a body with this first wrong offset, whose gate stands at a place
abbrev pub misfit_at : Area → ℕ → ℕ → OpenError
misfit_at area at offset = open_error.Journal (code_of area) at seen.Fits (seen.Misfit offset)

abbrev pub refusal_of : Area → ℕ → RecordError → OpenError
refusal_of area at (fault.Truncated place) = misfit_at area at place
refusal_of area at (fault.BadKind place) = misfit_at area at place
refusal_of area at (fault.BadField place) = misfit_at area at place
refusal_of area at (fault.Trailing place) = misfit_at area at place
refusal_of area at fault.Memory = open_error.Memory

-- A body, whose gate stands at a place, is refused behind these: it misfits, or memory ran out.
abbrev pub IsMisfitAt : Area → List (List ℕ) → ℕ → List ℕ → OpenError → Type 0
IsMisfitAt area before at body e = (e ≡ open_error.Memory) ⊎ ((offset : ℕ) × MisfitsBehind area before body offset × (e ≡ misfit_at area at offset))

-- One of these bodies is refused: it is the first that misfits, or memory ran out.
abbrev pub IsMisfitIn : Area → List (List ℕ) → OpenError → Type 0
IsMisfitIn area bodies e = (e ≡ open_error.Memory) ⊎ ((at : ℕ) × (offset : ℕ) × IsFirstMisfit area bodies at offset × (e ≡ misfit_at area at offset))

-- the refusal of an area that isn't read
abbrev pub journal_refusal : Area → JournalError → OpenError
journal_refusal area journal.Fault = open_error.Fault
journal_refusal area (journal.Damaged at want found) = open_error.Journal (code_of area) at (seen.Length want) (seen.Length found)
journal_refusal area journal.Memory = open_error.Memory

-- The refusal is of a body that misfits, or memory ran out.
abbrev pub IsOfRecords : Area → OpenError → Type 0
IsOfRecords area e = (e ≡ open_error.Memory) ⊎ ((at : ℕ) × (offset : ℕ) × (e ≡ misfit_at area at offset))
