-- The live area of a store that was read, and how one of its bodies is refused.
use Rattle.std.specs.Prelude.{◌≡◌, ◌⊎◌, ℕ, List, Some}
use Rattle.mesa_disk.specs.Image.{Image, area_of}
use Rattle.mesa_disk.specs.Story.{Story}
use Rattle.mesa_disk.specs.declared.area.Area.{Area}
use Rattle.mesa_journal.specs.Areas.{holds_body, number_of, other_of}
use Rattle.mesa_record.specs.Reading.{record_at}
use Rattle.mesa_store_spec.specs.Catalog.{Catalog}
use Rattle.mesa_recover.specs.declared.error.OpenError.{OpenError}
use Rattle.mesa_recover.specs.declared.error.OpenError.TheVariants as open_error
use Rattle.mesa_recover.specs.Damages.{misfit_of}
use Rattle.mesa_recover.specs.Misfits.{misfit_at}
use Rattle.mesa_recover.specs.Opening.{IsRead}
use Rattle.mesa_recover.specs.declared.opened.LiveArea.{LiveArea}

-- The live area of a store that reads as a catalogue: its number, its end, and whether the other one holds a body.
pub record HasLive (story : Story) (live : LiveArea) (c : Catalog) : Type 0 where
  pub bodies : List (List ℕ)
  pub reads : IsRead story live.area bodies live.end c
  pub numbered : live.number ≡ number_of bodies
  pub other : (i : Image) → story.told ≡ Some i → live.holds ≡ holds_body (area_of (other_of live.area) i)

-- A body, whose gate stands at a place, is refused behind a catalogue: it misfits, or memory ran out.
abbrev pub IsRefusedBehind : Area → Catalog → ℕ → List ℕ → OpenError → Type 0
IsRefusedBehind area c at body e = (e ≡ open_error.Memory) ⊎ ((offset : ℕ) × (misfit_of c (record_at body) ≡ Some offset) × (e ≡ misfit_at area at offset))
