-- The catalogue of a journal.
use Rattle.std.specs.Prelude.{ℕ, List, [], ◌∷◌, Bool, true, false, Option, Some, None, Result, Ok, Err}
use Rattle.mesa_commit.specs.mesa_disk.declared.area.Area.{Area}
use Rattle.mesa_commit.specs.mesa_disk.declared.area.Area.TheVariants.{Zero, One}
use Rattle.mesa_record.specs.declared.checkpoint.Checkpoint.{Checkpoint}
use Rattle.mesa_record.specs.declared.record.Record.{Record}
use Rattle.mesa_record.specs.declared.record.Record.TheVariants as record_of
use Rattle.mesa_record.specs.mesa_record_fields.declared.error.RecordError.{RecordError}
use Rattle.mesa_record.specs.Reading.{record_at}
use Rattle.mesa_store_spec.specs.Checkpoint.{stated}
use Rattle.mesa_store_spec.specs.CheckpointFits.{checkpoint_fits}
use Rattle.mesa_store_spec.specs.Catalog.{Catalog, empty_catalog}
use Rattle.mesa_store_spec.specs.Fitting.{applied_if, fits, then_bodies, catalog_from}

-- An area that is live without a body makes the empty catalogue; that is area 0 alone.
abbrev pub without_bodies : Area → Option Catalog
without_bodies Zero = Some empty_catalog
without_bodies One = None

-- what a checkpoint states, if it fits
abbrev pub stated_if : Checkpoint → Bool → Option Catalog
stated_if k true = Some (stated k)
stated_if k false = None

-- the checkpoint that a record is
abbrev pub checkpoint_in : Record → Option Checkpoint
checkpoint_in (record_of.Checkpoint k) = Some k
checkpoint_in r = None

-- what an area's first record makes: a checkpoint that fits states its catalogue; a record of another kind is first in area 0 alone
abbrev pub first_by : Area → Record → Option Checkpoint → Option Catalog
first_by area r (Some k) = stated_if k (checkpoint_fits area k)
first_by Zero r None = applied_if empty_catalog r (fits empty_catalog r)
first_by One r None = None

abbrev pub first_record : Area → Record → Option Catalog
first_record area r = first_by area r (checkpoint_in r)

-- the same of what a body spells, if that is a record
abbrev pub first_read : Area → Result Record RecordError → Option Catalog
first_read area (Ok r) = first_record area r
first_read area (Err e) = None

abbrev pub first_body : Area → List ℕ → Option Catalog
first_body area body = first_read area (record_at body)

-- Catalogue: what the records of an area's bodies make: the first one states a catalogue or fits the empty one, and each other body spells a record that fits what stands before it.
abbrev pub catalog : Area → List (List ℕ) → Option Catalog
catalog area [] = without_bodies area
catalog area (body ∷ bodies) = then_bodies (first_body area body) (λ c. catalog_from c bodies)
