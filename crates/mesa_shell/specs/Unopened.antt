-- What an opening leaves of a store that it doesn't open.
use Rattle.std.specs.Prelude.{◌≡◌, ◌≢◌, ◌<◌, Some}
use Rattle.mesa_io.specs.Causes.{last}
use Rattle.mesa_disk.specs.Image.{Image}
use Rattle.mesa_disk.specs.Story.{Story, Unmoved}
use Rattle.mesa_session.specs.mesa_history_spec.Rows.{Rows}
use Rattle.mesa_engine.specs.mesa_store_spec.Catalog.{Catalog}
use Rattle.mesa_recover.specs.declared.error.OpenError.{OpenError}
use Rattle.mesa_recover.specs.declared.error.OpenError.TheVariants as open_error
use Rattle.mesa_recover.specs.Opening.{HasReason, IsSoundStart, Keeps}

-- Both counts of the disk's faults stay.
abbrev pub HasSameCounts : Story → Story → Type 0
HasSameCounts old new = (new.faults ≡ old.faults) × (new.read_faults ≡ old.read_faults)

-- From a sound start a read gives an image still, while the clock is below its last value.
abbrev pub IsStillRead : Story → Story → Type 0
IsStillRead old new = (c : Catalog) (rows : Rows) → IsSoundStart old c rows → new.moment < last → (i : Image) × (new.told ≡ Some i)

-- From a sound start the store stands for what it stood for, whatever crash comes, and is read still.
abbrev pub StaysSound : Story → Story → Type 0
StaysSound old new = Keeps old new × IsStillRead old new

-- A store isn't opened, for a reason, and keeps what it had. No count of the disk's faults rose, but for a fault; and no image moved, but for a fault or for want of memory, which may come once the record of a run is written.
pub record IsUnopened (old new : Story) (e : OpenError) : Type 0 where
  pub reason : HasReason old new e
  pub keeps : StaysSound old new
  pub quiet : e ≢ open_error.Fault → HasSameCounts old new
  pub unmoved : e ≢ open_error.Fault → e ≢ open_error.Memory → Unmoved old new

-- A store isn't read, for a reason, and no image moved. No count of the disk's faults rose, but for a fault.
pub record IsUnread (old new : Story) (e : OpenError) : Type 0 where
  pub reason : HasReason old new e
  pub quiet : e ≢ open_error.Fault → HasSameCounts old new
  pub unmoved : Unmoved old new
