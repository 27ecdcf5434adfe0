-- What is known of a disk in memory.
use Rattle.std.specs.Prelude.{◌≡◌, ℕ, ◌+◌, min, List, ◌∷◌, [], ◌++◌, length, Option, Some, Result, IsErr, OnErr}
use Rattle.std.specs.List.{Contains}
use Rattle.mesa_io.specs.Causes.{last}
use Rattle.mesa_disk.specs.Image.{Image, area_of}
use Rattle.mesa_disk.specs.Story.{Story}
use Rattle.mesa_disk.specs.Recorded.{start_image, now_image, seen_step, MayLeave, MayHaveLeft}
use Rattle.mesa_disk.specs.Picked.{picked_image, calls_before}
use Rattle.mesa_disk.specs.declared.memory.calls.Done.{Done}
use Rattle.mesa_disk.specs.declared.memory.calls.CallLog.{CallLog}
use Rattle.mesa_disk.specs.declared.memory.disk.MemDisk.{MemDisk}

-- what it was made from
abbrev pub start_of : CallLog → Image
start_of log = start_image log.start

-- what a read gives
abbrev pub seen_of : CallLog → Image
seen_of log = now_image log.start log.held

-- One call more is noted, and done to what a read gives.
pub record Notes (d : Done) (old new : CallLog) : Type 0 where
  pub calls : new.calls.items ≡ old.calls.items ++ d ∷ []
  pub start : start_of new ≡ start_of old
  pub seen : seen_of new ≡ seen_step d.call (seen_of old)

-- No call more.
pub record Keeps (old new : CallLog) : Type 0 where
  pub calls : new.calls.items ≡ old.calls.items
  pub start : start_of new ≡ start_of old
  pub seen : seen_of new ≡ seen_of old

-- a disk in memory tells all
abbrev pub story_of : MemDisk → Story
story_of d = record {
  told = Some (seen_of d.log);
  len = λ a. length (area_of a (seen_of d.log));
  moment = d.clock;
  may_leave = MayLeave (start_of d.log) d.log.calls.items;
  may_have_left = MayHaveLeft (start_of d.log) d.log.calls.items;
  faults = d.faults;
  read_faults = d.read_faults;
}

-- the numbers of the calls that fail, of those that can
abbrev pub failing_calls : MemDisk → List ℕ
failing_calls d = d.fails.items

-- how many of the calls that can fail were made
abbrev pub calls_made : MemDisk → ℕ
calls_made d = d.counted

-- the file of which the next reader has a read that fails, and the number of that read
abbrev pub spoiled_read : MemDisk → Option (ℕ × ℕ)
spoiled_read d = d.spoiled

-- The next call that can fail is one of those that fail.
abbrev pub IsDue : MemDisk → Type 0
IsDue d = Contains (failing_calls d) (calls_made d)

-- A call that can fail is counted. One that is to fail does, and one that fails changes no area and no file.
pub record FailsIfDue {T E : Type 0} (old new : MemDisk) (result : Result T E) : Type 0 where
  pub fails : IsDue old → IsErr result
  pub still : OnErr result (Keeps old.log new.log)
  pub counted : calls_made new ≡ min (calls_made old + 1) last
  pub same : failing_calls new ≡ failing_calls old

-- What is to fail is the same as before.
pub record KeepsFailures (old new : MemDisk) : Type 0 where
  pub fails : failing_calls new ≡ failing_calls old
  pub counted : calls_made new ≡ calls_made old
  pub spoiled : spoiled_read new ≡ spoiled_read old

-- one image that a crash at a moment may have left, by the pick
abbrev pub image_at : MemDisk → ℕ → ℕ → Image
image_at d moment pick = picked_image pick (start_of d.log) (calls_before moment d.log.calls.items)
