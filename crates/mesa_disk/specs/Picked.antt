-- One of the images that a crash may leave, by a pick: 0 leaves of each pending call nothing, 1 all of it, and 2 all of it with the byte 01 throughout what was written. A higher one leaves all but every other name: an odd pick loses what came of the files whose ids are odd, an even one of the others.
use Rattle.std.specs.Prelude.{ℕ, ◌+◌, ◌%◌, Bool, true, false, ◌&&◌, ◌||◌, ◌==◌, nat_lt, if◌then◌else◌, List, [], ◌∷◌, length, take, drop, replicate}
use Rattle.std.specs.Arc.{arc_value}
use Rattle.mesa_disk.specs.Image.{Image, area_of, with_area, with_file, without_file, overwritten}
use Rattle.mesa_disk.specs.Recorded.{seen_after}
use Rattle.mesa_disk.specs.declared.memory.calls.Done.{Done}
use Rattle.mesa_disk.specs.declared.memory.calls.Call.{Call}
use Rattle.mesa_disk.specs.declared.memory.calls.Call.TheVariants.{Write, Sync, Adopt, Remove}

-- what stands in the range of a write that has come to the disk
abbrev pub picked_bytes : ℕ → List ℕ → List ℕ
picked_bytes pick bytes = if pick == 2 then replicate (length bytes) 1 else bytes

-- whether the name of a file is as it was at the last sync
abbrev pub loses_name : ℕ → ℕ → Bool
loses_name pick id = (pick == 0) || (nat_lt 2 pick && (id % 2 == pick % 2))

-- what a crash leaves of a call that no sync has followed
abbrev pub picked_step : ℕ → Call → Image → Image
picked_step pick (Write area at bytes) left = if pick == 0 then left else with_area area (overwritten at (picked_bytes pick bytes) (area_of area left)) left
picked_step pick Sync left = left
picked_step pick (Adopt id bytes) left = if loses_name pick id then left else with_file id (arc_value bytes) left
picked_step pick (Remove id) left = if loses_name pick id then left else without_file id left

-- what a crash leaves of calls that no sync has followed
abbrev pub picked_after : ℕ → Image → List Done → Image
picked_after pick left [] = left
picked_after pick left (d ∷ ds) = picked_after pick (picked_step pick d.call left) ds

abbrev pub is_sync : Call → Bool
is_sync (Write area at bytes) = false
is_sync Sync = true
is_sync (Adopt id bytes) = false
is_sync (Remove id) = false

-- how many calls there are up to the last sync
abbrev pub synced : List Done → ℕ
synced [] = 0
synced (d ∷ ds) = if synced ds == 0 then (if is_sync d.call then 1 else 0) else synced ds + 1

-- the calls before a moment; their moments never fall
abbrev pub calls_before : ℕ → List Done → List Done
calls_before moment [] = []
calls_before moment (d ∷ ds) = if nat_lt d.before moment then d ∷ calls_before moment ds else []

-- what a crash leaves after these calls: what a read gave at the last sync, with what the pick leaves of the calls since
abbrev pub picked_image : ℕ → Image → List Done → Image
picked_image pick start calls = picked_after pick (seen_after start (take (synced calls) calls)) (drop (synced calls) calls)
