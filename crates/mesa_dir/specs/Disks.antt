-- What is known of a disk over a folder.
use Rattle.std.specs.Prelude.{ℕ, List, Option, None, Some, string_bytes}
use Rattle.mesa_disk.specs.Story.{Story}
use Rattle.mesa_disk.specs.Untold.{untold_story}
use Rattle.mesa_dir.specs.Asked.{Asked, unasked}
use Rattle.mesa_dir.specs.Folders.{folder_asked}
use Rattle.mesa_os.specs.declared.system.System.{Ghosts}
use Rattle.mesa_dir.specs.declared.folder.Folder.{Folder}
use Rattle.mesa_dir.specs.declared.store.Store.{Store}
use Rattle.mesa_dir.specs.declared.disk.DirDisk.{DirDisk}

-- the calls of a folder that is open, and none where it isn't
abbrev pub maybe_asked : {S H C : Type 0} {G : Ghosts S H C} → Option (Folder S H C G) → Asked
maybe_asked None = unasked
maybe_asked (Some folder) = folder_asked folder

abbrev pub store_asked : {S H C : Type 0} {G : Ghosts S H C} → Store S H C G → Asked
store_asked s = maybe_asked s.folder

-- the path of a store's folder
abbrev pub store_path : {S H C : Type 0} {G : Ghosts S H C} → Store S H C G → List ℕ
store_path s = string_bytes s.path

-- the calls of a disk's folder: on its names, and on its areas
abbrev pub disk_asked : {S H C : Type 0} {G : Ghosts S H C} → DirDisk S H C G → Asked
disk_asked d = store_asked d.store

-- the path of a disk's folder
abbrev pub disk_path : {S H C : Type 0} {G : Ghosts S H C} → DirDisk S H C G → List ℕ
disk_path d = store_path d.store

-- a disk over a folder tells lengths, its clock and its counts
abbrev pub story_of : {S H C : Type 0} {G : Ghosts S H C} → DirDisk S H C G → Story
story_of d = untold_story d.zero_len d.one_len d.clock d.faults d.read_faults
