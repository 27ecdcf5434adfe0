-- What is known of a folder and its areas.
use Rattle.std.specs.Prelude.{List, Option}
use Rattle.mesa_dir.specs.Asked.{Asked, asked}
use Rattle.mesa_os.specs.Calls.{Call}
use Rattle.mesa_os.specs.declared.system.System.{Ghosts}
use Rattle.mesa_dir.specs.declared.area_file.AreaFile.{AreaFile}
use Rattle.mesa_dir.specs.declared.folder.Folder.{Folder}

-- the calls on an area's file
abbrev pub area_calls : {S H C : Type 0} {G : Ghosts S H C} → AreaFile S H C G → Option (List Call)
area_calls {G = ghosts} a = ghosts.calls a.file

-- the calls of an open folder
abbrev pub folder_asked : {S H C : Type 0} {G : Ghosts S H C} → Folder S H C G → Asked
folder_asked {G = ghosts} f = asked (ghosts.closed_calls f.above) (ghosts.calls f.opened.folder) (area_calls f.zero) (area_calls f.one)
