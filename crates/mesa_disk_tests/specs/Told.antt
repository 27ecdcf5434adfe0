-- What recorded calls tell.
use Rattle.std.specs.Prelude.{List, map, string_bytes}
use Rattle.mesa_dir.specs.mesa_os.Calls.{Call, Created, Locked, MadeFolder, Measured, Opened, OpenedWithin, Read, Removed, Renamed, Synced, SyncedBytes, Wrote, WroteAt}
use Rattle.mesa_disk_tests.specs.declared.told.Told.{Told}
use Rattle.mesa_disk_tests.specs.declared.told.Told.TheVariants as told

-- the call that was recorded
abbrev pub call_of : Told → Call
call_of (told.Opened path) = Opened (string_bytes path)
call_of (told.Created path) = Created (string_bytes path)
call_of (told.OpenedWithin path ok) = OpenedWithin (string_bytes path) ok
call_of (told.MadeFolder path answer) = MadeFolder (string_bytes path) answer
call_of (told.Locked ok) = Locked ok
call_of (told.Measured count) = Measured count
call_of (told.Read at bytes ok) = Read at bytes.items ok
call_of (told.Wrote bytes ok) = Wrote bytes.items ok
call_of (told.WroteAt at bytes ok) = WroteAt at bytes.items ok
call_of (told.Synced ok) = Synced ok
call_of (told.SyncedBytes ok) = SyncedBytes ok
call_of (told.Renamed from to ok) = Renamed (string_bytes from) (string_bytes to) ok
call_of (told.Removed path answer) = Removed (string_bytes path) answer

-- the calls that were recorded, the newest first
abbrev pub calls_of : List Told → List Call
calls_of all = map call_of all
