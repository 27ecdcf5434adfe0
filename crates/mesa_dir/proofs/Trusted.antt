-- No sync has failed in what is done while a folder is opened.
use Rattle.std.specs.Prelude.{◌≡◌, ℕ, true, List, Option, None, Some, refl}
use Rattle.std.proofs.Common.{ap, ◌∙◌}
use Rattle.std.specs.declared.io.ErrorKind.{ErrorKind}
use Rattle.mesa_os.specs.Calls.{Call, IsOpened, Locked, Measured, Read, Removed, Synced, WroteAt, is_named, is_trusted, no_sync_failed, with_call}
use Rattle.mesa_dir.specs.Opening.{DraftsRemoved, IsAreaLocked, IsSettled, NamesCleared, WrittenAgain, areas_opened, more, none, nothing, piece}
use Rattle.mesa_dir.specs.Paths.{within}

pub opened_trusted : (path : List ℕ) (told : Option (List Call)) → IsOpened path told → is_trusted told ≡ true
opened_trusted path None is = refl
opened_trusted path (Some calls) is = ap no_sync_failed is

with_synced : (told : Option (List Call)) → is_trusted (with_call (Synced true) told) ≡ is_trusted told
with_synced None = refl
with_synced (Some calls) = refl

with_locked : (told : Option (List Call)) → is_trusted (with_call (Locked true) told) ≡ is_trusted told
with_locked None = refl
with_locked (Some calls) = refl

with_measured : (count : ℕ) (told : Option (List Call)) → is_trusted (with_call (Measured count) told) ≡ is_trusted told
with_measured count None = refl
with_measured count (Some calls) = refl

with_removed : (path : List ℕ) (answer : Option ErrorKind) (told : Option (List Call)) → is_trusted (with_call (Removed path answer) told) ≡ is_trusted told
with_removed path answer None = refl
with_removed path answer (Some calls) = refl

with_piece : (at : ℕ) (bytes : List ℕ) (told : Option (List Call)) → is_trusted (with_call (WroteAt at bytes true) (with_call (Read at bytes true) told)) ≡ is_trusted told
with_piece at bytes None = refl
with_piece at bytes (Some calls) = refl

with_areas : (folder : List ℕ) (told : Option (List Call)) → is_trusted (areas_opened folder told) ≡ is_trusted told
with_areas folder None = refl
with_areas folder (Some calls) = refl

again_trusted : (first : Option (List Call)) (count : ℕ) (told : Option (List Call)) → WrittenAgain first count told → is_trusted told ≡ is_trusted first
again_trusted first count told nothing = refl
again_trusted first count told (piece at bytes before again) = with_piece at bytes before ∙ again_trusted first at before again

removed_trusted : (folder : List ℕ) (first told : Option (List Call)) → DraftsRemoved folder first told → is_trusted told ≡ is_trusted first
removed_trusted folder first told none = refl
removed_trusted folder first told (more name answer before is removed) = with_removed (within folder name) answer before ∙ removed_trusted folder first before removed

pub settled_trusted : (first : Option (List Call)) (len : ℕ) (told : Option (List Call)) → IsSettled first len told → is_trusted first ≡ true → is_trusted told ≡ true
settled_trusted first len told settled trusted =
    ap is_trusted settled.synced ∙ with_synced settled.before ∙ again_trusted (with_call (Measured len) first) len settled.before settled.again
    ∙ with_measured len first ∙ trusted

pub locked_trusted : (path : List ℕ) (told : Option (List Call)) → IsAreaLocked path told → is_trusted told ≡ true
locked_trusted path told locked = ap is_trusted locked.locked ∙ with_locked locked.opened ∙ opened_trusted path locked.opened locked.is_opened

pub cleared_trusted : (folder : List ℕ) (told : Option (List Call)) → NamesCleared folder told → is_trusted told ≡ true
cleared_trusted folder told cleared = removed_trusted folder (areas_opened folder cleared.opened) told cleared.removed
    ∙ with_areas folder cleared.opened ∙ opened_trusted folder cleared.opened cleared.is_opened

pub synced_trusted : (told : Option (List Call)) → is_trusted told ≡ true → is_trusted (with_call (Synced true) told) ≡ true
synced_trusted told trusted = with_synced told ∙ trusted

-- The names are on the device where they were synced just now.
pub synced_named : (told : Option (List Call)) → is_named (with_call (Synced true) told) ≡ true
synced_named None = refl
synced_named (Some calls) = refl
