-- The whole of a relation at the newest version, and why it isn't looked at.
use Rattle.std.specs.Prelude.{◌≡◌, ◌≢◌, ◌⊎◌, ℕ, ◌+◌, ◌<◌, List, [], is_some, IsTrue, Option, None, Some}
use Rattle.mesa_recover.specs.mesa_io.Causes.{Rose}
use Rattle.mesa_disk.specs.Story.{Story}
use Rattle.mesa_delta.specs.declared.error.FileError.TheVariants as file_error
use Rattle.mesa_pick_files.specs.mesa_columns.Columns.{Columns}
use Rattle.mesa_pick_files.specs.mesa_columns.declared.rows.Row.{Row}
use Rattle.mesa_filter.specs.Asked.{Asked, places_below}
use Rattle.mesa_pick_files.specs.mesa_model.Relations.{Relation, relation_columns, relation_content, relation_of}
use Rattle.mesa_pick_files.specs.mesa_model.Warehouse.{Store}
use Rattle.mesa_store_spec.specs.Catalog.{Catalog}
use Rattle.mesa_store_spec.specs.Contents.{Rows, kept_of}
use Rattle.mesa_recover.specs.Opening.{IsSoundStart}
use Rattle.mesa_pick_files.specs.Told.{TellContent}
use Rattle.mesa_validate.specs.mesa_history_spec.Rows.{no_rows}
use Rattle.mesa_open_files.specs.Pins.{IsPinned}
use Rattle.mesa_open_files.specs.declared.querying.Pinned.{Pinned}
use Rattle.mesa_store_digest.specs.declared.error.LookError.{LookError}
use Rattle.mesa_store_digest.specs.declared.error.LookError.TheVariants as look_error

-- the relation of a name in a catalogue, whatever rows its files have
abbrev pub relation_named : Catalog → List ℕ → Option Relation
relation_named c name = relation_of (kept_of no_rows c).store name

-- all key columns, all value columns, and no filter
abbrev pub all_asked : Columns → Asked
all_asked s = record { columns = places_below s.keys; values = places_below s.values; terms = [] }

-- A store has a relation of a name, with these columns and, at a version, this content.
pub record HasContent (s : Store) (name : List ℕ) (columns : Columns) (version : ℕ) (content : List Row) : Type 0 where
  pub relation : Relation
  pub named : relation_of s name ≡ Some relation
  pub columns_are : relation_columns relation ≡ columns
  pub content_is : relation_content relation version ≡ content

-- A pinned query is the whole of the relation of a name at the newest version: all rows of all its columns. From a sound start its files tell the relation's content at that version.
pub record IsLatest {R : Type 0} (bytes : R → Option (List ℕ)) (story : Story) (c : Catalog) (name : List ℕ) (p : Pinned R) : Type 0 where
  pub relation : Relation
  pub named : relation_named c name ≡ Some relation
  pub newest : c.next ≡ p.version + 1
  pub asked : p.query.asked ≡ all_asked (relation_columns relation)
  pub pinned : IsPinned bytes (relation_columns relation) p
  pub told : (rows : Rows) → IsSoundStart story c rows → (content : List Row) × HasContent (kept_of rows c).store name (relation_columns relation) p.version content × TellContent bytes (relation_columns relation) p content

-- A relation of the name is there, and so is a version.
pub record CanBeLookedAt (c : Catalog) (name : List ℕ) : Type 0 where
  pub relation : IsTrue (is_some (relation_named c name))
  pub version : 0 < c.next

-- Why it isn't looked at: no relation has the name, or else there is no version; a count of the disk's faults rose; a file or a sum isn't what it should be, which comes from no sound start; or want of memory. So the first two come exactly where they apply.
abbrev pub HasLookReason : Story → Story → Catalog → List ℕ → LookError → Type 0
HasLookReason old new c name look_error.NoTable = relation_named c name ≡ None
HasLookReason old new c name look_error.NoVersion = IsTrue (is_some (relation_named c name)) × (c.next ≡ 0)
HasLookReason old new c name (look_error.File file_error.Read) = CanBeLookedAt c name × (Rose old.faults new.faults ⊎ Rose old.read_faults new.read_faults)
HasLookReason old new c name (look_error.File (file_error.Damaged d)) = CanBeLookedAt c name × (d.want ≢ d.found) × ((rows : Rows) → IsSoundStart old c rows → ⊥)
HasLookReason old new c name (look_error.File file_error.Memory) = ⊥
HasLookReason old new c name look_error.Memory = CanBeLookedAt c name
