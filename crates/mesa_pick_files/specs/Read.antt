-- The files by which a relation is read, opened for a query.
use Rattle.std.specs.Prelude.{◌≡◌, ◌⊎◌, ℕ, List, [], ◌∷◌, map, flat_map, true, Option, None, Some, slice_get}
use Rattle.mesa_disk.specs.Image.{Image}
use Rattle.mesa_schema.specs.Changes.{Lineage, columns_at}
use Rattle.mesa_validate.specs.mesa_columns.declared.views.View.{View}
use Rattle.mesa_validate.specs.mesa_store_spec.Catalog.{Delta, TableMeta}
use Rattle.mesa_validate.specs.mesa_store_spec.Planned.{planned}
use Rattle.mesa_pick_files.specs.Files.{Seen, Want, own_in, own_lineage, table_wanted, view_wanted, want_in, want_of}
use Rattle.mesa_query.specs.mesa_group_blocks.Moved.{inputs_in}
use Rattle.mesa_query.specs.Files.{owns_in}
use Rattle.mesa_validate.specs.declared.found.Found.{Found}
use Rattle.mesa_open_files.specs.Opening.{HaveOpened, IsUnsound}
use Rattle.mesa_open_files.specs.declared.opening.Wanted.{Wanted}
use Rattle.mesa_open_files.specs.declared.querying.Pinned.{Pinned}
use Rattle.mesa_open_files.specs.declared.querying.PinnedInput.{PinnedInput}

-- a file that is the relation's own
abbrev pub own_file : Want → Seen
own_file w = record { want = w; own = true }

abbrev pub view_read : Lineage → ℕ → List Delta → Option View → List Seen
view_read l number deltas None = []
view_read l number deltas (Some v) = flat_map (view_wanted l (own_lineage l v) number) deltas

-- The files of deltas by which a table is read, its own, or the view of a number: the view's own, or else the table's.
abbrev pub relation_read : Lineage → Option ℕ → List Delta → List Seen
relation_read l None deltas = map own_file (flat_map (table_wanted l) deltas)
relation_read l (Some number) deltas = view_read l number deltas (slice_get l.views number)

-- One of these files isn't the recorded one: what a read gives of it is no file of its reference.
abbrev pub SomeUnsound : Option Image → List Want → Type 0
SomeUnsound told [] = ⊥
SomeUnsound told (w ∷ ws) = IsUnsound told (columns_at w.lineage w.epoch) w.file ⊎ SomeUnsound told ws

-- All of these files were opened, in order, each with whether it is the relation's own.
pub record HaveFiles {R : Type 0} (bytes : R → Option (List ℕ)) (faults : R → ℕ) (told : Option Image) (seen : List Seen) (files : List (PinnedInput R)) : Type 0 where
  pub wanted : List Wanted
  pub are : map want_of wanted ≡ map want_in seen
  pub own : owns_in files ≡ map own_in seen
  pub opened : HaveOpened bytes faults told wanted (inputs_in files) None

-- A query of a relation of a table has the files of the plan at its version.
pub record IsPinnedFor {R : Type 0} (bytes : R → Option (List ℕ)) (faults : R → ℕ) (told : Option Image) (t : TableMeta) (f : Found) (p : Pinned R) : Type 0 where
  pub query : p.query ≡ f.query
  pub version : p.version ≡ f.query.version
  pub view : p.view ≡ f.relation.view
  pub files : HaveFiles bytes faults told (relation_read t.lineage f.relation.view (planned t f.query.version)) p.inputs.items
