-- What is recorded of files.
use Rattle.std.specs.Prelude.{ℕ, ◌+◌, ◌≤◌, List, [], ◌∷◌, map, IsPermutation, ⊤}
use Rattle.std.specs.declared.alloc.Global.{Global}
use Rattle.std.specs.declared.sync.Arc.{Arc}
use Rattle.mesa_schema.specs.Changes.{Lineage}
use Rattle.mesa_record.specs.declared.record.ViewRef.{ViewRef}
use Rattle.mesa_store_spec.specs.Catalog.{Catalog, Delta}
use Rattle.mesa_store_spec.specs.Fitting.{LiveFile, delta_live, live_files, view_live}
use Rattle.mesa_store_spec.specs.Sound.{layout_of}
use Rattle.mesa_store_spec.specs.mesa_delta_format.Indexed.{tail_place}
use Rattle.mesa_catalog_table.specs.declared.recorded.Recorded.{Recorded}
use Rattle.mesa_catalog_table.specs.declared.table.Loaded.{Loaded}

-- each number is greater than the one before, and the first is at least this one
abbrev pub RiseFrom : ℕ → List ℕ → Type 0
RiseFrom least [] = ⊤
RiseFrom least (n ∷ ns) = (least ≤ n) × RiseFrom (n + 1) ns

-- what is recorded of a file
abbrev pub recorded_of : LiveFile → Recorded
recorded_of x = record { id = x.file.id; len = x.file.len; tail = tail_place (layout_of x) x.file; digest = x.file.digest }

abbrev pub recorded_id : Recorded → ℕ
recorded_id r = r.id

-- what is recorded of the files of a delta that is held, of one that a version brought, and of a view's file
abbrev pub recorded_shared : Lineage → Arc Delta Global → List Recorded
recorded_shared l d = map recorded_of (delta_live l d.value)

abbrev pub recorded_single : Lineage → Loaded → List Recorded
recorded_single l single = map recorded_of (delta_live l single.delta.value)

abbrev pub recorded_view : Lineage → ViewRef → Recorded
recorded_view l v = recorded_of (view_live l v)

-- What is recorded of each file that a catalogue names, by rising ids.
pub record AreRecorded (c : Catalog) (files : List Recorded) : Type 0 where
  pub rising : RiseFrom 0 (map recorded_id files)
  pub same : IsPermutation (map recorded_of (live_files c)) files
