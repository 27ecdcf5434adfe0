-- A pinned query that is the same, however much of its files was read.
use Rattle.std.specs.Prelude.{◌≡◌, ℕ, List, map, Option}
use Rattle.std.specs.List.{AllByRecursion}
use Rattle.mesa_group_blocks.specs.mesa_columns.Columns.{Columns}
use Rattle.mesa_group_blocks.specs.Moved.{inputs_in}
use Rattle.mesa_query.specs.Files.{owns_in}
use Rattle.mesa_group_blocks.specs.mesa_merge.Inputs.{knowns_of}
use Rattle.mesa_group_blocks.specs.mesa_scan.Cursors.{IsInput, reader_in}
use Rattle.mesa_group_blocks.specs.mesa_open_files.Pins.{IsPinned}
use Rattle.mesa_group_blocks.specs.mesa_open_files.declared.querying.Pinned.{Pinned}
use Rattle.mesa_group_blocks.specs.mesa_open_files.declared.querying.PinnedInput.{PinnedInput}

-- the readers of a query's files
abbrev pub readers_in : {R : Type 0} → List (PinnedInput R) → List R
readers_in files = map (λ file. reader_in file.input) files

-- each of them can be read
abbrev pub AreReadable : {R : Type 0} → (R → Option (List ℕ)) → List (PinnedInput R) → Type 0
AreReadable bytes files = AllByRecursion (λ file. IsInput bytes file.input) files

-- They are the same files with the same readers, in the same order.
pub record AreSameFiles {R : Type 0} (bytes : R → Option (List ℕ)) (old new : List (PinnedInput R)) : Type 0 where
  pub readers : readers_in new ≡ readers_in old
  pub known : knowns_of bytes (inputs_in new) ≡ knowns_of bytes (inputs_in old)
  pub own : owns_in new ≡ owns_in old

-- It is the same query over the same files, which can be read still.
pub record IsSamePin {R : Type 0} (bytes : R → Option (List ℕ)) (old new : Pinned R) : Type 0 where
  pub rest : new ≡ record old { inputs = new.inputs }
  pub files : AreSameFiles bytes old.inputs.items new.inputs.items
  pub pinned : (s : Columns) → IsPinned bytes s old → IsPinned bytes s new
