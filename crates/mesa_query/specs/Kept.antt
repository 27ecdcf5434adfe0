-- What is kept of a pinned query whose files are read through caches.
use Rattle.std.specs.Prelude.{◌≡◌, ◌≤◌, ℕ, List, Option, Vec, vec_len, vec_capacity}
use Rattle.std.specs.declared.alloc.Global.{Global}
use Rattle.mesa_cache.specs.Reading.{Reading}
use Rattle.mesa_group_blocks.specs.mesa_columns.Columns.{Columns}
use Rattle.mesa_group_blocks.specs.mesa_open_files.Pins.{IsPinned}
use Rattle.mesa_group_blocks.specs.mesa_open_files.declared.querying.Pinned.{Pinned}
use Rattle.mesa_group_blocks.specs.mesa_open_files.declared.querying.PinnedInput.{PinnedInput}
use Rattle.mesa_query.specs.Cooled.{cooled}

-- Without the caches it can be answered, and there is room for each of its files without one.
pub record IsKept {R : Type 0} (bytes : R → Option (List ℕ)) (p : Pinned (Reading R)) (room : Vec (PinnedInput R) Global) : Type 0 where
  pub pinned : (s : Columns) × IsPinned bytes s (cooled p)
  pub empty : vec_len room ≡ 0
  pub fits : vec_len p.inputs ≤ vec_capacity room
