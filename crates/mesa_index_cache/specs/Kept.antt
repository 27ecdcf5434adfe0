-- The indexes that are kept, and what is true of them.
use Rattle.std.specs.Prelude.{◌≡◌, ◌≢◌, ◌⊎◌, ℕ, Option, Some, option_map}
use Rattle.std.specs.Map.{lookup}
use Rattle.std.specs.Ordering.{is_eq, nat_cmp}
use Rattle.mesa_disk.specs.Image.{Image}
use Rattle.mesa_open_files.specs.mesa_delta_format.Indexed.{Indexed}
use Rattle.mesa_open_files.specs.Opening.{IsTrueOf}
use Rattle.mesa_index_cache.specs.declared.indexes.Indexes.{Indexes}
use Rattle.mesa_index_cache.specs.declared.kept.Kept.{Kept}

-- an index that is kept, without the digest beside it
abbrev pub index_in : Kept → Indexed
index_in k = k.index

-- what is kept of the file of an id
abbrev pub kept_at : ℕ → Indexes → Option Kept
kept_at id indexes = lookup (λ (k : ℕ). is_eq (nat_cmp id k)) indexes.by_file.entries

-- the index that is kept of the file of an id
abbrev pub index_kept : ℕ → Indexes → Option Indexed
index_kept id indexes = option_map index_in (kept_at id indexes)

-- Each index that is kept is true of its file.
abbrev pub AreTrue : Option Image → Indexes → Type 0
AreTrue told indexes = (id : ℕ) (x : Indexed) → index_kept id indexes ≡ Some x → IsTrueOf told id x

-- Whatever index is kept now was kept before, or is this one of the file of this id.
abbrev pub AreWith : ℕ → Indexed → Indexes → Indexes → Type 0
AreWith id index new old = (n : ℕ) (x : Indexed) → index_kept n new ≡ Some x → (index_kept n old ≡ Some x) ⊎ ((n ≡ id) × (x ≡ index))

-- Whatever index is kept now was kept before, and none is of the file of this id.
abbrev pub AreWithout : ℕ → Indexes → Indexes → Type 0
AreWithout id new old = (n : ℕ) (x : Indexed) → index_kept n new ≡ Some x → (index_kept n old ≡ Some x) × (n ≢ id)
