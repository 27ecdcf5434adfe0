-- The first bytes of keys, which decide how most rows are ordered.
use Rattle.std.specs.Prelude.{◌≡◌, ◌<◌, ℕ, zero, suc, List, [], ◌∷◌, map, filter, Bool, ◌&&◌, ◌==◌, drop, slice_index_or}
use Rattle.std.specs.Int.{from_be_bytes, w64}
use Rattle.std.specs.Ordering.{nat_cmp, ordering_then}
use Rattle.std.specs.declared.cmp.Ordering.{Ordering}
use Rattle.mesa_schema.specs.mesa_key.Order.{byte_cmp}
use Rattle.mesa_batch.specs.Batch.{Placed}
use Rattle.mesa_batch.specs.Flat.{placed_at}
use Rattle.mesa_batch.specs.declared.spots.Spot.{Spot}

-- so many first bytes, with zeros behind the end
abbrev pub padded : ℕ → List ℕ → List ℕ
padded zero key = []
padded (suc n) [] = 0 ∷ padded n []
padded (suc n) (byte ∷ key) = byte ∷ padded n key

-- the first eight bytes as one number
abbrev pub head_of : List ℕ → ℕ
head_of key = from_be_bytes w64 (padded 8 key)

-- A spot is that of a row: it has the row's table, and the first bytes of its key by eight.
pub record IsSpot (rows : List Placed) (s : Spot) : Type 0 where
  pub table : s.table ≡ (placed_at rows s.place).table
  pub first : s.first ≡ head_of (placed_at rows s.place).row.key
  pub second : s.second ≡ head_of (drop 8 (placed_at rows s.place).row.key)
  pub third : s.third ≡ head_of (drop 16 (placed_at rows s.place).row.key)
  pub bytes : (i : ℕ) → slice_index_or (placed_at rows s.place).row.key i 0 < 256

-- the place of a spot
abbrev pub place_of : Spot → ℕ
place_of s = s.place

-- the places of the rows of a table
abbrev pub places_for : ℕ → List Spot → List ℕ
places_for table spots = map place_of (filter (λ (s : Spot). s.table == table) spots)

-- how the first bytes are ordered
abbrev pub heads_cmp : Spot → Spot → Ordering
heads_cmp a b = ordering_then (nat_cmp a.first b.first) (ordering_then (nat_cmp a.second b.second) (nat_cmp a.third b.third))

-- whether the first bytes are the same
abbrev pub has_same_head : Spot → Spot → Bool
has_same_head a b = (a.first == b.first) && ((a.second == b.second) && (a.third == b.third))

-- spots are ordered by table, then by the first bytes of their keys, then by the whole ones, and by themselves where these are the same
abbrev pub spotted_cmp : List Placed → Spot → Spot → Ordering
spotted_cmp rows a b = ordering_then (nat_cmp a.table b.table) (ordering_then (heads_cmp a b) (ordering_then (byte_cmp (placed_at rows a.place).row.key (placed_at rows b.place).row.key) (nat_cmp a.place b.place)))
