-- Room in a table for what it takes in.
use Rattle.std.specs.Prelude.{◌≡◌, ◌<◌, vec_len, vec_capacity}
use Rattle.mesa_catalog_table.specs.declared.table.Table.{Table}

-- a table has room for a cumulative and for a singleton more
abbrev pub HasSpare : Table → Type 0
HasSpare t = (vec_len t.cumulatives < vec_capacity t.cumulatives) × (vec_len t.loaded < vec_capacity t.loaded)

-- a table with the same content, and no less room in its lists
pub record IsRoomier (old new : Table) : Type 0 where
  pub name : new.name ≡ old.name
  pub evolving : new.evolving ≡ old.evolving
  pub widths : new.widths ≡ old.widths
  pub totals : new.totals ≡ old.totals
  pub oldest : new.oldest ≡ old.oldest
  pub base : new.base ≡ old.base
  pub cumulatives : new.cumulatives.items ≡ old.cumulatives.items
  pub loaded : new.loaded.items ≡ old.loaded.items
  pub spare : HasSpare old → HasSpare new
