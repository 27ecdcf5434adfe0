-- What a cumulative is compared with.
use Rattle.std.specs.Prelude.{◌≡◌, ℕ, ◌+◌, ◌-◌, List, ◌∷◌, [], drop, Bool, true, nat_lt, Option, Some, None}
use Rattle.mesa_disk.specs.Image.{Image}
use Rattle.mesa_store_spec.specs.Catalog.{Delta, TableMeta, start_in}
use Rattle.mesa_check.specs.Found.{Found}
use Rattle.mesa_check.specs.Faults.{is_asked, merged_key, merged_singles}
use Rattle.mesa_check.specs.Held.{delta_of}
use Rattle.mesa_check.specs.Tested.{IsRead}
use Rattle.mesa_check.specs.declared.testing.Test.{Test}

-- a version before another, where one is told
abbrev pub is_below : Option ℕ → ℕ → Bool
is_below None to = true
is_below (Some end) to = nat_lt to end

-- It is asked below this version, and no longer from there on; without one it is always asked.
abbrev pub IsAskedBelow : Found → TableMeta → Option ℕ → Type 0
IsAskedBelow found t end = (to : ℕ) → is_asked found t to ≡ is_below end to

-- A cumulative agrees: its files are the recorded ones, its test says what was found of them, and no key shows that its rows differ from the fold of its range's singletons.
pub record Agrees (i : Image) (are : Found) (t : TableMeta) (one : Test) : Type 0 where
  pub read : IsRead i are t.lineage one
  pub found : one.found ≡ true
  pub same : merged_key are t one.range.to (delta_of one.range) ≡ []

-- The deltas whose fold the cumulative that ends at a version is to have: the singletons of its range; or the cumulative before it, and the singletons since then.
abbrev pub parts_of : TableMeta → Option Test → ℕ → List Delta
parts_of t None to = merged_singles t to
parts_of t (Some before) to = delta_of before.range ∷ drop (before.range.to + 1 - start_in t) (merged_singles t to)
