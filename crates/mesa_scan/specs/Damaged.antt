-- What damage is told of an input.
use Rattle.std.specs.Prelude.{◌≡◌, ℕ, List, Option, Some}
use Rattle.mesa_delta.specs.mesa_file.declared.damage.Damage.{Damage}
use Rattle.mesa_delta.specs.mesa_columns.declared.rows.Row.{Row}
use Rattle.mesa_delta.specs.Reading.{IsBlockDamage, IsIndexed, index_of}
use Rattle.mesa_delta.specs.declared.input.Input.{Input}
use Rattle.mesa_scan.specs.Cursors.{reader_in}

-- Damage of one of an input's blocks: it is as the file's reader tells it, and where the file is told its index isn't true of it.
pub record IsDamaged {R : Type 0} (bytes : R → Option (List ℕ)) (size : R → ℕ) (i : Input R) (d : Damage) : Type 0 where
  pub block : ℕ
  pub before : List (List Row)
  pub shown : IsBlockDamage (bytes (reader_in i)) (size (reader_in i)) (index_of i.reader) block before d
  pub unsound : (b : List ℕ) (all : List Row) → bytes (reader_in i) ≡ Some b → IsIndexed (index_of i.reader) all b → ⊥
