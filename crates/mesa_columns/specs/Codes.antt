-- The bytes of key types and aggregations, wherever columns are written.
use Rattle.std.specs.Prelude.{ℕ, ◌==◌, if◌then◌else◌, Option, None, Some}
use Rattle.mesa_key.specs.mesa_value.declared.Agg.{Agg}
use Rattle.mesa_key.specs.mesa_value.declared.Agg.TheVariants as agg
use Rattle.mesa_key.specs.declared.KeyType.{KeyType}
use Rattle.mesa_key.specs.declared.KeyType.TheVariants as kind

-- A key type's byte.
abbrev pub kind_byte : KeyType → ℕ
kind_byte kind.Int = 0
kind_byte kind.Text = 1

-- An aggregation's byte.
abbrev pub agg_byte : Agg → ℕ
agg_byte agg.Sum = 0
agg_byte agg.Min = 1
agg_byte agg.Max = 2
agg_byte agg.Replace = 3

-- the key type of a byte
abbrev pub kind_of : ℕ → Option KeyType
kind_of b = if b == 0 then Some kind.Int else if b == 1 then Some kind.Text else None

-- the aggregation of a byte
abbrev pub agg_of : ℕ → Option Agg
agg_of b = if b == 0 then Some agg.Sum else if b == 1 then Some agg.Min else if b == 2 then Some agg.Max else if b == 3 then Some agg.Replace else None
