-- What the four aggregations make of an older and a newer value.
use Rattle.std.specs.Prelude.{◌≡◌, ℕ, ◌^◌, ℤ, pos, ◌+ℤ◌, ⊤, Bool, true, false, FitsSigned}
use Rattle.std.specs.Int.{int_min, int_max, w64, w128}
use Rattle.mesa_value.specs.declared.Agg.{Agg}
use Rattle.mesa_value.specs.declared.Agg.TheVariants.{Sum, Min, Max, Replace}

-- The value of an older and a newer one: their sum, the lesser, the greater, or the newer.
abbrev pub combined : Agg → ℤ → ℤ → ℤ
combined Sum old new = old +ℤ new
combined Min old new = int_min old new
combined Max old new = int_max old new
combined Replace old new = new

-- an aggregation that adds values up
abbrev pub is_sum : Agg → Bool
is_sum Sum = true
is_sum Min = false
is_sum Max = false
is_sum Replace = false

-- an amount is a number of 128 bits
abbrev pub IsAmount : ℤ → Type 0
IsAmount value = FitsSigned w128 value

-- a number of 64 bits, as every value but a sum is
abbrev pub IsNarrow : ℤ → Type 0
IsNarrow value = FitsSigned w64 value

-- The absolute values of a sum column stay below this.
abbrev pub sum_bound : ℕ
sum_bound = 2 ^ 127

-- a sum that has 128 bits, so that it can be a value
abbrev pub IsSum : ℤ → Type 0
IsSum value = FitsSigned w128 value

-- What a value of a column is: any amount for a sum, and a number of 64 bits else.
abbrev pub IsOf : Agg → ℤ → Type 0
IsOf Sum value = ⊤
IsOf Min value = IsNarrow value
IsOf Max value = IsNarrow value
IsOf Replace value = IsNarrow value

-- The two values have one together: a sum has to fit its type.
abbrev pub Combines : Agg → ℤ → ℤ → Type 0
Combines Sum old new = IsSum (old +ℤ new)
Combines Min old new = ⊤
Combines Max old new = ⊤
Combines Replace old new = ⊤

-- A value that a column may have as its default: 0 for a sum, any number of 64 bits else.
abbrev pub IsDefault : Agg → ℤ → Type 0
IsDefault Sum value = value ≡ pos 0
IsDefault Min value = IsNarrow value
IsDefault Max value = IsNarrow value
IsDefault Replace value = IsNarrow value

-- an aggregation whose values may come in any order
abbrev pub IsOrderless : Agg → Type 0
IsOrderless Sum = ⊤
IsOrderless Min = ⊤
IsOrderless Max = ⊤
IsOrderless Replace = ⊥
