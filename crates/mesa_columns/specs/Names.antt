-- Names of tables, views and columns.
use Rattle.std.specs.Prelude.{ℕ, List, [], ◌∷◌, length, Bool, false, ◌&&◌, ◌||◌, ◌==◌, nat_le, Option, None, Some, if◌then◌else◌}
use Rattle.std.specs.List.{list_all, list_any}
use Rattle.mesa_key.specs.mesa_list.Bytes.{same_bytes}

abbrev pub is_digit : ℕ → Bool
is_digit b = nat_le 48 b && nat_le b 57

abbrev pub is_lower : ℕ → Bool
is_lower b = nat_le 97 b && nat_le b 122

-- `a` to `z`, digits and `_`
abbrev pub is_name_byte : ℕ → Bool
is_name_byte b = is_lower b || is_digit b || (b == 95)

-- A name is 1 to 32 of these bytes, the first a letter.
abbrev pub is_name : List ℕ → Bool
is_name [] = false
is_name (b ∷ bytes) = is_lower b && list_all is_name_byte bytes && nat_le (length bytes) 31

-- whether a name is among these
abbrev pub has_name : List ℕ → List (List ℕ) → Bool
has_name name names = list_any (same_bytes name) names

-- the first name that stands at an earlier place too, where `seen` stands before
abbrev pub repeated_after : List (List ℕ) → List (List ℕ) → Option (List ℕ)
repeated_after seen [] = None
repeated_after seen (name ∷ names) = if has_name name seen then Some name else repeated_after (name ∷ seen) names

-- The first name that stands at an earlier place too.
abbrev pub repeated : List (List ℕ) → Option (List ℕ)
repeated names = repeated_after [] names
