-- The values of text key columns.
use Rattle.std.specs.Prelude.{ℕ, List, length, Bool, not, ◌==◌, nat_le, ◌&&◌}
use Rattle.std.specs.List.{list_any}
use Rattle.std.specs.Str.{is_utf8}

-- The value of a text key column is at most 255 bytes of UTF-8 with no zero byte.
abbrev pub is_key_text : List ℕ → Bool
is_key_text bytes = nat_le (length bytes) 255 && not (list_any (λ b. b == 0) bytes) && is_utf8 bytes
