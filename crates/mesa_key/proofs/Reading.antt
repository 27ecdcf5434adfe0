-- Reading a key, as a test and what is left.
use Rattle.std.proofs.Common.{ℕ, List, [], ◌∷◌, take, drop, Bool, true}
use Rattle.std.specs.Prelude.{◌&&◌}
use Rattle.mesa_key.specs.declared.KeyType.{KeyType}
use Rattle.mesa_key.specs.Spelling.{column_length, is_column}

-- The bytes begin with a spelling of a key of these types.
abbrev pub begins_with_key : List KeyType → List ℕ → Bool
begins_with_key [] bytes = true
begins_with_key (kind ∷ kinds) bytes = is_column kind (take (column_length kind bytes) bytes) && begins_with_key kinds (drop (column_length kind bytes) bytes)

-- The bytes behind the key that the bytes begin with.
abbrev pub after_key : List KeyType → List ℕ → List ℕ
after_key [] bytes = bytes
after_key (kind ∷ kinds) bytes = after_key kinds (drop (column_length kind bytes) bytes)
