-- Resume keys: where a page goes on.
use Rattle.std.specs.Prelude.{ℕ, List, [], ◌∷◌, ◌++◌, length, drop, decimal, nat_eq, if◌then◌else◌, Option, Some, None, Result, Ok}
use Rattle.std.specs.List.{join_with_byte, starts_with}
use Rattle.std.specs.Option.{ok_or}
use Rattle.mesa_list.specs.Checks.{◌>>=◌, ◌>>◌, refuse_unless}
use Rattle.mesa_fold.specs.mesa_key.declared.KeyType.{KeyType}
use Rattle.mesa_fold.specs.mesa_key.Spelling.{is_spelling}
use Rattle.mesa_fold.specs.mesa_columns.Columns.{Columns, key_names, kinds_of, chosen}
use Rattle.mesa_filter.specs.declared.words.QueryError.{QueryError}
use Rattle.mesa_filter.specs.declared.words.QueryError.TheVariants.{BadResume}
use Rattle.mesa_filter.specs.Hex.{bytes_of_hex}

-- the first four parts of a resume key, each with its `/`: relation, version, epoch, names of the group columns
abbrev pub resume_prefix : Columns → List ℕ → ℕ → ℕ → List ℕ → List ℕ
resume_prefix s relation version epoch columns =
    relation ++ 47 ∷ decimal version ++ 47 ∷ decimal epoch ++ 47 ∷ join_with_byte 59 (chosen columns (key_names s)) ++ 47 ∷ []

-- the bytes, where they spell a key of these types
abbrev group_key_of : List KeyType → Option (List ℕ) → Option (List ℕ)
group_key_of kinds None = None
group_key_of kinds (Some key) = if is_spelling kinds key then Some key else None

-- the key of these types whose hexadecimal stands behind a prefix, none where no resume key is asked
abbrev pub resume_behind : List KeyType → List ℕ → List ℕ → Result (Option (List ℕ)) QueryError
resume_behind kinds prefix [] = Ok None
resume_behind kinds prefix (b ∷ words) = do
  refuse_unless (starts_with nat_eq (b ∷ words) prefix) BadResume
  key ← ok_or (group_key_of kinds (bytes_of_hex (drop (length prefix) (b ∷ words)))) BadResume
  Ok (Some key)

-- The group key after which a page begins, none where no resume key is asked: the first four parts are this query's own, the last is the hexadecimal of a group key.
abbrev pub resume_of : Columns → List ℕ → ℕ → ℕ → List ℕ → List ℕ → Result (Option (List ℕ)) QueryError
resume_of s relation version epoch columns words = resume_behind (chosen columns (kinds_of s)) (resume_prefix s relation version epoch columns) words
