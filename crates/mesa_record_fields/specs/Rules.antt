-- The rules that fields of a record keep, what their types say of them, and which an edition has room for.
use Rattle.std.specs.Prelude.{◌≡◌, ℕ, ◌+◌, ◌^◌, ◌<◌, List, [], ◌∷◌, length, IsTrue, Bool, true, ◌&&◌, nat_le, nat_lt}
use Rattle.std.specs.List.{AllByRecursion}
use Rattle.mesa_columns.specs.mesa_value.Agg.{IsAmount, IsNarrow}
use Rattle.mesa_file.specs.mesa_key.declared.KeyValue.{KeyValue}
use Rattle.mesa_file.specs.mesa_key.declared.KeyValue.TheVariants as value
use Rattle.mesa_file.specs.mesa_key.Text.{is_key_text}
use Rattle.mesa_columns.specs.declared.changes.Change.{Change}
use Rattle.mesa_columns.specs.declared.changes.Change.TheVariants.{AddValue, DropValue, AddKey}
use Rattle.mesa_columns.specs.Changes.{is_of_kind}
use Rattle.mesa_columns.specs.Names.{is_name}
use Rattle.mesa_file.specs.declared.file_ref.FileRef.{FileRef}
use Rattle.mesa_file.specs.mesa_key.declared.Format.TheVariants as format
use Rattle.mesa_record_fields.specs.declared.edition.Edition.{Edition}
use Rattle.mesa_record_fields.specs.declared.edition.Edition.TheVariants.{First, Second, Third, Fourth}

-- ---- the rules that a record's fields keep

-- a table or a view has 1 to 16 columns of each sort
abbrev pub is_count_of_columns : ℕ → Bool
is_count_of_columns n = nat_le 1 n && nat_le n 16

-- a key's length stands in two bytes
abbrev pub is_key_length : ℕ → Bool
is_key_length n = nat_lt n (2 ^ 16)

-- a file has rows and blocks
abbrev pub is_file_ref : FileRef → Bool
is_file_ref f = nat_le 1 f.rows && nat_le 1 f.blocks && is_key_length (length f.first) && is_key_length (length f.last) && is_count_of_columns (length f.aggregates)

-- each number is at least the first one, and greater than the one before
abbrev pub rise_from : ℕ → List ℕ → Bool
rise_from least [] = true
rise_from least (n ∷ ns) = nat_le least n && rise_from (n + 1) ns

-- a new key column's default is of its type
abbrev pub is_change : Change → Bool
is_change (AddValue column default) = true
is_change (DropValue name) = true
is_change (AddKey column default) = is_of_kind column.kind default

-- a list has room behind its number in two bytes, and in four
abbrev pub is_short : {A : Type 0} → List A → Bool
is_short xs = nat_lt (length xs) (2 ^ 16)

abbrev pub is_long : {A : Type 0} → List A → Bool
is_long xs = nat_lt (length xs) (2 ^ 32)

-- ---- what the types of the fields say of them

abbrev pub IsHalf : ℕ → Type 0
IsHalf n = n < 2 ^ 16

abbrev pub IsWord : ℕ → Type 0
IsWord n = n < 2 ^ 32

abbrev pub IsLong : ℕ → Type 0
IsLong n = n < 2 ^ 64

-- a total of absolute values has 128 bits
abbrev pub IsTotal : ℕ → Type 0
IsTotal n = n < 2 ^ 128

abbrev pub IsNamed : List ℕ → Type 0
IsNamed name = IsTrue (is_name name)

abbrev pub IsKeyValue : KeyValue → Type 0
IsKeyValue (value.Int z) = IsNarrow z
IsKeyValue (value.Text bytes) = IsTrue (is_key_text bytes)

abbrev pub IsTypedChange : Change → Type 0
IsTypedChange (AddValue column default) = IsNamed column.name × IsNarrow default
IsTypedChange (DropValue name) = IsNamed name
IsTypedChange (AddKey column default) = IsNamed column.name × IsKeyValue default

pub record IsTypedRef (f : FileRef) : Type 0 where
  pub id : IsLong f.id
  pub len : IsLong f.len
  pub rows : IsLong f.rows
  pub blocks : IsWord f.blocks
  pub aggregates : AllByRecursion IsAmount f.aggregates
  pub digest : length f.digest ≡ 32

-- ---- what has room in an edition

-- a file that the first edition names is of format 1, and its aggregates are numbers of 64 bits
abbrev pub FitsRef : Edition → FileRef → Type 0
FitsRef First f = (f.format ≡ format.One) × AllByRecursion IsNarrow f.aggregates
FitsRef Second f = Unit {0}
FitsRef Third f = Unit {0}
FitsRef Fourth f = Unit {0}

-- totals have 64 bits in the first edition
abbrev pub FitsTotals : Edition → List ℕ → Type 0
FitsTotals First totals = AllByRecursion IsLong totals
FitsTotals Second totals = Unit {0}
FitsTotals Third totals = Unit {0}
FitsTotals Fourth totals = Unit {0}
