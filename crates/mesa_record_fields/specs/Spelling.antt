-- The bytes of the fields of a record: each field has one spelling in each edition that has room for it.
use Rattle.std.specs.Prelude.{ℕ, ℤ, List, [], ◌∷◌, ◌++◌, length, flat_map, Bool, true, false}
use Rattle.std.specs.Int.{w16, w32, w64, w128, to_be_bytes, cast_unsigned}
use Rattle.mesa_file.specs.mesa_key.declared.Format.{Format}
use Rattle.mesa_file.specs.mesa_key.declared.Format.TheVariants as format
use Rattle.mesa_file.specs.mesa_key.declared.KeyValue.{KeyValue}
use Rattle.mesa_file.specs.mesa_key.declared.KeyValue.TheVariants as value
use Rattle.mesa_columns.specs.declared.columns.KeyColumn.{KeyColumn}
use Rattle.mesa_columns.specs.declared.columns.ValueColumn.{ValueColumn}
use Rattle.mesa_columns.specs.Codes.{agg_byte, kind_byte}
use Rattle.mesa_columns.specs.declared.changes.Change.{Change}
use Rattle.mesa_columns.specs.declared.changes.Change.TheVariants.{AddValue, DropValue, AddKey}
use Rattle.mesa_file.specs.declared.file_ref.FileRef.{FileRef}
use Rattle.mesa_record_fields.specs.declared.edition.Edition.{Edition}
use Rattle.mesa_record_fields.specs.declared.edition.Edition.TheVariants.{First, Second, Third, Fourth}

-- ---- numbers, the highest byte first

unfoldable pub half : ℕ → List ℕ
half n = to_be_bytes w16 n

unfoldable pub word : ℕ → List ℕ
word n = to_be_bytes w32 n

unfoldable pub long : ℕ → List ℕ
long n = to_be_bytes w64 n

unfoldable pub wide : ℕ → List ℕ
wide n = to_be_bytes w128 n

-- a number of 64 bits is its two's complement
abbrev pub amount : ℤ → List ℕ
amount z = long (cast_unsigned w64 z)

-- ---- texts and lists

-- a text of at most 255 bytes: its length and its bytes
abbrev pub text : List ℕ → List ℕ
text bytes = length bytes ∷ bytes

-- an encoded key: its length in two bytes and its bytes
abbrev pub key : List ℕ → List ℕ
key bytes = half (length bytes) ++ bytes

-- a list of at most 255: their number, then one after the other
abbrev pub counted : {A : Type 0} → (A → List ℕ) → List A → List ℕ
counted spell xs = length xs ∷ flat_map spell xs

-- a longer list: their number in two or four bytes, then one after the other
abbrev pub sized : {A : Type 0} → (ℕ → List ℕ) → (A → List ℕ) → List A → List ℕ
sized count spell xs = count (length xs) ++ flat_map spell xs

-- ---- columns

abbrev pub key_column : KeyColumn → List ℕ
key_column c = text c.name ++ kind_byte c.kind ∷ []

abbrev pub value_column : ValueColumn → List ℕ
value_column c = text c.name ++ agg_byte c.agg ∷ []

-- a default of a key column: an int's two's complement, or a text
abbrev pub key_default : KeyValue → List ℕ
key_default (value.Int z) = amount z
key_default (value.Text bytes) = text bytes

-- a change: its number, and what it adds or drops
abbrev pub change : Change → List ℕ
change (AddValue column default) = 1 ∷ (value_column column ++ amount default)
change (DropValue name) = 2 ∷ text name
change (AddKey column default) = 3 ∷ (key_column column ++ key_default default)

-- ---- files

-- an aggregate, and a total of absolute values
abbrev pub aggregate : Edition → ℤ → List ℕ
aggregate First z = amount z
aggregate Second z = wide (cast_unsigned w128 z)
aggregate Third z = wide (cast_unsigned w128 z)
aggregate Fourth z = wide (cast_unsigned w128 z)

abbrev pub total : Edition → ℕ → List ℕ
total First n = long n
total Second n = wide n
total Third n = wide n
total Fourth n = wide n

-- a format as a byte: its number
abbrev pub format_byte : Format → ℕ
format_byte format.One = 1
format_byte format.Two = 2

-- the format of a file, which the first edition doesn't tell
abbrev pub format_field : Edition → Format → List ℕ
format_field First format = []
format_field Second format = format_byte format ∷ []
format_field Third format = format_byte format ∷ []
format_field Fourth format = format_byte format ∷ []

-- a file's id, length, rows and blocks
unfoldable pub file_sizes : FileRef → List ℕ
file_sizes f = long f.id ++ (long f.len ++ (long f.rows ++ word f.blocks))

-- a file's first and last key
unfoldable pub file_keys : FileRef → List ℕ
file_keys f = key f.first ++ key f.last

-- a reference to a file: its format, id, length, rows and blocks; its first and its last key; the aggregates and the digest
unfoldable pub file_ref : Edition → FileRef → List ℕ
file_ref e f = format_field e f.format ++ (file_sizes f ++ (file_keys f ++ (counted (aggregate e) f.aggregates ++ f.digest)))

abbrev pub flag : Bool → ℕ
flag false = 0
flag true = 1
