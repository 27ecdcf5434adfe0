-- Reading the fields of a record from the left, each first for being whole and then for its meaning.
use Rattle.std.specs.Prelude.{◌≡◌, ◌≢◌, ℕ, zero, suc, ◌+◌, ℤ, List, [], ◌∷◌, ◌++◌, length, take, drop, get_or, Bool, true, false, ◌==◌, nat_le, nat_lt, if◌then◌else◌, Option, None, Some, Result, Ok, Err}
use Rattle.std.specs.Int.{w16, w32, w64, w128, from_be_bytes, cast_signed}
use Rattle.mesa_columns.specs.mesa_list.Checks.{◌>>=◌}
use Rattle.mesa_file.specs.mesa_key.declared.Format.{Format}
use Rattle.mesa_file.specs.mesa_key.declared.Format.TheVariants as format
use Rattle.mesa_file.specs.mesa_key.declared.KeyType.{KeyType}
use Rattle.mesa_file.specs.mesa_key.declared.KeyType.TheVariants as kind
use Rattle.mesa_file.specs.mesa_key.declared.KeyValue.{KeyValue}
use Rattle.mesa_file.specs.mesa_key.declared.KeyValue.TheVariants as value
use Rattle.mesa_file.specs.mesa_key.Text.{is_key_text}
use Rattle.mesa_columns.specs.declared.columns.KeyColumn.{KeyColumn}
use Rattle.mesa_columns.specs.declared.columns.ValueColumn.{ValueColumn}
use Rattle.mesa_columns.specs.Codes.{agg_of, kind_of}
use Rattle.mesa_columns.specs.declared.changes.Change.{Change}
use Rattle.mesa_columns.specs.declared.changes.Change.TheVariants.{AddValue, DropValue, AddKey}
use Rattle.mesa_columns.specs.Names.{is_name}
use Rattle.mesa_file.specs.declared.file_ref.FileRef.{FileRef}
use Rattle.mesa_record_fields.specs.declared.edition.Edition.{Edition}
use Rattle.mesa_record_fields.specs.declared.edition.Edition.TheVariants.{First, Second, Third, Fourth}
use Rattle.mesa_record_fields.specs.declared.error.RecordError.{RecordError}
use Rattle.mesa_record_fields.specs.declared.error.RecordError.TheVariants as fault
use Rattle.mesa_record_fields.specs.Rules.{is_count_of_columns}

-- What is left of a record's bytes, and the place where it begins.
pub record Left : Type 0 where
  pub at : ℕ
  pub bytes : List ℕ

-- what reading a field gives: the field and what is left behind it, or a fault
abbrev pub Read : Type 0 → Type 0
Read A = Result (A × Left) RecordError

-- What a function returned, seen by view, with what it left, is what reading gives, unless memory ran out.
abbrev pub GivesAs : {X A : Type 0} → (X → A) → Result X RecordError → Left → Read A → Type 0
GivesAs view (Ok x) left read = read ≡ Ok (view x, left)
GivesAs view (Err e) left read = e ≢ fault.Memory → read ≡ Err e

-- the same where nothing hides what was returned
abbrev pub Gives : {A : Type 0} → Result A RecordError → Left → Read A → Type 0
Gives (Ok x) left read = read ≡ Ok (x, left)
Gives (Err e) left read = e ≢ fault.Memory → read ≡ Err e

-- what is left behind n bytes
abbrev pub behind : ℕ → Left → Left
behind n l = record { at = l.at + n; bytes = drop n l.bytes }

-- ---- numbers

-- a field of n bytes
abbrev pub piece_at : ℕ → Left → Read (List ℕ)
piece_at n l = if nat_lt (length l.bytes) n then Err (fault.Truncated l.at) else Ok (take n l.bytes, behind n l)

abbrev pub byte_at : Left → Read ℕ
byte_at l = piece_at 1 l >>= λ x. Ok (get_or x.0 0 0, x.1)

abbrev pub half_at : Left → Read ℕ
half_at l = piece_at 2 l >>= λ x. Ok (from_be_bytes w16 x.0, x.1)

abbrev pub word_at : Left → Read ℕ
word_at l = piece_at 4 l >>= λ x. Ok (from_be_bytes w32 x.0, x.1)

abbrev pub long_at : Left → Read ℕ
long_at l = piece_at 8 l >>= λ x. Ok (from_be_bytes w64 x.0, x.1)

abbrev pub wide_at : Left → Read ℕ
wide_at l = piece_at 16 l >>= λ x. Ok (from_be_bytes w128 x.0, x.1)

abbrev pub wide_amount_at : Left → Read ℤ
wide_amount_at l = piece_at 16 l >>= λ x. Ok (cast_signed w128 (from_be_bytes w128 x.0), x.1)

abbrev pub amount_at : Left → Read ℤ
amount_at l = piece_at 8 l >>= λ x. Ok (cast_signed w64 (from_be_bytes w64 x.0), x.1)

-- ---- fields with a rule

-- a field that keeps a rule, or a fault at its place
abbrev pub ruled : {A : Type 0} → (A → Bool) → (Left → Read A) → Left → Read A
ruled rule read l = read l >>= λ x. if rule x.0 then Ok x else Err (fault.BadField l.at)

-- a byte with a meaning, or a fault at its place
abbrev pub meaning : {A : Type 0} → (ℕ → Option A) → Left → Read A
meaning mean l = byte_at l >>= λ x. elim (mean x.0) [ None ↦ Err (fault.BadKind l.at) | Some y ↦ Ok (y, x.1) ]

-- a text: its length and its bytes are one field
abbrev pub text_at : Left → Read (List ℕ)
text_at l = piece_at (get_or l.bytes 0 0 + 1) l >>= λ x. Ok (drop 1 x.0, x.1)

abbrev pub name_at : Left → Read (List ℕ)
name_at = ruled is_name text_at

-- an encoded key: its length and its bytes are one field
abbrev pub key_at : Left → Read (List ℕ)
key_at l = piece_at (from_be_bytes w16 (get_or l.bytes 0 0 ∷ get_or l.bytes 1 0 ∷ []) + 2) l >>= λ x. Ok (drop 2 x.0, x.1)

-- a count of columns, of sum columns, of view files
abbrev pub columns_at : Left → Read ℕ
columns_at = ruled is_count_of_columns byte_at

abbrev pub count_at : ℕ → Left → Read ℕ
count_at most = ruled (λ n. nat_le n most) byte_at

-- ---- lists

-- n fields whose numbers rise, each read with the least number that it may have
unfoldable pub rising : {A : Type 0} → (A → ℕ) → (ℕ → Left → Read A) → ℕ → ℕ → Left → Read (List A)
rising number read least zero l = Ok ([], l)
rising number read least (suc n) l = read least l >>= λ x. rising number read (number x.0 + 1) n x.1 >>= λ xs. Ok (x.0 ∷ xs.0, xs.1)

-- n fields without numbers
abbrev pub many : {A : Type 0} → (Left → Read A) → ℕ → Left → Read (List A)
many read n l = rising (λ x. 0) (λ least. read) 1 n l

-- fields behind their number in two or four bytes
abbrev pub sized_at : {A : Type 0} → (Left → Read ℕ) → (Left → Read A) → Left → Read (List A)
sized_at count read l = count l >>= λ n. many read n.0 n.1

-- what was read before, and what is still read
abbrev pub with_front : {A : Type 0} → List A → Read (List A) → Read (List A)
with_front front read = read >>= λ xs. Ok (front ++ xs.0, xs.1)

-- ---- columns

abbrev pub flag_of : ℕ → Option Bool
flag_of b = if b == 0 then Some false else if b == 1 then Some true else None

abbrev pub key_column_at : Left → Read KeyColumn
key_column_at l = name_at l >>= λ name. meaning kind_of name.1 >>= λ k. Ok (record { name = name.0; kind = k.0 }, k.1)

abbrev pub value_column_at : Left → Read ValueColumn
value_column_at l = name_at l >>= λ name. meaning agg_of name.1 >>= λ a. Ok (record { name = name.0; agg = a.0 }, a.1)

-- a default of a key column of a type
abbrev pub key_default_at : KeyType → Left → Read KeyValue
key_default_at kind.Int l = amount_at l >>= λ z. Ok (value.Int z.0, z.1)
key_default_at kind.Text l = ruled is_key_text text_at l >>= λ t. Ok (value.Text t.0, t.1)

-- ---- changes

abbrev pub add_value_at : Left → Read Change
add_value_at l = value_column_at l >>= λ c. amount_at c.1 >>= λ default. Ok (AddValue c.0 default.0, default.1)

abbrev pub drop_value_at : Left → Read Change
drop_value_at l = name_at l >>= λ name. Ok (DropValue name.0, name.1)

abbrev pub add_key_at : Left → Read Change
add_key_at l = key_column_at l >>= λ c. key_default_at c.0.kind c.1 >>= λ default. Ok (AddKey c.0 default.0, default.1)

-- the fields of a change, by its number, which stood at a place
abbrev pub change_of : ℕ → ℕ → Left → Read Change
change_of at b l = if b == 1 then add_value_at l else if b == 2 then drop_value_at l else if b == 3 then add_key_at l else Err (fault.BadKind at)

abbrev pub change_at : Left → Read Change
change_at l = byte_at l >>= λ b. change_of l.at b.0 b.1

-- ---- files

abbrev pub not_zero : ℕ → Bool
not_zero n = nat_le 1 n

abbrev pub aggregate_at : Edition → Left → Read ℤ
aggregate_at First = amount_at
aggregate_at Second = wide_amount_at
aggregate_at Third = wide_amount_at
aggregate_at Fourth = wide_amount_at

abbrev pub total_at : Edition → Left → Read ℕ
total_at First = long_at
total_at Second = wide_at
total_at Third = wide_at
total_at Fourth = wide_at

-- the format of a number
abbrev pub format_of : ℕ → Option Format
format_of b = if b == 1 then Some format.One else if b == 2 then Some format.Two else None

-- the format of a file: the first edition has no field for it
abbrev pub format_at : Edition → Left → Read Format
format_at First l = Ok (format.One, l)
format_at Second l = meaning format_of l
format_at Third l = meaning format_of l
format_at Fourth l = meaning format_of l

abbrev pub aggregates_at : Edition → Left → Read (List ℤ)
aggregates_at e l = columns_at l >>= λ n. many (aggregate_at e) n.0 n.1

-- a reference to a file
unfoldable pub file_ref_at : Edition → Left → Read FileRef
file_ref_at e l = do
  form ← format_at e l
  id ← long_at form.1
  len ← long_at id.1
  rows ← ruled not_zero long_at len.1
  blocks ← ruled not_zero word_at rows.1
  first ← key_at blocks.1
  last ← key_at first.1
  aggregates ← aggregates_at e last.1
  digest ← piece_at 32 aggregates.1
  Ok (record { format = form.0; id = id.0; len = len.0; rows = rows.0; blocks = blocks.0; first = first.0; last = last.0; aggregates = aggregates.0; digest = digest.0 }, digest.1)

abbrev pub totals_at : Edition → Left → Read (List ℕ)
totals_at e l = count_at 16 l >>= λ n. many (total_at e) n.0 n.1

-- ---- lists of columns, and of their names

abbrev pub key_columns_at : Left → Read (List KeyColumn)
key_columns_at l = columns_at l >>= λ n. many key_column_at n.0 n.1

abbrev pub value_columns_at : Left → Read (List ValueColumn)
value_columns_at l = columns_at l >>= λ n. many value_column_at n.0 n.1

abbrev pub names_at : Left → Read (List (List ℕ))
names_at l = columns_at l >>= λ n. many name_at n.0 n.1
