-- The words and numbers of a record.
use Rattle.std.specs.Prelude.{ℕ, ◌-◌, ◌^◌, List, [], ◌∷◌, length, drop, codes, Bool, ◌&&◌, ◌||◌, ◌==◌, nat_lt, if◌then◌else◌, Result, Ok, Err}
use Rattle.std.specs.List.{list_all}
use Rattle.std.specs.Option.{ok_or}
use Rattle.mesa_model.specs.mesa_list.Bytes.{same_bytes}
use Rattle.mesa_model.specs.mesa_list.Checks.{◌>>=◌, ◌>>◌, refuse_unless}
use Rattle.mesa_model.specs.mesa_list.Split.{split_at}
use Rattle.mesa_model.specs.mesa_value.declared.Agg.{Agg}
use Rattle.mesa_model.specs.mesa_value.declared.Agg.TheVariants as agg
use Rattle.mesa_model.specs.mesa_key.declared.KeyType.{KeyType}
use Rattle.mesa_model.specs.mesa_key.declared.KeyType.TheVariants as kind
use Rattle.mesa_model.specs.mesa_columns.Names.{is_digit}
use Rattle.mesa_model.specs.mesa_columns.Numbers.{number_of}
use Rattle.mesa_model.specs.mesa_filter.declared.words.VersionWord.{VersionWord}
use Rattle.mesa_model.specs.mesa_filter.declared.words.VersionWord.TheVariants as asks
use Rattle.mesa_model.specs.declared.commands.KeyWords.{KeyWords}
use Rattle.mesa_model.specs.declared.commands.ValueWords.{ValueWords}
use Rattle.mesa_script.specs.declared.script.Reason.{Reason}
use Rattle.mesa_script.specs.declared.script.Reason.TheVariants as reason
use Rattle.mesa_script.specs.Records.{named, is_between, asks_pin}

-- ---- numbers

-- the greatest number word that a record may have
abbrev pub max_number : ℕ
max_number = 2 ^ 32 - 1

-- a number word in a range
abbrev pub number_in : ℕ → ℕ → List ℕ → Result ℕ Reason
number_in low high word = do
  n ← ok_or (number_of word) reason.Number
  refuse_unless (is_between low high n) reason.Number
  Ok n

-- a page's limit: 1 to 10,000, and 1,000 where none is given
abbrev pub limit_of : List ℕ → Result ℕ Reason
limit_of [] = Ok 1000
limit_of (b ∷ word) = number_in 1 10000 (b ∷ word)

-- ---- columns

-- a name and a word of these
abbrev entry_parts : {A : Type 0} → List (List ℕ × A) → List (List ℕ) → Result (List ℕ × A) Reason
entry_parts words (name ∷ word ∷ []) = do
  value ← ok_or (named words word) reason.Word
  Ok (name, value)
entry_parts words parts = Err reason.Word

-- an entry of a list of columns: a name without a space, one space, and a word of these
abbrev pub entry_of : {A : Type 0} → List (List ℕ × A) → List ℕ → Result (List ℕ × A) Reason
entry_of words entry = entry_parts words (split_at 32 entry)

-- the words for types of key columns
abbrev kinds : List (List ℕ × KeyType)
kinds = (codes "int", kind.Int) ∷ (codes "text", kind.Text) ∷ []

-- the words for aggregations of value columns
abbrev aggs : List (List ℕ × Agg)
aggs = (codes "sum", agg.Sum) ∷ (codes "min", agg.Min) ∷ (codes "max", agg.Max) ∷ (codes "replace", agg.Replace) ∷ []

-- a key column: its name, and `int` or `text`
abbrev pub key_words : List ℕ → Result KeyWords Reason
key_words entry = do
  parts ← entry_of kinds entry
  Ok (record { name = parts.0; kind = parts.1 })

-- a value column: its name, and `sum`, `min`, `max` or `replace`
abbrev pub value_words : List ℕ → Result ValueWords Reason
value_words entry = do
  parts ← entry_of aggs entry
  Ok (record { name = parts.0; agg = parts.1 })

-- ---- versions

-- the form of a version: none or `latest`, digits, `pin:` and digits, or another
pub data Form : Type 0 where
  Newest : Form
  Number : List ℕ → Form
  Token : List ℕ → Form
  Other : Form

-- one or more digits
abbrev are_digits : List ℕ → Bool
are_digits word = nat_lt 0 (length word) && list_all is_digit word

-- the form of a word that stands for a version
abbrev pub form_of : List ℕ → Form
form_of word =
    if (length word == 0) || same_bytes word (codes "latest") then Newest
    else if are_digits word then Number word
    else if asks_pin word && are_digits (drop 4 word) then Token (drop 4 word)
    else Other

-- the version of a form
abbrev version_from : Bool → Form → Result VersionWord Reason
version_from pins Newest = Ok asks.Latest
version_from pins (Number word) = do
  n ← number_in 0 max_number word
  Ok (asks.At n)
version_from pins (Token word) = do
  refuse_unless pins reason.Word
  n ← number_in 0 max_number word
  Ok (asks.Pin n)
version_from pins Other = Err reason.Word

-- a version; `pins` says whether it may be a pin's
abbrev pub version_of : Bool → List ℕ → Result VersionWord Reason
version_of pins word = version_from pins (form_of word)
