-- Why bytes begin with no key of some types: the first fault from the left, as the bytes are read one at a time.
use Rattle.std.specs.Prelude.{ℕ, ◌-◌, List, [], ◌∷◌, length, take, drop, Bool, true, false, not, ◌&&◌, nat_lt, if◌then◌else◌, Option, None, Some, is_some}
use Rattle.std.specs.Str.{is_utf8}
use Rattle.std.specs.Str.Lossy.{utf8_error_len, utf8_valid_len}
use Rattle.mesa_key.specs.declared.KeyType.{KeyType}
use Rattle.mesa_key.specs.declared.KeyType.TheVariants as kind
use Rattle.mesa_key.specs.declared.decoding.KeyError.{KeyError}
use Rattle.mesa_key.specs.declared.decoding.KeyError.TheVariants as fault
use Rattle.mesa_key.specs.Columns.{is_whole}
use Rattle.mesa_key.specs.Spelling.{column_length, is_column}

-- Bytes hold one that can't stand where it does, whatever follows: they aren't UTF-8, and they don't just end within a character.
abbrev pub breaks_off : List ℕ → Bool
breaks_off bytes = not (is_utf8 bytes) && is_some (utf8_error_len (drop (utf8_valid_len bytes) bytes))

-- What is wrong with the bytes of a text: one of the first 256 can't stand there; the 256th is one too many; they end with a zero within a character; or they end before the zero.
abbrev pub fault_of_text : (ended : Bool) → List ℕ → KeyError
fault_of_text ended text =
    if breaks_off (take 256 text) then fault.NotUtf8
    else if nat_lt 255 (length text) then fault.TooLong
    else if ended && not (is_utf8 text) then fault.NotUtf8
    else fault.Truncated

-- what is wrong with a column that is whole and spells no value of its type
abbrev pub fault_of_column : KeyType → List ℕ → KeyError
fault_of_column kind.Int column = fault.Truncated
fault_of_column kind.Text column = fault_of_text true (take (length column - 1) column)

-- what is wrong with bytes that end within a column
abbrev pub fault_of_cut : KeyType → List ℕ → KeyError
fault_of_cut kind.Int bytes = fault.Truncated
fault_of_cut kind.Text bytes = fault_of_text false bytes

-- what is wrong with the first column of bytes, if anything
abbrev pub fault_in : KeyType → List ℕ → Option KeyError
fault_in kind bytes =
    if is_whole kind bytes
    then (if is_column kind (take (column_length kind bytes) bytes) then None else Some (fault_of_column kind (take (column_length kind bytes) bytes)))
    else Some (fault_of_cut kind bytes)

-- the first of two faults
abbrev pub or_else : Option KeyError → Option KeyError → Option KeyError
or_else (Some e) other = Some e
or_else None other = other

-- What is wrong with the first column of bytes that isn't right, if they begin with no key of these types.
abbrev pub fault_of_key : List KeyType → List ℕ → Option KeyError
fault_of_key [] bytes = None
fault_of_key (kind ∷ kinds) bytes = or_else (fault_in kind bytes) (fault_of_key kinds (drop (column_length kind bytes) bytes))
