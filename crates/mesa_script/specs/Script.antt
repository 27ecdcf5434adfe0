-- ScriptOf: the script that bytes spell, or its first bad record.
use Rattle.std.specs.Prelude.{ℕ, ◌+◌, List, [], ◌∷◌, ◌++◌, length, Bool, true, false, ◌==◌, nat_le, if◌then◌else◌, Result, Ok, Err}
use Rattle.std.specs.Option.{ok_or}
use Rattle.csv.specs.Reading.{records, default_config, strip_bom}
use Rattle.mesa_model.specs.mesa_list.Checks.{◌>>=◌, ◌>>◌, refuse_if, refuse_unless, refused_as}
use Rattle.mesa_model.specs.mesa_batch.declared.words.RowWords.{RowWords}
use Rattle.mesa_model.specs.declared.commands.Command.{Command}
use Rattle.mesa_model.specs.declared.commands.Command.TheVariants as command
use Rattle.mesa_model.specs.declared.commands.Script.{Script}
use Rattle.mesa_script.specs.declared.script.Reason.{Reason}
use Rattle.mesa_script.specs.declared.script.Reason.TheVariants as reason
use Rattle.mesa_script.specs.declared.script.ScriptError.{ScriptError}
use Rattle.mesa_script.specs.declared.script.ScriptError.TheVariants as bad
use Rattle.mesa_script.specs.Records.{Name, Lease, Row, Commit, name_of, field, fits_fields}
use Rattle.mesa_script.specs.Items.{Item, LeaseOf, NextSession, RowOf, EndOfLoad, Single, item_of}

-- what was read so far: the lease's length, the sessions that are whole, the commands of the one at hand, the rows of a load that hasn't ended, and how many commands there were
pub record Read : Type 0 where
  pub lease : ℕ
  pub finished : List (List Command)
  pub current : List Command
  pub rows : List RowWords
  pub count : ℕ

-- how many turns a lease lasts where the script doesn't say
abbrev pub default_lease : ℕ
default_lease = 4096

-- how many commands a script may have
abbrev pub max_commands : ℕ
max_commands = 200000

-- how many sessions a script may have, the prologue included
abbrev pub max_sessions : ℕ
max_sessions = 8

-- before the first record
abbrev pub nothing_read : Read
nothing_read = record { lease = default_lease; finished = []; current = []; rows = []; count = 0 }

-- a lease is the first record, and only a row or a commit follows a row
abbrev pub fits_order : ℕ → Name → List RowWords → Bool
fits_order place Row rows = true
fits_order place Commit rows = true
fits_order place Lease rows = place == 1
fits_order place name [] = true
fits_order place name (row ∷ rows) = false

-- what the record at a place says, or what is wrong with it: its name, its number of fields, its order, its words, its numbers
abbrev pub item_at : ℕ → List (List ℕ) → List RowWords → Result Item Reason
item_at place fields rows = do
  name ← ok_or (name_of (field 0 fields)) reason.Unknown
  refuse_unless (fits_fields name fields) reason.Fields
  refuse_unless (fits_order place name rows) reason.Order
  item_of name fields

-- a command more
abbrev with_command : ℕ → Command → Read → Result Read ScriptError
with_command place c r = do
  refuse_if (nat_le max_commands r.count) (bad.TooManyCommands place)
  Ok (record r { current = r.current ++ c ∷ []; rows = []; count = r.count + 1 })

-- what was read with an item more
abbrev pub with_item : ℕ → Item → Read → Result Read ScriptError
with_item place (LeaseOf n) r = Ok (record r { lease = n })
with_item place NextSession r = do
  refuse_if (nat_le max_sessions (length r.finished + 1)) (bad.TooManySessions place)
  Ok (record r { finished = r.finished ++ r.current ∷ []; current = [] })
with_item place (RowOf row) r = Ok (record r { rows = r.rows ++ row ∷ [] })
with_item place EndOfLoad r = with_command place (command.Load r.rows) r
with_item place (Single c) r = with_command place c r

-- what was read with the record at a place
abbrev pub with_record : ℕ → List (List ℕ) → Read → Result Read ScriptError
with_record place fields r = do
  item ← refused_as (bad.BadRecord place) (item_at place fields r.rows)
  with_item place item r

-- what was read at the input's end: a load that hasn't ended is a bad record behind the last
abbrev at_end : ℕ → Read → Result Read ScriptError
at_end place r = if length r.rows == 0 then Ok r else Err (bad.BadRecord place reason.Order)

-- what was read with the records from a place on
abbrev pub read_from : ℕ → List (List (List ℕ)) → Read → Result Read ScriptError
read_from place [] r = at_end place r
read_from place (fields ∷ rest) r = with_record place fields r >>= (λ next. read_from (place + 1) rest next)

-- the script of what was read
abbrev pub script_from : Read → Script
script_from r = record { lease = r.lease; sessions = r.finished ++ r.current ∷ [] }

-- the records of a text, without a byte order mark at its start and without blank lines
abbrev pub records_of : List ℕ → List (List (List ℕ))
records_of bytes = records default_config (strip_bom bytes)

-- ScriptOf: the commands by session and the lease's length, or the first bad place and its reason.
abbrev pub script_of : List ℕ → Result Script ScriptError
script_of bytes = do
  r ← read_from 1 (records_of bytes) nothing_read
  Ok (script_from r)
