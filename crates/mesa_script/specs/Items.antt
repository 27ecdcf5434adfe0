-- What each record of a script says.
use Rattle.std.specs.Prelude.{ℕ, List, drop, length, ◌==◌, Bool, true, false, Option, Some, None, Result, Ok, Err}
use Rattle.mesa_model.specs.mesa_list.Checks.{◌>>=◌, each_of}
use Rattle.mesa_model.specs.mesa_list.Split.{entries_of}
use Rattle.mesa_model.specs.mesa_batch.declared.words.RowWords.{RowWords}
use Rattle.mesa_model.specs.declared.commands.ChangeWords.{ChangeWords}
use Rattle.mesa_model.specs.declared.commands.ChangeWords.TheVariants as words
use Rattle.mesa_model.specs.declared.commands.Command.{Command}
use Rattle.mesa_model.specs.declared.commands.Command.TheVariants as command
use Rattle.mesa_script.specs.declared.script.Reason.{Reason}
use Rattle.mesa_script.specs.declared.script.Reason.TheVariants as reason
use Rattle.mesa_script.specs.Records.{Name, Lease, Session, Table, View, Alter, Row, Commit, Query, Explain, Pin, Release, Expire, Work, Recast, Change, AddValue, DropValue, AddKey, change_of, field}
use Rattle.mesa_script.specs.Words.{max_number, number_in, limit_of, key_words, value_words, version_of}

-- a lease's length, the next session's beginning, a row of a load, a load's end, or a command by itself
pub data Item : Type 0 where
  LeaseOf : ℕ → Item
  NextSession : Item
  RowOf : RowWords → Item
  EndOfLoad : Item
  Single : Command → Item

-- a change, with its column and its default, or with the name of the column that goes
abbrev pub change_words : Option Change → List ℕ → List ℕ → Result ChangeWords Reason
change_words None column default = Err reason.Word
change_words (Some AddValue) column default = do
  c ← value_words column
  Ok (words.AddValue c default)
change_words (Some DropValue) name default = Ok (words.DropValue name)
change_words (Some AddKey) column default = do
  c ← key_words column
  Ok (words.AddKey c default)

-- an expiry of all tables to the version of its first field, or of the table that its first field names to that of its second
abbrev pub expire_words : Bool → List (List ℕ) → Result Command Reason
expire_words false f = do
  n ← number_in 0 max_number (field 1 f)
  Ok (command.Expire None n)
expire_words true f = do
  n ← number_in 0 max_number (field 2 f)
  Ok (command.Expire (Some (field 1 f)) n)

-- the most parts into which a merge may be cut
abbrev pub max_parts : ℕ
max_parts = 8

-- into how many parts the merge of a work is cut: its third field says it, and it is one part where there is no such field
abbrev pub parts_of : Bool → List (List ℕ) → Result ℕ Reason
parts_of false f = Ok 1
parts_of true f = number_in 1 max_parts (field 2 f)

-- the filter of the query that an explain asks of: its fourth field, if there is one
abbrev pub filter_in : Bool → List (List ℕ) → Option (List ℕ)
filter_in false f = None
filter_in true f = Some (field 3 f)

-- What a record of this name says, or what is wrong with its words and numbers; its words are looked at before its numbers.
abbrev pub item_of : Name → List (List ℕ) → Result Item Reason
item_of Lease f = do
  n ← number_in 1 max_number (field 1 f)
  Ok (LeaseOf n)
item_of Session f = Ok NextSession
item_of Table f = do
  keys ← each_of key_words (entries_of (field 2 f))
  values ← each_of value_words (entries_of (field 3 f))
  Ok (Single (command.Table (record { table = field 1 f; keys = keys; values = values })))
item_of View f = Ok (Single (command.View (record { view = field 1 f; table = field 2 f; keys = entries_of (field 3 f); values = entries_of (field 4 f) })))
item_of Alter f = do
  c ← change_words (change_of (field 2 f)) (field 3 f) (field 4 f)
  Ok (Single (command.Alter (record { table = field 1 f; change = c })))
item_of Row f = Ok (RowOf (record { table = field 1 f; fields = drop 2 f }))
item_of Commit f = Ok EndOfLoad
item_of Query f = do
  version ← version_of true (field 2 f)
  limit ← limit_of (field 6 f)
  Ok (Single (command.Query (record { relation = field 1 f; version = version; filter = field 3 f; group = field 4 f; values = field 5 f; limit = limit; resume = field 7 f })))
item_of Explain f = do
  version ← version_of false (field 2 f)
  Ok (Single (command.Explain (record { relation = field 1 f; version = version; filter = filter_in (length f == 4) f })))
item_of Pin f = do
  version ← version_of false (field 1 f)
  Ok (Single (command.Pin version))
item_of Release f = do
  n ← number_in 0 max_number (field 1 f)
  Ok (Single (command.Release n))
item_of Expire f = do
  c ← expire_words (length f == 3) f
  Ok (Single c)
item_of Work f = do
  parts ← parts_of (length f == 3) f
  Ok (Single (command.Work (record { table = field 1 f; parts = parts })))
item_of Recast f = Ok (Single (command.Recast (record { table = field 1 f; keys = entries_of (field 2 f); values = entries_of (field 3 f) })))
