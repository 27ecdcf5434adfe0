-- The text of every reply.
use Rattle.std.specs.Prelude.{ℕ, List, [], ◌∷◌, ◌++◌, length, codes, decimal, Bool, if◌then◌else◌, Option, Some, None, is_some}
use Rattle.std.specs.Int.{w64, to_be_bytes}
use Rattle.mesa_model.specs.mesa_filter.declared.words.VersionWord.{VersionWord}
use Rattle.mesa_model.specs.mesa_filter.declared.words.VersionWord.TheVariants as asks
use Rattle.mesa_model.specs.mesa_filter.Hex.{hex_of}
use Rattle.mesa_model.specs.mesa_file.declared.damage.Seen.{Seen}
use Rattle.mesa_model.specs.mesa_file.declared.damage.Seen.TheVariants as seen
use Rattle.mesa_model.specs.mesa_file.declared.damage.Damage.{Damage}
use Rattle.mesa_model.specs.declared.replies.SchemaFault.{SchemaFault}
use Rattle.mesa_model.specs.declared.replies.SchemaFault.TheVariants as fault
use Rattle.mesa_model.specs.declared.replies.Refusal.{Refusal}
use Rattle.mesa_model.specs.declared.replies.Refusal.TheVariants as no
use Rattle.mesa_model.specs.declared.replies.Reply.{Reply}
use Rattle.mesa_model.specs.declared.replies.Reply.TheVariants as reply

-- ---- refusals

-- what is wrong with a schema, in a word
abbrev fault_word : SchemaFault → List ℕ
fault_word fault.BadName = codes "bad_name"
fault_word fault.NoKey = codes "no_key"
fault_word fault.NoValue = codes "no_value"
fault_word fault.TooManyColumns = codes "too_many_columns"
fault_word fault.NameTwice = codes "name_twice"
fault_word fault.LastValue = codes "last_value"

-- a version as it was asked for
abbrev version_text : VersionWord → List ℕ
version_text asks.Latest = codes "latest"
version_text (asks.At version) = decimal version
version_text (asks.Pin token) = codes "pin:" ++ decimal token

-- a number, or `none`
abbrev or_none : Option ℕ → List ℕ
or_none None = codes "none"
or_none (Some n) = decimal n

-- what was found at a place, or wanted there
abbrev pub seen_text : Seen → List ℕ
seen_text (seen.Length n) = codes "length:" ++ decimal n
seen_text (seen.Digest bytes) = codes "sha256:" ++ hex_of bytes
seen_text seen.Absent = codes "absent"
seen_text seen.Fits = codes "fits"
seen_text (seen.Misfit n) = codes "misfit:" ++ decimal n

-- a damaged file, by its id in sixteen hexadecimal digits
abbrev pub damage_text : Damage → List ℕ
damage_text d = codes "damaged file=" ++ hex_of (to_be_bytes w64 d.file) ++ codes " place=" ++ decimal d.place ++ codes " want=" ++ seen_text d.want ++ codes " found=" ++ seen_text d.found

-- the row of a load that names no table
abbrev at_row : Option ℕ → List ℕ
at_row None = []
at_row (Some row) = codes " row=" ++ decimal row

-- The text of a refusal.
abbrev pub refusal_text : Refusal → List ℕ
refusal_text (no.NoTable row) = codes "no_table" ++ at_row row
refusal_text no.TableExists = codes "table_exists"
refusal_text (no.BadSchema reason) = codes "bad_schema reason=" ++ fault_word reason
refusal_text (no.BadRow row column) = codes "bad_row row=" ++ decimal row ++ codes " column=" ++ decimal column
refusal_text (no.DuplicateKey first second) = codes "duplicate_key first=" ++ decimal first ++ codes " second=" ++ decimal second
refusal_text (no.SumBound table column) = codes "sum_bound table=" ++ table ++ codes " column=" ++ column
refusal_text (no.Stale asked oldest) = codes "stale asked=" ++ decimal asked ++ codes " oldest=" ++ decimal oldest
refusal_text (no.Future asked newest) = codes "future asked=" ++ version_text asked ++ codes " newest=" ++ or_none newest
refusal_text no.NoColumn = codes "no_column"
refusal_text (no.ReplaceGroup column) = codes "replace_group column=" ++ column
refusal_text (no.BadDefault column) = codes "bad_default column=" ++ column
refusal_text (no.InView view) = codes "in_view view=" ++ view
refusal_text (no.BadFilter term) = codes "bad_filter term=" ++ decimal term
refusal_text no.BadResume = codes "bad_resume"
refusal_text (no.NoPin token) = codes "no_pin token=" ++ decimal token
refusal_text (no.PinsFull limit) = codes "pins_full limit=" ++ decimal limit
refusal_text (no.TablesFull limit) = codes "tables_full limit=" ++ decimal limit
refusal_text (no.VersionsFull limit) = codes "versions_full limit=" ++ decimal limit
refusal_text no.ReadFault = codes "read_fault"
refusal_text no.WriteFault = codes "write_fault"
refusal_text (no.Closed position) = codes "closed position=" ++ decimal position
refusal_text (no.Damaged damage) = damage_text damage
refusal_text (no.Lost lease holder) = codes "lost lease=" ++ decimal lease ++ codes " holder=" ++ or_none holder
refusal_text no.Memory = codes "memory"
refusal_text (no.EpochsFull limit) = codes "epochs_full limit=" ++ decimal limit
refusal_text (no.Changed epoch) = codes "changed epoch=" ++ decimal epoch
refusal_text (no.TooManyDeltas limit) = codes "too_many_deltas limit=" ++ decimal limit

-- ---- replies

-- the head of a query's answer: its number of rows, its version, and whether further rows follow
abbrev pub rows_text : ℕ → ℕ → Bool → List ℕ
rows_text rows version more = codes "rows " ++ decimal rows ++ codes " version=" ++ decimal version ++ (if more then codes " more" else [])

-- that versions were let go: of all tables, or of the one that is named
abbrev pub expired_word : Option (List ℕ) → List ℕ
expired_word None = codes "expired"
expired_word (Some table) = codes "expired " ++ table

-- The text of a reply, without its rows.
abbrev pub reply_text : Reply → List ℕ
reply_text (reply.Table name) = codes "table " ++ name
reply_text (reply.View name) = codes "view " ++ name
reply_text (reply.Altered table epoch) = codes "altered " ++ table ++ codes " epoch=" ++ decimal epoch
reply_text (reply.Loaded version rows) = codes "loaded version=" ++ decimal version ++ codes " rows=" ++ decimal rows
reply_text (reply.Page page) = rows_text (length page.rows) page.version (is_some page.resume)
reply_text (reply.Rows rows version more) = rows_text rows version more
reply_text (reply.Spans ranges by) = codes "spans " ++ decimal (length ranges)
reply_text (reply.Pinned token version) = codes "pinned token=" ++ decimal token ++ codes " version=" ++ decimal version
reply_text (reply.Released token) = codes "released token=" ++ decimal token
reply_text (reply.Expired table oldest) = expired_word table ++ codes " oldest=" ++ decimal oldest
reply_text (reply.Swapped from to) = codes "swapped " ++ decimal from ++ 32 ∷ decimal to
reply_text (reply.Recast table epoch) = codes "recast " ++ table ++ codes " epoch=" ++ decimal epoch
reply_text reply.Idle = codes "idle"
reply_text (reply.Busy lease) = codes "busy lease=" ++ decimal lease
reply_text (reply.Refused refusal) = codes "refused " ++ refusal_text refusal

-- The head line of a command's block: its session and number, the printed position, and the reply.
abbrev pub head_line : ℕ → ℕ → ℕ → Reply → List ℕ
head_line session command position r = decimal session ++ 46 ∷ decimal command ++ 64 ∷ decimal position ++ 32 ∷ reply_text r ++ 10 ∷ []
