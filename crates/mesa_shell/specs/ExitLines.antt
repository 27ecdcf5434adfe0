-- The statuses that a call ends with, and the line that it prints where it runs nothing.
use Rattle.std.specs.Prelude.{ℕ, List, [], ◌∷◌, ◌++◌, codes, decimal, if◌then◌else◌, Option, None, Some}
use Rattle.std.specs.Int.{w128, to_be_bytes}
use Rattle.mesa_session.specs.mesa_filter.Hex.{hex_of}
use Rattle.mesa_model.specs.declared.commands.Script.{Script}
use Rattle.mesa_model.specs.declared.entries.Entry.{Entry}
use Rattle.mesa_session.specs.mesa_history_spec.Refused.{some_refused}
use Rattle.mesa_session.specs.mesa_history_spec.Run.{State, begins}
use Rattle.mesa_script.specs.declared.script.ScriptError.{ScriptError}
use Rattle.mesa_script.specs.Errors.{error_text}
use Rattle.mesa_script.specs.Replies.{damage_text, seen_text}
use Rattle.mesa_recover.specs.declared.error.OpenError.{OpenError}
use Rattle.mesa_recover.specs.declared.error.OpenError.TheVariants as open_error
use Rattle.mesa_check.specs.Faults.{Fault}

-- the longest input, in bytes
abbrev pub max_input : ℕ
max_input = 67108864

-- ---- a script was run

-- no reply is a refusal
abbrev pub answered_status : ℕ
answered_status = 0

-- some reply is a refusal
abbrev pub refused_status : ℕ
refused_status = 1

-- the sink failed
abbrev pub sink_status : ℕ
sink_status = 5

-- the status of a script that was run from a state to its end
abbrev pub status_of : Script → State → List Entry → ℕ
status_of script start h = if some_refused script (begins start) h then refused_status else answered_status

-- the line before what the script of a seed printed last
abbrev pub gen_line : ℕ → ℕ → List ℕ
gen_line seed versions = codes "gen " ++ decimal seed ++ 32 ∷ decimal versions ++ 10 ∷ []

-- ---- a store was checked

-- no fault was found, or one was
abbrev pub verdict_status : Option Fault → ℕ
verdict_status None = 0
verdict_status (Some fault) = 1

-- the key that shows a fault, in hexadecimal; a hyphen where no single key does
abbrev pub shown_key : Option (List ℕ) → List ℕ
shown_key None = codes "-"
shown_key (Some key) = hex_of key

-- what a verdict tells of a store: that it is sound; or the table, the range of versions and the key of its first fault
abbrev pub verdict_text : Option Fault → List ℕ
verdict_text None = codes "sound"
verdict_text (Some f) = codes "unsound table=" ++ f.table ++ codes " range=[" ++ decimal f.from ++ codes "," ++ decimal f.to ++ codes "] key=" ++ shown_key f.key

abbrev pub verdict_line : Option Fault → List ℕ
verdict_line fault = verdict_text fault ++ codes "\n"

-- ---- the digests of a relation were asked for

-- no relation has the name
abbrev pub no_table_line : List ℕ
no_table_line = codes "digest refused no_table\n"

-- there is no version
abbrev pub no_version_line : List ℕ
no_version_line = codes "digest refused future asked=latest newest=none\n"

-- how many rows there are, and their digests
abbrev pub digests_text : ℕ → List ℕ → ℕ → List ℕ
digests_text rows ordered set = codes " rows=" ++ decimal rows ++ codes " ordered=" ++ hex_of ordered ++ codes " set=" ++ hex_of (to_be_bytes w128 set)

-- the digests of a relation at a version
abbrev pub digest_line : List ℕ → ℕ → ℕ → List ℕ → ℕ → List ℕ
digest_line name version rows ordered set = codes "digest " ++ name ++ codes " version=" ++ decimal version ++ digests_text rows ordered set ++ codes "\n"

-- ---- the disk wasn't called

-- the words have none of the forms
abbrev pub usage_status : ℕ
usage_status = 2

abbrev pub usage_line : List ℕ
usage_line = codes "mesa: usage: mesa run | mesa check | mesa gen SEED VERSIONS | mesa digest NAME\n"

-- the source failed
abbrev pub source_status : ℕ
source_status = 4

abbrev pub source_line : List ℕ
source_line = codes "mesa: source fault\n"

-- the input is too long
abbrev pub length_status : ℕ
length_status = 9

abbrev pub length_line : List ℕ
length_line = codes "mesa: input over 67108864 bytes\n"

-- the script is refused
abbrev pub script_status : ℕ
script_status = 3

abbrev pub script_line : ScriptError → List ℕ
script_line error = codes "mesa: script " ++ error_text error ++ codes "\n"

-- ---- the store wasn't opened

-- the status of an opening that failed: the disk failed; the journal or a file is damaged; the last run that may be was; memory was short
abbrev pub open_status : OpenError → ℕ
open_status open_error.Fault = 6
open_status (open_error.Journal area at want found) = 7
open_status (open_error.File d) = 7
open_status open_error.RunsFull = 9
open_status open_error.Memory = 8

-- what an opening that failed tells
abbrev pub open_text : OpenError → List ℕ
open_text open_error.Fault = codes "disk fault"
open_text (open_error.Journal area at want found) =
    codes "damaged journal=" ++ decimal area ++ codes " at=" ++ decimal at ++ codes " want=" ++ seen_text want ++ codes " found=" ++ seen_text found
open_text (open_error.File d) = damage_text d
open_text open_error.RunsFull = codes "runs full"
open_text open_error.Memory = codes "memory"

abbrev pub open_line : OpenError → List ℕ
open_line e = codes "mesa: " ++ open_text e ++ codes "\n"

-- ---- at any place

-- memory was short outside a command
abbrev pub memory_status : ℕ
memory_status = 8

abbrev pub memory_line : List ℕ
memory_line = codes "mesa: memory\n"
