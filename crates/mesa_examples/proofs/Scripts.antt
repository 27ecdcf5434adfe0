-- Scripts that are refused, with their places and reasons.
use Rattle.std.proofs.Common.{◌≡◌, ℕ, List, [], ◌∷◌, refl}
use Rattle.std.specs.Prelude.{codes, Result, Ok, Err}
use Rattle.mesa_history_spec.specs.mesa_model.declared.commands.Script.{Script}
use Rattle.mesa_history_spec.specs.mesa_script.declared.script.ScriptError.{ScriptError}
use Rattle.mesa_history_spec.specs.mesa_script.Script.{script_of}
use Rattle.mesa_history_spec.specs.mesa_script.Errors.{error_text}
use Rattle.mesa_examples.specs.Rows.{lines}
use Rattle.mesa_examples.proofs.OnLiterals.{on_literals}

-- what a refused script is told
abbrev refusal_of : Result Script ScriptError → List ℕ
refusal_of (Ok script) = []
refusal_of (Err e) = error_text e

-- No record has this name.
unknown_record : refusal_of (script_of (lines (
    codes "tabel,t"
    ∷ []))) ≡ codes "place=1 reason=unknown"
unfolding on_literals
unknown_record = refl

-- The first bad record is told, whatever comes after it.
first_bad_record : refusal_of (script_of (lines (
    codes "tabel,t"
    ∷ codes "pin,pin:1"
    ∷ []))) ≡ codes "place=1 reason=unknown"
unfolding on_literals
first_bad_record = refl

-- The input ends after a row.
row_at_the_end : refusal_of (script_of (lines (
    codes "row,t,1"
    ∷ []))) ≡ codes "place=2 reason=order"
unfolding on_literals
row_at_the_end = refl

-- A query follows a row.
query_after_row : refusal_of (script_of (lines (
    codes "table,t,k int,v sum"
    ∷ codes "row,t,1,5"
    ∷ codes "query,t"
    ∷ []))) ≡ codes "place=3 reason=order"
unfolding on_literals
query_after_row = refl

-- A lease isn't the first record.
late_lease : refusal_of (script_of (lines (
    codes "table,t,k int,v sum"
    ∷ codes "lease,5"
    ∷ []))) ≡ codes "place=2 reason=order"
unfolding on_literals
late_lease = refl

-- A lease of no turns.
lease_of_none : refusal_of (script_of (lines (
    codes "lease,0"
    ∷ []))) ≡ codes "place=1 reason=number"
unfolding on_literals
lease_of_none = refl

-- A row without a table.
short_row : refusal_of (script_of (lines (
    codes "row"
    ∷ []))) ≡ codes "place=1 reason=fields"
unfolding on_literals
short_row = refl

-- An alter without its column.
short_alter : refusal_of (script_of (lines (
    codes "alter,t,add_value"
    ∷ []))) ≡ codes "place=1 reason=fields"
unfolding on_literals
short_alter = refl

-- A change that there is none of.
unknown_change : refusal_of (script_of (lines (
    codes "alter,t,rename,v"
    ∷ []))) ≡ codes "place=1 reason=word"
unfolding on_literals
unknown_change = refl

-- A key column of a type that there is none of.
unknown_kind : refusal_of (script_of (lines (
    codes "table,t,k number,v sum"
    ∷ []))) ≡ codes "place=1 reason=word"
unfolding on_literals
unknown_kind = refl

-- Two spaces in an entry.
two_spaces : refusal_of (script_of (lines (
    codes "table,t,k  int,v sum"
    ∷ []))) ≡ codes "place=1 reason=word"
unfolding on_literals
two_spaces = refl

-- A version that is no version.
word_for_version : refusal_of (script_of (lines (
    codes "query,t,x"
    ∷ []))) ≡ codes "place=1 reason=word"
unfolding on_literals
word_for_version = refl

-- A pin without a token.
pin_without_token : refusal_of (script_of (lines (
    codes "query,t,pin:"
    ∷ []))) ≡ codes "place=1 reason=word"
unfolding on_literals
pin_without_token = refl

-- A version with a sign.
signed_version : refusal_of (script_of (lines (
    codes "query,t,-1"
    ∷ []))) ≡ codes "place=1 reason=word"
unfolding on_literals
signed_version = refl

-- A pin where none may stand.
explained_pin : refusal_of (script_of (lines (
    codes "explain,t,pin:1"
    ∷ []))) ≡ codes "place=1 reason=word"
unfolding on_literals
explained_pin = refl

-- A version that is too great.
great_version : refusal_of (script_of (lines (
    codes "query,t,99999999999"
    ∷ []))) ≡ codes "place=1 reason=number"
unfolding on_literals
great_version = refl

-- A limit of none.
no_limit : refusal_of (script_of (lines (
    codes "query,t,0,,,,0"
    ∷ []))) ≡ codes "place=1 reason=number"
unfolding on_literals
no_limit = refl

-- Words are looked at before numbers.
word_before_number : refusal_of (script_of (lines (
    codes "query,t,x,,,,0"
    ∷ []))) ≡ codes "place=1 reason=word"
unfolding on_literals
word_before_number = refl

-- An expiry without a version.
empty_expiry : refusal_of (script_of (lines (
    codes "expire,"
    ∷ []))) ≡ codes "place=1 reason=number"
unfolding on_literals
empty_expiry = refl

-- A ninth session.
ninth_session : refusal_of (script_of (lines (
    codes "session"
    ∷ codes "session"
    ∷ codes "session"
    ∷ codes "session"
    ∷ codes "session"
    ∷ codes "session"
    ∷ codes "session"
    ∷ codes "session"
    ∷ []))) ≡ codes "place=8 reason=sessions"
unfolding on_literals
ninth_session = refl

-- Blank lines are no records, and neither is a byte order mark.
blank_lines : refusal_of (script_of (lines (
    (0xef ∷ 0xbb ∷ 0xbf ∷ codes "commit")
    ∷ codes ""
    ∷ codes ""
    ∷ codes "tabel,t"
    ∷ []))) ≡ codes "place=2 reason=unknown"
unfolding on_literals
blank_lines = refl

-- A work without its table.
work_without_table : refusal_of (script_of (lines (
    codes "commit"
    ∷ codes "work"
    ∷ []))) ≡ codes "place=2 reason=fields"
unfolding on_literals
work_without_table = refl

-- A work in no parts.
split_zero_parts : refusal_of (script_of (lines (
    codes "table,t,k int,v sum"
    ∷ codes "work,t,0"
    ∷ []))) ≡ codes "place=2 reason=number"
unfolding on_literals
split_zero_parts = refl

-- A work in one part more than there may be.
many_parts : refusal_of (script_of (lines (
    codes "work,t,8"
    ∷ codes "work,t,9"
    ∷ []))) ≡ codes "place=2 reason=number"
unfolding on_literals
many_parts = refl

-- A limit one past the greatest.
great_limit : refusal_of (script_of (lines (
    codes "query,t,,,,,10000"
    ∷ codes "query,t,,,,,10001"
    ∷ []))) ≡ codes "place=2 reason=number"
unfolding on_literals
great_limit = refl

-- A pin's version whose token is no number.
pin_of_a_word : refusal_of (script_of (lines (
    codes "query,t,pin:7"
    ∷ codes "query,t,pin:x"
    ∷ []))) ≡ codes "place=2 reason=word"
unfolding on_literals
pin_of_a_word = refl

-- A pin of a pin's version.
pinned_pin : refusal_of (script_of (lines (
    codes "pin"
    ∷ codes "pin,latest"
    ∷ codes "pin,pin:1"
    ∷ []))) ≡ codes "place=3 reason=word"
unfolding on_literals
pinned_pin = refl

-- A session begins behind a row.
session_after_row : refusal_of (script_of (lines (
    codes "lease,1"
    ∷ codes "session"
    ∷ codes "row,t,1,5"
    ∷ codes "session"
    ∷ []))) ≡ codes "place=4 reason=order"
unfolding on_literals
session_after_row = refl
