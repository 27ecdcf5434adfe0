-- An entry of a history as one number, and back.
use Rattle.std.specs.Prelude.{ℕ, zero, suc, ◌+◌, ◌*◌, ◌/◌, ◌%◌, ◌^◌, ◌<◌, List, map}
use Rattle.mesa_model.specs.declared.entries.Entry.{Entry}
use Rattle.mesa_model.specs.declared.entries.Kind.{Kind}
use Rattle.mesa_model.specs.declared.entries.Kind.TheVariants as kind
use Rattle.mesa_model.specs.declared.entries.Outcome.{Outcome}
use Rattle.mesa_model.specs.declared.entries.Outcome.TheVariants as outcome

-- the kinds in their order, from 0
abbrev pub kind_number : Kind → ℕ
kind_number kind.Look = 0
kind_number kind.Decide = 1
kind_number kind.Close = 2
kind_number kind.Grant = 3
kind_number kind.Renew = 4

-- the outcomes in their order, from 0
abbrev pub outcome_number : Outcome → ℕ
outcome_number outcome.Stands = 0
outcome_number outcome.Memory = 1
outcome_number outcome.ReadFault = 2
outcome_number outcome.WriteFault = 3
outcome_number outcome.Damaged = 4
outcome_number outcome.Skipped = 5

-- An entry's number: its moment, command, session, kind and outcome, from the highest bits to the lowest.
abbrev pub number_of : Entry → ℕ
number_of e = e.moment * 2 ^ 64 + e.command * 2 ^ 32 + e.session * 2 ^ 16 + kind_number e.kind * 2 ^ 8 + outcome_number e.outcome

-- the numbers of a history
abbrev pub numbers_of : List Entry → List ℕ
numbers_of h = map number_of h

-- ---- back

-- the kind of a number
abbrev pub kind_at : ℕ → Kind
kind_at zero = kind.Look
kind_at (suc zero) = kind.Decide
kind_at (suc (suc zero)) = kind.Close
kind_at (suc (suc (suc zero))) = kind.Grant
kind_at (suc (suc (suc (suc n)))) = kind.Renew

-- the outcome of a number
abbrev pub outcome_at : ℕ → Outcome
outcome_at zero = outcome.Stands
outcome_at (suc zero) = outcome.Memory
outcome_at (suc (suc zero)) = outcome.ReadFault
outcome_at (suc (suc (suc zero))) = outcome.WriteFault
outcome_at (suc (suc (suc (suc zero)))) = outcome.Damaged
outcome_at (suc (suc (suc (suc (suc n))))) = outcome.Skipped

-- the session that an entry's number tells
abbrev pub session_at : ℕ → ℕ
session_at x = (x / 2 ^ 16) % 2 ^ 16

-- The entry that a number tells.
abbrev pub entry_of : ℕ → Entry
entry_of x = record { session = session_at x; command = (x / 2 ^ 32) % 2 ^ 32; kind = kind_at ((x / 2 ^ 8) % 2 ^ 8); outcome = outcome_at (x % 2 ^ 8); moment = x / 2 ^ 64 }

-- the history that numbers tell
abbrev pub history_of : List ℕ → List Entry
history_of numbers = map entry_of numbers

-- An entry whose session and command have their places in its number.
pub record IsShort (e : Entry) : Type 0 where
  pub session : e.session < 2 ^ 16
  pub command : e.command < 2 ^ 32
