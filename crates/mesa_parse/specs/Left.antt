-- The records that a reader has left.
use Rattle.std.specs.Prelude.{◌≡◌, ℕ, ◌+◌, List, [], length, false, Option, None, Some}
use denote.Bor.{Bor}
use Rattle.csv.specs.Machine.{ends_at_end}
use Rattle.csv.specs.Reading.{Ready, default_config, reader_config, reader_state, reader_trim, records_from, source_of}
use Rattle.csv.specs.declared.parser.State.{State}
use Rattle.csv.specs.declared.reader.Reader.{Reader}
use Rattle.csv.specs.declared.reader.Trim.TheVariants as trim

-- the records that bytes have from a state on
abbrev pub records_at : State → List ℕ → List (List (List ℕ))
records_at state bytes = records_from default_config (length bytes + 1) state bytes

abbrev pub records_in : State → Option (List ℕ) → List (List (List ℕ))
records_in state None = []
records_in state (Some bytes) = records_at state bytes

abbrev pub Bytes : Type 0
Bytes = Bor (List ℕ)

-- the bytes that a reader over bytes in memory has left
abbrev pub bytes_left : Reader Bytes → Option (List ℕ)
bytes_left reader = source_of (λ bytes. Some bytes.now) reader

-- the records that it has left
abbrev pub records_left : Reader Bytes → List (List (List ℕ))
records_left reader = records_in (reader_state reader) (bytes_left reader)

-- a reader between two records, which trims nothing and has no header row to take
pub record IsBetween (reader : Reader Bytes) : Type 0 where
  pub plain : reader_trim reader ≡ trim.None
  pub ready : Ready reader
  pub config : reader_config reader ≡ default_config
  pub between : ends_at_end (reader_state reader) ≡ false
  pub told : (bytes : List ℕ) × (bytes_left reader ≡ Some bytes)
