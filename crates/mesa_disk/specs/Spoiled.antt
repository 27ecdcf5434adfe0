-- A read that is to fail.
use Rattle.std.specs.Prelude.{ℕ, ◌==◌, if◌then◌else◌, Option, None, Some}

-- the read that fails of the next reader of a file, where one is named for this file
abbrev pub read_spoiled_for : ℕ → Option (ℕ × ℕ) → Option ℕ
read_spoiled_for id None = None
read_spoiled_for id (Some spoiled) = if spoiled.0 == id then Some spoiled.1 else None

-- the read that fails of a next reader, once a reader of this file was made
abbrev pub read_spoiled_past : ℕ → Option (ℕ × ℕ) → Option (ℕ × ℕ)
read_spoiled_past id None = None
read_spoiled_past id (Some spoiled) = if spoiled.0 == id then None else Some spoiled
