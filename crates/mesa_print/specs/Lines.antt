-- A line that is put together piece by piece.
use Rattle.std.specs.Prelude.{◌≡◌, ℕ, List, ◌++◌, take}
use Rattle.mesa_print.specs.declared.line.Line.{Line}

-- the bytes that a line has so far
abbrev pub line_text : Line → List ℕ
line_text line = take line.len line.bytes.now

-- a text was put behind the line, in the same buffer
pub record Puts (old new : Line) (text : List ℕ) : Type 0 where
  pub now : line_text new ≡ line_text old ++ text
  pub same : new.bytes.ghost_name ≡ old.bytes.ghost_name
