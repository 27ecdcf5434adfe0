-- Rows written into memory.
use Rattle.std.specs.Prelude.{◌≡◌, ℕ, List, ◌++◌, Vec, true, false}
use Rattle.std.specs.Global.{Global}
use Rattle.csv.specs.Writing.{default_writer, fields_written, has_written, with_flexible, writer_pending, writer_setup, writer_under}
use Rattle.csv.specs.declared.writer.Writer.{Writer}

-- the lines that were written so far
abbrev pub lines_written : Writer (Vec ℕ Global) → List ℕ
lines_written writer = (writer_under writer).items ++ writer_pending writer

-- a writer between two rows, which may differ in length
pub record IsBetween (writer : Writer (Vec ℕ Global)) : Type 0 where
  pub setup : writer_setup writer ≡ with_flexible default_writer true
  pub none : fields_written writer ≡ 0
  pub clean : has_written writer ≡ false
