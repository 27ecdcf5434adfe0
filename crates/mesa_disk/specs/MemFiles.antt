-- What is known of finished files and readers in memory.
use Rattle.std.specs.Prelude.{ℕ, List, Option}
use Rattle.std.specs.Arc.{arc_value}
use Rattle.mesa_disk.specs.declared.memory.file.MemMade.{MemMade}
use Rattle.mesa_disk.specs.declared.memory.file.MemReader.{MemReader}

-- the id of a finished file's draft, and its bytes
abbrev pub made_id : MemMade → ℕ
made_id m = m.id

abbrev pub made_bytes : MemMade → List ℕ
made_bytes m = arc_value m.bytes

-- the bytes that a reader reads, how often it has failed, how often it was read, and the number of its read that fails
abbrev pub reader_bytes : MemReader → List ℕ
reader_bytes r = arc_value r.bytes

abbrev pub reader_faults : MemReader → ℕ
reader_faults r = r.faults

abbrev pub reader_reads : MemReader → ℕ
reader_reads r = r.reads

abbrev pub failing_read : MemReader → Option ℕ
failing_read r = r.fails
