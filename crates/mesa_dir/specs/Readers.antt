-- What is known of an adopted file that is read.
use Rattle.std.specs.Prelude.{ℕ, List, Option}
use Rattle.mesa_os.specs.Calls.{Call}
use Rattle.mesa_dir.specs.declared.reader.DirReader.{DirReader}

-- the calls on the file, the newest first, where they are told
abbrev pub reader_calls : {S H C : Type 0} → (H → Option (List Call)) → DirReader S H C → Option (List Call)
reader_calls calls r = calls r.file

-- how many bytes the file has
abbrev pub reader_len : {S H C : Type 0} → DirReader S H C → ℕ
reader_len r = r.len

-- how often it was read, and how often that failed
abbrev pub reader_reads : {S H C : Type 0} → DirReader S H C → ℕ
reader_reads r = r.reads

abbrev pub reader_faults : {S H C : Type 0} → DirReader S H C → ℕ
reader_faults r = r.faults
