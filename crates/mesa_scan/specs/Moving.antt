-- An input of which blocks are read ahead.
use Rattle.std.specs.Prelude.{ℕ, List, Option}
use Rattle.mesa_delta.specs.Ahead.{Told}
use Rattle.mesa_delta.specs.Reading.{index_of}
use Rattle.mesa_delta.specs.declared.input.Input.{Input}
use Rattle.mesa_scan.specs.Cursors.{reader_in}

-- what is known of an input's file
abbrev pub told_in : {R : Type 0} → (R → Option (List ℕ)) → Input R → Told
told_in bytes i = record { index = index_of i.reader; content = bytes (reader_in i) }

-- an input of which only what it reads from moved
abbrev pub moved_to : {R : Type 0} → R → Input R → Input R
moved_to reader i = record i { reader = record i.reader { reader = reader } }
