-- What a printer has printed.
use Rattle.std.specs.Prelude.{◌≡◌, ◌≤◌, true, false, ℕ, List, [], take, Option}
use Rattle.std.specs.Io.KnownBytes.{Appends}
use Rattle.mesa_io.specs.Causes.{Rose}
use Rattle.mesa_print.specs.declared.printer.Printer.{Printer}

-- A printer was given a text. Unless it is broken, its sink has it whole. If it is, the sink has a front of it, and none of it if the printer was broken before. It breaks only where the sink's count of faults rose; where it doesn't break, the count stays.
pub record Printed {K : Type 0} (held : K → Option (List ℕ)) (faults : K → ℕ) (old new : Printer K) (text : List ℕ) : Type 0 where
  pub whole : new.broken ≡ false → (old.broken ≡ false) × Appends (held old.sink) (held new.sink) text
  pub front : (n : ℕ) × Appends (held old.sink) (held new.sink) (take n text)
  pub still : old.broken ≡ true → (new.broken ≡ true) × Appends (held old.sink) (held new.sink) []
  pub later : faults old.sink ≤ faults new.sink
  pub cause : old.broken ≡ false → new.broken ≡ true → Rose (faults old.sink) (faults new.sink)
  pub quiet : new.broken ≡ old.broken → faults new.sink ≡ faults old.sink
