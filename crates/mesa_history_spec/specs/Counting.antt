-- How many entries of a history answer a fault.
use Rattle.std.specs.Prelude.{ℕ, ◌+◌, ◌==◌, ◌&&◌, List, [], ◌∷◌, Bool, true, false, not}
use Rattle.mesa_script.specs.mesa_model.declared.commands.Script.{Script}
use Rattle.mesa_script.specs.mesa_model.declared.entries.Entry.{Entry}
use Rattle.mesa_script.specs.mesa_model.declared.entries.Outcome.{Outcome}
use Rattle.mesa_script.specs.mesa_model.declared.entries.Outcome.TheVariants as outcome
use Rattle.mesa_history_spec.specs.Run.{Run}
use Rattle.mesa_history_spec.specs.Replay.{closes, go}

-- 1 where it is so, and else 0
abbrev pub one_if : Bool → ℕ
one_if true = 1
one_if false = 0

-- how many entries of a history pass a test, each where it comes
unfoldable pub count_in : (Run → Entry → Bool) → Script → Run → List Entry → ℕ
count_in test script r [] = 0
count_in test script r (e ∷ h) = one_if (test r e) + count_in test script (go script r e) h

-- whether an outcome answers a fault of the disk: a read fault, or a write fault that closes
abbrev pub answers_disk : Bool → Outcome → Bool
answers_disk closing outcome.ReadFault = true
answers_disk closing outcome.WriteFault = closing
answers_disk closing o = false

-- whether it answers a fault of a file that was being built: a write fault that doesn't close
abbrev pub answers_bench : Bool → Outcome → Bool
answers_bench closing outcome.WriteFault = not closing
answers_bench closing o = false

-- an entry answers a fault of the disk
abbrev pub is_disk_fault : Run → Entry → Bool
is_disk_fault r e = answers_disk (closes r.moment e) e.outcome

-- an entry of a session answers a fault of a file that the session was building
abbrev pub is_bench_fault : ℕ → Run → Entry → Bool
is_bench_fault session r e = (e.session == session) && answers_bench (closes r.moment e) e.outcome
